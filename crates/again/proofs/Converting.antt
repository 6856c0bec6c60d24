-- The converter by its ways out, from what the code found there. Assumes nothing.
use Prim.Native.Nat.{suc, zero, ℕ}
use lib.ListN.{length}
use mathlib.Core.Bool.{false, true}
use mathlib.Core.List.{List}
use mathlib.Core.Option.{none, some}
use mathlib.Core.Path.{◌∙◌, ◌≡◌, ap, refl, sym}
use Rattle.frame.specs.declared.Fields.{Fields}
use Rattle.frame.specs.declared.Past.TheVariants.{Unsaid}
use Rattle.frame.specs.declared.Refusal.{Refusal}
use Rattle.frame.specs.declared.Refusal.TheVariants.{NotExecuted, OtherFields, SameEdition}
use Rattle.std.specs.Prelude.{Err, Result}
use Rattle.frame.specs.Answer.{Answer, gives, number_of, refused}
use Rattle.frame.specs.Frame.{over_if, read_fields, writing}
use Rattle.frame.specs.Names.{desks}
use Rattle.causality.specs.Calls.{and_then, frame_again_bytes, frame_again_size, frame_of_mark, is_said, mark_in, same_fields, size_of_mark, to_first_bytes, to_first_mark, to_first_size, to_second_bytes, to_second_mark, to_second_size}
use Rattle.causality.specs.Marks.{find}
use Rattle.causality.specs.State.{Mark, State, mark_id, with_past}
use Rattle.rows.specs.View.{past_from}
use Rattle.in_place.specs.Lent.{ToFirstIn}
use Rattle.in_place.specs.inner.Steps.{KeptWritten, ToSecondIn}

-- Whether a past is said, by the number that stands for it.
pub said-some : (n : ℕ) → (n ≡ 0 → ⊥) → is_said (past_from n) ≡ true
said-some zero z = absurd (z refl)
said-some (suc n) z = refl

pub said-none : (n : ℕ) → n ≡ 0 → is_said (past_from n) ≡ false
said-none n e = rw e refl

-- FROM 1 TO 2: a mark whose frame is of edition 1

module _ (st : State) (m : Mark) (out : List ℕ) where
  abbrev left : Answer ℕ → List ℕ
  left a = elim a [ gives n ↦ frame_again_bytes desks st m.id out | refused c ↦ out ]

  -- The answer is known.
  by_answer : (a : Answer ℕ) (after : List ℕ) (r : Result ℕ Refusal) → (is_said m.past ≡ false → to_second_mark desks st m (length out) ≡ a) → writing r ≡ a → after ≡ left a → KeptWritten st m out after r
  by_answer a after r e w b = record { answer = λ u. w ∙ sym (e u); bytes = λ u. b ∙ ap left (sym (e u)) }

  pub kept-absent : find mark_id m.id st.executed ≡ none → KeptWritten st m out out (Err NotExecuted)
  unfolding to_second_mark
  kept-absent q = by_answer (refused 12) out (Err NotExecuted) (λ u. rw u (rw q refl)) refl refl

  module _ (h : Mark) (q : find mark_id m.id st.executed ≡ some h) where
    pub kept_differs : same_fields h m ≡ false → KeptWritten st m out out (Err OtherFields)
    unfolding to_second_mark
    kept_differs s = by_answer (refused 8) out (Err OtherFields) (λ u. rw u (rw q (rw s refl))) refl refl

    pub kept-written : same_fields h m ≡ true → (after : List ℕ) (w : Result ℕ Refusal) → writing w ≡ size_of_mark desks h (length out)
        → after ≡ over_if (size_of_mark desks h (length out)) (frame_of_mark h) out → KeptWritten st m out after w
    unfolding to_second_mark frame_again_size frame_again_bytes
    kept-written s after w e b = by_answer (size_of_mark desks h (length out)) after w (λ u. rw u (rw q (rw s (rw (q, frame_again_size) refl)))) e
        (b ∙ whole (size_of_mark desks h (length out)) refl)
      where
        -- What the writer left is what Frame again leaves.
        whole : (a : Answer ℕ) → size_of_mark desks h (length out) ≡ a → over_if a (frame_of_mark h) out ≡ left a
        whole (gives n) z = rw (q, frame_again_bytes) (rw z refl)
        whole (refused c) z = refl

-- From a frame.
module _ (st : State) (s out : List ℕ) where
  at_answer : (a : Answer ℕ) (after : List ℕ) (r : Result ℕ Refusal) → to_second_size desks st s (length out) ≡ a → writing r ≡ a
      → after ≡ elim a [ gives n ↦ frame_again_bytes desks st (mark_in desks s).id out | refused c ↦ out ] → ToSecondIn st s out after r
  unfolding to_second_bytes
  at_answer a after r e w b = record {
    answer = w ∙ sym e;
    bytes = b ∙ ap (λ (x : Answer ℕ). elim x [ gives n ↦ frame_again_bytes desks st (mark_in desks s).id out | refused c ↦ out ]) (sym e);
  }

  pub second-refused : (c : Refusal) → refused (number_of c) ≡ read_fields desks s → ToSecondIn st s out out (Err c)
  unfolding to_second_size
  second-refused c e = at_answer (refused (number_of c)) out (Err c) (ap (λ (x : Answer Fields). and_then x (λ f. to_second_mark desks st (mark_in desks s) (length out))) (sym e)) refl refl

  module _ (f : Fields) (e : gives f ≡ read_fields desks s) (m : Mark) (g : m ≡ mark_in desks s) where
    marked : to_second_size desks st s (length out) ≡ to_second_mark desks st m (length out)
    unfolding to_second_size
    marked = ap (λ (x : Answer Fields). and_then x (λ f. to_second_mark desks st (mark_in desks s) (length out))) (sym e) ∙ ap (λ (x : Mark). to_second_mark desks st x (length out)) (sym g)

    pub second-same : is_said m.past ≡ true → ToSecondIn st s out out (Err SameEdition)
    unfolding to_second_mark
    second-same u = at_answer (refused 14) out (Err SameEdition) (marked ∙ rw u refl) refl refl

    pub second-kept : is_said m.past ≡ false → (after : List ℕ) (r : Result ℕ Refusal) → KeptWritten st m out after r → ToSecondIn st s out after r
    second-kept u after r k = at_answer (to_second_mark desks st m (length out)) after r marked (k.answer u)
        (k.bytes u ∙ ap (λ (x : Mark). elim (to_second_mark desks st m (length out)) [ gives n ↦ frame_again_bytes desks st x.id out | refused c ↦ out ]) g)

-- FROM 2 TO 1

module _ (s out : List ℕ) where
  in_answer : (a : Answer ℕ) (after : List ℕ) (r : Result ℕ Refusal) → to_first_size desks s (length out) ≡ a → writing r ≡ a
      → after ≡ over_if a (frame_of_mark (with_past (mark_in desks s) Unsaid)) out → ToFirstIn s out after r
  unfolding to_first_bytes
  in_answer a after r e w b = record { answer = w ∙ sym e; bytes = b ∙ ap (λ (x : Answer ℕ). over_if x (frame_of_mark (with_past (mark_in desks s) Unsaid)) out) (sym e) }

  pub first-refused : (c : Refusal) → refused (number_of c) ≡ read_fields desks s → ToFirstIn s out out (Err c)
  unfolding to_first_size
  first-refused c e = in_answer (refused (number_of c)) out (Err c) (ap (λ (x : Answer Fields). and_then x (λ f. to_first_mark desks (mark_in desks s) (length out))) (sym e)) refl refl

  module _ (f : Fields) (e : gives f ≡ read_fields desks s) (m : Mark) (g : m ≡ mark_in desks s) where
    told : to_first_size desks s (length out) ≡ to_first_mark desks m (length out)
    unfolding to_first_size
    told = ap (λ (x : Answer Fields). and_then x (λ f. to_first_mark desks (mark_in desks s) (length out))) (sym e) ∙ ap (λ (x : Mark). to_first_mark desks x (length out)) (sym g)

    pub first-same : is_said m.past ≡ false → ToFirstIn s out out (Err SameEdition)
    unfolding to_first_mark
    first-same u = in_answer (refused 14) out (Err SameEdition) (told ∙ rw u refl) refl refl

    pub first-written : is_said m.past ≡ true → (after : List ℕ) (r : Result ℕ Refusal) → writing r ≡ size_of_mark desks (with_past m Unsaid) (length out)
        → after ≡ over_if (size_of_mark desks (with_past m Unsaid) (length out)) (frame_of_mark (with_past m Unsaid)) out → ToFirstIn s out after r
    unfolding to_first_mark
    first-written u after r w b = in_answer (size_of_mark desks (with_past m Unsaid) (length out)) after r (told ∙ rw u refl) w
        (b ∙ ap (λ (x : Mark). over_if (size_of_mark desks (with_past m Unsaid) (length out)) (frame_of_mark (with_past x Unsaid)) out) g)
