-- Mark by its ways out: the answer, the desk and the lent bytes that the definition has at each, from what the code found there. Assumes nothing.
use Prim.Native.Nat.{◌+◌, ◌<◌, ℕ}
use borrow.Author.Tests.{eq-eqb, ne_eqb}
use lib.Dec.{eqb}
use lib.ListN.{length}
use mathlib.Core.Bool.{Bool, false, not, true}
use mathlib.Core.List.{List}
use mathlib.Core.Path.{◌∙◌, ◌≡◌, ap, refl, subst, sym}
use native.Mathlib.Omega.{arith}
use Rattle.frame.specs.declared.MarkBox.{MarkBox}
use Rattle.frame.specs.declared.Refusal.{Refusal}
use Rattle.frame.specs.declared.Refusal.TheVariants.{DeskFull, FieldRange}
use Rattle.std.specs.Prelude.{Err, Ok, Result}
use Rattle.causality.specs.declared.Made.{Made}
use Rattle.rows.specs.declared.Held.{Held}
use Rattle.frame.specs.Answer.{Answer, gives, number_of, refuse_if, refused}
use Rattle.frame.specs.Frame.{over_if}
use Rattle.frame.specs.Names.{box_rule, desks}
use Rattle.causality.specs.Answers.{Numbered}
use Rattle.causality.specs.Calls.{FromCalls, Marked, execute, frame_of_mark, full, mark, mark_answer, marked, new_mark, numbered, size_of_mark, state_if}
use Rattle.causality.specs.Kinds.{mark_answer_of, mark_of}
use Rattle.causality.specs.Marks.{places}
use Rattle.causality.specs.Meaning.{numbering}
use Rattle.causality.specs.State.{Mark, State}
use Rattle.rows.specs.inner.Slots.{held_mark}
use Rattle.rows.specs.declared.Executed.{Executed}
use Rattle.executed.specs.inner.Takes.{Ordered, Took}
use Rattle.waiting.specs.declared.Waiting.{Waiting}
use Rattle.verdict.specs.Kept.{KeptIn, state_in}
use Rattle.verdict.proofs.Invariant.{executed-length, kept-total, waiting-length}
use Rattle.in_place.specs.inner.Steps.{MarkedIn}

-- The definition where its tests and the writer's answer are known.
module _ (st : State) (b : MarkBox) (out : List ℕ) where
  answer_by : (x y : Bool) (a : Answer ℕ) → box_rule b ≡ x → full st ≡ y → size_of_mark desks (new_mark st b) (length out) ≡ a
      → mark_answer desks st b (length out) ≡ refuse_if (not x) 5 (refuse_if y 9 (numbered (new_mark st b).id.number a))
  unfolding mark_answer_of
  answer_by x y a ex ey ea = λ i. refuse_if (not (ex i)) 5 (refuse_if (ey i) 9 (numbered (new_mark st b).id.number (ea i)))

  mark_by : (a : Answer Numbered) → mark_answer desks st b (length out) ≡ a
      → mark desks st b out ≡ record { state = state_if a (execute (new_mark st b) st) st; answer = a; bytes = over_if a (frame_of_mark (new_mark st b)) out }
  unfolding mark_of
  mark_by a e = λ i. record { state = state_if (e i) (execute (new_mark st b) st) st; answer = e i; bytes = over_if (e i) (frame_of_mark (new_mark st b)) out }

-- A desk is full by its counts.
module _ (own : ℕ) (a : Executed) (q : Waiting) (k : KeptIn own a q) where
  full-counts : full (state_in own a q) ≡ eqb (a.count + q.count) places
  unfolding full
  full-counts = λ i. eqb (executed-length own a q i + waiting-length own a q i) places

  -- With n waiting marks.
  pub is-full : (n : ℕ) → q.count ≡ n → a.count + n ≡ places → full (state_in own a q) ≡ true
  is-full n e f = full-counts ∙ eq-eqb (a.count + q.count) places (ap (λ (x : ℕ). a.count + x) e ∙ f)

  pub has_room : (n : ℕ) → q.count ≡ n → (a.count + n ≡ places → ⊥) → full (state_in own a q) ≡ false
  has_room n e f = full-counts ∙ ne_eqb (a.count + q.count) places (λ z. f (ap (λ (x : ℕ). a.count + x) (sym e) ∙ z))

  pub place-left : (n : ℕ) → q.count ≡ n → (a.count + n ≡ places → ⊥) → a.count < places
  place-left n e f = let l = kept-total own a q k in omega arith

module _ (own : ℕ) (a : Executed) (q : Waiting) (k : KeptIn own a q) (b : MarkBox) (out : List ℕ) where
  abbrev st : State
  st = state_in own a q

  -- What came of the call is a desk that came from the calls.
  promised : (c : Executed) (after : List ℕ) (r : Result Made Refusal) (x : Answer Numbered) → mark_answer desks st b (length out) ≡ x
      → state_in own c q ≡ state_if x (execute (new_mark st b) st) st → numbering r ≡ x
      → after ≡ over_if x (frame_of_mark (new_mark st b)) out → Ordered c → MarkedIn own a c q b out after r
  promised c after r x e s n o u = record {
    state = state;
    answer = n ∙ ap (λ (m : Marked). m.answer) by;
    bytes = o ∙ ap (λ (m : Marked). m.bytes) by;
    kept = record { from = subst (λ (y : State). FromCalls desks y) (sym state) (marked k.from b out); ordered = u; queued = k.queued };
  }
    where
      by : record { state = state_if x (execute (new_mark st b) st) st; answer = x; bytes = over_if x (frame_of_mark (new_mark st b)) out } ≡ mark desks st b out
      by = sym (mark_by st b out x e)

      state : state_in own c q ≡ (mark desks st b out).state
      state = s ∙ ap (λ (m : Marked). m.state) by

  refusing : (c : Refusal) (after : List ℕ) → mark_answer desks st b (length out) ≡ refused (number_of c) → after ≡ out → MarkedIn own a a q b out after (Err c)
  refusing c after e o = promised a after (Err c) (refused (number_of c)) e refl refl o k.ordered

  pub box-refused : box_rule b ≡ false → MarkedIn own a a q b out out (Err FieldRange)
  box-refused e = refusing FieldRange out (answer_by st b out false (full st) (size_of_mark desks (new_mark st b) (length out)) e refl refl) refl

  pub full-refused : box_rule b ≡ true → full st ≡ true → MarkedIn own a a q b out out (Err DeskFull)
  full-refused e f = refusing DeskFull out (answer_by st b out true true (size_of_mark desks (new_mark st b) (length out)) e f refl) refl

  -- What the writer found of the next mark.
  module _ (rule : box_rule b ≡ true) (room : full st ≡ false) (h : Held) (next : held_mark h ≡ new_mark st b) (w : Answer ℕ) (after : List ℕ)
      (size : w ≡ size_of_mark desks (held_mark h) (length out)) (bytes : after ≡ over_if (size_of_mark desks (held_mark h) (length out)) (frame_of_mark (held_mark h)) out) where
    answered : mark_answer desks st b (length out) ≡ numbered (new_mark st b).id.number w
    answered = answer_by st b out true false w rule room (ap (λ (m : Mark). size_of_mark desks m (length out)) (sym next) ∙ sym size)

    written : after ≡ over_if w (frame_of_mark (new_mark st b)) out
    written = bytes ∙ (λ i. over_if (sym size i) (frame_of_mark (next i)) out)

    pub write-refused : (c : Refusal) → w ≡ refused (number_of c) → MarkedIn own a a q b out after (Err c)
    write-refused c e = refusing c after (answered ∙ ap (numbered (new_mark st b).id.number) e)
        (written ∙ ap (λ (x : Answer ℕ). over_if x (frame_of_mark (new_mark st b)) out) e)

    pub made : (n : ℕ) (c : Executed) → w ≡ gives n → Took h a c → MarkedIn own a c q b out after (Ok (record { number = h.number; size = n }))
    made n c e x = promised c after (Ok (record { number = h.number; size = n })) (gives (record { number = (new_mark st b).id.number; size = n }))
        (answered ∙ ap (numbered (new_mark st b).id.number) e)
        ((λ i. record { own = own; executed = x.marks i; waiting = st.waiting }) ∙ ap (λ (m : Mark). execute m st) next)
        (ap (λ (m : Mark). gives (record { number = m.id.number; size = n })) next)
        (written ∙ ap (λ (y : Answer ℕ). over_if y (frame_of_mark (new_mark st b)) out) e) x.ordered
