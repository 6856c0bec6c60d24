-- What the code of Receive finds, test by test, is the judgement. Assumes nothing.
use Prim.Native.Nat.{◌+◌, ◌-◌, ℕ}
use borrow.Author.Tests.{eq-eqb, ne_eqb}
use lib.Dec.{eqb, ltb}
use lib.ListN.{get_or, length}
use mathlib.Core.Bool.{Bool, ◌&&◌, ◌||◌, false, true}
use mathlib.Core.List.{List, [], ◌++◌, ◌∷◌}
use mathlib.Core.Option.{Option, none, some}
use mathlib.Core.Path.{◌∙◌, ◌≡◌, ap, refl, sym}
use native.Mathlib.Omega.{arith}
use Rattle.rows.specs.declared.Held.{Held}
use Rattle.frame.specs.Answer.{gives, refused}
use Rattle.frame.specs.declared.Past.{Past}
use Rattle.frame.specs.declared.Past.TheVariants.{Said, Unsaid}
use Rattle.frame.specs.Names.{MarkId, desks}
use Rattle.causality.specs.Answers.{executes, waits}
use Rattle.causality.specs.Calls.{admit, full, judge, same_fields, unmade}
use Rattle.causality.specs.Kinds.{admit_by, judge_by}
use Rattle.causality.specs.Marks.{any, find, places, same, tally, waiting_places}
use Rattle.causality.specs.State.{Mark, State, false_stamp, ids, mark_id, missing, ready, reckoned, with_past}
use Rattle.causality.specs.inner.Fit.{Fit}
use Rattle.causality.proofs.Missing.{ready-missing}
use Rattle.causality.proofs.Reach.{sound_counted}
use Rattle.causality.specs.inner.Order.{CausallyOrdered}
use Rattle.rows.specs.View.{past_from, width}
use Rattle.rows.specs.inner.Slots.{held_id, held_mark}
use Rattle.rows.specs.declared.Executed.{Executed}
use Rattle.waiting.specs.declared.Waiting.{Waiting}
use Rattle.verdict.specs.Kept.{KeptIn, state_in}
use Rattle.verdict.specs.inner.Steps.{Tallies, known_if, past_kept, unmade_by}
use Rattle.predecessors.specs.inner.Steps.{missing_by}
use Rattle.rows.proofs.ByRows.{row_at_lem}
use Rattle.predecessors.proofs.MissingLaws.{missing_by-tally}
use Rattle.verdict.proofs.Invariant.{kept_own}
use Rattle.verdict.proofs.Judged.{unmade_by-row}

-- What is said is not unsaid.
unsaid_said : (n : ℕ) → Unsaid ≡ Said n → ⊥
unsaid_said n e = let z : ◌≡◌ {A = ℕ} 0 1 = cc in omega arith

-- What was kept of the past of a ready mark tells whether its stamp is false.
module _ (l : List Mark) (m : Mark) where
  pub kept-none : Unsaid ≡ past_kept l m → false_stamp l m ≡ true
  kept-none e = go (false_stamp l m) refl e
    where
      go : (b : Bool) → false_stamp l m ≡ b → Unsaid ≡ past_kept l m → b ≡ true
      go true q w = refl
      go false q w = absurd (unsaid_said _ (rw (q, past_kept) at w))

  pub kept-some : (n : ℕ) → Said n ≡ past_kept l m → (false_stamp l m ≡ false) × (Said n ≡ (reckoned l m).past)
  kept-some n e = go (false_stamp l m) refl e
    where
      go : (b : Bool) → false_stamp l m ≡ b → Said n ≡ past_kept l m → (b ≡ false) × (Said n ≡ (reckoned l m).past)
      go true q w = absurd (unsaid_said n (sym (rw (q, past_kept) at w)))
      go false q w = (refl, rw (q, past_kept) at w)

-- The readiness test, by the tally, yields x.
module _ (l : List Mark) (h : Held) (t : List ℕ) (sound : CausallyOrdered l) (f : Fit desks (held_mark h)) (ts : Tallies l t) (x : ℕ) (e : x ≡ missing_by width t h.desk h.number.0 h.row) where
  pub short-found : missing l (held_mark h) ≡ x
  short-found = missing_by-tally width l (sound_counted l sound) t h.row ts (held_id h) h.extent (past_from h.past) f.range.low f.range.high ∙ sym e

  pub ready-found : ready l (held_mark h) ≡ eqb x 0
  ready-found = ready-missing l (held_mark h) ∙ ap (λ (k : ℕ). eqb k 0) short-found

-- 9, 10, 11, by counts and tally.
module _ (st : State) (h : Held) (t : List ℕ) (count waiting : ℕ) (long : length st.executed ≡ count) (many : length st.waiting ≡ waiting) (sound : CausallyOrdered st.executed)
    (f : Fit desks (held_mark h)) (ts : Tallies st.executed t) where
  full_test : full st ≡ eqb (count + waiting) places
  unfolding full
  full_test = λ i. eqb (long i + many i) places

  pub admit-full : count + waiting ≡ places → refused 9 ≡ admit st (held_mark h)
  unfolding admit_by
  admit-full e = rw (full_test ∙ eq-eqb (count + waiting) places e, admit_by) refl

  -- The readiness test yields x.
  module _ (n : count + waiting ≡ places → ⊥) (x : ℕ) (e : x ≡ missing_by width t h.desk h.number.0 h.row) where
    room : full st ≡ false
    room = full_test ∙ ne_eqb (count + waiting) places n

    short_test : missing st.executed (held_mark h) ≡ x
    short_test = short-found st.executed h t sound f ts x e

    ready_test : ready st.executed (held_mark h) ≡ eqb x 0
    ready_test = ready-found st.executed h t sound f ts x e

    -- Ready; r is what the test of its stamp and the reckoning find then.
    module _ (z : x ≡ 0) where
      is-ready : ready st.executed (held_mark h) ≡ true
      is-ready = ready_test ∙ eq-eqb x 0 z

      pub admit-false : Unsaid ≡ past_kept st.executed (held_mark h) → refused 11 ≡ admit st (held_mark h)
      unfolding admit_by
      admit-false s = rw (room, admit_by) (rw is-ready (rw (kept-none st.executed (held_mark h) s) refl))

      pub admit-runs : (n : ℕ) → Said n ≡ past_kept st.executed (held_mark h) → gives (executes (with_past (held_mark h) (Said n))) ≡ admit st (held_mark h)
      unfolding admit_by
      admit-runs n s = let k = kept-some st.executed (held_mark h) n s in
          rw (room, admit_by) (rw is-ready (rw k.0 (ap (λ (p : Past). gives (executes (with_past (held_mark h) p))) k.1)))

    -- Not ready.
    module _ (z : x ≡ 0 → ⊥) where
      not-ready : ready st.executed (held_mark h) ≡ false
      not-ready = ready_test ∙ ne_eqb x 0 z

      pub admit_crowded : waiting ≡ waiting_places → refused 10 ≡ admit st (held_mark h)
      unfolding admit_by
      admit_crowded w = rw (room, admit_by) (rw not-ready (rw (ap (λ (x : ℕ). eqb x waiting_places) many ∙ eq-eqb waiting waiting_places w) refl))

      pub admit_holds : (waiting ≡ waiting_places → ⊥) → gives (waits (held_mark h) x) ≡ admit st (held_mark h)
      unfolding admit_by
      admit_holds w = rw (room, admit_by) (rw not-ready (rw (ap (λ (x : ℕ). eqb x waiting_places) many ∙ ne_eqb waiting waiting_places w) (ap (λ (n : ℕ). gives (waits (held_mark h) n)) (sym short_test))))

-- 7, KNOWN AND 8

abbrev or_else : Option Mark → Option Mark → Option Mark
or_else none o = o
or_else (some m) o = some m

find_append : (i : MarkId) (xs ys : List Mark) → find mark_id i (xs ++ ys) ≡ or_else (find mark_id i xs) (find mark_id i ys)
find_append i [] ys = refl
find_append i (x ∷ xs) ys = go (same i x.id) (find_append i xs ys)
  where
    go : (b : Bool) → find mark_id i (xs ++ ys) ≡ or_else (find mark_id i xs) (find mark_id i ys)
        → elim b [ true ↦ some x | false ↦ find mark_id i (xs ++ ys) ] ≡ or_else (elim b [ true ↦ some x | false ↦ find mark_id i xs ]) (find mark_id i ys)
    go true ih = refl
    go false ih = ih

-- The mark passes 7, as the tally tells.
module _ (own : ℕ) (b : Executed) (q : Waiting) (h : Held) (k : KeptIn own b q) where
  pub kept_tallies : Tallies (state_in own b q).executed b.tally
  kept_tallies = row_at_lem width b.tally (λ e. tally e (ids (state_in own b q).executed)) k.ordered.rows.tally

  unmade_test : (unmade (state_in own b q) (held_id h) || any (unmade (state_in own b q)) (held_mark h).stamp) ≡ unmade_by b.tally (own) h
  unmade_test =
      let o = kept_own own b q k in
      let e = sym (kept_tallies (own) o.0 o.1) in
      unmade_by-row width (state_in own b q) h.row o.0 o.1 (held_id h) ∙ (λ i. (eqb h.desk (own) && ltb (e i) h.number.0) || ltb (e i) (get_or h.row (own - 1) 0))

  pub judge-unmade : unmade_by b.tally (own) h ≡ true → refused 7 ≡ judge (state_in own b q) (held_mark h)
  unfolding judge_by
  judge-unmade e = rw (unmade_test ∙ e, judge_by) refl

  module _ (made : unmade_by b.tally (own) h ≡ false) where
    -- A held mark a of the same name: Known or 8 by the fields.
    judge_held : (a : Held) → find mark_id (held_id h) ((state_in own b q).executed ++ (state_in own b q).waiting) ≡ some (held_mark a)
        → known_if (same_fields (held_mark a) (held_mark h)) ≡ judge (state_in own b q) (held_mark h)
    unfolding judge_by
    judge_held a w = rw (unmade_test ∙ made, judge_by) (rw w refl)

    -- A mark found among the executed ones, or else among the waiting ones.
    pub judge-executed : (a : Held) → find mark_id (held_id h) (state_in own b q).executed ≡ some (held_mark a)
        → known_if (same_fields (held_mark a) (held_mark h)) ≡ judge (state_in own b q) (held_mark h)
    judge-executed a e =
        judge_held a
        (find_append (held_id h) (state_in own b q).executed (state_in own b q).waiting ∙ ap (λ (o : Option Mark). or_else o (find mark_id (held_id h) (state_in own b q).waiting)) e)

    module _ (n : find mark_id (held_id h) (state_in own b q).executed ≡ none) where
      both : (o : Option Mark) → find mark_id (held_id h) (state_in own b q).waiting ≡ o → find mark_id (held_id h) ((state_in own b q).executed ++ (state_in own b q).waiting) ≡ o
      both o w = find_append (held_id h) (state_in own b q).executed (state_in own b q).waiting ∙ ap (λ (x : Option Mark). or_else x (find mark_id (held_id h) (state_in own b q).waiting)) n ∙ w

      pub judge-waiting : (a : Held) → find mark_id (held_id h) (state_in own b q).waiting ≡ some (held_mark a)
          → known_if (same_fields (held_mark a) (held_mark h)) ≡ judge (state_in own b q) (held_mark h)
      judge-waiting a e = judge_held a (both (some (held_mark a)) e)

      pub judge-new : find mark_id (held_id h) (state_in own b q).waiting ≡ none → admit (state_in own b q) (held_mark h) ≡ judge (state_in own b q) (held_mark h)
      unfolding judge_by
      judge-new e = rw (unmade_test ∙ made, judge_by) (rw (both none e) refl)
