-- Asking whether entries lead from a row to a mark: where it stops, the row tells, and from there it reaches what it did. n: how many desks. Assumes nothing.
use Prim.Native.Nat.{◌-◌, ◌<◌, ◌≤◌, max, suc, ℕ}
use borrow.Author.Tests.{le-leb, le-ltb, lt-leb, lt-ltb}
use lib.Dec.{leb, leb→le, ltb, ltb→lt, nleb→lt, not_T}
use lib.ListN.{get_or, length, take}
use mathlib.Core.Bool.{◌||◌, false, or-true, true}
use mathlib.Core.List.{List, []}
use mathlib.Core.Logic.{inl, inr}
use mathlib.Core.Path.{◌∙◌, ◌≡◌, ap, refl, subst}
use native.Mathlib.Omega.{arith}
use Rattle.frame.specs.Names.{MarkId}
use Rattle.causality.specs.Marks.{has, tally}
use Rattle.causality.specs.State.{ids}
use Rattle.causality.proofs.Logic.{eq→T, nT→eq, split}
use Rattle.causality.proofs.Past.{prefix_le}
use Rattle.causality.proofs.Reach.{sound_counted}
use Rattle.causality.specs.inner.Order.{CausallyOrdered}
use Rattle.causality.specs.inner.Passes.{under}
use Rattle.rows.specs.declared.Executed.{Executed}
use Rattle.rows.specs.Executed.{marks_with}
use Rattle.rows.specs.View.{Carried, names_down, view, width, name_at}
use Rattle.rows.specs.inner.Slots.{Named, row_fn}
use Rattle.rows.proofs.Arrays.{sound_below}
use Rattle.rows.proofs.Places.{ids-names}
use Rattle.rows.proofs.RowSteps.{one-turn, pass_ended, pass_rest, pass_step}
use Rattle.queries.specs.inner.Steps.{AskedOf, ends_at}
use Rattle.causality.proofs.Lists.{tally_few}
use Rattle.queries.proofs.Reaching.{reach_end, reach_now, reached}
use Rattle.rows.proofs.Down.{down-length}

module _ (n : ℕ) (ds ns : List ℕ) (bs : ℕ → Carried) (ss : List (List ℕ)) (i : MarkId) (row : List ℕ) (at : ℕ) where
  -- The row tells of the mark: it counts it if it reaches it.
  abbrev Told : Type 0
  Told = leb i.number (row_fn row i.desk) ≡ leb i.number (reached n ds ns bs ss at row i.desk)

  told-counted : i.number ≤ row_fn row i.desk → Told
  told-counted h = le-leb i.number (row_fn row i.desk) h ∙ reach_now n ds ns bs ss i at row h

  module _ (h : row_fn row i.desk < i.number) (s : CausallyOrdered (view n at ds ns bs ss)) where
    told_none : has i (ids (view n at ds ns bs ss)) ≡ false → Told
    told_none out = let p = h in lt-leb i.number (row_fn row i.desk) h ∙ reach_end n ds ns bs ss i at at row h (omega arith) s out (omega arith)

  -- Where an ask ends the row tells: a mark that is not among those before the place is reached only if the row counts it.
  pub told_ended : CausallyOrdered (view n at ds ns bs ss) → (leb i.number (row_fn row i.desk) || ltb (tally i.desk (names_down at ds ns)) i.number) ≡ true → Told
  told_ended s e = elim (split (leb i.number (row_fn row i.desk))) [
    | inl t ↦ told-counted (leb→le i.number (row_fn row i.desk) t)
    | inr t ↦
        let u = rw (nT→eq (leb i.number (row_fn row i.desk)) t) at (eq→T (leb i.number (row_fn row i.desk) || ltb (tally i.desk (names_down at ds ns)) i.number) e) in
        let few = ltb→lt (tally i.desk (names_down at ds ns)) i.number u in
        told_none (nleb→lt i.number (row_fn row i.desk) t) s (nT→eq (has i (ids (view n at ds ns bs ss))) (not_T (has i (ids (view n at ds ns bs ss))) (λ v.
        let w = (prefix_le (ids (view n at ds ns bs ss)) (sound_counted (view n at ds ns bs ss) s) i v).1 in
        let m = ap (tally i.desk) (ids-names n ds ns bs ss at) in
        omega arith)))
  ]

module _ (a : Executed) (row : List ℕ) (at : ℕ) (i : MarkId) where
  module _ (made : ℕ) (m : made ≡ tally i.desk (names_down at a.desks a.numbers)) where
    -- It ends where it begins, by one of two tests: the row stays.
    module _ (l : length row ≡ width) where
      asked_end : ends_at a i at (row_fn row i.desk) ≡ true → AskedOf a row at i row made at
      asked_end e = record {
        less = omega arith;
        long = l;
        counts = λ bs j h. pass_ended width a.desks a.numbers bs a.stamps (λ d. 0) at at row (omega arith) j;
        standing = m;
        ends = e;
        first = λ bs q lo hi. let z : ⊥ = omega arith in absurd z;
      }

      pub asked-counted : i.number ≤ row_fn row i.desk → AskedOf a row at i row made at
      asked-counted h = asked_end (rw (le-leb i.number (row_fn row i.desk) h) refl)

      pub asked-passed : made < i.number → AskedOf a row at i row made at
      asked-passed h = asked_end (rw (lt-ltb (tally i.desk (names_down at a.desks a.numbers)) i.number (omega arith)) (or-true (leb i.number (row_fn row i.desk))))

    -- It does not end there, by both: then there is a place before.
    module _ (h : row_fn row i.desk < i.number) (k : i.number ≤ made) where
      pub not_ended : ends_at a i at (row_fn row i.desk) ≡ false
      not_ended = rw (lt-leb i.number (row_fn row i.desk) h) (le-ltb (tally i.desk (names_down at a.desks a.numbers)) i.number (omega arith))

      pub some-place : 0 < at
      some-place = let p = h in omega (arith, tally_few i.desk (names_down at a.desks a.numbers), down-length (name_at a.desks a.numbers) at)

  -- The row once the mark before the place is examined.
  abbrev pub Turned : List ℕ → Type 0
  Turned next = (bs : ℕ → Carried) (j : ℕ) → j < width
      → get_or next j 0 ≡ under (take (suc (at - 1) - (at - 1)) (marks_with bs (suc (at - 1)) a)) (λ d. 0) (row_fn row) (suc j)

  pub turned_joined : (next : List ℕ) → get_or a.numbers (at - 1) 0 ≤ row_fn row (get_or a.desks (at - 1) 0)
      → ((j : ℕ) → j < width → get_or next j 0 ≡ max (get_or row j 0) (get_or (get_or a.stamps (at - 1) []) j 0)) → Turned next
  turned_joined next h e bs = one-turn width a.desks a.numbers bs a.stamps (λ d. 0) (at - 1) row next
      (inl (le-leb (get_or a.numbers (at - 1) 0) (max 0 (row_fn row (get_or a.desks (at - 1) 0))) (omega arith), e))

  pub turned-passed : row_fn row (get_or a.desks (at - 1) 0) < get_or a.numbers (at - 1) 0 → Turned row
  turned-passed h bs = one-turn width a.desks a.numbers bs a.stamps (λ d. 0) (at - 1) row row
      (inr (lt-leb (get_or a.numbers (at - 1) 0) (max 0 (row_fn row (get_or a.desks (at - 1) 0))) (omega arith), refl))

  module _ (f : Named width at a.desks) (lo : 1 ≤ i.desk) (hi : i.desk ≤ width) where
    -- It goes on from the place before, once the mark there is examined.
    pub asked_on : (next after : List ℕ) (made r : ℕ) → 0 < at
        → Turned next → ends_at a i at (row_fn row i.desk) ≡ false → AskedOf a next (at - 1) i after made r → AskedOf a row at i after made r
    asked_on next after made r z turned on w = let l = w.less in record {
      less = omega arith;
      long = w.long;
      counts = λ bs j h. w.counts bs j h ∙ pass_step width a.desks a.numbers bs a.stamps (λ d. 0) at r (omega arith) f row next (turned bs) (suc j) (omega arith) h;
      standing = w.standing;
      ends = w.ends;
      first = λ bs q low high. elim (split (leb q (at - 1))) [
        | inl t ↦ let m = leb→le q (at - 1) t in subst (λ (x : ℕ). ends_at a i q x ≡ false)
            (pass_step width a.desks a.numbers bs a.stamps (λ d. 0) at q (omega arith) f row next (turned bs) i.desk lo hi) (w.first bs q low m)
        | inr t ↦ let m = nleb→lt q (at - 1) t in
            let e : q ≡ at = omega arith in
            let y : at - at ≡ 0 = omega arith in
            rw (e, y) on
      ];
    }

    module _ (after : List ℕ) (made r : ℕ) (w : AskedOf a row at i after made r) where
      -- The row reaches there what it reached before, whatever else the marks carry.
      pub asked-reaches : (bs : ℕ → Carried) → reached width a.desks a.numbers bs a.stamps r after i.desk ≡ reached width a.desks a.numbers bs a.stamps at row i.desk
      asked-reaches bs = pass_rest width a.desks a.numbers bs a.stamps (λ d. 0) at r w.less f row after (w.counts bs) i.desk lo hi

      -- It counts the mark if it reaches it.
      pub asked-told : (bs : ℕ → Carried) → CausallyOrdered (view width at a.desks a.numbers bs a.stamps)
          → leb i.number (row_fn after i.desk) ≡ leb i.number (reached width a.desks a.numbers bs a.stamps at row i.desk)
      asked-told bs s = told_ended width a.desks a.numbers bs a.stamps i after r (sound_below width at a.desks a.numbers bs a.stamps s r w.less) w.ends
          ∙ ap (leb i.number) (asked-reaches bs)
