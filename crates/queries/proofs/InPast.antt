-- How many marks of a desk a row reaches, and so how many precede a mark. n: how many desks. Assumes nothing.
use Prim.Native.Nat.{◌+◌, ◌-◌, ◌<◌, ◌≤◌, min, suc, ℕ}
use borrow.Author.Tests.{eqb-true, lt-leb, lt-ltb}
use lib.Dec.{T, eqb, leb, leb→le, nleb→lt}
use lib.ListN.{get_or, replicate}
use mathlib.Core.Bool.{Bool, cond, false, or-true, true}
use mathlib.Core.List.{List, [], ◌∷◌}
use mathlib.Core.Logic.{inl, inr}
use mathlib.Core.Path.{◌∙◌, ◌≡◌, ap, refl, sym}
use native.Mathlib.Omega.{arith}
use Rattle.frame.specs.Names.{MarkId}
use Rattle.causality.specs.Evidence.{in_past}
use Rattle.causality.specs.Marks.{has, keep, same, tally}
use Rattle.causality.specs.State.{Mark, ids, precedes}
use Rattle.causality.proofs.Lists.{has-self}
use Rattle.causality.proofs.Logic.{or_inr, split}
use Rattle.causality.proofs.Past.{prefix_le, tally_le}
use Rattle.causality.specs.inner.Order.{Consecutive, CausallyOrdered}
use Rattle.causality.proofs.Reach.{sound_counted}
use Rattle.causality.proofs.RowLaws.{under_up}
use Rattle.causality.specs.inner.Passes.{under, row_of}
use Rattle.rows.specs.View.{Carried, name_at, names_down, view, mark_at}
use Rattle.rows.specs.inner.Slots.{Named, row_fn}
use Rattle.rows.proofs.Arrays.{sound_below}
use Rattle.rows.proofs.Places.{ids-names}
use Rattle.rows.proofs.Slots.{zeros}
use Rattle.queries.proofs.Asking.{told_ended}
use Rattle.queries.proofs.MadeBefore.{met, none_yet, own_less}
use Rattle.queries.proofs.PastRow.{reached_counts, reached_is}
use Rattle.queries.proofs.Reaching.{reach_passed, reached, no_row}
use Rattle.rows.proofs.Down.{down-more}
use Rattle.causality.proofs.RowCounts.{row-tally}

-- Of desk d's marks those up to r pass: as many as there are of them.
tally-run : (d r : ℕ) (p : MarkId → Bool) (is : List MarkId) → Consecutive is → ((i : MarkId) → T (has i is) → i.desk ≡ d → p i ≡ leb i.number r)
    → tally d (keep p is) ≡ min r (tally d is)
tally-run d r p [] c f = omega arith
tally-run d r p (i ∷ is) c f = go (eqb d i.desk) refl (p i) refl (tally-run d r p is c.1 (λ j t. f j (or_inr (same j i) (has j is) t)))
  where
    t : ℕ
    t = tally d is

    here : eqb d i.desk ≡ true → (i.number ≡ suc t) × (p i ≡ leb i.number r)
    here e =
        let q : d ≡ i.desk = eqb-true d i.desk e in
        (rw q c.0, f i (has-self i is) (sym q))

    go : (b : Bool) → eqb d i.desk ≡ b → (k : Bool) → p i ≡ k → tally d (keep p is) ≡ min r t
        → tally d (cond k (i ∷ keep p is) (keep p is)) ≡ min r (elim b [ true ↦ suc t | false ↦ t ])
    go true e true g ih =
        let h = here e in
        let l = leb→le i.number r (rw (sym h.1 ∙ g) tt) in
        let n = h.0 in
        rw (e, tally, ih) (omega arith)
    go true e false g ih =
        let h = here e in
        let n = h.0 in
        let l = nleb→lt i.number r (rw (sym h.1 ∙ g) tt) in
        ih ∙ (omega arith)
    go false e true g ih = rw (e, tally) ih
    go false e false g ih = ih

module _ (n : ℕ) (ds ns : List ℕ) (bs : ℕ → Carried) (ss : List (List ℕ)) where
  -- A ROW THAT IS FOLLOWED

  module _ (d : ℕ) (lo : 1 ≤ d) (most : ℕ) (row : List ℕ) (at : ℕ) where
    -- It counts as many as are asked for.
    pub counts_all : most ≤ row_fn row d → most ≡ min most (reached n ds ns bs ss at row d)
    counts_all h = let u = under_up (view n at ds ns bs ss) (λ d. 0) (row_fn row) d in omega arith

    module _ (h : row_fn row d < most) where
      -- No mark is left.
      pub counts_last : at ≡ 0 → row_fn row d ≡ min most (reached n ds ns bs ss at row d)
      unfolding view
      counts_last e = rw e (omega arith)

      -- From there it counts none more.
      counts-no_more : leb (suc (row_fn row d)) (row_fn row d) ≡ leb (suc (row_fn row d)) (reached n ds ns bs ss at row d) → row_fn row d ≡ min most (reached n ds ns bs ss at row d)
      counts-no_more e =
          let u = under_up (view n at ds ns bs ss) (λ d. 0) (row_fn row) d in
          let v = nleb→lt (suc (row_fn row d)) (reached n ds ns bs ss at row d) (rw (← e, lt-leb (suc (row_fn row d)) (row_fn row d) (omega arith)) tt) in
          omega arith

      -- The desk's first mark that it does not count is met, or one before.
      pub counts_met : CausallyOrdered (view n at ds ns bs ss) → 0 < at → get_or ds (at - 1) 0 ≡ d → get_or ns (at - 1) 0 ≤ row_fn row d + 1 → row_fn row d ≡ min most (reached n ds ns bs ss at row d)
      counts_met s z e l = counts-no_more (elim (split (leb (get_or ns (at - 1) 0) (row_fn row d))) [
        | inl t ↦
            let v = leb→le (get_or ns (at - 1) 0) (row_fn row d) t in
            let k = number in
            told_ended n ds ns bs ss next row at s (rw (lt-ltb (tally d (names_down at ds ns)) (suc (row_fn row d)) (omega arith)) (or-true (leb (suc (row_fn row d)) (row_fn row d))))
        | inr t ↦
            let v = nleb→lt (get_or ns (at - 1) 0) (row_fn row d) t in
            let k = number in
            let m = own_less ds ns d at z e (tally d (names_down at ds ns)) refl in
            told_ended n ds ns bs ss next row (at - 1) (sound_below n at ds ns bs ss s (at - 1) (omega arith))
            (rw (lt-ltb (tally d (names_down (at - 1) ds ns)) (suc (row_fn row d)) (omega arith)) (or-true (leb (suc (row_fn row d)) (row_fn row d))))
            ∙ ap (leb (suc (row_fn row d))) (reach_passed n ds ns bs ss at row z (rw e v) d lo)
      ])
        where
          next : MarkId
          next = record { desk = d; number = suc (row_fn row d) }

          number : get_or ns (at - 1) 0 ≡ tally d (names_down at ds ns)
          number = met ds ns d at at (none_yet ds ns d at) z e (rw (← ids-names n ds ns bs ss at) (sound_counted (view n at ds ns bs ss) s))

  -- THE PAST OF A MARK

  module _ (count p : ℕ) (h : p < count) (named : Named n p ds) (s : CausallyOrdered (view n count ds ns bs ss)) (row : List ℕ) (er : (j : ℕ) → j < n → get_or row j 0 ≡ get_or (get_or ss p []) j 0)
      (d : ℕ) (lo : 1 ≤ d) (hi : d ≤ n) where
    abbrev l : List Mark
    l = view n count ds ns bs ss

    c : Consecutive (ids (view n count ds ns bs ss))
    c = sound_counted l s

    -- It has no more marks of a desk than there are.
    few : reached n ds ns bs ss p row d ≤ tally d (ids (view n count ds ns bs ss))
    unfolding view
    few =
        let e = reached_is n ds ns bs ss p named row er d lo hi in
        let r = row_of (mark_at n ds ns bs ss p).stamp in
        let a = row-tally (mark_at n ds ns bs ss p) (view n p ds ns bs ss) (sound_below n count ds ns bs ss s (suc p) h) (λ d. 0) r (λ d. no_row (r d)) d in
        let b = down-more (mark_at n ds ns bs ss) (λ x. tally d (ids (view n p ds ns bs ss)) ≤ tally d (ids x)) (λ m x y. let z = tally_le d m.id (ids x) in omega arith) p count (omega arith) (omega arith) in
        omega arith

    -- What the row of its stamp reaches at a desk is how many marks of that desk precede it.
    pub in_past_reached : reached n ds ns bs ss p row d ≡ in_past (view n count ds ns bs ss) d (name_at ds ns p)
    unfolding in_past
    in_past_reached = let x = few in omega arith ∙ sym (tally-run d (reached n ds ns bs ss p row d) (λ i. precedes l i (name_at ds ns p)) (ids l) c
        (λ i t e. reached_counts n ds ns bs ss count p h named s row er i (omega arith) (omega arith) (prefix_le (ids l) c i t).0 ∙ ap (λ (x : ℕ). leb i.number (reached n ds ns bs ss p row x)) e))

    -- A row that is traced from it has that count.
    pub in_past_traced : (past : List ℕ) → row_fn past d ≡ under (view n p ds ns bs ss) (row_fn (replicate n 0)) (row_fn row) d → row_fn past d ≡ in_past (view n count ds ns bs ss) d (name_at ds ns p)
    in_past_traced past ep = ep ∙ (λ k. under (view n p ds ns bs ss) (λ d. zeros n (d - 1) k) (row_fn row) d) ∙ in_past_reached
