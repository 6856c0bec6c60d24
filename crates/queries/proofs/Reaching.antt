-- Precedence by one row that is joined place by place, down to the place of the mark that is looked for. n: how many desks. Assumes nothing.
use Prim.Native.Nat.{◌-◌, ◌<◌, ◌≤◌, max, suc, zero, ℕ}
use borrow.Author.Tests.{le-leb, lt-leb}
use lib.Dec.{T, leb, not_T}
use lib.ListN.{get_or}
use mathlib.Core.Bool.{false, true}
use mathlib.Core.List.{List, []}
use mathlib.Core.Path.{◌∙◌, ◌≡◌, ap, refl, subst, sym}
use native.Mathlib.Omega.{arith}
use Rattle.frame.specs.Names.{MarkId}
use Rattle.causality.specs.Marks.{has}
use Rattle.causality.specs.State.{Mark, ids}
use Rattle.causality.proofs.Logic.{nT→eq}
use Rattle.causality.specs.inner.Order.{CausallyOrdered}
use Rattle.causality.proofs.RowLaws.{under_out, under_up}
use Rattle.causality.specs.inner.Passes.{row_of, under}
use Rattle.causality.specs.Rows.{entries_of_row}
use Rattle.rows.specs.View.{Carried, row_at, view}
use Rattle.rows.specs.inner.Slots.{Named, row_fn}
use Rattle.rows.proofs.Places.{has_more}
use Rattle.rows.proofs.RowSteps.{named-desks, named-less, under_joined, under-passed, view_last}

pub no_row : (k : ℕ) → max 0 k ≡ k
no_row k = omega arith

module _ (n : ℕ) (ds ns : List ℕ) (bs : ℕ → Carried) (ss : List (List ℕ)) where
  -- What a row reaches at desk d, from the first k places.
  abbrev pub reached : ℕ → List ℕ → ℕ → ℕ
  reached k row d = under (view n k ds ns bs ss) (λ d. 0) (row_fn row) d

  -- The pass reads names and stamps alone: boxes and pasts change nothing.
  under_any : (cs : ℕ → Carried) (s : ℕ → ℕ) (k : ℕ) (r : ℕ → ℕ) → under (view n k ds ns bs ss) s r ≡ under (view n k ds ns cs ss) s r
  unfolding view
  under_any cs s zero r = refl
  under_any cs s (suc k) r = λ i. elim (leb (get_or ns k 0) (max (s (get_or ds k 0)) (r (get_or ds k 0)))) as (λ z. ℕ → ℕ) [
    | true ↦ under_any cs s k (λ d. max (r d) (row_of (entries_of_row n (row_at ss k)) d)) i
    | false ↦ under_any cs s k r i
  ]

  pub reached_any : (cs : ℕ → Carried) (k : ℕ) (row : List ℕ) (d : ℕ) → reached k row d ≡ under (view n k ds ns cs ss) (λ d. 0) (row_fn row) d
  reached_any cs k row d = ap (λ (r : ℕ → ℕ). r d) (under_any cs (λ d. 0) k (row_fn row))

  -- What the row counts is reached.
  pub reach_now : (i : MarkId) (k : ℕ) (row : List ℕ) → i.number ≤ row_fn row i.desk → true ≡ leb i.number (reached k row i.desk)
  reach_now i k row h = let u = under_up (view n k ds ns bs ss) (λ d. 0) (row_fn row) i.desk in sym (le-leb i.number (reached k row i.desk) (omega arith))

  -- What it does not count is not reached from places of which none is the mark's.
  pub reach_end : (i : MarkId) (k to : ℕ) (row : List ℕ) → row_fn row i.desk < i.number → k ≤ to
      → CausallyOrdered (view n k ds ns bs ss) → has i (ids (view n to ds ns bs ss)) ≡ false → 1 ≤ i.number → false ≡ leb i.number (reached k row i.desk)
  reach_end i k to row l h s out pos =
      sym (under_out (view n k ds ns bs ss) s (λ d. 0) (row_fn row) i pos
      (nT→eq (has i (ids (view n k ds ns bs ss))) (not_T (has i (ids (view n k ds ns bs ss))) (λ t. subst T out (has_more n ds ns bs ss k to h i t))))
      ∙ lt-leb i.number (row_fn row i.desk) l)

  -- The mark at the last place is counted, and its row is joined.
  pub reach_joined : (k : ℕ) (row row' : List ℕ) → 0 < k → Named n k ds → get_or ns (k - 1) 0 ≤ row_fn row (get_or ds (k - 1) 0)
      → ((j : ℕ) → j < n → get_or row' j 0 ≡ max (get_or row j 0) (get_or (get_or ss (k - 1) []) j 0)) → (d : ℕ) → 1 ≤ d → d ≤ n → reached (k - 1) row' d ≡ reached k row d
  reach_joined k row row' z f q h d lo hi =
      under_joined n ds ns bs ss (λ d. 0) (k - 1) (view n (k - 1) ds ns bs ss) (named-desks n (k - 1) ds ns bs ss (named-less n k ds (k - 1) f (omega arith))) row row'
      (le-leb (get_or ns (k - 1) 0) (max 0 (row_fn row (get_or ds (k - 1) 0))) (omega arith)) h d lo hi
      ∙ ap (λ (l : List Mark). under l (λ d. 0) (row_fn row) d) (sym (view_last n ds ns bs ss k z))

  -- It is not counted.
  pub reach_passed : (k : ℕ) (row : List ℕ) → 0 < k → row_fn row (get_or ds (k - 1) 0) < get_or ns (k - 1) 0 → (d : ℕ) → 1 ≤ d → reached (k - 1) row d ≡ reached k row d
  reach_passed k row z q d lo =
      under-passed n ds ns bs ss (λ d. 0) (k - 1) (view n (k - 1) ds ns bs ss) row (lt-leb (get_or ns (k - 1) 0) (max 0 (row_fn row (get_or ds (k - 1) 0))) (omega arith)) d
      ∙ ap (λ (l : List Mark). under l (λ d. 0) (row_fn row) d) (sym (view_last n ds ns bs ss k z))
