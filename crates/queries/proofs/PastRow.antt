-- The past of the mark at a place, as a row that is traced from the row of its stamp. n: how many desks. Assumes nothing.
use Prim.Native.Nat.{◌-◌, ◌<◌, ◌≤◌, suc, ℕ, max}
use lib.Dec.{leb, not_T}
use lib.ListN.{get_or}
use mathlib.Core.Bool.{Bool, false}
use mathlib.Core.List.{List, []}
use mathlib.Core.Path.{◌∙◌, ◌≡◌, ap, refl, sym}
use native.Mathlib.Omega.{arith}
use Rattle.frame.specs.Names.{MarkId}
use Rattle.causality.specs.Marks.{has}
use Rattle.causality.specs.State.{ids, precedes}
use Rattle.causality.proofs.Apart.{past-counts}
use Rattle.causality.proofs.Logic.{nT→eq}
use Rattle.causality.proofs.Past.{prefix_le}
use Rattle.causality.proofs.Reach.{sound_counted}
use Rattle.causality.specs.inner.Order.{CausallyOrdered}
use Rattle.causality.proofs.RowLaws.{row_of-entries}
use Rattle.causality.specs.inner.Passes.{row_of, under}
use Rattle.rows.specs.View.{Carried, mark_at, name_at, row_at, view}
use Rattle.rows.specs.inner.Slots.{Named, row_fn}
use Rattle.rows.proofs.Arrays.{sound_below}
use Rattle.rows.proofs.ByRows.{under_cong}
use Rattle.rows.proofs.Places.{has-at, not_before, precedes_there}
use Rattle.rows.proofs.RowSteps.{named-at, named-desks}
use Rattle.queries.proofs.Reaching.{no_row, reached}

module _ (n : ℕ) (ds ns : List ℕ) (bs : ℕ → Carried) (ss : List (List ℕ)) where
  -- What a row that is read at place p reaches, the row of the stamp there reaches.
  pub reached_is : (p : ℕ) → Named n p ds → (row : List ℕ) → ((j : ℕ) → j < n → get_or row j 0 ≡ get_or (get_or ss p []) j 0) → (d : ℕ) → 1 ≤ d → d ≤ n
      → reached n ds ns bs ss p row d ≡ max 0 (under (view n p ds ns bs ss) (λ d. 0) (row_of (mark_at n ds ns bs ss p).stamp) d)
  reached_is p f row er d lo hi =
      under_cong n (view n p ds ns bs ss) (named-desks n p ds ns bs ss f) (λ d. 0) (λ d. 0) (row_fn row) (row_of (mark_at n ds ns bs ss p).stamp) (λ d lo hi. refl)
      (λ d lo hi. er (d - 1) (omega arith) ∙ sym (row_of-entries n (row_at ss p) d lo hi)) d lo hi
      ∙ sym (no_row (under (view n p ds ns bs ss) (λ d. 0) (row_of (mark_at n ds ns bs ss p).stamp) d))

  -- It counts the marks that precede that at place p.
  pub reached_counts : (count p : ℕ) → p < count → Named n p ds → CausallyOrdered (view n count ds ns bs ss) → (row : List ℕ) → ((j : ℕ) → j < n → get_or row j 0 ≡ get_or (get_or ss p []) j 0)
      → (i : MarkId) → 1 ≤ i.desk → i.desk ≤ n → 1 ≤ i.number
      → precedes (view n count ds ns bs ss) i (mark_at n ds ns bs ss p).id ≡ leb i.number (reached n ds ns bs ss p row i.desk)
  unfolding view
  reached_counts count p h f s row er i lo hi pos =
      let r = row_of (mark_at n ds ns bs ss p).stamp in
      precedes_there n ds ns bs ss count p s h i
      ∙ past-counts (mark_at n ds ns bs ss p) (view n p ds ns bs ss) (sound_below n count ds ns bs ss s (suc p) h) (λ d. 0) r (λ d. no_row (r d)) i pos ∙ ap (leb i.number) (sym (reached_is p f row er i.desk lo hi))

  -- Entries lead from the row of the mark at q to the mark at an earlier place if that mark precedes it.
  pub led : (count p q : ℕ) → p < q → q < count → Named n q ds → CausallyOrdered (view n count ds ns bs ss) → (row : List ℕ) → ((j : ℕ) → j < n → get_or row j 0 ≡ get_or (get_or ss q []) j 0) → (r : Bool)
      → (CausallyOrdered (view n q ds ns bs ss) → has (name_at ds ns p) (ids (view n p ds ns bs ss)) ≡ false → 1 ≤ get_or ns p 0 → r ≡ leb (get_or ns p 0) (reached n ds ns bs ss q row (get_or ds p 0)))
      → r ≡ precedes (view n count ds ns bs ss) (name_at ds ns p) (name_at ds ns q)
  led count p q o h f s row er r e =
      let i = name_at ds ns p in
      let w = named-at n q ds p f o in
      let pos = (prefix_le (ids (view n count ds ns bs ss)) (sound_counted (view n count ds ns bs ss) s) i (has-at n ds ns bs ss count p (omega arith))).0 in
      let out = nT→eq (has i (ids (view n p ds ns bs ss))) (not_T (has i (ids (view n p ds ns bs ss))) (not_before n ds ns bs ss count p p s (omega arith) (omega arith))) in
      e (sound_below n count ds ns bs ss s q (omega arith)) out pos ∙ sym (reached_counts count q h f s row er i w.0 w.1 pos)
