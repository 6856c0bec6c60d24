-- The pass of the trace that stops where the rows are final: what they count, and the tally on the way down. Assumes nothing.
use Prim.Native.Nat.{◌+◌, ◌-◌, ◌<◌, ◌≤◌, max, suc, ℕ}
use lib.Dec.{eqb, eqb_refl, eqb→eq, leb, leb→le, T_not}
use lib.ListN.{get_or, length-set, set}
use lib.Seq.{get_or-set_other, get_or-set_same}
use mathlib.Core.Bool.{Bool, false, true}
use mathlib.Core.List.{List}
use mathlib.Core.Logic.{inl, inr}
use mathlib.Core.Path.{◌∙◌, ◌≡◌, refl, subst, sym}
use native.Mathlib.Numerals.{sub-one}
use native.Mathlib.Omega.{arith}
use Rattle.causality.specs.Marks.{tally}
use Rattle.causality.proofs.Logic.{eq→T, split}
use Rattle.causality.proofs.Past.{tally-same}
use Rattle.causality.proofs.RowCounts.{tally-other}
use Rattle.rows.specs.View.{name_at, names_down, width}
use Rattle.rows.specs.inner.Slots.{Named, row_fn}
use Rattle.rows.proofs.RowSteps.{named_last}
use Rattle.predecessors.specs.inner.Steps.{TallyAt, all_counted, greater_sum}
use Rattle.causality.proofs.Upto.{all_desk, all_more, all_no, sum_more, sum_part}
use Rattle.causality.specs.inner.Upto.{all_to}

-- Two rows against a tally, desk by desk.
module _ (r s t : List ℕ) where
  abbrev fits : ℕ → Bool
  fits d = leb (row_fn t d) (max (row_fn r d) (row_fn s d))

  pub counted-more : (j : ℕ) → all_counted j r s t ≡ true → leb (get_or t j 0) (max (get_or r j 0) (get_or s j 0)) ≡ true → all_counted (j + 1) r s t ≡ true
  counted-more j e q = all_more fits j e (rw (sub-one (suc j)) q)

  pub counted_no : (n j : ℕ) → j < n → leb (get_or t j 0) (max (get_or r j 0) (get_or s j 0)) ≡ false → all_counted n r s t ≡ false
  counted_no n j h q = all_no fits n j h (rw (sub-one (suc j)) q)

  pub counted-at : (n : ℕ) → all_counted n r s t ≡ true → (d : ℕ) → 1 ≤ d → d ≤ n → row_fn t d ≤ max (row_fn r d) (row_fn s d)
  counted-at n e d p q = leb→le (row_fn t d) (max (row_fn r d) (row_fn s d)) (all_desk n fits (eq→T (all_to n fits) e) d p q)

-- The sum, desk by desk. A part of it is no more than the whole.
module _ (r s : List ℕ) (j : ℕ) where
  pub total-more : (n v : ℕ) → n ≡ greater_sum j r s → v ≡ max (get_or r j 0) (get_or s j 0) → n + v ≡ greater_sum (j + 1) r s
  total-more n v e q = rw (sum_more, sub-one (suc j)) (omega arith)

  pub total_part : (n : ℕ) → j < n → max (get_or r j 0) (get_or s j 0) + greater_sum j r s ≤ greater_sum n r s
  total_part n h = rw (sub-one (suc j)) at (sum_part (λ d. max (row_fn r d) (row_fn s d)) n j h)

-- THE TALLY, one place down

module _ (t ds ns : List ℕ) (k : ℕ) (z : k ≡ 0 → ⊥) (f : Named width k ds) (w : TallyAt t ds ns k) where
  abbrev p : ℕ
  p = k - 1

  abbrev d : ℕ
  d = get_or ds p 0

  range : (1 ≤ d) × (d ≤ width)
  range = named_last width k ds f z

  one_more : row_fn t d ≡ suc (tally d (names_down p ds ns))
  one_more = let e : k ≡ suc p = omega arith in
      (subst (TallyAt t ds ns) e w).1 d range.0 range.1 ∙ tally-same d (name_at ds ns p) (names_down p ds ns) refl

  pub tally-some : 1 ≤ row_fn t d
  tally-some = let e = one_more in omega arith

  pub tally-less : TallyAt (set t (d - 1) (row_fn t d - 1)) ds ns p
  tally-less = (
    length-set t (d - 1) (row_fn t d - 1) ∙ w.0,
    λ e lo hi. elim (split (eqb e d)) [
      | inl u ↦
          let l = w.0 in
          let o = one_more in
          let r = range in
          subst (λ (i : ℕ). row_fn (set t (d - 1) (row_fn t d - 1)) i ≡ tally i (names_down p ds ns)) (sym (eqb→eq e d u))
          (get_or-set_same t (d - 1) (row_fn t d - 1) 0 (omega arith) ∙ (let y : row_fn t d - 1 ≡ tally d (names_down p ds ns) = omega arith in y))
      | inr u ↦
          let no : e ≡ d → ⊥ = λ x. T_not (eqb e d) u (rw x (eqb_refl d)) in
          let r = range in
          let v : k ≡ suc p = omega arith in
          get_or-set_other t (d - 1) (e - 1) (row_fn t d - 1) 0 (λ x. no (omega arith)) ∙ (subst (TallyAt t ds ns) v w).1 e lo hi
          ∙ tally-other e (name_at ds ns p) (names_down p ds ns) no
    ],
  )
