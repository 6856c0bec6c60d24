-- The missing marks by a row and the tally: counts above counted turn by turn, and what they say of the definitions. n: how many desks. Assumes nothing.
use Prim.Native.Nat.{◌+◌, ◌-◌, ◌<◌, ◌≤◌, suc, zero, ℕ}
use borrow.Author.Tests.{eq-eqb, le-ltb, lt-ltb, ne_eqb}
use lib.Dec.{T_not, eqb, eqb→eq, leb, leb→le, ltb, lt→ltb, ltb→lt, nleb→lt, not_T, nltb→le}
use lib.ListN.{get_or, length}
use mathlib.Core.Bool.{Bool, ◌&&◌, and-false, cond, false, not, true}
use mathlib.Core.List.{List, [], ◌++◌, ◌∷◌}
use mathlib.Core.Logic.{inl, inr}
use mathlib.Core.Path.{◌∙◌, ◌≡◌, ap, refl, sym}
use native.Mathlib.Numerals.{one-add, sub-one}
use native.Mathlib.Omega.{arith}
use Rattle.frame.specs.declared.MarkBox.{MarkBox}
use Rattle.frame.specs.declared.Past.{Past}
use Rattle.frame.specs.Names.{MarkId}
use Rattle.causality.specs.Marks.{has, keep, tally}
use Rattle.causality.specs.State.{Mark, ids, lacks_previous, missing, missing_entries, previous, ready}
use Rattle.causality.proofs.Logic.{bool_ext, eq→T, split, T→eq, nT→eq}
use Rattle.causality.proofs.Missing.{ready-missing}
use Rattle.causality.proofs.Past.{prefix_has, prefix_le}
use Rattle.causality.specs.inner.Order.{Consecutive}
use Rattle.causality.proofs.RowLaws.{show, shown}
use Rattle.causality.specs.Rows.{entries_of_row}
use Rattle.rows.specs.inner.Slots.{row_fn}
use Rattle.predecessors.specs.inner.Steps.{above_in, missing_by}
use Rattle.rows.proofs.RowBytes.{entries-more, entry_at, entry_if}
use Rattle.causality.proofs.Upto.{sum_cong, sum_more}
use Rattle.causality.specs.inner.Upto.{count_to, sum_to}

-- COUNTS ABOVE

module _ (j m : ℕ) (r t : List ℕ) (e : m ≡ above_in j r t) where
  abbrev above : ℕ → ℕ
  above d = cond (ltb (row_fn t d) (row_fn r d)) 1 0

  pub above_more : get_or t j 0 < get_or r j 0 → m + 1 ≡ above_in (j + 1) r t
  above_more h = rw (sum_more above j, sub-one (suc j), lt-ltb (get_or t j 0) (get_or r j 0) h) (omega arith)

  pub above_kept : get_or r j 0 ≤ get_or t j 0 → m ≡ above_in (j + 1) r t
  above_kept h = rw (sum_more above j, sub-one (suc j), le-ltb (get_or t j 0) (get_or r j 0) h) (omega arith)

-- MISSING MARKS

-- The previous mark is missing too, or an entry, or executed.
module _ (n : ℕ) (t : List ℕ) (d number : ℕ) (row : List ℕ) (x : ℕ) (e : x ≡ above_in n row t) where
  pub missing-more : get_or t (d - 1) 0 + 1 < number → (get_or row (d - 1) 0 ≡ number - 1 → ⊥) → x + 1 ≡ missing_by n t d number row
  missing-more p q = rw (lt-ltb (get_or t (d - 1) 0) (number - 1) (omega arith), ne_eqb (get_or row (d - 1) 0) (number - 1) q) (omega arith)

  pub missing-entry : get_or row (d - 1) 0 ≡ number - 1 → x ≡ missing_by n t d number row
  missing-entry q = rw (eq-eqb (get_or row (d - 1) 0) (number - 1) q, and-false) (omega arith)

  pub missing-none : number ≤ get_or t (d - 1) 0 + 1 → x ≡ missing_by n t d number row
  missing-none p = rw (le-ltb (get_or t (d - 1) 0) (number - 1) (omega arith)) (omega arith)

-- How many of a list, and of a row's entries, pass.
keep-both : (p : MarkId → Bool) (xs ys : List MarkId) → length (keep p (xs ++ ys)) ≡ length (keep p xs) + length (keep p ys)
keep-both p [] ys = omega arith
keep-both p (x ∷ xs) ys = go (p x) (keep-both p xs ys)
  where
    go : (b : Bool) → length (keep p (xs ++ ys)) ≡ length (keep p xs) + length (keep p ys)
        → length (cond b (x ∷ keep p (xs ++ ys)) (keep p (xs ++ ys))) ≡ length (cond b (x ∷ keep p xs) (keep p xs)) + length (keep p ys)
    go true ih = omega arith
    go false ih = ih

count_entries : (r : ℕ → ℕ) (p : MarkId → Bool) (k : ℕ) → length (keep p (entries_of_row k r)) ≡ count_to k (λ d. ltb 0 (r d) && p (record { desk = d; number = r d }))
unfolding sum_to
count_entries r p zero = refl
count_entries r p (suc k) = ap (λ (es : List MarkId). length (keep p es)) (entries-more r 1 k) ∙ keep-both p (entries_of_row k r) (entry_at r (1 + k)) ∙ rw (one-add k) (go (ltb 0 (r (suc k))) (p e) refl (count_entries r p k))
  where
    e : MarkId
    e = record { desk = suc k; number = r (suc k) }

    x : ℕ
    x = count_to k (λ d. ltb 0 (r d) && p (record { desk = d; number = r d }))

    go : (a b : Bool) → p e ≡ b → length (keep p (entries_of_row k r)) ≡ x → length (keep p (entries_of_row k r)) + length (keep p (entry_if a (suc k) (r (suc k)))) ≡ cond (a && p e) 1 0 + x
    go true true q ih = rw q (omega arith)
    go true false q ih = rw q (omega arith)
    go false b q ih = omega arith

module _ (n : ℕ) (l : List Mark) (c : Consecutive (ids l)) (t row : List ℕ) (f : (d : ℕ) → 1 ≤ d → d ≤ n → row_fn t d ≡ tally d (ids l)) where
  abbrev absent : MarkId → Bool
  absent e = not (has e (ids l))

  -- A mark is not executed where its number is above its desk's count.
  absent-above : (e : MarkId) → 1 ≤ e.desk → e.desk ≤ n → 1 ≤ e.number → absent e ≡ ltb (row_fn t e.desk) e.number
  absent-above e lo hi p = bool_ext (absent e) (ltb (row_fn t e.desk) e.number)
      (λ u. elim (split (leb e.number (row_fn t e.desk))) [
        | inl v ↦ let g = leb→le e.number (row_fn t e.desk) v in absurd (T_not (has e (ids l)) u (prefix_has (ids l) c e p (let x = f e.desk lo hi in omega arith)))
        | inr v ↦ lt→ltb (row_fn t e.desk) e.number (nleb→lt e.number (row_fn t e.desk) v)
      ])
      (λ u. not_T (has e (ids l)) (λ v. let g = (prefix_le (ids l) c e v).1 in let x = f e.desk lo hi in let y = ltb→lt (row_fn t e.desk) e.number u in omega arith))

  -- Of the entries of a row those that are not executed are the counts above the tally.
  entries-above : length (keep absent (entries_of_row n (row_fn row))) ≡ above_in n row t
  entries-above =
      count_entries (row_fn row) absent n ∙ sum_cong n (λ d. cond (ltb 0 (row_fn row d) && absent (at d)) 1 0) (λ d. cond (ltb (row_fn t d) (row_fn row d)) 1 0) (λ d lo hi. let e = agree d lo hi in λ i. cond (e i) 1 0)
    where
      at : ℕ → MarkId
      at d = record { desk = d; number = row_fn row d }

      agree : (d : ℕ) → 1 ≤ d → d ≤ n → (ltb 0 (row_fn row d) && absent (at d)) ≡ ltb (row_fn t d) (row_fn row d)
      agree d lo hi = elim (split (ltb 0 (row_fn row d))) [
        | inl u ↦ rw (T→eq (ltb 0 (row_fn row d)) u) (absent-above (at d) lo hi (ltb→lt 0 (row_fn row d) u))
        | inr u ↦ let z = nltb→le 0 (row_fn row d) u in rw (nT→eq (ltb 0 (row_fn row d)) u) (sym (le-ltb (row_fn t d) (row_fn row d) (omega arith)))
      ]

  module _ (i : MarkId) (b : MarkBox) (said : Past) (lo : 1 ≤ i.desk) (hi : i.desk ≤ n) where
    abbrev mark : Mark
    mark = record { id = i; extent = b; stamp = entries_of_row n (row_fn row); past = said }

    lacks_by_tally : lacks_previous l mark ≡ (ltb (row_fn t i.desk) (i.number - 1) && not (eqb (row_fn row i.desk) (i.number - 1)))
    unfolding lacks_previous previous
    lacks_by_tally = elim (split (leb i.number 1)) [
      | inl u ↦ let p = leb→le i.number 1 u in rw (le-ltb 1 i.number p, le-ltb (row_fn t i.desk) (i.number - 1) (omega arith)) refl
      | inr u ↦
          let p = nleb→lt i.number 1 u in
          let above = absent-above pr lo hi (omega arith) in
          let named = entry p in
          rw (lt-ltb 1 i.number p) (λ k. above k && not (named k))
    ]
      where
        pr : MarkId
        pr = record { desk = i.desk; number = i.number - 1 }

        -- The previous mark is an entry where its desk's count in the row is its number.
        entry : 1 < i.number → has pr (entries_of_row n (row_fn row)) ≡ eqb (row_fn row i.desk) (i.number - 1)
        entry p = bool_ext (has pr (entries_of_row n (row_fn row))) (eqb (row_fn row i.desk) (i.number - 1))
            (λ u. eq→T (eqb (row_fn row i.desk) (i.number - 1)) (eq-eqb (row_fn row i.desk) (i.number - 1) (sym (shown (row_fn row) 1 n pr u).value)))
            (λ u. show (row_fn row) 1 n pr (record { low = lo; high = omega arith; value = sym (eqb→eq (row_fn row i.desk) (i.number - 1) u); pos = omega arith }))

    pub missing_by-tally : missing l mark ≡ missing_by n t i.desk i.number row
    unfolding missing missing_entries
    missing_by-tally = let e = entries-above in let g = lacks_by_tally in λ k. e k + cond (g k) 1 0

    pub ready_by_tally : ready l mark ≡ eqb (missing_by n t i.desk i.number row) 0
    ready_by_tally = ready-missing l mark ∙ ap (λ (k : ℕ). eqb k 0) missing_by-tally
