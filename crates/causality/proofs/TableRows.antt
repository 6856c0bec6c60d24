-- Tables as lists, one row behind another: where an entry stands, and that the entries settle the list. Assumes nothing.
use Prim.Native.Nat.{◌*◌, ◌+◌, ◌-◌, ◌<◌, ◌≤◌, suc, zero, ℕ}
use lib.Dec.{ltb, nltb→le}
use lib.ListN.{get_or-append, get_or, length, length-append}
use lib.Seq.{ext_get_or, get_or-append-add}
use mathlib.Core.List.{List, ◌++◌}
use mathlib.Core.Logic.{inl, inr}
use mathlib.Core.Path.{◌∙◌, ◌≡◌, ap, refl, subst, sym}
use native.Mathlib.Nat.{mul_comm, mul-le-mul_right, suc-mul, zero-mul}
use native.Mathlib.Omega.{arith}
use Rattle.causality.specs.Tables.{EntriesAt, table_row, table_rows, table_size, tables}
use Rattle.causality.proofs.Logic.{ltb_yes, split}

-- Row behind row, n numbers each: the numbers of the first rows are all the numbers there.
pub by_rows : (n count : ℕ) (xs ys : List ℕ) → ((p j : ℕ) → p < count → j < n → get_or xs (p * n + j) 0 ≡ get_or ys (p * n + j) 0)
    → (q : ℕ) → q < count * n → get_or xs q 0 ≡ get_or ys q 0
by_rows n zero xs ys f q h = let z : ⊥ = omega (arith, zero-mul n) in absurd z
by_rows n (suc k) xs ys f q h = elim (split (ltb q (k * n))) [
  | inl t ↦ by_rows n k xs ys (λ p j a. f p j (omega arith)) q (ltb_yes t)
  | inr t ↦
      let l = nltb→le q (k * n) t in
      let e : k * n + (q - k * n) ≡ q = omega arith in
      subst (λ (x : ℕ). get_or xs x 0 ≡ get_or ys x 0) e (f k (q - k * n) (omega arith) (omega (arith, suc-mul k n)))
]

row-length : (n : ℕ) (f : ℕ → ℕ) → length (table_row n f) ≡ n
row-length zero f = refl
row-length (suc n) f = ap suc (row-length n (λ j. f (suc j)))

row_at_lem : (n : ℕ) (f : ℕ → ℕ) (j : ℕ) → j < n → get_or (table_row n f) j 0 ≡ f (suc j)
row_at_lem zero f j h = let z : ⊥ = omega arith in absurd z
row_at_lem (suc n) f zero h = refl
row_at_lem (suc n) f (suc j) h = row_at_lem n (λ j. f (suc j)) j (omega arith)

module _ (N : ℕ) where
  pub rows_length : (n : ℕ) (f : ℕ → ℕ → ℕ) → length (table_rows N n f) ≡ n * N
  rows_length zero f = sym (zero-mul N)
  rows_length (suc n) f =
      let a = length-append (table_row N (f 1)) (table_rows N n (λ i. f (suc i))) in
      let b = row-length N (f 1) in
      let c = rows_length n (λ i. f (suc i)) in
      let d = suc-mul n N in
      omega arith

  rows_at : (n : ℕ) (f : ℕ → ℕ → ℕ) (i j : ℕ) → i < n → j < N → get_or (table_rows N n f) (i * N + j) 0 ≡ f (suc i) (suc j)
  rows_at zero f i j hi hj = let z : ⊥ = omega arith in absurd z
  rows_at (suc n) f zero j hi hj =
      let b = row-length N (f 1) in
      let e : 0 * N + j ≡ j = omega (arith, zero-mul N) in
      rw e (get_or-append (table_row N (f 1)) (table_rows N n (λ i. f (suc i))) 0 j (omega arith) ∙ row_at_lem N (f 1) j hj)
  rows_at (suc n) f (suc i) j hi hj =
      let b = row-length N (f 1) in
      let e : suc i * N + j ≡ length (table_row N (f 1)) + (i * N + j) = omega (arith, suc-mul i N) in
      rw e (get_or-append-add (table_row N (f 1)) (table_rows N n (λ i. f (suc i))) (i * N + j) 0 ∙ rows_at n (λ i. f (suc i)) i j (omega arith) hj)

  -- A list with these entries is the table.
  pub rows_are : (f : ℕ → ℕ → ℕ) (xs : List ℕ) → length xs ≡ table_size N → ((i j : ℕ) → i < N → j < N → get_or xs (i * N + j) 0 ≡ f (suc i) (suc j)) → xs ≡ table_rows N N f
  rows_are f xs l h = ext_get_or 0 xs (table_rows N N f) (l ∙ sym (rows_length N f)) (λ k q. by_rows N N xs (table_rows N N f) (λ i j a b. h i j a b ∙ sym (rows_at N f i j a b)) k (omega arith))

  pub cell_in : (i j : ℕ) → i < N → j < N → i * N + j < table_size N
  cell_in i j hi hj = let a = suc-mul i N in let b = mul-le-mul_right {m = suc i} {n = N} N (omega arith) in omega arith

  -- The first table comes first, row behind row, whatever the run has beyond.
  module _ (first second : ℕ → ℕ → ℕ) (rest : List ℕ) where
    abbrev one : List ℕ
    one = table_rows N N first

    abbrev two : List ℕ
    two = table_rows N N second

    in_one : (k : ℕ) → k < table_size N → get_or (one ++ two ++ rest) k 0 ≡ get_or one k 0
    in_one k h =
        let a = rows_length N first in
        let b = length-append one two in
        get_or-append (one ++ two) rest 0 k (omega arith) ∙ get_or-append one two 0 k (omega arith)

    in_two : (k : ℕ) → k < table_size N → get_or (one ++ two ++ rest) (table_size N + k) 0 ≡ get_or two k 0
    in_two k h =
        let a = rows_length N first in
        let b = rows_length N second in
        let c = length-append one two in
        get_or-append (one ++ two) rest 0 (table_size N + k) (omega arith) ∙ ap (λ (n : ℕ). get_or (one ++ two) (n + k) 0) (sym a) ∙ get_or-append-add one two k 0

    at_desks_lem : (f : ℕ → ℕ → ℕ) (i j : ℕ) → 1 ≤ i → i ≤ N → 1 ≤ j → j ≤ N → (N * (i - 1) + (j - 1) < table_size N) × (get_or (table_rows N N f) (N * (i - 1) + (j - 1)) 0 ≡ f i j)
    at_desks_lem f i j a b c d =
        let e : suc (i - 1) ≡ i = omega arith in
        let g : suc (j - 1) ≡ j = omega arith in
        rw (mul_comm N (i - 1)) (cell_in (i - 1) (j - 1) (omega arith) (omega arith), rows_at N f (i - 1) (j - 1) (omega arith) (omega arith) ∙ rw (e, g) refl)

    pub entries_at : EntriesAt N first second (tables N first second ++ rest)
    unfolding tables
    entries_at = record {
      in_first = λ i j a b c d. let x = at_desks_lem first i j a b c d in in_one (N * (i - 1) + (j - 1)) x.0 ∙ x.1;
      in_second = λ i j a b c d. let x = at_desks_lem second i j a b c d in in_two (N * (i - 1) + (j - 1)) x.0 ∙ x.1;
    }
