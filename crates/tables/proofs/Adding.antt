-- A mark is added to the tables, desk by desk. n: how many desks. Assumes nothing.
use Prim.Native.Nat.{◌+◌, ◌-◌, ◌<◌, ℕ}
use borrow.Author.Tests.{le-ltb, lt-ltb}
use lib.Dec.{T_not, eqb, eqb_refl, eqb→eq, ltb, ltb→lt, nltb→le}
use lib.ListN.{get_or}
use mathlib.Core.Bool.{Bool, cond, false, true}
use mathlib.Core.List.{List}
use mathlib.Core.Logic.{inl, inr}
use mathlib.Core.Path.{◌≡◌, refl}
use native.Mathlib.Omega.{arith}
use Rattle.causality.proofs.Logic.{split}
use Rattle.tables.specs.declared.Tables.{Tables}
use Rattle.tables.specs.inner.Steps.{cell}
use Rattle.tables.proofs.Cells.{Grid, grid_cong, grid-put, put}

-- x of the indices below k, and of k: x of those below k + 1.
one_index : (x : ℕ → ℕ) (i k : ℕ) → cond (ltb i k) (x i) 0 + cond (eqb i k) (x k) 0 ≡ cond (ltb i (k + 1)) (x i) 0
one_index x i k = go (eqb i k) refl
  where
    go : (b : Bool) → eqb i k ≡ b → cond (ltb i k) (x i) 0 + cond b (x k) 0 ≡ cond (ltb i (k + 1)) (x i) 0
    go true e =
        let p = eqb→eq i k (rw e tt) in
        rw (p, le-ltb k k (omega arith), lt-ltb k (k + 1) (omega arith)) (omega arith)
    go false e = elim (split (ltb i k)) [
      | inl t ↦ let l = ltb→lt i k t in rw (lt-ltb i k l, lt-ltb i (k + 1) (omega arith)) (omega arith)
      | inr t ↦
          let l = nltb→le i k t in
          let o : i ≡ k → ⊥ = λ z. T_not (eqb i k) (rw e tt) (rw z (eqb_refl k)) in
          rw (le-ltb i k l, le-ltb i (k + 1) (omega arith)) (omega arith)
    ]

one_within : (b : Bool) (x : ℕ → ℕ) (i k : ℕ)
    → cond b (cond (ltb i k) (x i) 0) 0 + cond b (cond (eqb i k) (x k) 0) 0 ≡ cond b (cond (ltb i (k + 1)) (x i) 0) 0
one_within true x i k = one_index x i k
one_within false x i k = omega arith

module _ (n d : ℕ) (past made : List ℕ) (t : Tables) where
  -- How many of the desk of index j are not of the past.
  abbrev apart_of : ℕ → ℕ
  apart_of j = get_or made j 0 - get_or past j 0

  -- The tables once the first k desks are passed.
  abbrev before_to : ℕ → ℕ → ℕ → ℕ
  before_to k i c = cell t.before i c + cond (ltb i k) (cond (eqb c d) (get_or past i 0) 0) 0

  abbrev apart_to : ℕ → ℕ → ℕ → ℕ
  apart_to k i c = cell t.apart i c + cond (ltb i k) (cond (eqb c d) (apart_of i) 0) 0 + cond (eqb i d) (cond (ltb c k) (apart_of c) 0) 0

  pub record Adding (u : Tables) (k : ℕ) : Type 0 where
    pub apart : Grid n (apart_to k) u.apart
    pub before : Grid n (before_to k) u.before

  module _ (hd : d < n) (u : Tables) (k : ℕ) (w : Adding u k) (hk : k < n) (x y : ℕ) (ex : x ≡ get_or past k 0) (ey : y ≡ apart_of k) where
    abbrev column : List (List ℕ)
    column = put u.apart k d (cell u.apart k d + y)

    with_column : Grid n (λ i c. apart_to k i c + cond (eqb i k) (cond (eqb c d) (apart_of k) 0) 0) (put u.apart k d (cell u.apart k d + y))
    with_column = grid-put n (apart_to k) u.apart w.apart k d (cell u.apart k d + y) (apart_of k) hk hd (λ i. w.apart.cells k d hk hd i + ey i)

    with_row : Grid n (λ i c. apart_to k i c + cond (eqb i k) (cond (eqb c d) (apart_of k) 0) 0 + cond (eqb i d) (cond (eqb c k) (apart_of k) 0) 0)
        (put column d k (cell column d k + y))
    with_row = grid-put n _ column with_column d k (cell column d k + y) (apart_of k) hd hk (λ i. with_column.cells d k hd hk i + ey i)

    with_past : Grid n (λ i c. before_to k i c + cond (eqb i k) (cond (eqb c d) (get_or past k 0) 0) 0) (put u.before k d (cell u.before k d + x))
    with_past = grid-put n (before_to k) u.before w.before k d (cell u.before k d + x) (get_or past k 0) hk hd (λ i. w.before.cells k d hk hd i + ex i)

    -- The next desk is passed.
    pub adding_more : Adding (record {
      apart = put (put u.apart k d (cell u.apart k d + y)) d k (cell (put u.apart k d (cell u.apart k d + y)) d k + y);
      before = put u.before k d (cell u.before k d + x);
    }) (k + 1)
    adding_more = record {
      apart = grid_cong n _ _ with_row (apart_to (k + 1)) (λ i c hi hc.
          let p = one_index (λ j. cond (eqb c d) (apart_of j) 0) i k in
          let q = one_within (eqb i d) apart_of c k in
          omega arith);
      before = grid_cong n _ _ with_past (before_to (k + 1)) (λ i c hi hc.
          let p = one_index (λ j. cond (eqb c d) (get_or past j 0) 0) i k in
          omega arith);
    }
