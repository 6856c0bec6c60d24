-- A lent run whose first counts are set to two tables. n: how many desks. Assumes nothing.
use Prim.Native.Nat.{◌*◌, ◌+◌, ◌<◌, ◌≤◌, suc, zero, ℕ}
use borrow.Author.Tests.{le-ltb, lt-ltb}
use lib.ListN.{drop, get_or, length, length-append}
use lib.Seq.{paste}
use mathlib.Core.List.{List, [], ◌∷◌, ◌++◌}
use mathlib.Core.Path.{◌∙◌, ◌≡◌, ap, refl, sym}
use native.Mathlib.Nat.{zero-add}
use native.Mathlib.Omega.{arith}
use Rattle.std.specs.List.{flat_map}
use Rattle.std.proofs.lemmas.List.Edits.{paste-paste, paste_all}
use Rattle.frame.specs.Answer.{gives, refused}
use Rattle.frame.specs.Frame.{over_if}
use Rattle.causality.specs.Tables.{pair_tables, table_row, table_rows, table_size, tables}
use Rattle.causality.proofs.TableRows.{rows_length}
use Rattle.tables.specs.inner.Steps.{Holds, cell}

module _ (n : ℕ) where
  pub too_short : (lent : ℕ) → lent < 2 * table_size n → pair_tables n lent ≡ refused 13
  unfolding pair_tables
  too_short lent h = rw (lt-ltb lent (2 * table_size n) h) refl

  pub enough : (lent : ℕ) → 2 * table_size n ≤ lent → pair_tables n lent ≡ gives (2 * table_size n)
  unfolding pair_tables
  enough lent h = rw (le-ltb lent (2 * table_size n) h) refl

  -- Row behind row, a table is the numbers of its rows.
  flat_row : (k : ℕ) (f : ℕ → ℕ) (xs : List ℕ) → length xs ≡ k → ((j : ℕ) → j < k → get_or xs j 0 ≡ f (suc j)) → xs ≡ table_row k f
  flat_row zero f [] l h = refl
  flat_row zero f (x ∷ xs) l h = let z : ⊥ = omega arith in absurd z
  flat_row (suc k) f [] l h = let z : ⊥ = omega arith in absurd z
  flat_row (suc k) f (x ∷ xs) l h = λ i. h 0 (omega arith) i ∷ flat_row k (λ j. f (suc j)) xs (omega arith) (λ j q. h (suc j) (omega arith)) i

  flat_rows : (k : ℕ) (f : ℕ → ℕ → ℕ) (t : List (List ℕ)) → length t ≡ k → ((i : ℕ) → i < k → length (get_or t i []) ≡ n)
      → ((i j : ℕ) → i < k → j < n → cell t i j ≡ f (suc i) (suc j)) → flat_map (λ x. x) t ≡ table_rows n k f
  flat_rows zero f [] l w h = refl
  flat_rows zero f (r ∷ t) l w h = let z : ⊥ = omega arith in absurd z
  flat_rows (suc k) f [] l w h = let z : ⊥ = omega arith in absurd z
  flat_rows (suc k) f (r ∷ t) l w h =
      λ i. flat_row n (f 1) r (w 0 (omega arith)) (λ j q. h 0 j (omega arith) q) i
      ++ flat_rows k (λ i. f (suc i)) t (omega arith) (λ i q. w (suc i) (omega arith)) (λ i j q p. h (suc i) j (omega arith) p) i

  pub flat_is : (f : ℕ → ℕ → ℕ) (t : List (List ℕ)) → Holds n f t → flat_map (λ x. x) t ≡ table_rows n n f
  flat_is f t h = flat_rows n f t h.square.long h.square.wide h.cells

  -- One behind the other.
  pub tables_filled : (f g : ℕ → ℕ → ℕ) (a b : List (List ℕ)) (out after : List ℕ) → Holds n f a → Holds n g b → 2 * table_size n ≤ length out
      → after ≡ paste (paste out 0 (flat_map (λ x. x) a) (table_size n)) (table_size n) (flat_map (λ x. x) b) (table_size n)
      → after ≡ over_if (pair_tables n (length out)) (tables n f g) out
  unfolding tables
  tables_filled f g a b out after ha hb h e = rw (enough (length out) h) (e ∙ (λ i. paste (paste out 0 (flat_is f a ha i) (table_size n)) (table_size n) (flat_is g b hb i) (table_size n)) ∙ both)
    where
      long : table_size n + table_size n ≡ length (table_rows n n f ++ table_rows n n g)
      long = let x = rows_length n n f in let y = rows_length n n g in let z = length-append (table_rows n n f) (table_rows n n g) in omega arith

      both : paste (paste out 0 (table_rows n n f) (table_size n)) (table_size n) (table_rows n n g) (table_size n)
          ≡ table_rows n n f ++ table_rows n n g ++ drop (length (table_rows n n f ++ table_rows n n g)) out
      both =
          ap (λ (k : ℕ). paste (paste out 0 (table_rows n n f) (table_size n)) k (table_rows n n g) (table_size n)) (sym (zero-add (table_size n)))
          ∙ paste-paste out 0 (table_rows n n f) (table_rows n n g) (table_size n) (table_size n) (sym (rows_length n n f)) (sym (rows_length n n g)) (omega arith)
          ∙ paste_all out 0 (table_rows n n f ++ table_rows n n g) (table_size n + table_size n) long
          ∙ ap (λ (k : ℕ). table_rows n n f ++ table_rows n n g ++ drop k out) (zero-add (table_size n + table_size n) ∙ long)
