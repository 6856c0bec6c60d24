-- The counts of a table by row and column, when one of them is set. n: how many desks. Assumes nothing.
use Prim.Native.Nat.{◌+◌, ◌<◌, ℕ}
use lib.Dec.{T_not, eqb, eqb_refl, eqb→eq}
use lib.ListN.{get_or, length, length-set, set}
use lib.Seq.{get_or-set_other, get_or-set_same}
use mathlib.Core.Bool.{Bool, cond, false, true}
use mathlib.Core.List.{List, []}
use mathlib.Core.Path.{◌∙◌, ◌≡◌, ap, refl, sym}
use native.Mathlib.Omega.{arith}
use Rattle.tables.specs.inner.Steps.{Square, cell}

-- The table with v at row j and column d.
abbrev pub put : List (List ℕ) → ℕ → ℕ → ℕ → List (List ℕ)
put t j d v = set t j (set (get_or t j []) d v)

-- A table of n rows of n counts, which are F of row and column.
pub record Grid (n : ℕ) (F : ℕ → ℕ → ℕ) (t : List (List ℕ)) : Type 0 where
  pub square : Square n t
  pub cells : (i c : ℕ) → i < n → c < n → cell t i c ≡ F i c

module _ (n : ℕ) (F : ℕ → ℕ → ℕ) (t : List (List ℕ)) (w : Grid n F t) where
  pub grid_cong : (G : ℕ → ℕ → ℕ) → ((i c : ℕ) → i < n → c < n → F i c ≡ G i c) → Grid n G t
  grid_cong G e = record { square = w.square; cells = λ i c hi hc. w.cells i c hi hc ∙ e i c hi hc }

  module _ (j d v x : ℕ) (hj : j < n) (hd : d < n) (e : v ≡ F j d + x) where
    row_in : j < length t
    row_in = let l = w.square.long in omega arith

    column_in : d < length (get_or t j [])
    column_in = let l = w.square.wide j hj in omega arith

    row_put : get_or (put t j d v) j [] ≡ set (get_or t j []) d v
    row_put = get_or-set_same t j (set (get_or t j []) d v) [] row_in

    row_other : (i : ℕ) → eqb i j ≡ false → get_or (put t j d v) i [] ≡ get_or t i []
    row_other i f = get_or-set_other t j i (set (get_or t j []) d v) [] (λ z. T_not (eqb i j) (rw f tt) (rw z (eqb_refl j)))

    -- One count is x more.
    pub grid-put : Grid n (λ i c. F i c + cond (eqb i j) (cond (eqb c d) x 0) 0) (put t j d v)
    grid-put = record {
      square = record { long = length-set t j (set (get_or t j []) d v) ∙ w.square.long; wide = λ i h. wide i h (eqb i j) refl };
      cells = λ i c hi hc. go i c hi hc (eqb i j) refl (eqb c d) refl;
    }
      where
        wide : (i : ℕ) → i < n → (b : Bool) → eqb i j ≡ b → length (get_or (put t j d v) i []) ≡ n
        wide i h true f =
            ap (λ (k : ℕ). length (get_or (put t j d v) k [])) (eqb→eq i j (rw f tt)) ∙ ap (λ (r : List ℕ). length r) row_put
            ∙ length-set (get_or t j []) d v ∙ w.square.wide j hj
        wide i h false f = ap (λ (r : List ℕ). length r) (row_other i f) ∙ w.square.wide i h

        go : (i c : ℕ) → i < n → c < n → (a : Bool) → eqb i j ≡ a → (b : Bool) → eqb c d ≡ b → cell (put t j d v) i c ≡ F i c + cond a (cond b x 0) 0
        go i c hi hc true f true g =
            let p = eqb→eq i j (rw f tt) in
            let q = eqb→eq c d (rw g tt) in
            (λ k. cell (put t j d v) (p k) (q k)) ∙ ap (λ (r : List ℕ). get_or r d 0) row_put ∙ get_or-set_same (get_or t j []) d v 0 column_in ∙ e
            ∙ (λ k. F (sym p k) (sym q k) + x)
        go i c hi hc true f false g =
            let p = eqb→eq i j (rw f tt) in
            let o = ap (λ (k : ℕ). cell (put t j d v) k c) p ∙ ap (λ (r : List ℕ). get_or r c 0) row_put
            ∙ get_or-set_other (get_or t j []) d c v 0 (λ z. T_not (eqb c d) (rw g tt) (rw z (eqb_refl d))) ∙ ap (λ (k : ℕ). cell t k c) (sym p) ∙ w.cells i c hi hc in
            omega arith
        go i c hi hc false f b g =
            let o = ap (λ (r : List ℕ). get_or r c 0) (row_other i f) ∙ w.cells i c hi hc in
            omega arith
