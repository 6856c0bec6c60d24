-- How long a row is that stands in an array of rows, by what its type says. Assumes nothing.
use Prim.Native.Nat.{◌<◌, suc, zero, ℕ}
use lib.ListN.{get_or, length}
use mathlib.Core.List.{List, [], ◌∷◌}
use mathlib.Core.Path.{◌≡◌}
use native.Mathlib.Omega.{arith}
use base.Fml.{Fml}
use denote.Array.{each, in_array}
use denote.Shadow.{shadow}
use mir.Val.{Val}

-- Each array of n numbers that stands in an array is n long.
pub row_long : (own : ℕ → List Val → Fml) (n : ℕ) (rows : List (List ℕ)) (values : List Val) (p : ℕ) → shadow (each (List ℕ) (in_array ℕ own n) rows values) → p < length rows
    → length (get_or rows p []) ≡ n
row_long own n [] values p h l = let z : ⊥ = omega arith in absurd z
row_long own n (row ∷ rows) [] p h l = absurd h
row_long own n (row ∷ rows) (value ∷ values) zero h l = h.0.1.0.1
row_long own n (row ∷ rows) (value ∷ values) (suc p) h l = row_long own n rows values p h.1 (omega arith)
