-- A list of names in the other order. Assumes nothing.
use Prim.Native.Nat.{◌-◌, ◌<◌, suc, zero, ℕ}
use mathlib.Core.List.{List, [], ◌++◌, ◌∷◌, reverse, reverse-cons}
use mathlib.Core.Path.{◌∙◌, ◌≡◌, ap, refl, sym}
use native.Mathlib.Omega.{arith}
use Rattle.frame.specs.Names.{MarkId}
use Rattle.rows.specs.View.{down_from, name_at, names_down}

-- The name at index 0 is the last.
down_last : (f : ℕ → MarkId) (k : ℕ) → down_from f (suc k) ≡ down_from (λ i. f (suc i)) k ++ (f 0 ∷ [])
down_last f zero = refl
down_last f (suc k) = ap (λ (is : List MarkId). f (suc k) ∷ is) (down_last f k)

down_reversed : (f g : ℕ → MarkId) (k : ℕ) → ((i : ℕ) → i < k → g i ≡ f (k - 1 - i)) → down_from g k ≡ reverse (down_from f k)
down_reversed f g zero e = refl
down_reversed f g (suc k) e =
    down_last g k ∙ (λ j. down_reversed f (λ i. g (suc i)) k (λ i h. e (suc i) (omega arith) ∙ ap f (index i)) j ++ ((e 0 (omega arith) ∙ ap f first) j ∷ [])) ∙ sym (reverse-cons (f k) (down_from f k))
  where
    index : (i : ℕ) → suc k - 1 - suc i ≡ k - 1 - i
    index i = omega arith

    first : suc k - 1 - 0 ≡ k
    first = omega arith

pub names_reversed : (k : ℕ) (ds ns ds' ns' : List ℕ) → ((i : ℕ) → i < k → name_at ds' ns' i ≡ name_at ds ns (k - 1 - i)) → names_down k ds' ns' ≡ reverse (names_down k ds ns)
names_reversed k ds ns ds' ns' e = down_reversed (name_at ds ns) (name_at ds' ns') k e
