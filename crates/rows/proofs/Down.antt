-- Lists of what stands below a place, newest first. Assumes nothing.
use Prim.Native.Nat.{◌-◌, ◌<◌, ◌≤◌, suc, zero, ℕ}
use lib.Dec.{T}
use lib.ListN.{length, take}
use mathlib.Core.List.{List, ◌++◌, ◌∷◌}
use mathlib.Core.Logic.{⊎_elim, inl, inr}
use mathlib.Core.Path.{◌≡◌, ap, refl, subst, sym}
use native.Mathlib.Nat.{eq-or-lt_of_le}
use native.Mathlib.Numerals.{sub-one}
use native.Mathlib.Omega.{arith}
use Rattle.causality.specs.Marks.{All, has, same}
use Rattle.causality.specs.State.{Mark, ids}
use Rattle.causality.proofs.Lists.{has-self}
use Rattle.causality.proofs.Logic.{or_inr}
use Rattle.rows.specs.View.{down_from}

module _ {A : Type 0} (f : ℕ → A) where
  pub down-length : (k : ℕ) → length (down_from f k) ≡ k
  down-length zero = refl
  down-length (suc k) = ap suc (down-length k)

  -- What stands at the last place stands in front.
  pub down_last : (k : ℕ) → 0 < k → down_from f k ≡ f (k - 1) ∷ down_from f (k - 1)
  down_last zero h = let z : ⊥ = omega arith in absurd z
  down_last (suc k) h = rw (sub-one (suc k)) refl

  -- What every element has, that at each place has, and the other way about.
  pub down-at : (P : A → Type 0) (k : ℕ) → All P (down_from f k) → (p : ℕ) → p < k → P (f p)
  down-at P zero a p h = let z : ⊥ = omega arith in absurd z
  down-at P (suc k) a p h = ⊎_elim (λ e. subst (λ (x : ℕ). P (f x)) (sym e) a.0) (λ l. down-at P k a.1 p l) (eq-or-lt_of_le {n = p} {m = k} (omega arith))

  pub down-all : (P : A → Type 0) (k : ℕ) → ((p : ℕ) → p < k → P (f p)) → All P (down_from f k)
  down-all P zero g = tt
  down-all P (suc k) g = (g k (omega arith), down-all P k (λ p h. g p (omega arith)))

  -- What a list keeps without its first element, the list down from an earlier place has; what it keeps with one more, that from a later place.
  pub down-less : (P : List A → Type 0) → ((x : A) (l : List A) → P (x ∷ l) → P l) → (k p : ℕ) → p ≤ k → P (down_from f k) → P (down_from f p)
  down-less P g zero p h a = let e : 0 ≡ p = omega arith in subst (λ (x : ℕ). P (down_from f x)) e a
  down-less P g (suc k) p h a = ⊎_elim (λ e. subst (λ (x : ℕ). P (down_from f x)) (sym e) a) (λ l. down-less P g k p (omega arith) (g (f k) (down_from f k) a)) (eq-or-lt_of_le {n = p} {m = suc k} h)

  pub down-more : (P : List A → Type 0) → ((x : A) (l : List A) → P l → P (x ∷ l)) → (p k : ℕ) → p ≤ k → P (down_from f p) → P (down_from f k)
  down-more P g p zero h a = let e : p ≡ 0 = omega arith in subst (λ (x : ℕ). P (down_from f x)) e a
  down-more P g p (suc k) h a = ⊎_elim (λ e. subst (λ (x : ℕ). P (down_from f x)) e a) (λ l. g (f k) (down_from f k) (down-more P g p k (omega arith) a)) (eq-or-lt_of_le {n = p} {m = suc k} h)

  -- Those from a place on, then those before it, are all.
  pub down-split : (k to : ℕ) → to ≤ k → take (k - to) (down_from f k) ++ down_from f to ≡ down_from f k
  down-split zero to h = let e : to ≡ 0 = omega arith in rw e refl
  down-split (suc k) to h = elim (eq-or-lt_of_le {n = to} {m = suc k} h) [
    | inl q ↦ let e : suc k - to ≡ 0 = omega arith in rw e (ap (down_from f) q)
    | inr q ↦ let e : suc k - to ≡ suc (k - to) = omega arith in rw e (ap (λ (l : List A). f k ∷ l) (down-split k to (omega arith)))
  ]

  pub down_cong : (g : ℕ → A) (k : ℕ) → ((p : ℕ) → p < k → f p ≡ g p) → down_from f k ≡ down_from g k
  down_cong g zero e = refl
  down_cong g (suc k) e = let a = e k (omega arith) in let b = down_cong g k (λ p h. e p (omega arith)) in λ i. a i ∷ b i

-- Two such lists are one only if they agree at each place.
pub down-equal : {A : Type 0} (f g : ℕ → A) (k : ℕ) → down_from f k ≡ down_from g k → (p : ℕ) → p < k → f p ≡ g p
down-equal f g zero e p h = let z : ⊥ = omega arith in absurd z
down-equal f g (suc k) e p h = elim (eq-or-lt_of_le {n = p} {m = k} (omega arith)) [
  | inl q ↦ let r : f k ≡ g k = cc in subst (λ (x : ℕ). f x ≡ g x) (sym q) r
  | inr l ↦ let r : down_from f k ≡ down_from g k = cc in down-equal f g k r p l
]

module _ (f : ℕ → Mark) where
  pub down-ids : (k : ℕ) → ids (down_from f k) ≡ down_from (λ p. (f p).id) k
  down-ids zero = refl
  down-ids (suc k) = λ i. (f k).id ∷ down-ids k i

  pub down-has : (k p : ℕ) → p < k → T (has (f p).id (ids (down_from f k)))
  down-has k p h = down-more f (λ l. T (has (f p).id (ids l))) (λ m l. or_inr (same (f p).id m.id) (has (f p).id (ids l))) (suc p) k h (has-self (f p).id (ids (down_from f p)))
