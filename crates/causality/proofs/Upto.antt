-- Tests and sums over desks 1 to k: from all desks and back, desk by desk, and turn by turn of a loop over indices. Assumes nothing.
use Prim.Native.Nat.{◌+◌, ◌<◌, ◌≤◌, suc, zero, ℕ}
use lib.Dec.{T, not_T}
use mathlib.Core.Bool.{Bool, ◌||◌, cond, false, true}
use mathlib.Core.Logic.{inl, inr, ⊎_elim}
use mathlib.Core.Path.{◌≡◌, refl, subst, sym}
use native.Mathlib.Nat.{eq-or-lt_of_le}
use native.Mathlib.Numerals.{add-one}
use native.Mathlib.Omega.{arith}
use Rattle.causality.specs.inner.Upto.{all_to, any_to, count_to, sum_to}
use Rattle.causality.proofs.Logic.{T→eq, and_yes, nT→eq, or_inl, or_inr, or_yes, yes_and}

-- TESTS

-- A desk that passes.
pub record Found (k : ℕ) (p : ℕ → Bool) : Type 0 where
  pub d : ℕ
  pub low : 1 ≤ d
  pub high : d ≤ k
  pub passes : T (p d)

wider : (k : ℕ) (p : ℕ → Bool) → Found k p → Found (suc k) p
wider k p x = let h = x.high in record { d = x.d; low = x.low; high = omega arith; passes = x.passes }

pub all_of : (k : ℕ) (p : ℕ → Bool) → ((d : ℕ) → 1 ≤ d → d ≤ k → T (p d)) → T (all_to k p)
unfolding all_to
all_of zero p f = tt
all_of (suc k) p f = yes_and (p (suc k)) (all_to k p) (f (suc k) (omega arith) (omega arith)) (all_of k p (λ d lo hi. f d lo (omega arith)))

pub all_desk : (k : ℕ) (p : ℕ → Bool) → T (all_to k p) → (d : ℕ) → 1 ≤ d → d ≤ k → T (p d)
unfolding all_to
all_desk zero p t d lo hi = let z : ⊥ = omega arith in absurd z
all_desk (suc k) p t d lo hi = ⊎_elim (λ e. subst (λ (x : ℕ). T (p x)) (sym e) (and_yes (p (suc k)) (all_to k p) t).0)
    (λ l. all_desk k p (and_yes (p (suc k)) (all_to k p) t).1 d lo (omega arith)) (eq-or-lt_of_le {n = d} {m = suc k} hi)

pub any_desk : (k : ℕ) (p : ℕ → Bool) (d : ℕ) → 1 ≤ d → d ≤ k → T (p d) → T (any_to k p)
unfolding any_to
any_desk zero p d lo hi t = let z : ⊥ = omega arith in absurd z
any_desk (suc k) p d lo hi t = ⊎_elim (λ e. or_inl (p (suc k)) (any_to k p) (subst (λ (x : ℕ). T (p x)) e t))
    (λ l. or_inr (p (suc k)) (any_to k p) (any_desk k p d lo (omega arith) t)) (eq-or-lt_of_le {n = d} {m = suc k} hi)

pub any_found : (k : ℕ) (p : ℕ → Bool) → T (any_to k p) → Found k p
unfolding any_to
any_found zero p t = absurd t
any_found (suc k) p t = elim (or_yes (p (suc k)) (any_to k p) t) [ inl u ↦ record { d = suc k; low = omega arith; high = omega arith; passes = u } | inr u ↦ wider k p (any_found k p u) ]

pub any_to_cong : (k : ℕ) (p q : ℕ → Bool) → ((d : ℕ) → 1 ≤ d → d ≤ k → p d ≡ q d) → any_to k p ≡ any_to k q
unfolding any_to
any_to_cong zero p q f = refl
any_to_cong (suc k) p q f = let a = f (suc k) (omega arith) (omega arith) in let b = any_to_cong k p q (λ d lo hi. f d lo (omega arith)) in λ i. a i || b i

-- The index of a loop is one less than the desk.
module _ (p : ℕ → Bool) where
  pub all_none : all_to 0 p ≡ true
  unfolding all_to
  all_none = refl

  pub all_more : (j : ℕ) → all_to j p ≡ true → p (suc j) ≡ true → all_to (j + 1) p ≡ true
  unfolding all_to
  all_more j e q = rw (add-one j, q, e) refl

  pub all_no : (k j : ℕ) → j < k → p (suc j) ≡ false → all_to k p ≡ false
  all_no k j h q = nT→eq (all_to k p) (not_T (all_to k p) (λ t. subst T q (all_desk k p t (suc j) (omega arith) h)))

  pub any_none : any_to 0 p ≡ false
  unfolding any_to
  any_none = refl

  pub any_more : (j : ℕ) → any_to (j + 1) p ≡ (p (suc j) || any_to j p)
  unfolding any_to
  any_more j = rw (add-one j) refl

  pub any_yes : (k j : ℕ) → j < k → p (suc j) ≡ true → any_to k p ≡ true
  any_yes k j h q = T→eq (any_to k p) (any_desk k p (suc j) (omega arith) h (rw q tt))

-- SUMS

pub sum_cong : (k : ℕ) (f g : ℕ → ℕ) → ((d : ℕ) → 1 ≤ d → d ≤ k → f d ≡ g d) → sum_to k f ≡ sum_to k g
unfolding sum_to
sum_cong zero f g e = refl
sum_cong (suc k) f g e = let a = e (suc k) (omega arith) (omega arith) in let b = sum_cong k f g (λ d lo hi. e d lo (omega arith)) in λ i. a i + b i

pub sum_zero : (k : ℕ) (f : ℕ → ℕ) → ((d : ℕ) → f d ≡ 0) → sum_to k f ≡ 0
unfolding sum_to
sum_zero zero f e = refl
sum_zero (suc k) f e = let a = e (suc k) in let b = sum_zero k f e in omega arith

-- One summand is one more.
pub sum_one : (k : ℕ) (f g : ℕ → ℕ) (c : ℕ) → 1 ≤ c → c ≤ k → g c ≡ suc (f c) → ((d : ℕ) → 1 ≤ d → (d ≡ c → ⊥) → g d ≡ f d) → sum_to k g ≡ suc (sum_to k f)
unfolding sum_to
sum_one zero f g c lo hi e r = let z : ⊥ = omega arith in absurd z
sum_one (suc k) f g c lo hi e r = ⊎_elim
    (λ q. let a : g (suc k) ≡ suc (f (suc k)) = subst (λ (x : ℕ). g x ≡ suc (f x)) q e in let b = sum_cong k g f (λ d u v. r d u (λ x. omega arith)) in omega arith)
    (λ l. let a = r (suc k) (omega arith) (λ x. omega arith) in let b = sum_one k f g c lo (omega arith) e r in omega arith) (eq-or-lt_of_le {n = c} {m = suc k} hi)

pub sum_none : (f : ℕ → ℕ) → sum_to 0 f ≡ 0
unfolding sum_to
sum_none f = refl

pub sum_more : (f : ℕ → ℕ) (j : ℕ) → sum_to (j + 1) f ≡ f (suc j) + sum_to j f
unfolding sum_to
sum_more f j = rw (add-one j) refl

-- A part is no more than the whole.
pub sum_part : (f : ℕ → ℕ) (k j : ℕ) → j < k → f (suc j) + sum_to j f ≤ sum_to k f
unfolding sum_to
sum_part f zero j h = let z : ⊥ = omega arith in absurd z
sum_part f (suc k) j h = ⊎_elim (λ e. subst (λ (i : ℕ). f (suc j) + sum_to j f ≤ f (suc i) + sum_to i f) e (omega arith)) (λ l. let w = sum_part f k j l in omega arith) (eq-or-lt_of_le {n = j} {m = k} (omega arith))

-- No more desks pass than there are, and if any do, one is found.
pub count_le : (k : ℕ) (p : ℕ → Bool) → count_to k p ≤ k
unfolding sum_to
count_le zero p = omega arith
count_le (suc k) p = go (p (suc k)) (count_le k p)
  where
    go : (b : Bool) → count_to k p ≤ k → cond b 1 0 + count_to k p ≤ suc k
    go true h = omega arith
    go false h = omega arith

pub count-some : (k : ℕ) (p : ℕ → Bool) → 0 < count_to k p → Found k p
unfolding sum_to
count-some zero p h = let z : ⊥ = omega arith in absurd z
count-some (suc k) p h = go (p (suc k)) refl h (count-some k p)
  where
    go : (b : Bool) → p (suc k) ≡ b → 0 < cond b 1 0 + count_to k p → (0 < count_to k p → Found k p) → Found (suc k) p
    go true q w ih = record { d = suc k; low = omega arith; high = omega arith; passes = rw q tt }
    go false q w ih = wider k p (ih (omega arith))

-- Where all pass, each does.
pub count-all : (k : ℕ) (p : ℕ → Bool) → count_to k p ≡ k → (d : ℕ) → 1 ≤ d → d ≤ k → T (p d)
unfolding sum_to
count-all zero p e d lo hi = let z : ⊥ = omega arith in absurd z
count-all (suc k) p e d lo hi = go (p (suc k)) refl e (count-all k p)
  where
    go : (b : Bool) → p (suc k) ≡ b → cond b 1 0 + count_to k p ≡ suc k → (count_to k p ≡ k → (d : ℕ) → 1 ≤ d → d ≤ k → T (p d)) → T (p d)
    go true q w ih = ⊎_elim (λ x. subst (λ (y : ℕ). T (p y)) (sym x) (rw q tt)) (λ l. ih (omega arith) d lo (omega arith)) (eq-or-lt_of_le {n = d} {m = suc k} hi)
    go false q w ih = let x = count_le k p in let z : ⊥ = omega arith in absurd z
