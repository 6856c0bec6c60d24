-- The lowest entry of a row that passes a test. Assumes nothing.
use Prim.Native.Nat.{◌+◌, ◌<◌, ◌≤◌, suc, zero, ℕ}
use borrow.Author.Tests.{le-ltb, lt-ltb}
use lib.Dec.{T, ltb, ltb→lt, nltb→le}
use mathlib.Core.Bool.{Bool, false, true}
use mathlib.Core.List.{List, [], ◌∷◌}
use mathlib.Core.Logic.{inl, inr}
use mathlib.Core.Option.{Option, none, some}
use mathlib.Core.Path.{◌∙◌, ◌≡◌, ap, refl, subst, sym}
use native.Mathlib.Omega.{arith}
use Rattle.frame.specs.Names.{MarkId}
use Rattle.causality.specs.Marks.{has, lower, lowest, same}
use Rattle.causality.proofs.Lists.{has-self}
use Rattle.causality.proofs.Logic.{or_inr, split}
use Rattle.causality.specs.Rows.{entries_from}

-- Where no entry passes there is none.
pub lowest-none : (P : MarkId → Bool) (es : List MarkId) → ((e : MarkId) → T (has e es) → P e ≡ false) → lowest (λ e. e) P es ≡ none
lowest-none P [] f = refl
lowest-none P (e ∷ es) f = rw (f e (has-self e es), lowest) (lowest-none P es (λ g t. f g (or_inr (same g e) (has g es) t)))

module _ (P : MarkId → Bool) (r : ℕ → ℕ) where
  abbrev at : ℕ → MarkId
  at d = record { desk = d; number = r d }

  -- What is chosen from desk d on is of such a desk.
  abbrev From : ℕ → Option MarkId → Type 0
  From d none = Unit {0}
  From d (some e) = d ≤ e.desk

  from_less : (d : ℕ) (o : Option MarkId) → From (suc d) o → From d o
  from_less d none h = tt
  from_less d (some e) h = omega arith

  first-lower : (d : ℕ) (o : Option MarkId) → From (suc d) o → lower (λ e. e) (at d) o ≡ at d
  first-lower d none h = refl
  first-lower d (some e) h = rw (le-ltb e.desk d (omega arith), lower)

  chosen_from : (d k : ℕ) → From d (lowest (λ e. e) P (entries_from r d k))
  chosen_from d zero = tt
  chosen_from d (suc k) = go (ltb 0 (r d)) (chosen_from (suc d) k)
    where
      o : Option MarkId
      o = lowest (λ e. e) P (entries_from r (suc d) k)

      by : (c : Bool) → From (suc d) o → From d (elim c [ true ↦ some (lower (λ e. e) (at d) o) | false ↦ o ])
      by true h = subst (λ (e : MarkId). d ≤ e.desk) (sym (first-lower d o h)) (omega arith)
      by false h = from_less d o h

      go : (b : Bool) → From (suc d) o → From d (lowest (λ e. e) P (elim b as (λ z. List MarkId) [ true ↦ at d ∷ entries_from r (suc d) k | false ↦ entries_from r (suc d) k ]))
      go true h = by (P (at d)) h
      go false h = from_less d o h

  -- Of k desks from d on, j is the lowest whose entry passes.
  pub lowest-at : (k d j : ℕ) → d ≤ j → j < d + k → 0 < r j → P (record { desk = j; number = r j }) ≡ true
      → ((i : ℕ) → d ≤ i → i < j → 0 < r i → P (record { desk = i; number = r i }) ≡ false)
      → lowest (λ e. e) P (entries_from r d k) ≡ some (record { desk = j; number = r j })
  lowest-at zero d j lo hi pos passes rest = let z : ⊥ = omega arith in absurd z
  lowest-at (suc k) d j lo hi pos passes rest = elim (split (ltb d j)) [
    | inl t ↦ let h = ltb→lt d j t in
        let ih = lowest-at k (suc d) j h (omega arith) pos passes (λ i l. rest i (omega arith)) in
        later (ltb 0 (r d)) refl h ih
    | inr t ↦ let h = nltb→le d j t in
        let e : j ≡ d = omega arith in
        here e (subst (λ (x : ℕ). 0 < r x) e pos) (subst (λ (x : ℕ). P (at x) ≡ true) e passes)
  ]
    where
      here : j ≡ d → 0 < r d → P (at d) ≡ true → lowest (λ e. e) P (entries_from r d (suc k)) ≡ some (at j)
      here e z y = rw (lt-ltb 0 (r d) z, entries_from, y, lowest) (ap some (first-lower d (lowest (λ e. e) P (entries_from r (suc d) k)) (chosen_from (suc d) k) ∙ ap at (sym e)))

      later : (b : Bool) → ltb 0 (r d) ≡ b → d < j → lowest (λ e. e) P (entries_from r (suc d) k) ≡ some (at j)
          → lowest (λ e. e) P (elim b as (λ z. List MarkId) [ true ↦ at d ∷ entries_from r (suc d) k | false ↦ entries_from r (suc d) k ]) ≡ some (at j)
      later true e h ih = rw (rest d (omega arith) h (ltb→lt 0 (r d) (rw e tt)), lowest) ih
      later false e h ih = ih
