-- Marks by their places: names, and what is or follows a mark. Assumes nothing.
use Prim.Native.Nat.{◌<◌, ◌≤◌, ℕ}
use borrow.Author.Tests.{eqb-false, eqb-true}
use lib.Dec.{T, eqb, ltb, ltb→lt, nltb→le, not_T}
use mathlib.Core.Bool.{Bool, ◌||◌}
use mathlib.Core.List.{List}
use mathlib.Core.Logic.{inl, inr}
use mathlib.Core.Path.{◌∙◌, ◌≡◌, ap, subst, sym}
use native.Mathlib.Omega.{arith}
use Rattle.frame.specs.Names.{MarkId}
use Rattle.causality.specs.Marks.{same}
use Rattle.causality.proofs.Logic.{T→eq, nT→eq, same_refl, same→eq, split}
use Rattle.causality.specs.inner.Order.{CausallyOrdered}
use Rattle.rows.specs.View.{Carried, name_at, view}
use Rattle.rows.proofs.Arrays.{sound_below}
use Rattle.rows.proofs.Places.{has-at, not_before, precedes_there}
use Rattle.concurrent.specs.inner.Steps.{is_or_follows}

-- Two places have one name only if they are one.
pub same_place : (n : ℕ) (ds ns : List ℕ) (bs : ℕ → Carried) (ss : List (List ℕ)) (count p q : ℕ) → CausallyOrdered (view n count ds ns bs ss) → p < count → q < count
    → eqb p q ≡ same (name_at ds ns p) (name_at ds ns q)
same_place n ds ns bs ss count p q s h l = elim (split (eqb p q)) [
  | inl t ↦ T→eq (eqb p q) t ∙ sym (T→eq (same (name_at ds ns p) (name_at ds ns q)) (subst (λ (x : ℕ). T (same (name_at ds ns p) (name_at ds ns x))) (eqb-true p q (T→eq (eqb p q) t)) (same_refl (name_at ds ns p))))
  | inr t ↦ let e : ¬ (p ≡ q) = eqb-false p q (nT→eq (eqb p q) t) in
      nT→eq (eqb p q) t ∙ sym (nT→eq (same (name_at ds ns p) (name_at ds ns q)) (not_T (same (name_at ds ns p) (name_at ds ns q)) (λ u. let x = same→eq (name_at ds ns p) (name_at ds ns q) u in elim (split (ltb p q)) [
        | inl v ↦ not_before n ds ns bs ss count q q s l (omega arith) (rw (← x) (has-at n ds ns bs ss q p (ltb→lt p q v)))
        | inr v ↦ let y = nltb→le p q v in not_before n ds ns bs ss count p p s h (omega arith) (rw x (has-at n ds ns bs ss p q (omega arith)))
      ])))
]

-- What is or follows a mark among the first q is so among all.
pub follows_there : (n : ℕ) (ds ns : List ℕ) (bs : ℕ → Carried) (ss : List (List ℕ)) (count : ℕ) → CausallyOrdered (view n count ds ns bs ss) → (q r : ℕ) → q ≤ count → r < q → (a : MarkId)
    → is_or_follows (view n q ds ns bs ss) a (name_at ds ns r) ≡ is_or_follows (view n count ds ns bs ss) a (name_at ds ns r)
follows_there n ds ns bs ss count s q r h k a = ap (λ (b : Bool). same a (name_at ds ns r) || b)
    (precedes_there n ds ns bs ss q r (sound_below n count ds ns bs ss s q h) k a ∙ sym (precedes_there n ds ns bs ss count r s (omega arith) a))
