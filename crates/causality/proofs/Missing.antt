-- How much a mark is short of: it is ready if no mark is missing. Assumes nothing.
use Prim.Native.Nat.{◌+◌, ◌<◌, suc, ℕ}
use borrow.Author.Tests.{eq-eqb, eqb-false, ne_eqb}
use lib.Dec.{T, T_not, eqb, leb, leb→le, ltb, lt→ltb, ltb→lt, not_T}
use lib.ListN.{length}
use mathlib.Core.Bool.{Bool, ◌&&◌, ◌||◌, cond, false, not, true}
use mathlib.Core.List.{List, [], ◌∷◌}
use mathlib.Core.Logic.{inl, inr}
use mathlib.Core.Path.{◌∙◌, ◌≡◌, refl, sym}
use native.Mathlib.Omega.{arith}
use Rattle.frame.specs.Names.{MarkId}
use Rattle.causality.specs.Marks.{all, has, keep}
use Rattle.causality.specs.State.{Mark, ids, lacks_previous, missing, missing_entries, previous, ready}
use Rattle.causality.proofs.Lists.{all-at}
use Rattle.causality.proofs.Logic.{T→eq, and_yes, bool_ext, eqb_yes, eq→T, leb_no, nT→eq, or_inl, or_inr, or_yes, split, yes_and}

-- All pass where none that fails is kept.
none_fail : (p : MarkId → Bool) (xs : List MarkId) → all p xs ≡ eqb (length (keep (λ x. not (p x)) xs)) 0
none_fail p [] = refl
none_fail p (x ∷ xs) = go (p x) (none_fail p xs)
  where
    go : (b : Bool) → all p xs ≡ eqb (length (keep (λ x. not (p x)) xs)) 0
        → (b && all p xs) ≡ eqb (length (cond (not b) (x ∷ keep (λ x. not (p x)) xs) (keep (λ x. not (p x)) xs))) 0
    go true ih = ih
    go false ih = sym (ne_eqb (suc (length (keep (λ x. not (p x)) xs))) 0 (λ e. omega arith))

-- A mark is ready if none is missing.
pub ready-missing : (l : List Mark) (m : Mark) → ready l m ≡ eqb (missing l m) 0
unfolding ready missing missing_entries lacks_previous
ready-missing l m = bool_ext (a && b) (eqb (n + cond q 1 0) 0) there back
  where
    p : MarkId → Bool
    p e = has e (ids l)

    pr : MarkId
    pr = previous m.id

    -- What `ready` and `missing` ask.
    a : Bool
    a = all p m.stamp

    b : Bool
    b = leb m.id.number 1 || p pr

    neither : Bool
    neither = not (p pr) && not (has pr m.stamp)

    q : Bool
    q = ltb 1 m.id.number && neither

    n : ℕ
    n = length (keep (λ e. not (p e)) m.stamp)

    there : T (a && b) → T (eqb (n + cond q 1 0) 0)
    there t =
        let z : n ≡ 0 = eqb_yes (rw none_fail at (and_yes a b t).0) in
        let f : q ≡ false = nT→eq q (not_T q (λ u. elim (or_yes (leb m.id.number 1) (p pr) (and_yes a b t).1) [
          | inl v ↦ let x = leb→le m.id.number 1 v in let y = ltb→lt 1 m.id.number (and_yes (ltb 1 m.id.number) neither u).0 in omega arith
          | inr v ↦ T_not (p pr) (and_yes (not (p pr)) (not (has pr m.stamp)) (and_yes (ltb 1 m.id.number) neither u).1).0 v
        ])) in
        eq→T (eqb (n + cond q 1 0) 0) (eq-eqb (n + cond q 1 0) 0 (rw f (omega arith)))

    back : T (eqb (n + cond q 1 0) 0) → T (a && b)
    back t =
        let s : n + cond q 1 0 ≡ 0 = eqb_yes t in
        let u : T a = rw none_fail (eq→T (eqb n 0) (eq-eqb n 0 (omega arith))) in
        yes_and a b u (elim (split (leb m.id.number 1)) [
          | inl v ↦ or_inl (leb m.id.number 1) (p pr) v
          | inr v ↦ or_inr (leb m.id.number 1) (p pr) (elim (split (p pr)) [
            | inl w ↦ w
            | inr w ↦ elim (split (has pr m.stamp)) [
              | inl x ↦ all-at p m.stamp u pr x
              | inr x ↦
                  let k = lt→ltb 1 m.id.number (leb_no v) in
                  let y : q ≡ true = T→eq q (yes_and (ltb 1 m.id.number) neither k (yes_and (not (p pr)) (not (has pr m.stamp)) w x)) in
                  let z : n + 1 ≡ 0 = rw y at s in
                  let c : ⊥ = omega arith in
                  absurd c
            ]
          ])
        ])

-- A mark that is not ready is short of one or more.
pub short-some : (l : List Mark) (m : Mark) → ready l m ≡ false → 0 < missing l m
short-some l m e = let z : ¬ (missing l m ≡ 0) = eqb-false (missing l m) 0 (sym (ready-missing l m) ∙ e) in omega arith
