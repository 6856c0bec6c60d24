-- Lists of marks by slot, newest first: one slot taken out. Nothing here knows how a slot is laid out. Assumes nothing.
use Prim.Native.Nat.{◌-◌, ◌<◌, ◌≤◌, suc, zero, ℕ}
use lib.Dec.{T, not_T}
use mathlib.Core.Bool.{false}
use mathlib.Core.List.{List, [], ◌∷◌}
use mathlib.Core.Logic.{⊎_elim}
use mathlib.Core.Path.{◌∙◌, ◌≡◌, ap, refl, subst, sym}
use native.Mathlib.Nat.{eq-or-lt_of_le}
use native.Mathlib.Omega.{arith}
use Rattle.frame.specs.Names.{MarkId}
use Rattle.causality.specs.Marks.{has, same, without}
use Rattle.causality.specs.State.{Mark, ids, mark_id}
use Rattle.causality.proofs.Logic.{T→eq, same_refl, same→eq, nT→eq}
use Rattle.rows.specs.View.{Carried, mark_at, view, down_from}
use Rattle.waiting.specs.inner.Steps.{Distinct, taken_out}
use Rattle.rows.proofs.Down.{down_cong, down-has}
use Rattle.frame.proofs.Tests.{or-false}

-- Where no mark has the name, nothing is left out.
without_absent : (a : MarkId) (xs : List Mark) → has a (ids xs) ≡ false → without mark_id a xs ≡ xs
without_absent a [] e = refl
without_absent a (x ∷ xs) e =
    let h = or-false (same a x.id) (has a (ids xs)) e in
    rw (h.0, without) (ap (λ (ys : List Mark). x ∷ ys) (without_absent a xs h.1))

module _ (m : ℕ → Mark) where
  has-at : (a : MarkId) (k i : ℕ) → has a (ids (down_from m k)) ≡ false → i < k → same (m i).id a ≡ false
  has-at a k i e h = nT→eq (same (m i).id a) (not_T (same (m i).id a) (λ t. subst T e (subst (λ (x : MarkId). T (has x (ids (down_from m k)))) (same→eq (m i).id a t) (down-has m k i h))))

  -- The mark of slot i goes by its name, where no other has that.
  newest : (i k : ℕ) → i ≡ k → Distinct (down_from m (suc k)) → taken_out (k - i) (down_from m (suc k)) ≡ without mark_id (m i).id (down_from m (suc k))
  newest i k x d =
      let z : k - i ≡ 0 = omega arith in
      let s = ap (λ (j : ℕ). same (m j).id (m k).id) x ∙ T→eq (same (m k).id (m k).id) (same_refl (m k).id) in
      rw (z, s, without) (sym (without_absent (m i).id (down_from m k) (ap (λ (j : ℕ). has (m j).id (ids (down_from m k))) x ∙ d.0)))

  without_taken : (i k : ℕ) → i ≤ k → Distinct (down_from m (suc k)) → taken_out (k - i) (down_from m (suc k)) ≡ without mark_id (m i).id (down_from m (suc k))
  without_taken i zero l d = newest i zero (omega arith) d
  without_taken i (suc k) l d = ⊎_elim (λ x. newest i (suc k) x d)
      (λ x.
      let z : suc k - i ≡ suc (k - i) = omega arith in
      let s = has-at (m (suc k)).id (suc k) i d.0 x in
      let q : i ≤ k = omega arith in
      rw (z, s, without) (ap (λ (ys : List Mark). m (suc k) ∷ ys) (without_taken i k q d.1))) (eq-or-lt_of_le {n = i} {m = suc k} l)

  module _ (m' : ℕ → Mark) where
    taken : (i k : ℕ) → i ≤ k → ((p : ℕ) → p < i → m' p ≡ m p) → ((p : ℕ) → i ≤ p → p < k → m' p ≡ m (suc p)) → down_from m' k ≡ taken_out (k - i) (down_from m (suc k))
    taken i zero l f g = let z : 0 - i ≡ 0 = omega arith in rw z refl
    taken i (suc k) l f g = ⊎_elim
        (λ x. let z : suc k - i ≡ 0 = omega arith in rw z (down_cong m' m (suc k) (λ p h. f p (omega arith))))
        (λ x.
        let z : suc k - i ≡ suc (k - i) = omega arith in
        let e = g k (omega arith) (omega arith) in
        let r = taken i k (omega arith) f (λ p a b. g p a (omega arith)) in
        rw z (λ j. e j ∷ r j)) (eq-or-lt_of_le {n = i} {m = suc k} l)

-- The same of columns: slot i is gone from those after.
pub view_taken : (n i last : ℕ) (ds ns : List ℕ) (bs : ℕ → Carried) (ss : List (List ℕ)) (ds' ns' : List ℕ) (bs' : ℕ → Carried) (ss' : List (List ℕ)) → i ≤ last
    → ((p : ℕ) → p < i → mark_at n ds' ns' bs' ss' p ≡ mark_at n ds ns bs ss p) → ((p : ℕ) → i ≤ p → p < last → mark_at n ds' ns' bs' ss' p ≡ mark_at n ds ns bs ss (suc p))
    → view n last ds' ns' bs' ss' ≡ taken_out (last - i) (view n (suc last) ds ns bs ss)
unfolding view
view_taken n i last ds ns bs ss ds' ns' bs' ss' l f g = taken (mark_at n ds ns bs ss) (mark_at n ds' ns' bs' ss') i last l f g

-- It goes by its name.
pub view_without : (n i last : ℕ) (ds ns : List ℕ) (bs : ℕ → Carried) (ss : List (List ℕ)) → i ≤ last → Distinct (view n (suc last) ds ns bs ss)
    → taken_out (last - i) (view n (suc last) ds ns bs ss) ≡ without mark_id (mark_at n ds ns bs ss i).id (view n (suc last) ds ns bs ss)
unfolding view
view_without n i last ds ns bs ss l d = without_taken (mark_at n ds ns bs ss) i last l d
