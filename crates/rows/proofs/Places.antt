-- Marks by their places in the arrays: which is listed, which is found, and precedence between two places. n: how many desks. Assumes nothing.
use Prim.Native.Nat.{◌<◌, ◌≤◌, suc, zero, ℕ}
use borrow.Author.Tests.{le-ltb, lt-ltb}
use lib.Dec.{T, ltb, ltb→lt, nltb→le, not_T}
use mathlib.Core.Bool.{Bool, ◌||◌, false}
use mathlib.Core.List.{List, [], ◌∷◌}
use mathlib.Core.Logic.{inl, inr}
use mathlib.Core.Option.{none, some}
use mathlib.Core.Path.{◌∙◌, ◌≡◌, refl, subst, sym}
use native.Mathlib.Omega.{arith}
use Rattle.frame.specs.Names.{MarkId}
use Rattle.causality.specs.Marks.{All, find, has, same}
use Rattle.causality.specs.State.{Mark, ids, mark_id, precedes}
use Rattle.causality.proofs.Lists.{Picked, any_find, find-all, find-has}
use Rattle.causality.proofs.Logic.{nT→eq, or_inr, or_yes, same_refl, same→eq, split}
use Rattle.causality.proofs.Past.{fresh_of}
use Rattle.causality.proofs.Reach.{not_new, precedes-at, precedes-listed, precedes_old, sound_counted}
use Rattle.causality.specs.inner.Order.{CausallyOrdered}
use Rattle.rows.specs.View.{Carried, mark_at, name_at, names_down, view}
use Rattle.rows.specs.inner.Slots.{Named, place_at}
use Rattle.rows.proofs.Arrays.{sound_below}
use Rattle.rows.proofs.RowSteps.{named-at}
use Rattle.rows.proofs.Down.{down-has, down-ids, down-more}

-- A named mark stands at a place.
pub name-place : (ds ns : List ℕ) (q : ℕ) (i : MarkId) → T (has i (names_down q ds ns)) → (r : ℕ) × (r < q) × (name_at ds ns r ≡ i)
name-place ds ns zero i t = absurd t
name-place ds ns (suc q) i t = elim (or_yes (same i (name_at ds ns q)) (has i (names_down q ds ns)) t) [
  | inl u ↦ (q, omega arith, sym (same→eq i (name_at ds ns q) u))
  | inr u ↦ let x = name-place ds ns q i u in let h = x.1 in (x.0, omega arith, x.2)
]

module _ (n : ℕ) (ds ns : List ℕ) (bs : ℕ → Carried) (ss : List (List ℕ)) where
  abbrev at : ℕ → Mark
  at p = mark_at n ds ns bs ss p

  abbrev marks : ℕ → List Mark
  marks count = view n count ds ns bs ss

  -- The names do not depend on what else the marks carry.
  pub ids-names : (count : ℕ) → ids (view n count ds ns bs ss) ≡ names_down count ds ns
  unfolding view
  ids-names count = down-ids (mark_at n ds ns bs ss) count

  -- A listed mark is of a desk from 1 to n.
  pub named-has : (count : ℕ) → Named n count ds → (i : MarkId) → T (has i (ids (view n count ds ns bs ss))) → (1 ≤ i.desk) × (i.desk ≤ n)
  named-has count f i t = let x = name-place ds ns count i (rw (← ids-names count) t) in subst (λ (k : MarkId). (1 ≤ k.desk) × (k.desk ≤ n)) x.2 (named-at n count ds x.0 f x.1)

  pub has_more : (p q : ℕ) → p ≤ q → (i : MarkId) → T (has i (ids (view n p ds ns bs ss))) → T (has i (ids (view n q ds ns bs ss)))
  unfolding view
  has_more p q h i t = down-more (mark_at n ds ns bs ss) (λ l. T (has i (ids l))) (λ m l. or_inr (same i m.id) (has i (ids l))) p q h t

  pub has-at : (count p : ℕ) → p < count → T (has (mark_at n ds ns bs ss p).id (ids (view n count ds ns bs ss)))
  unfolding view
  has-at count p h = down-has (mark_at n ds ns bs ss) count p h

  -- A mark is not among those before its place.
  pub not_before : (count p q : ℕ) → CausallyOrdered (view n count ds ns bs ss) → p < count → q ≤ p → T (has (mark_at n ds ns bs ss p).id (ids (view n q ds ns bs ss))) → ⊥
  unfolding view
  not_before count p q s h k t = fresh_of (mark_at n ds ns bs ss p).id (ids (view n p ds ns bs ss))
      (sound_counted (view n (suc p) ds ns bs ss) (sound_below n count ds ns bs ss s (suc p) h)) (has_more q p k (mark_at n ds ns bs ss p).id t)

  -- What precedes a mark is settled at its place.
  pub precedes_there : (count p : ℕ) → CausallyOrdered (view n count ds ns bs ss) → p < count → (a : MarkId)
      → precedes (view n count ds ns bs ss) a (mark_at n ds ns bs ss p).id ≡ precedes (view n (suc p) ds ns bs ss) a (mark_at n ds ns bs ss p).id
  unfolding view
  precedes_there zero p s h a = let z : ⊥ = omega arith in absurd z
  precedes_there (suc k) p s h a = elim (split (ltb p k)) [
    | inl t ↦ let l = ltb→lt p k t in
        precedes_old (mark_at n ds ns bs ss k) (view n k ds ns bs ss) a (mark_at n ds ns bs ss p).id (not_new (mark_at n ds ns bs ss k) (view n k ds ns bs ss) s (mark_at n ds ns bs ss p).id (has-at k p l))
        ∙ precedes_there k p s.1 l a
    | inr t ↦ let q = nltb→le p k t in let e : k ≡ p = omega arith in
        subst (λ (x : ℕ). precedes (view n (suc x) ds ns bs ss) a (mark_at n ds ns bs ss p).id ≡ precedes (view n (suc p) ds ns bs ss) a (mark_at n ds ns bs ss p).id) (sym e) refl
  ]

  -- A mark precedes none at an earlier place or its own.
  pub precedes_no_earlier : (count p q : ℕ) → CausallyOrdered (view n count ds ns bs ss) → p < count → q ≤ p
      → precedes (view n count ds ns bs ss) (mark_at n ds ns bs ss p).id (mark_at n ds ns bs ss q).id ≡ false
  unfolding view
  precedes_no_earlier count p q s h k = nT→eq b (not_T b (λ t.
      let u = sound_below n count ds ns bs ss s (suc q) (omega arith) in
      let m = mark_at n ds ns bs ss q in
      let older = view n q ds ns bs ss in
      let x = (mark_at n ds ns bs ss p).id in
      let w : T (precedes (m ∷ older) x m.id) = rw (precedes_there count q s (omega arith) x) at t in
      let r = any_find (λ e. same x e || precedes older x e) m.stamp (rw (precedes-at m older x m.id (same_refl m.id)) at w) in
      not_before count p q s h k (elim (or_yes (same x r.0) (precedes older x r.0) r.2) [
        | inl e ↦ rw (same→eq x r.0 e) (u.0.listed r.0 r.1)
        | inr v ↦ (precedes-listed older u.1 x r.0 v).0
      ])))
    where
      b : Bool
      b = precedes (view n count ds ns bs ss) (mark_at n ds ns bs ss p).id (mark_at n ds ns bs ss q).id

  -- Found at a place below the count, or not executed.
  pub found_some : (count p : ℕ) (i : MarkId) → p < count → place_at n count p ds ns bs ss ≡ find mark_id i (view n count ds ns bs ss)
      → (find mark_id i (view n count ds ns bs ss) ≡ some (mark_at n ds ns bs ss p)) × ((mark_at n ds ns bs ss p).id ≡ i) × T (has i (ids (view n count ds ns bs ss)))
  unfolding place_at
  found_some count p i h e =
      let f : find mark_id i (view n count ds ns bs ss) ≡ some (mark_at n ds ns bs ss p) = sym (rw (lt-ltb p count h, place_at) at e) in
      let k : T (same i (mark_at n ds ns bs ss p).id) = (subst (Picked (λ m. Unit {0}) (λ w. same i w.id)) f (find-all mark_id (λ m. Unit {0}) i (view n count ds ns bs ss) (all_unit (view n count ds ns bs ss)))).1 in
      (f, sym (same→eq i (mark_at n ds ns bs ss p).id k), rw (find-has mark_id i (view n count ds ns bs ss), f) tt)
    where
      all_unit : (l : List Mark) → All (λ m. Unit {0}) l
      all_unit [] = tt
      all_unit (m ∷ l) = (tt, all_unit l)

  pub found_none : (count p : ℕ) (i : MarkId) → count ≤ p → place_at n count p ds ns bs ss ≡ find mark_id i (view n count ds ns bs ss)
      → (find mark_id i (view n count ds ns bs ss) ≡ none) × (has i (ids (view n count ds ns bs ss)) ≡ false)
  unfolding place_at
  found_none count p i h e =
      let f : find mark_id i (view n count ds ns bs ss) ≡ none = sym (rw (le-ltb p count h, place_at) at e) in
      (f, rw (find-has mark_id i (view n count ds ns bs ss), f))
