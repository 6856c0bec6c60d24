-- Of a desk, the marks behind a follower of a mark follow that mark too. Assumes nothing.
use Prim.Native.Nat.{◌<◌, ◌≤◌, suc, ℕ}
use borrow.Author.Tests.{eqb-true, le-leb, lt-ltb}
use lib.Dec.{eqb, leb, ltb}
use mathlib.Core.Bool.{Bool, ◌&&◌, ◌||◌, false, true}
use mathlib.Core.List.{List, [], ◌∷◌}
use mathlib.Core.Path.{◌∙◌, ◌≡◌, ap, refl, sym}
use native.Mathlib.Omega.{arith}
use Rattle.frame.specs.Names.{MarkId}
use Rattle.causality.specs.Marks.{same, tally}
use Rattle.causality.specs.State.{Mark, ids}
use Rattle.causality.proofs.Apart.{follower_new, follower_row, followers, reached_by}
use Rattle.causality.proofs.Lists.{has-self}
use Rattle.causality.proofs.Past.{tally_le, tally-same}
use Rattle.causality.specs.inner.Order.{Consecutive, CausallyOrdered}
use Rattle.causality.proofs.Reach.{sound_counted}

-- A first follower is an executed mark.
followers_few : (l : List Mark) → Consecutive (ids l) → (a : MarkId) (d : ℕ) → followers a l d ≤ tally d (ids l)
followers_few [] c a d = omega arith
followers_few (m ∷ older) c a d = go (same a m.id || reached_by (followers a older) m.stamp) (eqb d m.id.desk) refl (eqb f 0) (followers_few older c.1 a d)
  where
    f : ℕ
    f = followers a older d

    all : ℕ
    all = tally d (m.id ∷ ids older)

    go : (b k : Bool) → eqb d m.id.desk ≡ k → (z : Bool) → f ≤ tally d (ids older) → elim b [ true ↦ elim (k && z) [ true ↦ m.id.number | false ↦ f ] | false ↦ f ] ≤ all
    go false k e z h = let t = tally_le d m.id (ids older) in omega arith
    go true false e z h = let t = tally_le d m.id (ids older) in omega arith
    go true true e false h = let t = tally_le d m.id (ids older) in omega arith
    go true true e true h =
        let q = eqb-true d m.id.desk e in
        let t = tally-same d m.id (ids older) q in
        let n : m.id.number ≡ suc (tally d (ids older)) = c.0 ∙ ap (λ (x : ℕ). suc (tally x (ids older))) (sym q) in
        omega arith

pub own_follows : (m : Mark) (older : List Mark) → CausallyOrdered (m ∷ older) → (a : MarkId) → 0 < followers a older m.id.desk
    → (same a m.id || reached_by (followers a older) m.stamp) ≡ true
own_follows m older s a h = go (same a m.id || reached_by (followers a older) m.stamp) refl
  where
    f : ℕ
    f = followers a older m.id.desk

    go : (b : Bool) → (same a m.id || reached_by (followers a older) m.stamp) ≡ b → b ≡ true
    go true e = refl
    go false e =
        let x = sym e ∙ sym (follower_new m older s a) ∙ follower_row (m ∷ older) s a m.id (has-self m.id (ids older)) in
        let y : followers a (m ∷ older) m.id.desk ≡ f = rw (e, followers) refl in
        let t = followers_few older (sound_counted older s.1) a m.id.desk in
        let n = s.0.next in
        let u = lt-ltb 0 f h in
        let v = le-leb f m.id.number (omega arith) in
        x ∙ (λ i. ltb 0 (y i) && leb (y i) m.id.number) ∙ (λ i. u i && v i)
