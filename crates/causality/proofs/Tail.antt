-- The marks executed before a mark: those of one desk that precede it are a first run of numbers, the others are apart from it. Assumes nothing.
use Prim.Native.Nat.{◌≤◌, ℕ}
use lib.Dec.{T, T_not, leb, ltb, not_T}
use mathlib.Core.Bool.{◌&&◌, false, not}
use mathlib.Core.List.{List, [], ◌∷◌}
use mathlib.Core.Logic.{◌⊎◌, inl, inr}
use mathlib.Core.Path.{◌∙◌, ◌≡◌, ap}
use Rattle.frame.specs.Names.{MarkId}
use Rattle.causality.specs.Calls.{earlier, lowest_number}
use Rattle.causality.specs.Marks.{has, keep, same, tally}
use Rattle.causality.specs.State.{Mark, concurrent, ids, precedes}
use Rattle.causality.specs.Tail.{ApartIsTail, PastIsFirstRun}
use Rattle.causality.proofs.Apart.{lowest_above_lem, lowest_above}
use Rattle.causality.proofs.Logic.{T→eq, nT→eq, not-leb, or_inr, same→eq, split}
use Rattle.causality.proofs.Numbers.{own_past}
use Rattle.causality.proofs.Past.{fresh_of, prefix_le}
use Rattle.causality.specs.inner.Order.{Consecutive, CausallyOrdered}
use Rattle.causality.proofs.Reach.{local, local_hist, local-precedes, not_new, precedes-listed, precedes_old, precedes_trans, sound_counted}

-- What stands behind the newest mark, where that is a, or another.
behind : (a i : MarkId) (is : List MarkId) → T (same a i) → earlier a (i ∷ is) ≡ is
behind a i is t = rw (T→eq (same a i) t, earlier)

further : (a i : MarkId) (is : List MarkId) → T (not (same a i)) → earlier a (i ∷ is) ≡ earlier a is
further a i is t = rw (nT→eq (same a i) t, earlier)

earlier-counted : (a : MarkId) (is : List MarkId) → Consecutive is → Consecutive (earlier a is)
earlier-counted a [] c = tt
earlier-counted a (i ∷ is) c = elim (split (same a i)) [ inl t ↦ rw (behind a i is t) c.1 | inr t ↦ rw (further a i is t) (earlier-counted a is c.1) ]

-- A mark executed before a is listed, is not a, and does not follow a.
record Before (l : List Mark) (a j : MarkId) : Type 0 where
  listed : T (has j (ids l))
  other : same a j ≡ false
  no_follower : precedes l a j ≡ false

earlier_before : (l : List Mark) → CausallyOrdered l → (a j : MarkId) → T (has j (earlier a (ids l))) → Before l a j
earlier_before [] s a j t = absurd t
earlier_before (m ∷ older) s a j t = go (split (same a m.id)) (earlier_before older s.1 a j)
  where
    up : T (has j (ids older)) → T (has j (ids (m ∷ older)))
    up = or_inr (same j m.id) (has j (ids older))

    old : T (has j (ids older)) → precedes (m ∷ older) a j ≡ precedes older a j
    old u = precedes_old m older a j (not_new m older s j u)

    go : T (same a m.id) ⊎ T (not (same a m.id)) → (T (has j (earlier a (ids older))) → Before older a j) → Before (m ∷ older) a j
    go (inl u) ih =
        let h : T (has j (ids older)) = rw (behind a m.id (ids older) u) at t in
        let new : T (has a (ids older)) → ⊥ = λ v. fresh_of m.id (ids older) (sound_counted (m ∷ older) s) (rw (same→eq a m.id u) at v) in
        record {
          listed = up h;
          other = nT→eq (same a j) (not_T (same a j) (λ v. new (rw (same→eq a j v) h)));
          no_follower = old h ∙ nT→eq (precedes older a j) (not_T (precedes older a j) (λ v. new (precedes-listed older s.1 a j v).0));
        }
    go (inr u) ih =
        let b = ih (rw (further a m.id (ids older) u) at t) in
        record { listed = up b.listed; other = b.other; no_follower = old b.listed ∙ b.no_follower }

module _ (l : List Mark) (s : CausallyOrdered l) (a : MarkId) where
  -- Of the marks executed before a, those that do not precede it are apart from it.
  apart-earlier : (j : MarkId) → T (has j (earlier a (ids l))) → concurrent l a j ≡ not (precedes l j a)
  unfolding concurrent
  apart-earlier j t = let b = earlier_before l s a j t in λ k. not (b.other k) && (not (b.no_follower k) && not (precedes l j a))

  pub past-first-run : PastIsFirstRun l a
  past-first-run i j e lo h t =
      let u = (precedes-listed l s j a t).0 in
      precedes_trans l s i j a (rw (← local-precedes l s i j) (own_past (local l) l (local_hist l s) j i u e lo h)) t

  pub apart-tail : ApartIsTail l a
  apart-tail i j ti tj e h c =
      let lo = (prefix_le (earlier a (ids l)) (earlier-counted a (ids l) (sound_counted l s)) i ti).0 in
      let no = rw (apart-earlier i ti) at c in
      rw (apart-earlier j tj) (not_T (precedes l j a) (λ t. T_not (precedes l i a) no (past-first-run i j e lo h t)))

  -- The first apart, where of desk d's marks executed before a those up to R precede it.
  pub first_of_run : (d R : ℕ) → ((k : ℕ) → 1 ≤ k → k ≤ tally d (earlier a (ids l)) → precedes l (record { desk = d; number = k }) a ≡ leb k R)
      → lowest_number d (keep (concurrent l a) (earlier a (ids l))) ≡ lowest_above R (tally d (earlier a (ids l)))
  first_of_run d R run = lowest_above_lem d R (concurrent l a) (earlier a (ids l)) c above
    where
      c : Consecutive (earlier a (ids l))
      c = earlier-counted a (ids l) (sound_counted l s)

      above : (i : MarkId) → T (has i (earlier a (ids l))) → i.desk ≡ d → concurrent l a i ≡ ltb R i.number
      above i t e =
          let w = prefix_le (earlier a (ids l)) c i t in
          apart-earlier i t ∙ ap not (ap (λ (x : ℕ). precedes l (record { desk = x; number = i.number }) a) e ∙ run i.number w.0 (rw e at w.1)) ∙ not-leb i.number R
