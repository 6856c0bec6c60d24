-- Pair tables: the counts, mark by mark, and their laws. Assumes nothing.
use Prim.Native.Nat.{◌*◌, ◌+◌, ◌-◌, ◌/◌, ◌≤◌, suc, zero, ℕ}
use lib.Dec.{T, eqb, eqb→eq, not_T}
use lib.ListN.{length}
use mathlib.Core.Bool.{Bool, and-true, cond, false, not, true}
use mathlib.Core.List.{List, [], ◌∷◌}
use mathlib.Core.Logic.{inl, inr}
use mathlib.Core.Path.{◌∙◌, ◌≡◌, ap, refl, sym}
use native.Mathlib.Nat.{mul-le-mul, mul-suc, suc-mul}
use native.Mathlib.Numerals.{sub-one}
use native.Mathlib.Omega.{arith}
use Rattle.frame.specs.Names.{MarkId}
use Rattle.causality.specs.Evidence.{in_past}
use Rattle.causality.specs.Marks.{has, keep, places, same, tally}
use Rattle.causality.specs.State.{Mark, concurrent, ids, precedes}
use Rattle.causality.specs.Tables.{PairLaws, of_desk, pairs_apart, pairs_before, pairs_of, total}
use Rattle.causality.proofs.EvidenceLaws.{tally-keep}
use Rattle.causality.proofs.Lists.{has-self, keep_cong, tally-length}
use Rattle.causality.proofs.Logic.{T→eq, nT→eq, or_inr, same_refl, same→eq, split}
use Rattle.causality.proofs.Numbers.{own_past}
use Rattle.causality.proofs.Past.{fresh_of, prefix_le}
use Rattle.causality.proofs.Reach.{local, local_hist, local-precedes, not_new, precedes-listed, precedes_old, precedes-self, sound_counted}
use Rattle.causality.specs.inner.Order.{CausallyOrdered}

-- COUNTING PAIRS

-- One mark in front.
total_of : (f : MarkId → ℕ) (i : ℕ) (y : MarkId) (ys : List MarkId) → total f (of_desk i (y ∷ ys)) ≡ cond (eqb i y.desk) (f y) 0 + total f (of_desk i ys)
total_of f i y ys = go (eqb i y.desk)
  where
    go : (b : Bool) → total f (cond b (y ∷ of_desk i ys) (of_desk i ys)) ≡ cond b (f y) 0 + total f (of_desk i ys)
    go true = refl
    go false = omega arith

tally_of : (d : ℕ) (p : MarkId → Bool) (y : MarkId) (ys : List MarkId) → tally d (keep p (y ∷ ys)) ≡ cond (p y) (cond (eqb d y.desk) 1 0) 0 + tally d (keep p ys)
tally_of d p y ys = go (p y) (eqb d y.desk) refl
  where
    go : (r b : Bool) → eqb d y.desk ≡ b → tally d (cond r (y ∷ keep p ys) (keep p ys)) ≡ cond r (cond b 1 0) 0 + tally d (keep p ys)
    go true true e = rw (e, tally) (omega arith)
    go true false e = rw (e, tally) (omega arith)
    go false b e = omega arith

-- One mark a more, where R is S among those that were there: pairs with a as the second, and pairs with a as the first.
module _ (a : MarkId) (xs : List MarkId) (R S : MarkId → MarkId → Bool) (i j : ℕ) where
  abbrev F : MarkId → ℕ
  F y = tally j (keep (R y) (a ∷ xs))

  abbrev G : MarkId → ℕ
  G y = tally j (keep (S y) xs)

  abbrev firsts : List MarkId → ℕ
  firsts ys = tally i (keep (λ y. R y a) ys)

  as_second : (ys : List MarkId) → ((y x : MarkId) → T (has y ys) → T (has x xs) → R y x ≡ S y x)
      → total F (of_desk i ys) ≡ total G (of_desk i ys) + cond (eqb j a.desk) (firsts ys) 0
  as_second [] f = go (eqb j a.desk)
    where
      go : (e : Bool) → 0 ≡ 0 + cond e 0 0
      go true = refl
      go false = refl
  as_second (y ∷ ys) f =
      let f₁ = total_of F i y ys in
      let f₂ = tally_of j (R y) a xs ∙ ap (λ (n : ℕ). cond (R y a) (cond (eqb j a.desk) 1 0) 0 + n) (ap (tally j) (keep_cong (R y) (S y) xs (λ x t. f y x (has-self y ys) t))) in
      let g = total_of G i y ys in
      let t = tally_of i (λ y. R y a) y ys in
      f₁ ∙ rw (f₂, g, t) (go (eqb i y.desk) (R y a) (eqb j a.desk) (G y) (as_second ys (λ z x t. f z x (or_inr (same z y) (has z ys) t))))
    where
      go : (b r e : Bool) (n : ℕ) → total F (of_desk i ys) ≡ total G (of_desk i ys) + cond e (firsts ys) 0
          → cond b (cond r (cond e 1 0) 0 + n) 0 + total F (of_desk i ys) ≡ cond b n 0 + total G (of_desk i ys) + cond e (cond r (cond b 1 0) 0 + firsts ys) 0
      go true true true n ih = omega arith
      go true true false n ih = omega arith
      go true false true n ih = omega arith
      go true false false n ih = omega arith
      go false true true n ih = omega arith
      go false true false n ih = omega arith
      go false false true n ih = omega arith
      go false false false n ih = omega arith

  pub one_more : ((y x : MarkId) → T (has y xs) → T (has x xs) → R y x ≡ S y x)
      → pairs_of R (a ∷ xs) i j ≡ pairs_of S xs i j + cond (eqb j a.desk) (firsts xs) 0 + cond (eqb i a.desk) (F a) 0
  one_more f = let e = total_of F i a xs in let g = as_second xs f in omega arith

-- Those of desk d that pass, and those that do not.
tally-split : (d : ℕ) (p : MarkId → Bool) (xs : List MarkId) → tally d (keep p xs) + tally d (keep (λ x. not (p x)) xs) ≡ tally d xs
tally-split d p [] = refl
tally-split d p (x ∷ xs) = go (p x) (eqb d x.desk) refl (tally-split d p xs)
  where
    go : (b e : Bool) → eqb d x.desk ≡ e → tally d (keep p xs) + tally d (keep (λ x. not (p x)) xs) ≡ tally d xs
        → tally d (cond b (x ∷ keep p xs) (keep p xs)) + tally d (cond (not b) (x ∷ keep (λ x. not (p x)) xs) (keep (λ x. not (p x)) xs))
        ≡ elim e [ true ↦ suc (tally d xs) | false ↦ tally d xs ]
    go true true q ih = rw (q, tally) (omega arith)
    go true false q ih = rw (q, tally) ih
    go false true q ih = rw (q, tally) (omega arith)
    go false false q ih = rw (q, tally) ih

tally-none : (d : ℕ) (p : MarkId → Bool) (xs : List MarkId) → ((x : MarkId) → p x ≡ false) → tally d (keep p xs) ≡ 0
tally-none d p [] f = refl
tally-none d p (x ∷ xs) f = rw (f x) (tally-none d p xs f)

-- THE NEWEST MARK

module _ (m : Mark) (older : List Mark) (s : CausallyOrdered (m ∷ older)) where
  -- It precedes none.
  new_last : (y : MarkId) → precedes (m ∷ older) m.id y ≡ false
  new_last y = nT→eq (precedes (m ∷ older) m.id y) (not_T (precedes (m ∷ older) m.id y) (λ t. elim (split (same y m.id)) [
    | inl u ↦ precedes-self (m ∷ older) s m.id (rw (same→eq y m.id u) at t)
    | inr u ↦ fresh_of m.id (ids older) (sound_counted (m ∷ older) s) (precedes-listed older s.1 m.id y (rw (precedes_old m older m.id y u) at t)).0
  ]))

  old_precedes : (y x : MarkId) → T (has y (ids older)) → T (has x (ids older)) → precedes (m ∷ older) y x ≡ precedes older y x
  old_precedes y x ty tx = precedes_old m older y x (not_new m older s x tx)

  other : (y : MarkId) → T (has y (ids older)) → same y m.id ≡ false
  other y t = nT→eq (same y m.id) (not_new m older s y t)

  new-other : (y : MarkId) → T (has y (ids older)) → same m.id y ≡ false
  new-other y t = nT→eq (same m.id y) (not_T (same m.id y) (λ u. fresh_of m.id (ids older) (sound_counted (m ∷ older) s) (rw (same→eq m.id y u) t)))

  abbrev before : MarkId → Bool
  before y = precedes (m ∷ older) y m.id

  -- How many of a desk precede it, and how many are apart from it.
  pub in_past_old : (d : ℕ) → in_past (m ∷ older) d m.id ≡ tally d (keep before (ids older))
  unfolding in_past
  in_past_old d = rw (new_last m.id) refl

  abbrev pub apart_from : ℕ → ℕ
  apart_from d = tally d (ids older) - in_past (m ∷ older) d m.id

  pub past_few : (d : ℕ) → in_past (m ∷ older) d m.id ≤ tally d (ids older)
  past_few d = let a = in_past_old d in let b = tally-split d before (ids older) in omega arith

  apart_of : (d : ℕ) → tally d (keep (λ y. not (before y)) (ids older)) ≡ apart_from d
  apart_of d = let a = in_past_old d in let b = tally-split d before (ids older) in omega arith

  -- All earlier marks of its own desk precede it.
  own_all : in_past (m ∷ older) m.id.desk m.id ≡ tally m.id.desk (ids older)
  own_all = in_past_old m.id.desk ∙ tally-keep m.id.desk before (ids older) (λ i t e.
      let l : List Mark = m ∷ older in
      let h = prefix_le (ids older) (sound_counted older s.1) i t in
      let n = s.0.next in
      let k : i.number ≤ tally m.id.desk (ids older) = rw e h.1 in
      rw (← local-precedes l s i m.id) (own_past (local l) l (local_hist l s) m.id i (has-self m.id (ids older)) (sym e) h.0 (omega arith)))

  pub before_grows : (i j : ℕ) → pairs_before (m ∷ older) i j ≡ pairs_before older i j + cond (eqb j m.id.desk) (in_past (m ∷ older) i m.id) 0
  unfolding pairs_before
  before_grows i j =
      let a = one_more m.id (ids older) (precedes (m ∷ older)) (precedes older) i j old_precedes in
      let b = tally-none j (precedes (m ∷ older) m.id) (m.id ∷ ids older) new_last in
      let c = in_past_old i in
      a ∙ rw (b, c) (go (eqb i m.id.desk) _)
    where
      go : (e : Bool) (x : ℕ) → x + cond e 0 0 ≡ x
      go true x = omega arith
      go false x = omega arith

  -- Apart from it are those that do not precede it, in either order.
  apart-second : (y : MarkId) → T (has y (ids older)) → concurrent (m ∷ older) y m.id ≡ not (before y)
  unfolding concurrent
  apart-second y t = rw (other y t, new_last y) (and-true (not (before y)))

  apart-first : (y : MarkId) → T (has y (ids older)) → concurrent (m ∷ older) m.id y ≡ not (before y)
  unfolding concurrent
  apart-first y t = rw (new-other y t, new_last y) refl

  old_concurrent : (y x : MarkId) → T (has y (ids older)) → T (has x (ids older)) → concurrent (m ∷ older) y x ≡ concurrent older y x
  unfolding concurrent
  old_concurrent y x ty tx = rw (old_precedes y x ty tx, old_precedes x y tx ty) refl

  not_itself : concurrent (m ∷ older) m.id m.id ≡ false
  unfolding concurrent
  not_itself = rw (T→eq (same m.id m.id) (same_refl m.id)) refl

  pub apart_grows : (i j : ℕ)
      → pairs_apart (m ∷ older) i j ≡ pairs_apart older i j + cond (eqb j m.id.desk) (apart_from i) 0 + cond (eqb i m.id.desk) (apart_from j) 0
  unfolding pairs_apart
  apart_grows i j =
      let a = one_more m.id (ids older) (concurrent (m ∷ older)) (concurrent older) i j old_concurrent in
      let b = ap (tally i) (keep_cong (λ y. concurrent (m ∷ older) y m.id) (λ y. not (before y)) (ids older) apart-second) ∙ apart_of i in
      a ∙ rw (b, first) refl
    where
      first : tally j (keep (concurrent (m ∷ older) m.id) (m.id ∷ ids older)) ≡ apart_from j
      first = rw not_itself (ap (tally j) (keep_cong (concurrent (m ∷ older) m.id) (λ y. not (before y)) (ids older) apart-first) ∙ apart_of j)

-- What stands alike to each other is counted alike.
total_cong : (f g : MarkId → ℕ) (i : ℕ) (ys : List MarkId) → ((y : MarkId) → T (has y ys) → f y ≡ g y) → total f (of_desk i ys) ≡ total g (of_desk i ys)
total_cong f g i [] h = refl
total_cong f g i (y ∷ ys) h =
    let a = h y (has-self y ys) in
    let b = total_cong f g i ys (λ z t. h z (or_inr (same z y) (has z ys) t)) in
    total_of f i y ys ∙ rw (a, b) (sym (total_of g i y ys))

pub pairs_cong : (R S : MarkId → MarkId → Bool) (xs : List MarkId) → ((y x : MarkId) → T (has y xs) → T (has x xs) → R y x ≡ S y x) → (i j : ℕ) → pairs_of R xs i j ≡ pairs_of S xs i j
pairs_cong R S xs f i j = total_cong (λ y. tally j (keep (R y) xs)) (λ y. tally j (keep (S y) xs)) i xs (λ y t. ap (tally j) (keep_cong (R y) (S y) xs (λ x u. f y x t u)))

-- At most each mark of i with each of j.
total-most : (f : MarkId → ℕ) (b : ℕ) → ((y : MarkId) → f y ≤ b) → (i : ℕ) (ys : List MarkId) → total f (of_desk i ys) ≤ tally i ys * b
total-most f b h i [] = omega arith
total-most f b h i (y ∷ ys) = go (eqb i y.desk) (total_of f i y ys) (total-most f b h i ys)
  where
    go : (e : Bool) → total f (of_desk i (y ∷ ys)) ≡ cond e (f y) 0 + total f (of_desk i ys) → total f (of_desk i ys) ≤ tally i ys * b
        → total f (of_desk i (y ∷ ys)) ≤ elim e [ true ↦ suc (tally i ys) | false ↦ tally i ys ] * b
    go true q ih = let k = suc-mul (tally i ys) b in let l = h y in omega arith
    go false q ih = omega arith

pub pairs_most : (R : MarkId → MarkId → Bool) (xs : List MarkId) (i j : ℕ) → pairs_of R xs i j ≤ tally i xs * tally j xs
pairs_most R xs i j = total-most (λ y. tally j (keep (R y) xs)) (tally j xs) (λ y. let a = tally-split j (R y) xs in omega arith) i xs

-- THE LAWS

pub apart_symmetric : (l : List Mark) → CausallyOrdered l → (i j : ℕ) → pairs_apart l i j ≡ pairs_apart l j i
unfolding pairs_apart
apart_symmetric [] s i j = refl
apart_symmetric (m ∷ older) s i j =
    let a = apart_grows m older s i j in
    let b = apart_grows m older s j i in
    let ih = apart_symmetric older s.1 i j in
    omega arith

none_apart : (l : List Mark) → CausallyOrdered l → (i : ℕ) → pairs_apart l i i ≡ 0
unfolding pairs_apart
none_apart [] s i = refl
none_apart (m ∷ older) s i = go (eqb i m.id.desk) refl (apart_grows m older s i i) (none_apart older s.1 i)
  where
    go : (e : Bool) → eqb i m.id.desk ≡ e → pairs_apart (m ∷ older) i i ≡ pairs_apart older i i + cond e (apart_from m older s i) 0 + cond e (apart_from m older s i) 0 → pairs_apart older i i ≡ 0
        → pairs_apart (m ∷ older) i i ≡ 0
    go true q a ih =
        let o : in_past (m ∷ older) i m.id ≡ tally i (ids older) = rw (eqb→eq i m.id.desk (rw q tt)) (own_all m older s) in
        omega arith
    go false q a ih = omega arith

own_before : (l : List Mark) → CausallyOrdered l → (i : ℕ) → pairs_before l i i ≡ tally i (ids l) * (tally i (ids l) - 1) / 2
unfolding pairs_before
own_before [] s i = refl
own_before (m ∷ older) s i = go (eqb i m.id.desk) refl (before_grows m older s i i) (own_before older s.1 i)
  where
    n : ℕ
    n = tally i (ids older)

    -- n more is what the next number adds.
    next : (n : ℕ) → suc n * (suc n - 1) ≡ n * (n - 1) + 2 * n
    next zero = refl
    next (suc k) = let a = suc-mul (suc k) (suc k) in let b = mul-suc (suc k) k in rw (sub-one (suc (suc k)), sub-one (suc k)) (omega arith)

    go : (e : Bool) → eqb i m.id.desk ≡ e → pairs_before (m ∷ older) i i ≡ pairs_before older i i + cond e (in_past (m ∷ older) i m.id) 0 → pairs_before older i i ≡ n * (n - 1) / 2
        → pairs_before (m ∷ older) i i ≡ elim e [ true ↦ suc n | false ↦ n ] * (elim e [ true ↦ suc n | false ↦ n ] - 1) / 2
    go true q a ih =
        let o : in_past (m ∷ older) i m.id ≡ n = rw (eqb→eq i m.id.desk (rw q tt)) (own_all m older s) in
        let k = next n in
        omega arith
    go false q a ih = omega arith

all_pairs : (l : List Mark) → CausallyOrdered l → (i j : ℕ) → (i ≡ j → ⊥) → pairs_apart l i j + pairs_before l i j + pairs_before l j i ≡ tally i (ids l) * tally j (ids l)
unfolding pairs_apart pairs_before
all_pairs [] s i j ne = refl
all_pairs (m ∷ older) s i j ne =
    go (eqb i m.id.desk) refl (eqb j m.id.desk) refl (apart_grows m older s i j) (before_grows m older s i j) (before_grows m older s j i) (all_pairs older s.1 i j ne)
  where
    ti : ℕ
    ti = tally i (ids older)

    tj : ℕ
    tj = tally j (ids older)

    go : (b : Bool) → eqb i m.id.desk ≡ b → (c : Bool) → eqb j m.id.desk ≡ c
        → pairs_apart (m ∷ older) i j ≡ pairs_apart older i j + cond c (apart_from m older s i) 0 + cond b (apart_from m older s j) 0
        → pairs_before (m ∷ older) i j ≡ pairs_before older i j + cond c (in_past (m ∷ older) i m.id) 0
        → pairs_before (m ∷ older) j i ≡ pairs_before older j i + cond b (in_past (m ∷ older) j m.id) 0
        → pairs_apart older i j + pairs_before older i j + pairs_before older j i ≡ ti * tj
        → pairs_apart (m ∷ older) i j + pairs_before (m ∷ older) i j + pairs_before (m ∷ older) j i ≡ elim b [ true ↦ suc ti | false ↦ ti ] * elim c [ true ↦ suc tj | false ↦ tj ]
    go true p true q x y z ih = absurd (ne (eqb→eq i m.id.desk (rw p tt) ∙ sym (eqb→eq j m.id.desk (rw q tt))))
    go true p false q x y z ih = let f = past_few m older s j in let k = suc-mul ti tj in omega arith
    go false p true q x y z ih = let f = past_few m older s i in let k = mul-suc ti tj in omega arith
    go false p false q x y z ih = omega arith

few_pairs : (R : MarkId → MarkId → Bool) (l : List Mark) → length l ≤ places → (i j : ℕ) → pairs_of R (ids l) i j ≤ places * places
few_pairs R l f i j =
    let a = tally-length i l in
    let b = tally-length j l in
    let c = pairs_most R (ids l) i j in
    let d = mul-le-mul {n₁ = tally i (ids l)} {m₁ = tally j (ids l)} {n₂ = places} {m₂ = places} (omega arith) (omega arith) in
    omega arith

pub apart-most : (l : List Mark) → length l ≤ places → (i j : ℕ) → pairs_apart l i j ≤ places * places
unfolding pairs_apart
apart-most l f = few_pairs (concurrent l) l f

pub before_most : (l : List Mark) → length l ≤ places → (i j : ℕ) → pairs_before l i j ≤ places * places
unfolding pairs_before
before_most l f = few_pairs (precedes l) l f

pub pair_laws : (l : List Mark) → CausallyOrdered l → length l ≤ places → PairLaws l
pair_laws l s f = record {
  all_pairs = all_pairs l s;
  none_apart = none_apart l s;
  own_before = own_before l s;
  symmetric = apart_symmetric l s;
  apart_fits = λ i j. let h = apart-most l f i j in omega arith;
  before_fits = λ i j. let h = before_most l f i j in omega arith;
}
