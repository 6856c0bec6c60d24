-- What desk and plain machine share, each pinned by a law: the theorem that compares the two cannot see what both would get wrong alike. Of `lowest` it is
-- `lowest_least` in Lists.antt. Assumes nothing.
use Prim.Native.Nat.{◌+◌, ◌<◌, ◌≤◌, suc, ℕ}
use lib.Dec.{T, eqb, leb, leb→le, ltb, nleb→lt}
use lib.ListN.{length}
use mathlib.Core.Bool.{Bool, cond, false, not, true}
use mathlib.Core.List.{List, [], ◌∷◌}
use mathlib.Core.Logic.{◌↔◌}
use mathlib.Core.Option.{Option, none, some}
use mathlib.Core.Path.{◌≡◌, ap, refl}
use native.Mathlib.Omega.{arith}
use Rattle.frame.specs.declared.MarkBox.{MarkBox}
use Rattle.frame.specs.Names.{MarkId, box_rule, numbers}
use Rattle.causality.specs.Marks.{All, find, insert, keep, places, rising, same, tally, without}
use Rattle.causality.proofs.Lists.{all_map}
use Rattle.causality.proofs.Logic.{and_yes, leb_yes, ltb_yes, yes_and, yes_leb, yes_ltb}

-- places: a desk that may hold so many marks has a number for each.
pub places-numbers : places ≤ numbers
places-numbers = omega arith

-- box_rule: start ≤ end, and low < high.
pub box_rule_lem : (b : MarkBox) → T (box_rule b) ↔ ((b.start ≤ b.end) × (b.low < b.high))
unfolding box_rule
box_rule_lem b =
    let times = leb b.start b.end in
    let pitches = ltb b.low b.high in (
      λ t. (leb_yes (and_yes times pitches t).0, ltb_yes (and_yes times pitches t).1),
      λ p. yes_and times pitches (yes_leb p.0) (yes_ltb p.1),
    )

-- tally: how many of the names are of desk d.
pub tally-counts : (d : ℕ) (is : List MarkId) → tally d is ≡ length (keep (λ i. eqb d i.desk) is)
tally-counts d [] = refl
tally-counts d (i ∷ is) = go (eqb d i.desk) (tally-counts d is)
  where
    rest : List MarkId
    rest = keep (λ i. eqb d i.desk) is

    go : (b : Bool) → tally d is ≡ length rest → elim b [ true ↦ suc (tally d is) | false ↦ tally d is ] ≡ length (cond b (i ∷ rest) rest)
    go true ih = ap suc ih
    go false ih = ih

-- rising: the same names, each as often (as many pass any test), by rising desk.
module _ (p : MarkId → Bool) where
  keep-first : (x : MarkId) (xs : List MarkId) → length (keep p (x ∷ xs)) ≡ elim (p x) [ true ↦ 1 | false ↦ 0 ] + length (keep p xs)
  keep-first x xs = go (p x)
    where
      go : (b : Bool) → length (cond b (x ∷ keep p xs) (keep p xs)) ≡ elim b [ true ↦ 1 | false ↦ 0 ] + length (keep p xs)
      go true = omega arith
      go false = omega arith

  insert_keeps : (e : MarkId) (fs : List MarkId) → length (keep p (insert e fs)) ≡ length (keep p (e ∷ fs))
  insert_keeps e [] = refl
  insert_keeps e (f ∷ fs) = go (leb e.desk f.desk) (insert_keeps e fs)
    where
      go : (b : Bool) → length (keep p (insert e fs)) ≡ length (keep p (e ∷ fs))
          → length (keep p (elim b [ true ↦ e ∷ f ∷ fs | false ↦ f ∷ insert e fs ])) ≡ length (keep p (e ∷ f ∷ fs))
      go true ih = refl
      go false ih = omega (arith, keep-first f (insert e fs), keep-first e fs, keep-first e (f ∷ fs), keep-first f fs)

  pub rising_keeps : (xs : List MarkId) → length (keep p (rising xs)) ≡ length (keep p xs)
  rising_keeps [] = refl
  rising_keeps (e ∷ es) = omega (arith, insert_keeps e (rising es), keep-first e (rising es), rising_keeps es, keep-first e es)

abbrev pub Rising : List MarkId → Type 0
Rising [] = Unit {0}
Rising (e ∷ es) = All (λ f. e.desk ≤ f.desk) es × Rising es

insert_all : (P : MarkId → Type 0) (e : MarkId) (fs : List MarkId) → P e → All P fs → All P (insert e fs)
insert_all P e [] q a = (q, tt)
insert_all P e (f ∷ fs) q a = go (leb e.desk f.desk) (insert_all P e fs q a.1)
  where
    go : (b : Bool) → All P (insert e fs) → All P (elim b [ true ↦ e ∷ f ∷ fs | false ↦ f ∷ insert e fs ])
    go true ih = (q, a)
    go false ih = (a.0, ih)

insert-rising : (e : MarkId) (fs : List MarkId) → Rising fs → Rising (insert e fs)
insert-rising e [] r = (tt, tt)
insert-rising e (f ∷ fs) r = go (leb e.desk f.desk) refl (insert-rising e fs r.1)
  where
    go : (b : Bool) → leb e.desk f.desk ≡ b → Rising (insert e fs) → Rising (elim b [ true ↦ e ∷ f ∷ fs | false ↦ f ∷ insert e fs ])
    go true q ih = let l = leb→le e.desk f.desk (rw q tt) in ((l, all_map (λ g h. omega arith) fs r.0), r)
    go false q ih = let l = nleb→lt e.desk f.desk (rw q tt) in (insert_all (λ g. f.desk ≤ g.desk) e fs (omega arith) r.0, ih)

pub rising_rises : (xs : List MarkId) → Rising (rising xs)
rising_rises [] = tt
rising_rises (e ∷ es) = insert-rising e (rising es) (rising_rises es)

-- Of things that are named by marks.
module _ {A : Type 0} (name_of : A → MarkId) where
  -- find: the first of that name.
  abbrev pub first : List A → Option A
  first [] = none
  first (w ∷ ws) = some w

  pub find_first : (i : MarkId) (ws : List A) → find name_of i ws ≡ first (keep (λ w. same i (name_of w)) ws)
  find_first i [] = refl
  find_first i (w ∷ ws) = go (same i (name_of w)) (find_first i ws)
    where
      rest : List A
      rest = keep (λ w. same i (name_of w)) ws

      go : (b : Bool) → find name_of i ws ≡ first rest → elim b [ true ↦ some w | false ↦ find name_of i ws ] ≡ first (cond b (w ∷ rest) rest)
      go true ih = refl
      go false ih = ih

  -- without: those of other names, in their order.
  pub without_keeps : (i : MarkId) (ws : List A) → without name_of i ws ≡ keep (λ w. not (same i (name_of w))) ws
  without_keeps i [] = refl
  without_keeps i (w ∷ ws) = go (same i (name_of w)) (without_keeps i ws)
    where
      rest : List A
      rest = keep (λ w. not (same i (name_of w))) ws

      go : (b : Bool) → without name_of i ws ≡ rest → elim b [ true ↦ without name_of i ws | false ↦ w ∷ without name_of i ws ] ≡ cond (not b) (w ∷ rest) rest
      go true ih = ih
      go false ih = ap (λ (l : List A). w ∷ l) ih
