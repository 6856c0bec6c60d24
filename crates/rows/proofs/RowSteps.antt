-- Steps of loops over rows, and of `under` over the marks of arrays, at rows of any width. Assumes nothing.
use Prim.Native.Nat.{◌+◌, ◌-◌, ◌<◌, ◌≤◌, max, suc, zero, ℕ}
use borrow.Author.Tests.{le-leb, le-ltb, leb-false, leb-true, lt-leb, lt-ltb}
use lib.Dec.{leb, ltb}
use lib.ListN.{get_or, length, length-set, set, take}
use lib.Seq.{get_or-set_other, get_or-set_same}
use mathlib.Core.Bool.{Bool, ◌&&◌, ◌||◌, and-false, false, true}
use mathlib.Core.List.{List, [], ◌∷◌, ◌++◌}
use mathlib.Core.Logic.{◌⊎◌, inl, inr, ⊎_elim}
use mathlib.Core.Path.{◌∙◌, ◌≡◌, ap, refl, subst, sym}
use native.Mathlib.Nat.{eq-or-lt_of_le}
use native.Mathlib.Numerals.{sub-one}
use native.Mathlib.Omega.{arith}
use Rattle.std.specs.Ordering.{nat_cmp, ord_max}
use Rattle.causality.specs.Marks.{All}
use Rattle.causality.specs.State.{Mark}
use Rattle.causality.specs.inner.Passes.{row_of, under}
use Rattle.causality.proofs.RowLaws.{row_of-entries}
use Rattle.causality.specs.Rows.{entries_of_row}
use Rattle.rows.specs.View.{Carried, mark_at, row_at, view}
use Rattle.rows.specs.inner.Slots.{Named, row_fn}
use Rattle.rows.proofs.ByRows.{row_at_lem, under_cong}
use Rattle.causality.specs.inner.Upto.{some_reached}
use Rattle.causality.proofs.Upto.{any_more, any_yes}
use Rattle.rows.proofs.Down.{down-all, down_last, down-split}

-- The first j of a row's n counts are those of f, the later ones are as at the start.
pub record Passed (n : ℕ) (f : ℕ → ℕ) (r₀ r : List ℕ) (j : ℕ) : Type 0 where
  pub turns : j ≤ n
  pub long : length r ≡ n
  pub passed : (k : ℕ) → k < j → get_or r k 0 ≡ f k
  pub rest : (k : ℕ) → j ≤ k → get_or r k 0 ≡ get_or r₀ k 0

module _ (n : ℕ) (f : ℕ → ℕ) (r₀ : List ℕ) where
  pub passed_none : length r₀ ≡ n → Passed n f r₀ r₀ 0
  passed_none e = record { turns = omega arith; long = e; passed = λ k h. let z : ⊥ = omega arith in absurd z; rest = λ k h. refl }

  -- A turn that stores one.
  pub passed-set : (r r' : List ℕ) (j v : ℕ) → Passed n f r₀ r j → j < n → r' ≡ set r j v → (get_or r j 0 ≡ get_or r₀ j 0 → v ≡ f j) → Passed n f r₀ r' (j + 1)
  passed-set r r' j v w h p e =
      let o = w.long in
      rw p (record {
        turns = omega arith;
        long = length-set r j v ∙ o;
        passed = λ k l. ⊎_elim (λ q. ap (λ (i : ℕ). get_or (set r j v) i 0) q ∙ get_or-set_same r j v 0 (omega arith) ∙ e (w.rest j (omega arith)) ∙ ap f (sym q))
            (λ q. get_or-set_other r j k v 0 (λ z. omega arith) ∙ w.passed k q) (eq-or-lt_of_le {n = k} {m = j} (omega arith));
        rest = λ k l. get_or-set_other r j k v 0 (λ z. omega arith) ∙ w.rest k (omega arith);
      })

  pub passed-all : (r : List ℕ) (j : ℕ) → Passed n f r₀ r j → n ≤ j → (k : ℕ) → k < n → get_or r k 0 ≡ f k
  passed-all r j w h k l = w.passed k (omega arith)

-- The test of two rows, count by count: a count of s is no 0 and at most that of r.
module _ (s r : List ℕ) where
  abbrev reaches : ℕ → Bool
  reaches d = ltb 0 (row_fn s d) && leb (row_fn s d) (row_fn r d)

  pub reached_more : (j : ℕ) → some_reached j (row_fn s) (row_fn r) ≡ false → (get_or s j 0 ≤ 0) ⊎ (get_or r j 0 < get_or s j 0) → some_reached (j + 1) (row_fn s) (row_fn r) ≡ false
  reached_more j e (inl h) = any_more reaches j ∙ rw (sub-one (suc j), le-ltb 0 (get_or s j 0) h, e) refl
  reached_more j e (inr h) = any_more reaches j ∙ rw (sub-one (suc j), lt-leb (get_or s j 0) (get_or r j 0) h, and-false, e) refl

  pub reached_yes : (n j : ℕ) (b : Bool) → j < n → 0 < get_or s j 0 → get_or s j 0 ≤ get_or r j 0 → true ≡ (some_reached n (row_fn s) (row_fn r) || b)
  reached_yes n j b h p l = sym (ap (λ (a : Bool). a || b) (any_yes reaches n j h (rw (sub-one (suc j), lt-ltb 0 (get_or s j 0) p, le-leb (get_or s j 0) (get_or r j 0) l) refl)))

  pub reached_no : (n j : ℕ) (a b : Bool) → j ≡ n → some_reached j (row_fn s) (row_fn r) ≡ false → a ≡ b → a ≡ (some_reached n (row_fn s) (row_fn r) || b)
  reached_no n j a b q e p = p ∙ sym (ap (λ (c : Bool). c || b) (subst (λ (i : ℕ). some_reached i (row_fn s) (row_fn r) ≡ false) q e))

-- Mark number n of a desk is counted by the greater of two counts.
pub counted-first : (n a b : ℕ) → n ≤ a → true ≡ leb n (max a b)
counted-first n a b h = sym (le-leb n (max a b) (omega arith))

pub counted-second : (n a b : ℕ) → a < n → leb n b ≡ leb n (max a b)
counted-second n a b h = go (leb n b) refl
  where
    go : (t : Bool) → leb n b ≡ t → t ≡ leb n (max a b)
    go true q = let l = leb-true n b q in sym (le-leb n (max a b) (omega arith))
    go false q = let l = leb-false n b q in sym (lt-leb n (max a b) (omega arith))

-- A mark of the first `count` is of a desk from 1 to n.
pub named-at : (n count : ℕ) (ds : List ℕ) (p : ℕ) → Named n count ds → p < count → (1 ≤ get_or ds p 0) × (get_or ds p 0 ≤ n)
unfolding Named
named-at n count ds p f h = f p h

pub named_last : (n k : ℕ) (ds : List ℕ) → Named n k ds → (k ≡ 0 → ⊥) → (1 ≤ get_or ds (k - 1) 0) × (get_or ds (k - 1) 0 ≤ n)
named_last n k ds f z = named-at n k ds (k - 1) f (omega arith)

pub named-less : (n count : ℕ) (ds : List ℕ) (p : ℕ) → Named n count ds → p ≤ count → Named n p ds
unfolding Named
named-less n count ds p f h q l = f q (omega arith)

-- Marks of named desks.
pub named-desks : (n count : ℕ) (ds ns : List ℕ) (bs : ℕ → Carried) (ss : List (List ℕ)) → Named n count ds → All (λ m. (1 ≤ m.id.desk) × (m.id.desk ≤ n)) (view n count ds ns bs ss)
unfolding view Named
named-desks n count ds ns bs ss f = down-all (mark_at n ds ns bs ss) (λ m. (1 ≤ m.id.desk) × (m.id.desk ≤ n)) count f

all_take : (P : Mark → Type 0) (k : ℕ) (l : List Mark) → All P l → All P (take k l)
all_take P zero l a = tt
all_take P (suc k) [] a = tt
all_take P (suc k) (m ∷ l) a = (a.0, all_take P k l a.1)

-- A pass over two lists is one over the first, then one over the second.
under_append : (xs ys : List Mark) (s r : ℕ → ℕ) → under (xs ++ ys) s r ≡ under ys s (under xs s r)
under_append [] ys s r = refl
under_append (m ∷ xs) ys s r = go (leb m.id.number (max (s m.id.desk) (r m.id.desk))) (under_append xs ys s up) (under_append xs ys s r)
  where
    up : ℕ → ℕ
    up d = max (r d) (row_of m.stamp d)

    go : (b : Bool) → under (xs ++ ys) s up ≡ under ys s (under xs s up) → under (xs ++ ys) s r ≡ under ys s (under xs s r)
        → (elim b as (λ z. ℕ → ℕ) [ true ↦ under (xs ++ ys) s up | false ↦ under (xs ++ ys) s r ]) ≡ under ys s (elim b as (λ z. ℕ → ℕ) [ true ↦ under xs s up | false ↦ under xs s r ])
    go true y n = y
    go false y n = n

module _ (n : ℕ) (ds ns : List ℕ) (bs : ℕ → Carried) (ss : List (List ℕ)) where
  -- The mark at the last place stands in front.
  pub view_last : (k : ℕ) → 0 < k → view n k ds ns bs ss ≡ mark_at n ds ns bs ss (k - 1) ∷ view n (k - 1) ds ns bs ss
  unfolding view
  view_last k h = down_last (mark_at n ds ns bs ss) k h

  -- So it does of the marks from a place before it on.
  pub last_between : (k to : ℕ) → to < k → take (k - to) (view n k ds ns bs ss) ≡ mark_at n ds ns bs ss (k - 1) ∷ take (k - 1 - to) (view n (k - 1) ds ns bs ss)
  last_between k to h =
      let e : k - to ≡ suc (k - 1 - to) = omega arith in
      rw (e, view_last k (omega arith)) refl

  -- The marks from a place on, then those before it, are all.
  split-view : (k to : ℕ) → to ≤ k → take (k - to) (view n k ds ns bs ss) ++ view n to ds ns bs ss ≡ view n k ds ns bs ss
  unfolding view
  split-view k to h = down-split (mark_at n ds ns bs ss) k to h

  module _ (s : ℕ → ℕ) where
    -- A mark in front of others is covered, and its row is joined.
    pub under_joined : (p : ℕ) (l : List Mark) → All (λ m. (1 ≤ m.id.desk) × (m.id.desk ≤ n)) l → (row row' : List ℕ)
        → leb (get_or ns p 0) (max (s (get_or ds p 0)) (row_fn row (get_or ds p 0))) ≡ true → ((j : ℕ) → j < n → get_or row' j 0 ≡ max (get_or row j 0) (get_or (get_or ss p []) j 0))
        → (d : ℕ) → 1 ≤ d → d ≤ n → under l s (row_fn row') d ≡ under (mark_at n ds ns bs ss p ∷ l) s (row_fn row) d
    under_joined p l a row row' q h d lo hi = rw (q, under) (under_cong n l a s s (row_fn row') (λ d. max (row_fn row d) (row_of (entries_of_row n (row_at ss p)) d)) (λ d lo hi. refl)
        (λ d lo hi. h (d - 1) (omega arith) ∙ ap (λ (x : ℕ). max (row_fn row d) x) (sym (row_of-entries n (row_at ss p) d lo hi))) d lo hi)

    -- It is not covered.
    pub under-passed : (p : ℕ) (l : List Mark) (row : List ℕ) → leb (get_or ns p 0) (max (s (get_or ds p 0)) (row_fn row (get_or ds p 0))) ≡ false
        → (d : ℕ) → under l s (row_fn row) d ≡ under (mark_at n ds ns bs ss p ∷ l) s (row_fn row) d
    under-passed p l row q d = rw (q, under) refl

    -- The pass down to a place: that place is reached.
    pub pass_ended : (k to : ℕ) (row : List ℕ) → k ≤ to → (j : ℕ) → get_or row j 0 ≡ under (take (k - to) (view n k ds ns bs ss)) s (row_fn row) (suc j)
    pass_ended k to row l j = let e : k - to ≡ 0 = omega arith in rw (e, sub-one (suc j)) refl

    -- One mark: its row is joined, or it is not covered and the row stays.
    alone : (p : ℕ) → take (suc p - p) (view n (suc p) ds ns bs ss) ≡ mark_at n ds ns bs ss p ∷ []
    unfolding view
    alone p = let e : suc p - p ≡ 1 = omega arith in rw e refl

    pub one-turn : (p : ℕ) (row row' : List ℕ)
        → ((leb (get_or ns p 0) (max (s (get_or ds p 0)) (row_fn row (get_or ds p 0))) ≡ true) × ((j : ℕ) → j < n → get_or row' j 0 ≡ max (get_or row j 0) (get_or (get_or ss p []) j 0)))
        ⊎ ((leb (get_or ns p 0) (max (s (get_or ds p 0)) (row_fn row (get_or ds p 0))) ≡ false) × (row' ≡ row))
        → (j : ℕ) → j < n → get_or row' j 0 ≡ under (take (suc p - p) (view n (suc p) ds ns bs ss)) s (row_fn row) (suc j)
    one-turn p row row' (inl w) j l = rw (alone p) (ap (λ (k : ℕ). get_or row' k 0) (sym (sub-one (suc j))) ∙ under_joined p [] tt row row' w.0 w.1 (suc j) (omega arith) l)
    one-turn p row row' (inr w) j l = rw w.1 (rw (alone p) (ap (λ (k : ℕ). get_or row k 0) (sym (sub-one (suc j))) ∙ under-passed p [] row w.0 (suc j)))

    -- A pass over some marks left a row; one over others goes on from it.
    pass_on : (xs ys : List Mark) → All (λ m. (1 ≤ m.id.desk) × (m.id.desk ≤ n)) ys → (row row' : List ℕ) → ((j : ℕ) → j < n → get_or row' j 0 ≡ under xs s (row_fn row) (suc j))
        → (d : ℕ) → 1 ≤ d → d ≤ n → under ys s (row_fn row') d ≡ under (xs ++ ys) s (row_fn row) d
    pass_on xs ys a row row' e d lo hi = under_cong n ys a s s (row_fn row') (under xs s (row_fn row)) (λ c p q. refl) (row_at_lem n row' (under xs s (row_fn row)) e) d lo hi
        ∙ ap (λ (g : ℕ → ℕ). g d) (sym (under_append xs ys s (row_fn row)))

    -- The mark at the last place, then the pass over those before it.
    pub pass_step : (k to : ℕ) → to < k → Named n k ds → (row row' : List ℕ)
        → ((j : ℕ) → j < n → get_or row' j 0 ≡ under (take (suc (k - 1) - (k - 1)) (view n (suc (k - 1)) ds ns bs ss)) s (row_fn row) (suc j)) → (d : ℕ) → 1 ≤ d → d ≤ n
        → under (take (k - 1 - to) (view n (k - 1) ds ns bs ss)) s (row_fn row') d ≡ under (take (k - to) (view n k ds ns bs ss)) s (row_fn row) d
    pass_step k to h f row row' e d lo hi =
        pass_on (take (suc (k - 1) - (k - 1)) (view n (suc (k - 1)) ds ns bs ss)) rest (all_take (λ m. (1 ≤ m.id.desk) × (m.id.desk ≤ n)) (k - 1 - to) (view n (k - 1) ds ns bs ss)
        (named-desks n (k - 1) ds ns bs ss (named-less n k ds (k - 1) f (omega arith)))) row row' e d lo hi
        ∙ ap (λ (x : List Mark). under x s (row_fn row) d) (ap (λ (x : List Mark). x ++ rest) (alone (k - 1)) ∙ sym (last_between k to h))
      where
        rest : List Mark
        rest = take (k - 1 - to) (view n (k - 1) ds ns bs ss)

    -- A pass down to a place, and the pass over the marks before it gives what the whole pass gives.
    pub pass_rest : (k to : ℕ) → to ≤ k → Named n k ds → (row row' : List ℕ)
        → ((j : ℕ) → j < n → get_or row' j 0 ≡ under (take (k - to) (view n k ds ns bs ss)) s (row_fn row) (suc j))
        → (d : ℕ) → 1 ≤ d → d ≤ n → under (view n to ds ns bs ss) s (row_fn row') d ≡ under (view n k ds ns bs ss) s (row_fn row) d
    pass_rest k to h f row row' e d lo hi =
        pass_on (take (k - to) (view n k ds ns bs ss)) (view n to ds ns bs ss) (named-desks n to ds ns bs ss (named-less n k ds to f h)) row row' e d lo hi
        ∙ ap (λ (x : List Mark). under x s (row_fn row) d) (split-view k to h)

-- `a.max(b)` of counts.
pub max-is : (a b : ℕ) → ord_max nat_cmp a b ≡ max a b
max-is a b = grind arith
