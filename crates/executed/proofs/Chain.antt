-- The chain of a desk's places, from each mark to the desk's previous one, and finding a mark by it. Assumes nothing.
use Prim.Native.Nat.{◌-◌, ◌<◌, ◌≤◌, suc, zero, ℕ}
use lib.Dec.{T, T_not, eqb, eqb→eq, not_T}
use lib.ListN.{get_or, length}
use mathlib.Core.Bool.{Bool, false, not, true}
use mathlib.Core.List.{List, [], ◌∷◌}
use mathlib.Core.Logic.{◌⊎◌, inl, inr, ⊎_elim}
use mathlib.Core.Option.{Option, none, some}
use mathlib.Core.Path.{◌∙◌, ◌≡◌, ap, refl, subst, sym}
use native.Mathlib.Omega.{arith}
use Rattle.std.specs.Prelude.{Option as Maybe, None, Some}
use Rattle.frame.specs.Names.{MarkId}
use Rattle.causality.specs.declared.Place.{Place}
use Rattle.causality.specs.Marks.{find, has, places, same, tally}
use Rattle.causality.specs.State.{Mark, ids, mark_id}
use Rattle.causality.proofs.Lists.{find-has, is_some}
use Rattle.causality.proofs.Logic.{T→eq, nT→eq, or_yes, same_refl, same→eq, split}
use Rattle.causality.proofs.Past.{fresh_of, prefix_has, prefix_le, tally-same}
use Rattle.causality.specs.inner.Order.{Consecutive, CausallyOrdered}
use Rattle.executed.specs.inner.Rows.{Chain, Chained, Finds, Lent, LentTo, PlaceOf, Rows, last_in, place_in}
use Rattle.rows.proofs.Columns.{eq→eqb}
use Rattle.executed.proofs.Keeping.{ids-length}
use Rattle.rows.specs.declared.Executed.{Executed}
use Rattle.rows.specs.Executed.{executed_in}
use Rattle.rows.specs.View.{Carried, carried_at, mark_at, names_down, view, width}
use Rattle.rows.specs.inner.Slots.{Named, place_at}
use Rattle.rows.proofs.Arrays.{view-length}
use Rattle.rows.proofs.Places.{ids-names, named-has}
use Rattle.causality.proofs.Reach.{sound_counted}
use borrow.Author.Tests.{lt-ltb}

abbrev name : ℕ → ℕ → MarkId
name d n = record { desk = d; number = n }

place_here : (i : MarkId) (is : List MarkId) (a : MarkId) → a ≡ i → place_in (i ∷ is) a ≡ suc (length is)
place_here i is a e = rw (T→eq (same a i) (subst (λ (x : MarkId). T (same a x)) e (same_refl a)), place_in) refl

place_there : (i : MarkId) (is : List MarkId) (a : MarkId) → (a ≡ i → ⊥) → place_in (i ∷ is) a ≡ place_in is a
place_there i is a f = rw (nT→eq (same a i) (not_T (same a i) (λ t. f (same→eq a i t))), place_in) refl

-- A name that is listed has a place.
pub place-some : (is : List MarkId) (a : MarkId) → T (has a is) → (1 ≤ place_in is a) × (place_in is a ≤ length is)
place-some [] a t = absurd t
place-some (i ∷ is) a t = elim (split (same a i)) [
  | inl s ↦ let e = place_here i is a (same→eq a i s) in (omega arith, omega arith)
  | inr s ↦ elim (or_yes (same a i) (has a is) t) [
    | inl u ↦ absurd (T_not (same a i) s u)
    | inr u ↦ let e = place_there i is a (λ q. T_not (same a i) s (subst (λ (x : MarkId). T (same a x)) q (same_refl a))) in let r = place-some is a u in (omega arith, omega arith)
  ]
]

-- The last mark of a desk is the one of the number of its tally.
pub last_place : (d : ℕ) (is : List MarkId) → Consecutive is → 1 ≤ tally d is → last_in d is ≡ place_in is (name d (tally d is))
last_place d [] c p = refl
last_place d (i ∷ is) c p = go (split (eqb d i.desk)) (last_place d is c.1)
  where
    go : T (eqb d i.desk) ⊎ T (not (eqb d i.desk)) → (1 ≤ tally d is → last_in d is ≡ place_in is (name d (tally d is))) → last_in d (i ∷ is) ≡ place_in (i ∷ is) (name d (tally d (i ∷ is)))
    go (inl t) ih =
        let e : d ≡ i.desk = eqb→eq d i.desk t in
        let n : tally d (i ∷ is) ≡ i.number = tally-same d i is e ∙ ap (λ (k : ℕ). suc (tally k is)) e ∙ sym c.0 in
        let z : name d (tally d (i ∷ is)) ≡ i = λ k. record { desk = e k; number = n k } in
        rw (T→eq (eqb d i.desk) t, last_in) (sym (place_here i is (name d (tally d (i ∷ is))) z))
    go (inr t) ih =
        let n : tally d (i ∷ is) ≡ tally d is = rw (nT→eq (eqb d i.desk) t, tally) refl in
        let ne : name d (tally d (i ∷ is)) ≡ i → ⊥ = λ z. T_not (eqb d i.desk) t (eq→eqb d i.desk (ap (λ (x : MarkId). x.desk) z)) in
        rw (nT→eq (eqb d i.desk) t, last_in) (ih (omega arith) ∙ ap (λ (k : ℕ). place_in is (name d k)) (sym n) ∙ sym (place_there i is (name d (tally d (i ∷ is))) ne))

-- From the place of d.n the chain leads to that of d.(n − 1).
pub chain-step : (d n : ℕ) (is : List MarkId) (bf : List ℕ) → Consecutive is → Chained is bf → 1 ≤ n → suc n ≤ tally d is → get_or bf (place_in is (name d (suc n)) - 1) 0 ≡ place_in is (name d n)
chain-step d n [] bf c h p q = let z : ⊥ = omega arith in absurd z
chain-step d n (i ∷ is) bf c h p q = go (split (same a i)) (chain-step d n is bf c.1 h.1 p)
  where
    a : MarkId
    a = name d (suc n)

    go : T (same a i) ⊎ T (not (same a i)) → (suc n ≤ tally d is → get_or bf (place_in is a - 1) 0 ≡ place_in is (name d n)) → get_or bf (place_in (i ∷ is) a - 1) 0 ≡ place_in (i ∷ is) (name d n)
    go (inl t) ih =
        let e = same→eq a i t in
        let u : d ≡ i.desk = ap (λ (x : MarkId). x.desk) e in
        let v : suc n ≡ i.number = ap (λ (x : MarkId). x.number) e in
        let w : tally d is ≡ n = let x : suc n ≡ suc (tally d is) = v ∙ c.0 ∙ ap (λ (k : ℕ). suc (tally k is)) (sym u) in omega arith in
        let ne : name d n ≡ i → ⊥ = λ z. let y : n ≡ i.number = ap (λ (x : MarkId). x.number) z in omega arith in
        let here = place_here i is a e in
        let at : place_in (i ∷ is) a - 1 ≡ length is = omega arith in
        ap (λ (k : ℕ). get_or bf k 0) at ∙ h.0 ∙ ap (λ (k : ℕ). last_in k is) (sym u) ∙ last_place d is c.1 (omega arith) ∙ ap (λ (k : ℕ). place_in is (name d k)) w ∙ sym (place_there i is (name d n) ne)
    go (inr t) ih =
        let ne : a ≡ i → ⊥ = λ z. T_not (same a i) t (subst (λ (x : MarkId). T (same a x)) z (same_refl a)) in
        let low : suc n ≤ tally d is = (prefix_le is c.1 a (listed (or_yes (same a i) (has a is) (prefix_has (i ∷ is) c a (omega arith) q)))).1 in
        let old : T (has (name d n) is) = prefix_has is c.1 (name d n) p (omega arith) in
        let ne' : name d n ≡ i → ⊥ = λ z. fresh_of i is c (subst (λ (x : MarkId). T (has x is)) z old) in
        ap (λ (k : ℕ). get_or bf (k - 1) 0) (place_there i is a ne) ∙ ih low ∙ sym (place_there i is (name d n) ne')
      where
        listed : T (same a i) ⊎ T (has a is) → T (has a is)
        listed (inl s) = absurd (T_not (same a i) t s)
        listed (inr s) = s

-- A name that is not listed has no place.

-- The walk down the chain of the desk at index j of the rows.
module _ (is : List MarkId) (ts ls bf : List ℕ) (c : Chain is ts ls bf) (j : ℕ) (l : j < width) where
  -- A number that the desk has made has a place.
  pub chain-place : (n : ℕ) → 1 ≤ n → n ≤ get_or ts j 0 → (1 ≤ place_in is (name (suc j) n)) × (place_in is (name (suc j) n) ≤ places)
  chain-place n p q =
      let m = c.tally j l in
      let r = place-some is (name (suc j) n) (prefix_has is c.counted (name (suc j) n) p (omega arith)) in
      let f = c.few in
      (r.0, omega arith)

  pub chain_start : 1 ≤ get_or ts j 0 → get_or ls j 0 ≡ place_in is (name (suc j) (get_or ts j 0))
  chain_start p = let m = c.tally j l in c.last j l ∙ last_place (suc j) is c.counted (omega arith) ∙ ap (λ (k : ℕ). place_in is (name (suc j) k)) (sym m)

  pub chain_next : (n k q : ℕ) → 1 ≤ n → n < k → k ≤ get_or ts j 0 → q ≡ place_in is (name (suc j) k) → get_or bf (q - 1) 0 ≡ place_in is (name (suc j) (k - 1))
  chain_next n zero q o p h e = let z : ⊥ = omega arith in absurd z
  chain_next n (suc k) q o p h e =
      let m = c.tally j l in
      let z : suc k - 1 ≡ k = omega arith in
      ap (λ (x : ℕ). get_or bf (x - 1) 0) e ∙ chain-step (suc j) k is bf c.counted c.before (omega arith) (omega arith) ∙ ap (λ (x : ℕ). place_in is (name (suc j) x)) (sym z)

-- What the walk comes to.
module _ (is : List MarkId) (ts ls bf : List ℕ) (c : Chain is ts ls bf) (a : MarkId) where
  -- Not of a desk, not made yet, or no number.
  pub none_of : ((1 ≤ a.desk) × (a.desk ≤ width) → (a.number < 1) ⊎ (get_or ts (a.desk - 1) 0 < a.number)) → PlaceOf is a None
  none_of f = nT→eq (has a is) (not_T (has a is) absent)
    where
      absent : T (has a is) → ⊥
      absent t =
          let r = c.named a t in
          let p = prefix_le is c.counted a t in
          let z : suc (a.desk - 1) ≡ a.desk = omega arith in
          let m : get_or ts (a.desk - 1) 0 ≡ tally a.desk is = c.tally (a.desk - 1) (omega arith) ∙ ap (λ (k : ℕ). tally k is) z in
          ⊎_elim (λ x. omega arith) (λ x. omega arith) (f r)

  pub place_of : (p : ℕ) → 1 ≤ p → p ≤ places → p ≡ place_in is a → PlaceOf is a (Some (record { 0 = p - 1 }))
  place_of p l h e = (omega arith, sym e ∙ (let z : p ≡ suc (p - 1) = omega arith in z))

-- PLACES AS INDICES OF THE COLUMNS

-- The mark whose name has a place stands there. w: how many counts a row has.
module _ (w : ℕ) (ds ns : List ℕ) (bs : ℕ → Carried) (ss : List (List ℕ)) where
  at_place : (count : ℕ) (a : MarkId) (p : ℕ) → place_in (ids (view w count ds ns bs ss)) a ≡ suc p → (p < count) × (find mark_id a (view w count ds ns bs ss) ≡ some (mark_at w ds ns bs ss p))
  unfolding view
  at_place zero a p e = let z : ⊥ = omega arith in absurd z
  at_place (suc k) a p e = go (same a (mark_at w ds ns bs ss k).id) e (at_place k a p)
    where
      l : List Mark
      l = view w k ds ns bs ss

      go : (b : Bool) → (elim b as (λ x. ℕ) [ true ↦ suc (length (ids l)) | false ↦ place_in (ids l) a ]) ≡ suc p
          → (place_in (ids l) a ≡ suc p → (p < k) × (find mark_id a l ≡ some (mark_at w ds ns bs ss p)))
          → (p < suc k) × ((elim b as (λ x. Option Mark) [ true ↦ some (mark_at w ds ns bs ss k) | false ↦ find mark_id a l ]) ≡ some (mark_at w ds ns bs ss p))
      go true e ih = let n = ids-length l ∙ view-length w k ds ns bs ss in let z : k ≡ p = omega arith in (omega arith, ap (λ (x : ℕ). some (mark_at w ds ns bs ss x)) z)
      go false e ih = let r = ih e in (omega (arith, r.0), r.1)

-- EXECUTED MARKS THAT ARE LENT

-- Those of marks that stand behind what they follow.
pub lent_of : (a : Executed) → Rows (executed_in a) a.tally a.heads a.last a.before → CausallyOrdered (executed_in a) → Named width a.count a.desks → a.count ≤ places → Lent a
lent_of a r s f h =
    let bs = carried_at a.boxes a.pasts in
    record {
      few = h;
      named = f;
      chain = subst (λ (is : List MarkId). Chain is a.tally a.last a.before) (ids-names width a.desks a.numbers bs a.stamps a.count) (record {
        counted = sound_counted (executed_in a) s;
        few = let n = ids-length (executed_in a) ∙ view-length width a.count a.desks a.numbers bs a.stamps in omega arith;
        named = named-has width a.desks a.numbers bs a.stamps a.count f;
        tally = r.tally;
        last = r.last;
        before = r.before;
      });
    }

-- A place that is found is that of the mark, and else the mark is not executed. The names alone tell it.
module _ (count : ℕ) (a : Executed) (l : LentTo count a) (i : MarkId) where
  names : (bs : ℕ → Carried) (ss : List (List ℕ)) (r : Maybe Place) → Finds a i r → PlaceOf (ids (view width count a.desks a.numbers bs ss)) i r
  names bs ss r f = rw (ids-names width a.desks a.numbers bs ss count) (f (names_down count a.desks a.numbers) l.chain)

  pub found_inside : (p : Place) → Finds a i (Some p) → p.0 < count
  found_inside p f = (at_place width a.desks a.numbers (carried_at [] []) [] count i p.0 (names (carried_at [] []) [] (Some p) f).1).0

  pub found-place : (p : Place) → Finds a i (Some p) → (bs : ℕ → Carried) (ss : List (List ℕ))
      → place_at width count p.0 a.desks a.numbers bs ss ≡ find mark_id i (view width count a.desks a.numbers bs ss)
  unfolding place_at
  found-place p f bs ss = let h = at_place width a.desks a.numbers bs ss count i p.0 (names bs ss (Some p) f).1 in rw (lt-ltb p.0 count h.0, place_at) (sym h.1)

  pub found-mark : (p : Place) → Finds a i (Some p) → (bs : ℕ → Carried) (ss : List (List ℕ))
      → find mark_id i (view width count a.desks a.numbers bs ss) ≡ some (mark_at width a.desks a.numbers bs ss p.0)
  found-mark p f bs ss = (at_place width a.desks a.numbers bs ss count i p.0 (names bs ss (Some p) f).1).1

  pub found-absent : Finds a i None → (bs : ℕ → Carried) (ss : List (List ℕ)) → has i (ids (view width count a.desks a.numbers bs ss)) ≡ false
  found-absent f bs ss = names bs ss None f

  pub found-nowhere : Finds a i None → (bs : ℕ → Carried) (ss : List (List ℕ)) → find mark_id i (view width count a.desks a.numbers bs ss) ≡ none
  found-nowhere f bs ss = go (find mark_id i (view width count a.desks a.numbers bs ss))
      (sym (find-has mark_id i (view width count a.desks a.numbers bs ss)) ∙ names bs ss None f)
    where
      go : (o : Option Mark) → is_some o ≡ false → o ≡ none
      go none e = refl
      go (some m) e = let z : ◌≡◌ {A = ℕ} 0 1 = cc in absurd (omega arith)
