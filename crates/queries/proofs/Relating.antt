-- Relate by the places of the two marks: only the earlier one can precede the other. n: how many desks. Assumes nothing.
use Prim.Native.Nat.{◌<◌, ℕ}
use lib.Dec.{T, not_T}
use mathlib.Core.Bool.{Bool, ◌&&◌, false, not, true}
use mathlib.Core.List.{List}
use mathlib.Core.Path.{◌∙◌, ◌≡◌, ap, refl, subst, sym}
use native.Mathlib.Omega.{arith}
use Rattle.std.specs.Prelude.{None, Some}
use Rattle.frame.specs.Answer.{Answer, gives, refuse_if, refused}
use Rattle.frame.specs.Names.{MarkId}
use Rattle.causality.specs.Answers.{After, Before, Concurrent, Relation, Same}
use Rattle.causality.specs.Calls.{relate}
use Rattle.causality.specs.Kinds.{relate_by}
use Rattle.causality.specs.declared.Place.{Place}
use Rattle.causality.specs.Marks.{find, has, places, same}
use Rattle.causality.specs.State.{Mark, State, ids, mark_id, precedes}
use Rattle.causality.proofs.Logic.{T→eq, nT→eq, same_refl, same→eq}
use Rattle.causality.specs.inner.Order.{CausallyOrdered}
use Rattle.executed.specs.inner.Rows.{Finds, HasChain, LentTo}
use Rattle.executed.proofs.Chain.{found-absent, found_inside, found-place}
use Rattle.rows.specs.declared.Executed.{Executed}
use Rattle.rows.specs.Executed.{marks_with}
use Rattle.rows.specs.View.{Carried, name_at, view, width}
use Rattle.rows.specs.inner.Slots.{Named, place_at}
use Rattle.rows.proofs.RowSteps.{named-less}
use Rattle.rows.proofs.Places.{found_some, has-at, not_before, precedes_no_earlier}
use Rattle.queries.specs.inner.Lent.{HasLent, queried_state}
use Rattle.queries.specs.inner.Steps.{PrecedesAt}

-- The answer by the five tests.
relate_as : (st : State) (a b : MarkId) (x y s u v : Bool) → has a (ids st.executed) ≡ x → has b (ids st.executed) ≡ y → same a b ≡ s
    → precedes st.executed a b ≡ u → precedes st.executed b a ≡ v
    → relate st a b ≡ refuse_if (not (x && y)) 12 (gives (elim s [ true ↦ Same | false ↦ elim u [ true ↦ Before | false ↦ elim v [ true ↦ After | false ↦ Concurrent ] ] ]))
unfolding relate_by
relate_as st a b x y s u v ex ey es eu ev =
    λ i. refuse_if (not (ex i && ey i)) 12 (gives (elim (es i) [ true ↦ Same | false ↦ elim (eu i) [ true ↦ Before | false ↦ elim (ev i) [ true ↦ After | false ↦ Concurrent ] ] ]))

-- One of them is not executed.
module _ (st : State) (a b : MarkId) where
  no_first : has a (ids st.executed) ≡ false → relate st a b ≡ refused 12
  no_first h = relate_as st a b false _ _ _ _ h refl refl refl refl

  no_second : has b (ids st.executed) ≡ false → relate st a b ≡ refused 12
  no_second h = relate_as st a b _ false _ _ _ refl h refl refl refl ∙ none_of _ (has a (ids st.executed))
    where
      none_of : (z : Answer Relation) (x : Bool) → refuse_if (not (x && false)) 12 z ≡ refused 12
      none_of z true = refl
      none_of z false = refl

module _ (n count : ℕ) (ds ns : List ℕ) (bs : ℕ → Carried) (ss : List (List ℕ)) (own : ℕ) (waiting : List Mark) where
  abbrev st : State
  st = record { own = own; executed = view n count ds ns bs ss; waiting = waiting }

  -- Mark a is found at place p.
  abbrev FoundAt : MarkId → ℕ → Type 0
  FoundAt a p = place_at n count p ds ns bs ss ≡ find mark_id a (view n count ds ns bs ss)

  module _ (a b : MarkId) (p q : ℕ) (fa : FoundAt a p) (fb : FoundAt b q) where
    module _ (h : p < count) (l : q < count) where
      first : (name_at ds ns p ≡ a) × (has a (ids st.executed) ≡ true)
      first = let x = found_some n ds ns bs ss count p a h fa in (x.1, T→eq (has a (ids st.executed)) x.2)

      second : (name_at ds ns q ≡ b) × (has b (ids st.executed) ≡ true)
      second = let x = found_some n ds ns bs ss count q b l fb in (x.1, T→eq (has b (ids st.executed)) x.2)

      same_place : p ≡ q → relate st a b ≡ gives Same
      same_place e =
          let c : a ≡ b = sym first.0 ∙ ap (name_at ds ns) e ∙ second.0 in
          relate_as st a b true true true _ _ first.1 second.1 (T→eq (same a b) (rw c (same_refl b))) refl refl

      module _ (s : CausallyOrdered (view n count ds ns bs ss)) where
        -- The answer for marks at different places.
        differing : (u v : Bool) → (a ≡ b → ⊥) → precedes st.executed (name_at ds ns p) (name_at ds ns q) ≡ u → precedes st.executed (name_at ds ns q) (name_at ds ns p) ≡ v
            → relate st a b ≡ gives (elim u [ true ↦ Before | false ↦ elim v [ true ↦ After | false ↦ Concurrent ] ])
        differing u v f eu ev =
            relate_as st a b true true false u v first.1 second.1 (nT→eq (same a b) (not_T (same a b) (λ t. f (same→eq a b t))))
            ((λ i. precedes st.executed (sym first.0 i) (sym second.0 i)) ∙ eu) ((λ i. precedes st.executed (sym second.0 i) (sym first.0 i)) ∙ ev)

        -- The first stands before the second.
        forward : p < q → (u : Bool) → u ≡ precedes st.executed (name_at ds ns p) (name_at ds ns q) → relate st a b ≡ gives (elim u [ true ↦ Before | false ↦ Concurrent ])
        forward o u e = differing u false
            (λ c. not_before n ds ns bs ss count q q s l (omega arith) (subst (λ (i : MarkId). T (has i (ids (view n q ds ns bs ss)))) (first.0 ∙ c ∙ sym second.0) (has-at n ds ns bs ss q p o)))
            (sym e) (precedes_no_earlier n ds ns bs ss count q p s l (omega arith))

        -- The second stands before the first.
        back : q < p → (v : Bool) → v ≡ precedes st.executed (name_at ds ns q) (name_at ds ns p) → relate st a b ≡ gives (elim v [ true ↦ After | false ↦ Concurrent ])
        back o v e = differing false v
            (λ c. not_before n ds ns bs ss count p p s h (omega arith) (subst (λ (i : MarkId). T (has i (ids (view n p ds ns bs ss)))) (second.0 ∙ sym c ∙ sym first.0) (has-at n ds ns bs ss p q o)))
            (precedes_no_earlier n ds ns bs ss count p q s h (omega arith)) (sym e)

-- EXECUTED MARKS THAT ARE LENT

-- They can be searched.
pub lent_chain : (e : Executed) → HasLent e → HasChain e
lent_chain e l = record { names = _; chain = l.marks.chain }

-- The marks below the place of one that is found are of desks.
pub named_found : (count : ℕ) (e : Executed) → LentTo count e → (a : MarkId) (p : Place) → Finds e a (Some p) → (p.0 < places) × Named width p.0 e.desks
named_found count e l a p f =
    let i = found_inside count e l a p f in
    let few = l.few in
    (omega arith, named-less width count e.desks p.0 l.named (omega arith))

module _ (count : ℕ) (e : Executed) (l : LentTo count e) (own : ℕ) (bs : ℕ → Carried) (waiting : List Mark) (a b : MarkId) where
  pub relate_no_first : Finds e a None → relate (queried_state e count own bs waiting) a b ≡ refused 12
  relate_no_first f = no_first (queried_state e count own bs waiting) a b (found-absent count e l a f bs e.stamps)

  pub relate_no_second : Finds e b None → relate (queried_state e count own bs waiting) a b ≡ refused 12
  relate_no_second f = no_second (queried_state e count own bs waiting) a b (found-absent count e l b f bs e.stamps)

  module _ (p q : Place) (fa : Finds e a (Some p)) (fb : Finds e b (Some q)) where
    at_first : place_at width count p.0 e.desks e.numbers bs e.stamps ≡ find mark_id a (marks_with bs count e)
    at_first = found-place count e l a p fa bs e.stamps

    at_second : place_at width count q.0 e.desks e.numbers bs e.stamps ≡ find mark_id b (marks_with bs count e)
    at_second = found-place count e l b q fb bs e.stamps

    inside : (p.0 < count) × (q.0 < count)
    inside = (found_inside count e l a p fa, found_inside count e l b q fb)

    pub relate-same : p.0 ≡ q.0 → relate (queried_state e count own bs waiting) a b ≡ gives Same
    relate-same = same_place width count e.desks e.numbers bs e.stamps own waiting a b p.0 q.0 at_first at_second inside.0 inside.1

    -- r says whether the earlier mark precedes the later one, and is u.
    module _ (s : CausallyOrdered (marks_with bs count e)) (r u : Bool) (v : r ≡ u) where
      pub relate_forward : p.0 < q.0 → PrecedesAt e p.0 q.0 r → relate (queried_state e count own bs waiting) a b ≡ gives (elim u [ true ↦ Before | false ↦ Concurrent ])
      relate_forward o w =
          forward width count e.desks e.numbers bs e.stamps own waiting a b p.0 q.0 at_first at_second inside.0 inside.1 s o u (sym v ∙ w count inside.1 bs s)

      pub relate_back : q.0 < p.0 → PrecedesAt e q.0 p.0 r → relate (queried_state e count own bs waiting) a b ≡ gives (elim u [ true ↦ After | false ↦ Concurrent ])
      relate_back o w =
          back width count e.desks e.numbers bs e.stamps own waiting a b p.0 q.0 at_first at_second inside.0 inside.1 s o u (sym v ∙ w count inside.0 bs s)
