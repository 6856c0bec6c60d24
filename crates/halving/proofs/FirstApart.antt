-- First apart by how many of a desk's marks stand before a place, and how many of these precede the mark there. n: how many desks. Assumes nothing.
use Prim.Native.Nat.{◌+◌, ◌<◌, ◌≤◌, suc, zero, ℕ}
use lib.Dec.{T, ltb, ltb→lt, nltb→le, not_T}
use mathlib.Core.Bool.{Bool, false, not, true}
use mathlib.Core.List.{List}
use mathlib.Core.Logic.{inl, inr}
use mathlib.Core.Path.{◌∙◌, ◌≡◌, ap, refl, subst, sym}
use native.Mathlib.Numerals.{add-one}
use native.Mathlib.Omega.{arith}
use Rattle.std.specs.Prelude.{None, Some}
use Rattle.frame.specs.Answer.{gives, refuse_if, refused}
use Rattle.frame.specs.Names.{MarkId, is_desk}
use Rattle.causality.specs.declared.Place.{Place}
use Rattle.causality.specs.Calls.{earlier, first_apart, lowest_number}
use Rattle.causality.specs.Marks.{has, keep, same, tally}
use Rattle.causality.specs.State.{Mark, State, concurrent, ids}
use Rattle.causality.proofs.Apart.{above_no, above-yes, lowest_above}
use Rattle.causality.proofs.Logic.{T→eq, nT→eq, same_refl, same→eq, split}
use Rattle.causality.specs.inner.Order.{CausallyOrdered}
use Rattle.causality.proofs.Tail.{first_of_run}
use Rattle.executed.specs.inner.Rows.{Finds, LentTo}
use Rattle.executed.proofs.Chain.{found-absent, found_inside, found-place}
use Rattle.rows.specs.declared.Executed.{Executed}
use Rattle.rows.specs.Executed.{marks_with}
use Rattle.rows.specs.View.{Carried, mark_at, view, width}
use Rattle.rows.proofs.Places.{found_some, has-at, not_before}
use Rattle.queries.specs.inner.Lent.{queried_state}
use Rattle.queries.specs.inner.Steps.{MadeBefore}
use Rattle.halving.specs.inner.Steps.{FirstRunAt}
use Rattle.queries.proofs.MadeBefore.{made-first}

-- The answer by its two tests.
answer_as : (N : ℕ) (st : State) (a : MarkId) (d : ℕ) (x y : Bool) (v : ℕ) → is_desk N d ≡ x → has a (ids st.executed) ≡ y
    → lowest_number d (keep (concurrent st.executed a) (earlier a (ids st.executed))) ≡ v → first_apart N st a d ≡ refuse_if (not x) 1 (refuse_if (not y) 12 (gives v))
unfolding first_apart
answer_as N st a d x y v ex ey ev = λ i. refuse_if (not (ex i)) 1 (refuse_if (not (ey i)) 12 (gives (ev i)))

pub first_no_desk : (N : ℕ) (st : State) (a : MarkId) (d : ℕ) → is_desk N d ≡ false → first_apart N st a d ≡ refused 1
first_no_desk N st a d e = answer_as N st a d false _ _ e refl refl

module _ (n : ℕ) (ds ns : List ℕ) (bs : ℕ → Carried) (ss : List (List ℕ)) where
  -- The marks executed before that at place p.
  earlier-at : (count p : ℕ) → CausallyOrdered (view n count ds ns bs ss) → p < count → earlier (mark_at n ds ns bs ss p).id (ids (view n count ds ns bs ss)) ≡ ids (view n p ds ns bs ss)
  unfolding view
  earlier-at zero p s h = let z : ⊥ = omega arith in absurd z
  earlier-at (suc k) p s h = elim (split (ltb p k)) [
    | inl t ↦ let l = ltb→lt p k t in rw (
      nT→eq (same a m.id) (not_T (same a m.id) (λ u.
          not_before n ds ns bs ss (suc k) k k s (omega arith) (omega arith) (rw (← same→eq a m.id u) (has-at n ds ns bs ss k p l)))),
      earlier,
    ) (earlier-at k p s.1 l)
    | inr t ↦ let l = nltb→le p k t in
        let e : k ≡ p = omega arith in
        rw (T→eq (same a m.id) (subst (λ (x : ℕ). T (same a (mark_at n ds ns bs ss x).id)) (sym e) (same_refl a)), earlier) (ap (λ (x : ℕ). ids (view n x ds ns bs ss)) e)
  ]
    where
      a : MarkId
      a = (mark_at n ds ns bs ss p).id

      m : Mark
      m = mark_at n ds ns bs ss k

-- EXECUTED MARKS THAT ARE LENT

module _ (e : Executed) where
  -- Of a desk's marks before place p those with numbers up to R precede that at p: the lowest of the others.
  first-at : (count p : ℕ) (bs : ℕ → Carried) → CausallyOrdered (marks_with bs count e) → p < count → (d R : ℕ) → FirstRunAt e p d (tally d (ids (marks_with bs p e))) R
      → lowest_number d (keep (concurrent (marks_with bs count e) (mark_at width e.desks e.numbers bs e.stamps p).id) (earlier (mark_at width e.desks e.numbers bs e.stamps p).id (ids (marks_with bs count e))))
      ≡ lowest_above R (tally d (ids (marks_with bs p e)))
  first-at count p bs s h d R run =
      let m = ap (tally d) (earlier-at width e.desks e.numbers bs e.stamps count p s h) in
      first_of_run (marks_with bs count e) s (mark_at width e.desks e.numbers bs e.stamps p).id d R (λ k lo hi. run count bs h s k lo (rw m at hi)) ∙ ap (lowest_above R) m

  module _ (count : ℕ) (l : LentTo count e) (own : ℕ) (bs : ℕ → Carried) (waiting : List Mark) (a : MarkId) (d : ℕ) (k : is_desk width d ≡ true) where
    pub first-none : Finds e a None → refused 12 ≡ first_apart width (queried_state e count own bs waiting) a d
    first-none f = sym (answer_as width (queried_state e count own bs waiting) a d true false _ k (found-absent count e l a f bs e.stamps) refl)

    -- So many of the desk's marks stand before the place, of which the first R precede.
    module _ (p : Place) (f : Finds e a (Some p)) (s : CausallyOrdered (marks_with bs count e)) (R made : ℕ) (m : MadeBefore e d p.0 made) (told : FirstRunAt e p.0 d made R) where
      lowest : first_apart width (queried_state e count own bs waiting) a d ≡ gives (lowest_above R made)
      lowest =
          let i = found_inside count e l a p f in
          let n = made-first e p.0 d made count l m (omega arith) bs in
          let x = found_some width e.desks e.numbers bs e.stamps count p.0 a i (found-place count e l a p f bs e.stamps) in
          answer_as width (queried_state e count own bs waiting) a d true true _ k (T→eq (has a (ids (marks_with bs count e))) x.2)
          (subst (λ (j : MarkId). lowest_number d (keep (concurrent (marks_with bs count e) j) (earlier j (ids (marks_with bs count e)))) ≡ lowest_above R (tally d (ids (marks_with bs p.0 e)))) x.1
          (first-at count p.0 bs s i d R (subst (λ (j : ℕ). FirstRunAt e p.0 d j R) n told)) ∙ ap (lowest_above R) (sym n))

      pub first_number : R < made → gives (R + 1) ≡ first_apart width (queried_state e count own bs waiting) a d
      first_number x = ap gives (add-one R ∙ sym (above-yes R made x)) ∙ sym lowest

      pub first_no_number : made ≤ R → gives 0 ≡ first_apart width (queried_state e count own bs waiting) a d
      first_no_number x = ap gives (sym (above_no R made x)) ∙ sym lowest
