-- The chain by places: it goes back by one step, and ends at the earlier mark. Assumes nothing.
use Prim.Native.Nat.{◌+◌, ◌-◌, ◌<◌, ◌≤◌, suc, zero, ℕ}
use lib.Dec.{T, leb, leb→le, ltb, ltb→lt, nltb→le, not_T}
use lib.ListN.{get_or}
use mathlib.Core.Bool.{Bool, ◌&&◌, ◌||◌, false, true}
use mathlib.Core.List.{List, [], ◌∷◌}
use mathlib.Core.Logic.{inl, inr}
use mathlib.Core.Option.{none, some}
use mathlib.Core.Option as Logic
use mathlib.Core.Path.{◌∙◌, ◌≡◌, ap, refl, subst, sym}
use native.Mathlib.Numerals.{add-one, sub-one}
use native.Mathlib.Omega.{arith}
use Rattle.std.proofs.Common.{Option, Some, None}
use Rattle.frame.specs.Names.{MarkId}
use Rattle.causality.specs.declared.Place.{Place}
use Rattle.causality.specs.Evidence.{entry_towards, going_back}
use Rattle.causality.specs.Marks.{has, same}
use Rattle.causality.specs.State.{Mark, precedes}
use Rattle.causality.proofs.Apart.{reaches}
use Rattle.causality.proofs.Lists.{any_find}
use Rattle.causality.proofs.Logic.{T→eq, and_yes, nT→eq, or_yes, same_refl, same→eq, split}
use Rattle.causality.proofs.Reach.{not_new, precedes-at}
use Rattle.causality.specs.inner.Order.{CausallyOrdered}
use Rattle.causality.proofs.RowLaws.{show, shown}
use Rattle.causality.specs.Rows.{entries_of_row}
use Rattle.rows.specs.declared.Executed.{Executed}
use Rattle.rows.specs.Executed.{marks_with}
use Rattle.rows.specs.View.{Carried, mark_at, name_at, row_at, view, width}
use Rattle.rows.specs.inner.Slots.{row_fn}
use Rattle.rows.proofs.Arrays.{follows_below, sound_below}
use Rattle.rows.proofs.Places.{has-at, ids-names, not_before, precedes_no_earlier, precedes_there, name-place}
use Rattle.concurrent.specs.inner.Steps.{Tells, is_or_follows}
use Rattle.concurrent.proofs.ByPlaces.{follows_there}
use Rattle.evidence.specs.inner.Steps.{LowestAt, PlaceBelow, SteppedBack, reached_at}
use Rattle.evidence.proofs.LowestEntry.{lowest-at, lowest-none}

module _ (executed : Executed) (bs : ℕ → Carried) where
  abbrev l : ℕ → List Mark
  l count = marks_with bs count executed

  abbrev name : ℕ → MarkId
  name p = name_at executed.desks executed.numbers p

  -- How the chain goes back from a mark is settled at its place.
  back_there : (count p : ℕ) → CausallyOrdered (marks_with bs count executed) → p < count → (a : MarkId) → going_back (marks_with bs count executed) a (name p) ≡ going_back (marks_with bs (suc p) executed) a (name p)
  unfolding view
  back_there zero p s h a = let z : ⊥ = omega arith in absurd z
  back_there (suc k) p s h a = elim (split (ltb p k)) [
    | inl t ↦ let u = ltb→lt p k t in
        rw (nT→eq (same (name p) (name k)) (not_new (mark_at width executed.desks executed.numbers bs executed.stamps k) (l k) s (name p) (has-at width executed.desks executed.numbers bs executed.stamps k p u)), going_back) (back_there k p s.1 u a)
    | inr t ↦ let q = nltb→le p k t in let e : k ≡ p = omega arith in subst (λ (x : ℕ). going_back (l (suc x)) a (name p) ≡ going_back (l (suc p)) a (name p)) (sym e) refl
  ]

  -- From the newest mark it takes the entry towards a.
  back_new : (p : ℕ) (a : MarkId) (o : Logic.Option MarkId) → entry_towards (marks_with bs p executed) a (entries_of_row width (row_at executed.stamps p)) ≡ o
      → going_back (marks_with bs (suc p) executed) a (name p) ≡ name p ∷ elim o [ none ↦ [] | some e ↦ going_back (marks_with bs p executed) a e ]
  unfolding view
  back_new p a o e = rw (T→eq (same (name p) (name p)) (same_refl (name p)), going_back, e)

  module _ (count : ℕ) (s : CausallyOrdered (marks_with bs count executed)) where
    -- An entry of a mark stands before it.
    entry_place : (q : ℕ) → q < count → (e : MarkId) → T (has e (entries_of_row width (row_at executed.stamps q))) → (r : ℕ) × (r < q) × (name r ≡ e)
    entry_place q h e t = name-place executed.desks executed.numbers q e (rw (← ids-names width executed.desks executed.numbers bs executed.stamps q) ((follows_below width count executed.desks executed.numbers bs executed.stamps s q h).listed e t))

    -- No mark is or follows one at a later place.
    follows-none : (p r : ℕ) → p < count → r < p → is_or_follows (marks_with bs count executed) (name p) (name r) ≡ false
    follows-none p r h k =
        let x = nT→eq (same (name p) (name r)) (not_T (same (name p) (name r)) (λ t. not_before width executed.desks executed.numbers bs executed.stamps count p p s h (omega arith) (rw (same→eq (name p) (name r) t) (has-at width executed.desks executed.numbers bs executed.stamps p r k)))) in
        let y = precedes_no_earlier width executed.desks executed.numbers bs executed.stamps count p r s h (omega arith) in
        λ i. x i || y i

    pub follows-later : (p r : ℕ) → p < count → T (is_or_follows (marks_with bs count executed) (name p) (name r)) → p ≤ r
    follows-later p r h t = elim (split (ltb r p)) [
      | inl u ↦ absurd (rw (follows-none p r h (ltb→lt r p u)) at t)
      | inr u ↦ nltb→le r p u
    ]

    -- At the earlier mark the chain ends.
    pub back_end : (p : ℕ) → p < count → going_back (marks_with bs count executed) (name p) (name p) ≡ name p ∷ []
    back_end p h = back_there count p s h (name p) ∙ back_new p (name p) none (lowest-none (is_or_follows (l p) (name p)) (entries_of_row width (row_at executed.stamps p)) (λ e t.
        let x = entry_place p h e t in
        ap (is_or_follows (l p) (name p)) (sym x.2) ∙ follows_there width executed.desks executed.numbers bs executed.stamps count s p x.0 (omega arith) x.1 (name p) ∙ follows-none p x.0 h x.1))

    -- The test of an entry of a mark before place q, by the row that tells of the marks before q.
    module _ (p q at : ℕ) (first : List ℕ) (hc : p < count) (ha : at < q) (hq : q ≤ count) (w : Tells executed p q first) where
      entry_test : (e : MarkId) → T (has e (entries_of_row width (row_at executed.stamps at))) → is_or_follows (marks_with bs at executed) (name p) e ≡ reaches (row_fn first) e
      entry_test e u =
          let x = entry_place at (omega arith) e u in
          let k = x.1 in
          ap (is_or_follows (l at) (name p)) (sym x.2) ∙ follows_there width executed.desks executed.numbers bs executed.stamps count s at x.0 (omega arith) x.1 (name p) ∙ ap (is_or_follows (l count) (name p)) x.2
          ∙ w.tells count hc (omega arith) bs s e (rw (← ids-names width executed.desks executed.numbers bs executed.stamps q, ← x.2) (has-at width executed.desks executed.numbers bs executed.stamps q x.0 (omega arith)))

    module _ (p q at : ℕ) (first : List ℕ) (hp : p < at) (ha : at < q) (hq : q ≤ count) (w : Tells executed p q first)
        (t : T (is_or_follows (marks_with bs count executed) (name p) (name at))) where
      abbrev row : ℕ → ℕ
      row = row_at executed.stamps at

      abbrev test : MarkId → Bool
      test = is_or_follows (marks_with bs at executed) (name p)

      test_is : (d : ℕ) → 1 ≤ d → d ≤ width → 0 < row d → test (record { desk = d; number = row d }) ≡ reached_at first (get_or executed.stamps at []) (d - 1)
      test_is d lo hi pos =
          let e : MarkId = record { desk = d; number = row d } in
          entry_test p q at first (omega arith) ha hq w e (show row 1 width e (record { low = lo; high = omega arith; value = refl; pos = pos }))

      -- Some entry passes, so there is a lowest.
      passing : (e : MarkId) × T (has e (entries_of_row width row)) × T (test e)
      unfolding view
      passing = elim (or_yes (same (name p) (name at)) (precedes (l count) (name p) (name at)) t) [
        | inl u ↦ absurd (not_before width executed.desks executed.numbers bs executed.stamps count at at s (omega arith) (omega arith) (rw (← same→eq (name p) (name at) u) (has-at width executed.desks executed.numbers bs executed.stamps at p hp)))
        | inr u ↦ any_find test (entries_of_row width row)
            (rw (← precedes-at (mark_at width executed.desks executed.numbers bs executed.stamps at) (l at) (name p) (name at) (same_refl (name at)), ← precedes_there width executed.desks executed.numbers bs executed.stamps count at s (omega arith) (name p)) u)
      ]

      pub reached : ((j : ℕ) → j < width → reached_at first (get_or executed.stamps at []) j ≡ false) → ⊥
      reached never =
          let x = passing in
          let z = shown row 1 width x.0 x.1 in
          let lo = z.low in
          let hi = z.high in
          let pos = z.pos in
          let value = z.value in
          let e : x.0 ≡ record { desk = x.0.desk; number = row x.0.desk } = λ i. record { desk = x.0.desk; number = value i } in
          rw (e, test_is x.0.desk lo (omega arith) (omega arith), never (x.0.desk - 1) (omega arith)) at x.2

      -- The entry at the lowest index is the one that the chain takes.
      module _ (j : ℕ) (low : LowestAt first (get_or executed.stamps at []) j) where
        abbrev taken : MarkId
        taken = record { desk = suc j; number = row (suc j) }

        within : suc j < 1 + width
        within = let h = low.within in omega arith

        there : (0 < row (suc j)) × (reached_at first (get_or executed.stamps at []) (suc j - 1) ≡ true)
        there =
            let f = get_or first j 0 in
            let g = get_or (get_or executed.stamps at []) j 0 in
            let u : T (ltb 0 f && leb f g) = rw (low.there) tt in
            let b = ltb→lt 0 f (and_yes (ltb 0 f) (leb f g) u).0 in
            let c = leb→le f g (and_yes (ltb 0 f) (leb f g) u).1 in
            let z : 0 < g = omega arith in
            let e : j ≡ suc j - 1 = sym (sub-one (suc j)) in
            (subst (λ (k : ℕ). 0 < get_or (get_or executed.stamps at []) k 0) e z, subst (λ (k : ℕ). reached_at first (get_or executed.stamps at []) k ≡ true) e low.there)

        passes : test taken ≡ true
        passes = test_is (suc j) (omega arith) (omega (arith, within)) there.0 ∙ there.1

        entry : entry_towards (marks_with bs at executed) (name p) (entries_of_row width row) ≡ some taken
        entry = lowest-at test row width 1 (suc j) (omega arith) within there.0 passes (λ i lo less pos. test_is i lo (omega (arith, within)) pos ∙ low.lowest (i - 1) (omega arith))

        -- As the code names it.
        named : record { desk = j + 1; number = get_or (get_or executed.stamps at []) j 0 } ≡ taken
        named = let k : j ≡ suc j - 1 = sym (sub-one (suc j)) in λ i. record { desk = add-one j i; number = get_or (get_or executed.stamps at []) (k i) 0 }

        -- It stands at a place before.
        pub placed : ((k : ℕ) → k < at → name k ≡ record { desk = j + 1; number = get_or (get_or executed.stamps at []) j 0 } → ⊥) → ⊥
        placed never =
            let x = entry_place at (omega arith) taken (show row 1 width taken (record { low = omega arith; high = omega (arith, within); value = refl; pos = there.0 })) in
            never x.0 x.1 (x.2 ∙ sym named)

        pub step : (r : ℕ) → r < at → name r ≡ record { desk = j + 1; number = get_or (get_or executed.stamps at []) j 0 }
            → T (is_or_follows (marks_with bs count executed) (name p) (name r))
            × (going_back (marks_with bs count executed) (name p) (name at) ≡ name at ∷ going_back (marks_with bs count executed) (name p) (name r))
        step r k e =
            let found : name r ≡ taken = e ∙ named in (
              rw (← follows_there width executed.desks executed.numbers bs executed.stamps count s at r (omega arith) k (name p), found, passes) tt,
              back_there count at s (omega arith) (name p) ∙ back_new at (name p) (some taken) entry
                  ∙ ap (λ (g : List MarkId). name at ∷ g) (ap (going_back (l at) (name p)) (sym found) ∙ back_there at r (sound_below width count executed.desks executed.numbers bs executed.stamps s at (omega arith)) k (name p)
                  ∙ sym (back_there count r s (omega arith) (name p))),
            )

-- THE STEP BACK, by what was found

module _ (executed : Executed) (first : List ℕ) (at : ℕ) where
  pub stepped_nowhere : ((j : ℕ) → j < width → reached_at first (get_or executed.stamps at []) j ≡ false) → SteppedBack executed first at None
  stepped_nowhere never = λ p q lo hi w count k bs sound t. reached executed bs count sound p q at first lo hi k w t never

  pub stepped : (j : ℕ) → LowestAt first (get_or executed.stamps at []) j → (r : Option Place) → PlaceBelow executed at (record { desk = j + 1; number = get_or (get_or executed.stamps at []) j 0 }) r → SteppedBack executed first at r
  stepped j low None never = λ p q lo hi w count k bs sound t. placed executed bs count sound p q at first lo hi k w t j low never
  stepped j low (Some r) found = record {
    less = found.0;
    towards = λ p q lo hi w count k bs sound t. step executed bs count sound p q at first lo hi k w t j low r.0 found.0 found.1;
  }
