-- The tables of the marks passed, mark by mark. Assumes nothing.
use Prim.Native.Nat.{◌+◌, ◌-◌, ◌<◌, ◌≤◌, suc, ℕ}
use lib.Dec.{T_not, eqb, eqb_refl, eqb→eq, eqb-suc-suc}
use lib.ListN.{get_or, get_or-replicate, length, length-replicate, length-set, replicate, set}
use lib.Seq.{get_or-set_other, get_or-set_same}
use mathlib.Core.Bool.{Bool, cond, false, true}
use mathlib.Core.List.{List, [], ◌∷◌}
use mathlib.Core.Path.{◌∙◌, ◌≡◌, ap, refl, subst, sym}
use native.Mathlib.Numerals.{add-one}
use native.Mathlib.Omega.{arith}
use Rattle.causality.specs.Evidence.{in_past}
use Rattle.causality.specs.Marks.{places, tally}
use Rattle.causality.specs.State.{Mark, ids}
use Rattle.causality.specs.Tables.{pairs_apart, pairs_before}
use Rattle.causality.proofs.Lists.{tally-length}
use Rattle.causality.specs.inner.Order.{CausallyOrdered}
use Rattle.causality.proofs.Tables.{apart_grows, apart-most, before_grows, before_most, past_few}
use Rattle.queries.specs.inner.Lent.{OfMarks}
use Rattle.rows.specs.declared.Executed.{Executed}
use Rattle.rows.specs.Executed.{marks_with}
use Rattle.rows.specs.View.{Carried, mark_at, name_at, names_down, view, width}
use Rattle.rows.proofs.Arrays.{view-length}
use Rattle.rows.proofs.Places.{ids-names}
use Rattle.rows.proofs.Slots.{zeros}
use Rattle.tables.specs.declared.Tables.{Tables}
use Rattle.tables.specs.inner.Steps.{Added, AtMost, Few, Holds, Small}

-- The desk of index j is desk e, whose index is d, if j is d.
same_desk_lem : (j d e : ℕ) → e ≡ suc d → eqb (suc j) e ≡ eqb j d
same_desk_lem j d e q = ap (eqb (suc j)) q ∙ eqb-suc-suc j d

module _ (marks : Executed) where
  -- How many marks of each desk are passed, and the tables of all that are.
  pub record CountedTo (t : Tables) (made : List ℕ) (q : ℕ) : Type 0 where
    pub long : length made ≡ width
    pub counts : (j : ℕ) → j < width → get_or made j 0 ≡ tally (suc j) (names_down q marks.desks marks.numbers)
    pub tables : OfMarks q marks (λ l. Holds width (pairs_apart l) t.apart × Holds width (pairs_before l) t.before)

  -- None is passed.
  pub counted_none : CountedTo (record { apart = replicate width (replicate {A = ℕ} width 0); before = replicate width (replicate {A = ℕ} width 0) }) (replicate {A = ℕ} width 0) 0
  unfolding view pairs_apart pairs_before
  counted_none = record {
    long = length-replicate {A = ℕ} width 0;
    counts = λ j h. zeros width j;
    tables = λ bs s. (none (λ i j. refl), none (λ i j. refl));
  }
    where
      row : (i : ℕ) → i < width → get_or (replicate width (replicate {A = ℕ} width 0)) i [] ≡ replicate {A = ℕ} width 0
      row i h = get_or-replicate width i (replicate {A = ℕ} width 0) [] h

      none : {f : ℕ → ℕ → ℕ} → ((i j : ℕ) → f i j ≡ 0) → Holds width f (replicate width (replicate {A = ℕ} width 0))
      none z = record {
        square = record { long = length-replicate width (replicate {A = ℕ} width 0); wide = λ i h. ap (λ (r : List ℕ). length r) (row i h) ∙ length-replicate {A = ℕ} width 0 };
        cells = λ i j a b. ap (λ (r : List ℕ). get_or r j 0) (row i a) ∙ zeros width j ∙ sym (z (suc i) (suc j));
      }

  -- THE NEXT MARK, of the desk of index d, and its past as a row

  module _ (t : Tables) (made : List ℕ) (q : ℕ) (w : CountedTo t made q) (d : ℕ) (hd : d < width) (e : get_or marks.desks q 0 ≡ suc d)
      (past : List ℕ) (hp : OfMarks (suc q) marks (λ l. (j : ℕ) → j < width → get_or past j 0 ≡ in_past l (suc j) (name_at marks.desks marks.numbers q))) where
    module _ (bs : ℕ → Carried) (s : CausallyOrdered (marks_with bs (suc q) marks)) where
      abbrev l : List Mark
      l = marks_with bs q marks

      abbrev m : Mark
      m = mark_at width marks.desks marks.numbers bs marks.stamps q

      below : CausallyOrdered (marks_with bs q marks)
      unfolding view
      below = s.1

      made-is : (j : ℕ) → j < width → get_or made j 0 ≡ tally (suc j) (ids (marks_with bs q marks))
      made-is j h = w.counts j h ∙ ap (tally (suc j)) (sym (ids-names width marks.desks marks.numbers bs marks.stamps q))

      past_is : (j : ℕ) → j < width → get_or past j 0 ≡ in_past (m ∷ l) (suc j) (name_at marks.desks marks.numbers q)
      unfolding view
      past_is = hp bs s

      -- No more precede than are passed.
      pub past_within : AtMost width past made
      unfolding view
      past_within j h = let a = made-is j h in let b = past_is j h in let c = past_few m l s (suc j) in omega arith

      -- Counts are small.
      module _ (f : q ≤ places) where
        pub made_few : Few width made
        made_few j h = let a = made-is j h in let b = tally-length (suc j) l in let c = view-length width q marks.desks marks.numbers bs marks.stamps in omega arith

        few : length (marks_with bs q marks) ≤ places
        few = let v = view-length width q marks.desks marks.numbers bs marks.stamps in omega arith

        pub small_apart : Small width t.apart
        small_apart = let h = (w.tables bs below).0 in record { square = h.square; most = λ i j a b. let x = h.cells i j a b in let y = apart-most l few (suc i) (suc j) in omega arith }

        pub small_before : Small width t.before
        small_before = let h = (w.tables bs below).1 in record { square = h.square; most = λ i j a b. let x = h.cells i j a b in let y = before_most l few (suc i) (suc j) in omega arith }

    -- It is passed.
    module _ (u : Tables) (a : Added width d past made t u) where
      module _ (bs : ℕ → Carried) (s : CausallyOrdered (marks_with bs (suc q) marks)) where
        rest_is : (j : ℕ) → j < width → get_or made j 0 - get_or past j 0 ≡ tally (suc j) (ids (marks_with bs q marks)) - in_past (marks_with bs (suc q) marks) (suc j) (name_at marks.desks marks.numbers q)
        rest_is j h = let a = made-is bs s j h in let b = hp bs s j h in omega arith

        next_before : Holds width (pairs_before (marks_with bs (suc q) marks)) u.before
        unfolding view
        next_before = let h = (w.tables bs (below bs s)).1 in record {
          square = a.before;
          cells = λ i j hi hj. a.before_cells i j hi hj
              ∙ (λ k. h.cells i j hi hj k + cond (sym (same_desk_lem j d (get_or marks.desks q 0) e) k) (hp bs s i hi k) 0) ∙ sym (before_grows (m bs s) (l bs s) s (suc i) (suc j));
        }

        next_apart : Holds width (pairs_apart (marks_with bs (suc q) marks)) u.apart
        unfolding view
        next_apart = let h = (w.tables bs (below bs s)).0 in record {
          square = a.apart;
          cells = λ i j hi hj. a.apart_cells i j hi hj
              ∙ (λ k. h.cells i j hi hj k + cond (sym (same_desk_lem j d (get_or marks.desks q 0) e) k) (rest_is i hi k) 0 + cond (sym (same_desk_lem i d (get_or marks.desks q 0) e) k) (rest_is j hj k) 0)
              ∙ sym (apart_grows (m bs s) (l bs s) s (suc i) (suc j));
        }

      next_made : (j : ℕ) → j < width → get_or (set made d (get_or made d 0 + 1)) j 0 ≡ tally (suc j) (names_down (suc q) marks.desks marks.numbers)
      next_made j h = go (eqb j d) refl
        where
          go : (b : Bool) → eqb j d ≡ b → get_or (set made d (get_or made d 0 + 1)) j 0 ≡ tally (suc j) (names_down (suc q) marks.desks marks.numbers)
          go true x =
              let y = eqb→eq j d (rw x tt) in
              let c = w.long in
              rw (same_desk_lem j d (get_or marks.desks q 0) e ∙ x, tally) (ap (λ (i : ℕ). get_or (set made d (get_or made d 0 + 1)) i 0) y ∙ get_or-set_same made d (get_or made d 0 + 1) 0 (omega arith) ∙ add-one (get_or made d 0)
              ∙ ap suc (w.counts d hd ∙ ap (λ (i : ℕ). tally (suc i) (names_down q marks.desks marks.numbers)) (sym y)))
          go false x =
              rw (same_desk_lem j d (get_or marks.desks q 0) e ∙ x, tally) (get_or-set_other made d j (get_or made d 0 + 1) 0 (λ z. T_not (eqb j d) (rw x tt) (rw z (eqb_refl d))) ∙ w.counts j h)

      pub counted-more : CountedTo u (set made d (get_or made d 0 + 1)) (q + 1)
      counted-more = subst (CountedTo u (set made d (get_or made d 0 + 1))) (sym (add-one q)) (record {
        long = length-set made d (get_or made d 0 + 1) ∙ w.long;
        counts = next_made;
        tables = λ bs s. (next_apart bs s, next_before bs s);
      })
