-- Turns of the loops of Apart: a row of first followers is tested, and marks apart are listed. Assumes nothing.
use Prim.Native.Nat.{◌+◌, ◌<◌, ◌≤◌, suc, ℕ}
use borrow.Author.Tests.{le-ltb, lt-ltb}
use lib.Dec.{T, leb, ltb}
use lib.ListN.{get_or}
use mathlib.Core.Bool.{Bool, ◌&&◌, ◌||◌, cond, false, not, or-false, or-true, true}
use mathlib.Core.List.{List, ◌∷◌}
use mathlib.Core.Path.{◌∙◌, ◌≡◌, ap, refl, sym}
use native.Mathlib.Numerals.{add-one, sub-one}
use native.Mathlib.Omega.{arith}
use Rattle.frame.specs.Names.{MarkId}
use Rattle.causality.specs.Marks.{has, keep, places, same}
use Rattle.causality.specs.State.{concurrent, ids, precedes}
use Rattle.causality.specs.inner.Upto.{some_reached}
use Rattle.causality.proofs.Logic.{not-leb}
use Rattle.causality.specs.inner.Order.{CausallyOrdered}
use Rattle.pairs.specs.Pairs.{Spare}
use Rattle.pairs.specs.declared.Listed.{Listed}
use Rattle.pairs.proofs.Longer.{longer, longer-names, longer_spare}
use Rattle.rows.specs.declared.Executed.{Executed}
use Rattle.rows.specs.Executed.{marks_with}
use Rattle.rows.specs.View.{Carried, name_at, names_down, view, width}
use Rattle.rows.specs.inner.Slots.{row_fn}
use Rattle.rows.proofs.Places.{has-at, ids-names}
use Rattle.concurrent.specs.inner.Steps.{Tells}
use Rattle.causality.proofs.Upto.{any_more, any_none}

-- THE TEST

-- Whether the mark is the given one, b, or its stamp names a follower at one of the first j desks.
abbrev pub passed : Bool → List ℕ → List ℕ → ℕ → Bool
passed b first row j = b || some_reached j (row_fn first) (row_fn row)

pub passed_none : (b : Bool) (first row : List ℕ) → b ≡ passed b first row 0
passed_none b first row = sym (ap (λ (x : Bool). b || x) (any_none _) ∙ or-false b)

module _ (b : Bool) (first row : List ℕ) (j : ℕ) where
  abbrev next : Bool
  next = ltb 0 (get_or first j 0) && leb (get_or first j 0) (get_or row j 0)

  more : passed b first row (j + 1) ≡ (b || (next || some_reached j (row_fn first) (row_fn row)))
  more = rw (any_more (λ d. ltb 0 (row_fn first d) && leb (row_fn first d) (row_fn row d)) j, sub-one (suc j)) refl

  -- The next desk has a follower, or none.
  pub passed-yes : next ≡ true → true ≡ passed b first row (j + 1)
  passed-yes e = sym (more ∙ ap (λ (x : Bool). b || (x || some_reached j (row_fn first) (row_fn row))) e ∙ or-true b)

  pub passed_no : next ≡ false → passed b first row j ≡ passed b first row (j + 1)
  passed_no e = sym (more ∙ ap (λ (x : Bool). b || (x || some_reached j (row_fn first) (row_fn row))) e)

-- THE TURN

module _ (executed : Executed) (first past : List ℕ) where
  -- The rows tell of the mark at p.
  pub record Both (p : ℕ) : Type 0 where
    pub inside : p < executed.count
    pub follows : Tells executed p executed.count first
    pub precede : (bs : ℕ → Carried) → CausallyOrdered (marks_with bs executed.count executed) → (i : MarkId) → T (has i (ids (marks_with bs executed.count executed)))
        → precedes (marks_with bs executed.count executed) i (name_at executed.desks executed.numbers p) ≡ leb i.number (row_fn past i.desk)

  -- Of the first q marks those apart from that of which the rows tell are listed.
  pub record ApartTo (q : ℕ) (list : Listed) : Type 0 where
    pub turns : q ≤ executed.count
    pub small : list.count ≤ q
    pub spare : Spare list
    pub names : (p : ℕ) → Both p → (bs : ℕ → Carried) → CausallyOrdered (marks_with bs executed.count executed)
        → names_down list.count list.desks list.numbers ≡ keep (concurrent (marks_with bs executed.count executed) (name_at executed.desks executed.numbers p)) (ids (marks_with bs q executed))

  module _ (q : ℕ) (list : Listed) (v : ApartTo q list) (l : q < executed.count) where
    -- Is the mark the given one, or does it follow it? Is it not of its past?
    abbrev pub follows : Bool
    follows = ltb 0 (row_fn first (get_or executed.desks q 0)) && leb (row_fn first (get_or executed.desks q 0)) (get_or executed.numbers q 0)

    abbrev pub above : Bool
    above = ltb (row_fn past (get_or executed.desks q 0)) (get_or executed.numbers q 0)

    apart-is : (p : ℕ) → Both p → (bs : ℕ → Carried) → CausallyOrdered (marks_with bs executed.count executed) → concurrent (marks_with bs executed.count executed) (name_at executed.desks executed.numbers p) (name_at executed.desks executed.numbers q) ≡ (not follows && above)
    unfolding concurrent view
    apart-is p w bs s =
        let a = name_at executed.desks executed.numbers p in
        let i = name_at executed.desks executed.numbers q in
        (λ k. not (same a i) && (not (precedes (marks_with bs executed.count executed) a i) && (ap not (w.precede bs s i (has-at width executed.desks executed.numbers bs executed.stamps executed.count q l)) ∙ not-leb (get_or executed.numbers q 0) (row_fn past (get_or executed.desks q 0))) k))
        ∙ either (same a i) (precedes (marks_with bs executed.count executed) a i) above
        ∙ ap (λ (b : Bool). not b && above) (w.follows.tells executed.count w.inside (omega arith) bs s i (rw (← ids-names width executed.desks executed.numbers bs executed.stamps executed.count) (has-at width executed.desks executed.numbers bs executed.stamps executed.count q l)))
      where
        either : (a b c : Bool) → (not a && (not b && c)) ≡ (not (a || b) && c)
        either true b c = refl
        either false b c = refl

    step-names : (b : Bool) → (not follows && above) ≡ b → (p : ℕ) → Both p → (bs : ℕ → Carried) → CausallyOrdered (marks_with bs executed.count executed)
        → let P = concurrent (marks_with bs executed.count executed) (name_at executed.desks executed.numbers p) in
        keep P (ids (marks_with bs (q + 1) executed)) ≡ cond b (name_at executed.desks executed.numbers q ∷ keep P (ids (marks_with bs q executed))) (keep P (ids (marks_with bs q executed)))
    unfolding view
    step-names b e p w bs s =
        let P = concurrent (marks_with bs executed.count executed) (name_at executed.desks executed.numbers p) in
        let x = apart-is p w bs s ∙ e in
        ap (λ (k : ℕ). keep P (ids (marks_with bs k executed))) (add-one q) ∙ (λ i. cond (x i) (name_at executed.desks executed.numbers q ∷ keep P (ids (marks_with bs q executed))) (keep P (ids (marks_with bs q executed))))

    -- A mark that is the given one, or follows it, or is of its past, is passed.
    passed_by : (not follows && above) ≡ false → ApartTo (q + 1) list
    passed_by e = record {
      turns = omega arith;
      small = let x = v.small in omega arith;
      spare = v.spare;
      names = λ p w bs s. v.names p w bs s ∙ sym (step-names false e p w bs s);
    }

    pub turn-follows : follows ≡ true → ApartTo (q + 1) list
    turn-follows e = passed_by (ap (λ (b : Bool). not b && above) e)

    module _ (t : follows ≡ false) where
      pub turn-past : get_or executed.numbers q 0 ≤ row_fn past (get_or executed.desks q 0) → ApartTo (q + 1) list
      turn-past u = passed_by (let x = le-ltb (row_fn past (get_or executed.desks q 0)) (get_or executed.numbers q 0) u in λ i. not (t i) && x i)

      -- One that is none of these is listed.
      pub turn-apart : executed.count ≤ places → row_fn past (get_or executed.desks q 0) < get_or executed.numbers q 0 → ApartTo (q + 1) (longer list (get_or executed.desks q 0) (get_or executed.numbers q 0))
      turn-apart few u = record {
        turns = omega arith;
        small = let z = v.small in omega arith;
        spare = longer_spare list v.spare (get_or executed.desks q 0) (get_or executed.numbers q 0);
        names = λ p w bs s. longer-names list v.spare (get_or executed.desks q 0) (get_or executed.numbers q 0) (let z = v.small in omega arith)
            ∙ ap (λ (x : List MarkId). name_at executed.desks executed.numbers q ∷ x) (v.names p w bs s)
            ∙ sym (step-names true (let x = lt-ltb (row_fn past (get_or executed.desks q 0)) (get_or executed.numbers q 0) u in λ i. not (t i) && x i) p w bs s);
      }

  -- At the start nothing is passed; at the end all marks are.
  pub apart_none : (list : Listed) → list.count ≡ 0 → Spare list → ApartTo 0 list
  unfolding view
  apart_none list e x = record { turns = omega arith; small = omega arith; spare = x; names = λ p w bs s. rw e refl }

  pub apart-all : (q : ℕ) (list : Listed) → ApartTo q list → executed.count ≤ q → (p : ℕ) → Both p
      → (list.count ≤ executed.count) × Spare list × ((bs : ℕ → Carried) → CausallyOrdered (marks_with bs executed.count executed)
      → names_down list.count list.desks list.numbers ≡ keep (concurrent (marks_with bs executed.count executed) (name_at executed.desks executed.numbers p)) (ids (marks_with bs executed.count executed)))
  apart-all q list v h p w =
      let t = v.turns in
      let x = v.small in
      let e : q ≡ executed.count = omega arith in
      (omega arith, v.spare, λ bs s. v.names p w bs s ∙ ap (λ (k : ℕ). keep (concurrent (marks_with bs executed.count executed) (name_at executed.desks executed.numbers p)) (ids (marks_with bs k executed))) e)
