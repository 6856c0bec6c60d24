-- The first followers of a mark, noted in a row as the places pass. Assumes nothing.
use Prim.Native.Nat.{◌+◌, ◌-◌, ◌<◌, ◌≤◌, suc, ℕ}
use borrow.Author.Tests.{eq-eqb, eqb-false, eqb-true, ne_eqb}
use lib.Dec.{eqb, leb, ltb}
use lib.ListN.{get_or, length, length-replicate, length-set, replicate, set}
use lib.Seq.{get_or-set_other, get_or-set_same}
use mathlib.Core.Bool.{Bool, ◌&&◌, ◌||◌, false, true}
use mathlib.Core.List.{List}
use mathlib.Core.Path.{◌∙◌, ◌≡◌, ap, refl, subst, sym}
use native.Mathlib.Numerals.{add-one}
use native.Mathlib.Omega.{arith}
use Rattle.frame.specs.Names.{MarkId}
use Rattle.causality.specs.Marks.{same}
use Rattle.causality.specs.State.{Mark, precedes}
use Rattle.causality.proofs.Apart.{follower_new, followers, noted, reached_by-row, reached_by}
use Rattle.causality.proofs.Upto.{any_to_cong}
use Rattle.causality.specs.inner.Order.{CausallyOrdered}
use Rattle.rows.specs.declared.Executed.{Executed}
use Rattle.rows.specs.Executed.{marks_with}
use Rattle.rows.specs.View.{Carried, mark_at, row_at, view, width}
use Rattle.rows.specs.inner.Slots.{row_fn}
use Rattle.rows.proofs.Arrays.{sound_below}
use Rattle.rows.proofs.Places.{precedes_no_earlier, precedes_there}
use Rattle.rows.proofs.Slots.{zeros}
use Rattle.concurrent.specs.inner.Steps.{is_or_names}
use Rattle.concurrent.proofs.ByPlaces.{same_place}
use Rattle.concurrent.proofs.OwnDesk.{own_follows}

module _ (first : List ℕ) (desk number : ℕ) (lo : 1 ≤ desk) where
  abbrev name : MarkId
  name = record { desk = desk; number = number }

  pub note_first : desk ≤ length first → get_or first (desk - 1) 0 ≡ 0 → (d : ℕ) → 1 ≤ d → row_fn (set first (desk - 1) number) d ≡ noted (row_fn first) (record { desk = desk; number = number }) d
  note_first hi z d p = go (eqb d desk) refl
    where
      go : (b : Bool) → eqb d desk ≡ b → row_fn (set first (desk - 1) number) d ≡ elim (b && eqb (row_fn first d) 0) [ true ↦ number | false ↦ row_fn first d ]
      go true e =
          let q = eqb-true d desk e in
          rw (q, eq-eqb (row_fn first desk) 0 z) (get_or-set_same first (desk - 1) number 0 (omega arith))
      go false e = let q : ¬ (d ≡ desk) = eqb-false d desk e in get_or-set_other first (desk - 1) (d - 1) number 0 (λ x. omega arith)

  pub note_later : (get_or first (desk - 1) 0 ≡ 0 → ⊥) → (d : ℕ) → row_fn first d ≡ noted (row_fn first) (record { desk = desk; number = number }) d
  note_later z d = go (eqb d desk) refl
    where
      go : (b : Bool) → eqb d desk ≡ b → row_fn first d ≡ elim (b && eqb (row_fn first d) 0) [ true ↦ number | false ↦ row_fn first d ]
      go true e = rw (ne_eqb (row_fn first d) 0 (subst (λ (x : ℕ). row_fn first x ≡ 0 → ⊥) (sym (eqb-true d desk e)) z)) refl
      go false e = refl

module _ (executed : Executed) (count p : ℕ) where
  abbrev given : MarkId
  given = record { desk = get_or executed.desks p 0; number = get_or executed.numbers p 0 }

  -- A row has the first followers of the mark at p among the first q.
  pub record Noted (q : ℕ) (first : List ℕ) : Type 0 where
    pub long : length first ≡ width
    pub rows : (bs : ℕ → Carried) → CausallyOrdered (marks_with bs count executed) → (d : ℕ) → 1 ≤ d → d ≤ width → row_fn first d ≡ followers given (marks_with bs q executed) d

  -- Among no marks there is none.
  pub noted-none : Noted 0 (replicate width 0)
  unfolding view
  noted-none = record { long = length-replicate {A = ℕ} width 0; rows = λ bs s d lo hi. zeros width (d - 1) }

  module _ (q : ℕ) (first : List ℕ) (w : Noted q first) (h : p < count) (l : q < count) where
    -- Is the mark the given one, or does its stamp name a follower?
    abbrev pub names : Bool
    names = is_or_names first executed.stamps p q

    module _ (bs : ℕ → Carried) (s : CausallyOrdered (marks_with bs count executed)) where
      abbrev m : Mark
      m = mark_at width executed.desks executed.numbers bs executed.stamps q

      abbrev older : List Mark
      older = marks_with bs q executed

      names-is : names ≡ (same given m.id || reached_by (followers given older) m.stamp)
      names-is =
          let a = same_place width executed.desks executed.numbers bs executed.stamps count p q s h l in
          let b = any_to_cong width (λ d. ltb 0 (row_fn first d) && leb (row_fn first d) (row_at executed.stamps q d)) _ (λ d lo hi. let e = w.rows bs s d lo hi in λ i. ltb 0 (e i) && leb (e i) (row_at executed.stamps q d)) ∙ sym (reached_by-row width (followers given older) (row_at executed.stamps q)) in
          λ i. a i || b i

      -- The given mark or one that follows it.
      pub follows_is : (same given m.id || precedes (marks_with bs count executed) given m.id) ≡ names
      unfolding view
      follows_is = ap (λ (b : Bool). same given m.id || b) (precedes_there width executed.desks executed.numbers bs executed.stamps count q s l given) ∙ follower_new m older (sound_below width count executed.desks executed.numbers bs executed.stamps s (suc q) l) given ∙ sym names-is

      -- A mark before it is neither.
      pub none_before : q < p → names ≡ false
      none_before o =
          let a = sym (same_place width executed.desks executed.numbers bs executed.stamps count p q s h l) ∙ ne_eqb p q (λ e. omega arith) in
          let b = precedes_no_earlier width executed.desks executed.numbers bs executed.stamps count p q s h (omega arith) in
          sym follows_is ∙ (λ i. a i || b i)

      -- The desk has a follower noted.
      own_names : 1 ≤ get_or executed.desks q 0 → get_or executed.desks q 0 ≤ width → 0 < row_fn first (get_or executed.desks q 0) → names ≡ true
      unfolding view
      own_names lo hi o = let e = w.rows bs s (get_or executed.desks q 0) lo hi in names-is ∙ own_follows m older (sound_below width count executed.desks executed.numbers bs executed.stamps s (suc q) l) given (omega arith)

    -- Of every sound history, whether the mark is the given one or follows it is b.
    abbrev pub Told : Bool → Type 0
    Told b = (bs : ℕ → Carried) → CausallyOrdered (marks_with bs count executed) → names ≡ b

    step_rows : (first' : List ℕ) (b : Bool) → Told b
        → ((d : ℕ) → 1 ≤ d → d ≤ width → row_fn first' d ≡ elim b [ true ↦ noted (row_fn first) (record { desk = get_or executed.desks q 0; number = get_or executed.numbers q 0 }) d | false ↦ row_fn first d ])
        → (bs : ℕ → Carried) → CausallyOrdered (marks_with bs count executed) → (d : ℕ) → 1 ≤ d → d ≤ width → row_fn first' d ≡ followers given (marks_with bs (q + 1) executed) d
    unfolding view
    step_rows first' b e f bs s d lo hi = f d lo hi ∙ go b (e bs s) ∙ ap (λ (k : ℕ). followers given (marks_with bs k executed) d) (sym (add-one q))
      where
        g : row_fn first d ≡ followers given (marks_with bs q executed) d
        g = w.rows bs s d lo hi

        go : (b : Bool) → names ≡ b → elim b [ true ↦ noted (row_fn first) (record { desk = get_or executed.desks q 0; number = get_or executed.numbers q 0 }) d | false ↦ row_fn first d ] ≡ followers given (marks_with bs (suc q) executed) d
        go true e = rw (sym (names-is bs s) ∙ e, followers) (λ i. elim (eqb d (get_or executed.desks q 0) && eqb (g i) 0) [ true ↦ get_or executed.numbers q 0 | false ↦ g i ])
        go false e = rw (sym (names-is bs s) ∙ e, followers) g

    noting : Told true → (first' : List ℕ) → length first' ≡ width
        → ((d : ℕ) → 1 ≤ d → row_fn first' d ≡ noted (row_fn first) (record { desk = get_or executed.desks q 0; number = get_or executed.numbers q 0 }) d) → Noted (q + 1) first'
    noting e first' long f = record { long = long; rows = step_rows first' true e (λ d lo hi. f d lo) }

    module _ (lo : 1 ≤ get_or executed.desks q 0) (hi : get_or executed.desks q 0 ≤ width) where
      -- The mark is the first follower of its desk, or one behind.
      pub note_new : get_or first (get_or executed.desks q 0 - 1) 0 ≡ 0 → names ≡ true → Noted (q + 1) (set first (get_or executed.desks q 0 - 1) (get_or executed.numbers q 0))
      note_new z e =
          let long = w.long in
          noting (λ bs s. e) (set first (get_or executed.desks q 0 - 1) (get_or executed.numbers q 0)) (length-set first (get_or executed.desks q 0 - 1) (get_or executed.numbers q 0) ∙ long)
          (note_first first (get_or executed.desks q 0) (get_or executed.numbers q 0) lo (omega arith) z)

      pub behind-follows : (get_or first (get_or executed.desks q 0 - 1) 0 ≡ 0 → ⊥) → Told true
      behind-follows z = let o : ¬ (get_or first (get_or executed.desks q 0 - 1) 0 ≡ 0) = z in λ bs s. own_names bs s lo hi (omega arith)

      pub note_behind : (get_or first (get_or executed.desks q 0 - 1) 0 ≡ 0 → ⊥) → Noted (q + 1) first
      note_behind z = noting (behind-follows z) first w.long (λ d x. note_later first (get_or executed.desks q 0) (get_or executed.numbers q 0) lo z d)

    -- It is none.
    pub note_none : Told false → Noted (q + 1) first
    note_none t = record { long = w.long; rows = step_rows first false t (λ d lo hi. refl) }
