-- The search for the ready mark of lowest desk, slot by slot. Assumes nothing.
use Prim.Native.Nat.{◌+◌, ◌<◌, ◌≤◌, ℕ}
use borrow.Author.Tests.{eq-eqb, le-ltb, lt-ltb, ne_eqb}
use lib.Dec.{eqb}
use lib.ListN.{get_or}
use Rattle.std.specs.Prelude.{IfSome, None, Option as Maybe, Some}
use mathlib.Core.Bool.{Bool, false, true}
use mathlib.Core.List.{List, []}
use mathlib.Core.Logic.{◌⊎◌, inl, inr}
use mathlib.Core.Option.{some}
use mathlib.Core.Path.{◌∙◌, ◌≡◌, ap, refl, sym}
use native.Mathlib.Numerals.{add-one}
use native.Mathlib.Omega.{arith}
use Rattle.causality.specs.Marks.{lower, lowest}
use Rattle.causality.specs.State.{Mark, mark_id, ready}
use Rattle.rows.specs.View.{Carried, down_from, view, width}
use Rattle.rows.specs.inner.Slots.{Named}
use Rattle.predecessors.specs.inner.Steps.{missing_by}
use Rattle.predecessors.proofs.MissingLaws.{ready_by_tally}
use Rattle.rows.proofs.RowSteps.{named-at}
use Rattle.waiting.specs.declared.Waiting.{Waiting}
use Rattle.waiting.specs.Queue.{slot_with, slots_with}
use Rattle.waiting.specs.inner.Steps.{HasSlot, LowestAt, TallyOf, mark_of_slot, named}

lower-new : (h v : Mark) → h.id.desk ≤ v.id.desk → lower mark_id h (some v) ≡ h
lower-new h v l = rw (le-ltb v.id.desk h.id.desk l, lower) refl

lower_old : (h v : Mark) → v.id.desk < h.id.desk → lower mark_id h (some v) ≡ v
lower_old h v l = rw (lt-ltb v.id.desk h.id.desk l, lower) refl

-- Of slots with the marks m, b is that of the one that a test chooses among the first i, or none.
module _ (m : ℕ → Mark) (t : Mark → Bool) (i : ℕ) where
  chosen_taken : (b : Maybe ℕ) → mark_of_slot m b ≡ lowest mark_id t (down_from m i) → t (m i) ≡ true → IfSome b (λ s. (m i).id.desk ≤ (m s).id.desk)
      → some (m i) ≡ lowest mark_id t (down_from m (i + 1))
  chosen_taken None w e o = sym (rw (add-one i, e, lowest, ← w) refl)
  chosen_taken (Some s) w e o = sym (rw (add-one i, e, lowest, ← w) (ap some (lower-new (m i) (m s) o)))

  chosen_kept : (s : ℕ) → some (m s) ≡ lowest mark_id t (down_from m i) → t (m i) ≡ true → (m s).id.desk < (m i).id.desk → some (m s) ≡ lowest mark_id t (down_from m (i + 1))
  chosen_kept s w e h = sym (rw (add-one i, e, lowest, ← w) (ap some (lower_old (m i) (m s) h)))

  chosen_passed : (b : Maybe ℕ) → mark_of_slot m b ≡ lowest mark_id t (down_from m i) → t (m i) ≡ false → mark_of_slot m b ≡ lowest mark_id t (down_from m (i + 1))
  chosen_passed b w e = rw (add-one i, e, lowest) w

-- The readiness of slot i, by the tally.
ready_slot : (q : Waiting) (t : List ℕ) (l : List Mark) (bs : ℕ → Carried) (i : ℕ) → TallyOf width l t → Named width q.count q.desks → i < q.count
    → ready l (slot_with bs q.stamps q i) ≡ eqb (missing_by width t (get_or q.desks i 0) (get_or q.numbers i 0) (get_or q.stamps i [])) 0
ready_slot q t l bs i ts d h =
    let f = named-at width q.count q.desks i d h in
    ready_by_tally width l ts.counted t (get_or q.stamps i []) ts.tallied (named (get_or q.desks i 0) (get_or q.numbers i 0)) (bs i).extent (bs i).past f.0 f.1

-- The desk of the slot, or one that none is above.
abbrev LowDesk : List ℕ → ℕ → Maybe ℕ → Type 0
LowDesk ds low None = width ≤ low
LowDesk ds low (Some s) = get_or ds s 0 ≡ low

-- b is the slot of the one to execute of the first i, and low its desk; or none.
pub record Lowering (q : Waiting) (t : List ℕ) (b : Maybe ℕ) (low i : ℕ) : Type 0 where
  pub inside : HasSlot q.count b
  pub desk : LowDesk q.desks low b
  pub chosen : (l : List Mark) (bs : ℕ → Carried) → TallyOf width l t
      → mark_of_slot (slot_with bs q.stamps q) b ≡ lowest mark_id (ready l) (down_from (slot_with bs q.stamps q) i)

module _ (q : Waiting) (t : List ℕ) where
  pub lowering_none : Lowering q t None 255 0
  lowering_none = record { inside = tt; desk = omega arith; chosen = λ l bs ts. refl }

  pub lowering_all : (b : Maybe ℕ) (low i : ℕ) → Lowering q t b low i → i ≡ q.count → LowestAt t q b
  unfolding view
  lowering_all b low i w e = record { inside = w.inside; mark = λ l bs ts. w.chosen l bs ts ∙ whole l bs }
    where
      whole : (l : List Mark) (bs : ℕ → Carried) → lowest mark_id (ready l) (down_from (slot_with bs q.stamps q) i) ≡ lowest mark_id (ready l) (slots_with bs q.stamps q)
      whole l bs = ap (λ (k : ℕ). lowest mark_id (ready l) (down_from (slot_with bs q.stamps q) k)) e

  module _ (d : Named width q.count q.desks) (low i r : ℕ) (h : i < q.count) (e : r ≡ missing_by width t (get_or q.desks i 0) (get_or q.numbers i 0) (get_or q.stamps i [])) where
    by : (x : Bool) → eqb r 0 ≡ x → (l : List Mark) (bs : ℕ → Carried) → TallyOf width l t → ready l (slot_with bs q.stamps q i) ≡ x
    by x z l bs ts = ready_slot q t l bs i ts d h ∙ ap (λ (k : ℕ). eqb k 0) (sym e) ∙ z

    pub lowering_taken : (b : Maybe ℕ) → Lowering q t b low i → r ≡ 0 → get_or q.desks i 0 ≤ low → Lowering q t (Some i) (get_or q.desks i 0) (i + 1)
    lowering_taken b w z a = record { inside = h; desk = refl; chosen = λ l bs ts. chosen_taken (slot_with bs q.stamps q) (ready l) i b (w.chosen l bs ts) (by true (eq-eqb r 0 z) l bs ts) (below b w.desk) }
      where
        below : (b : Maybe ℕ) → LowDesk q.desks low b → IfSome b (λ s. get_or q.desks i 0 ≤ get_or q.desks s 0)
        below None o = tt
        below (Some s) o = omega arith

    -- It is not ready, or not of so low a desk.
    pub lowering_kept : (b : Maybe ℕ) → Lowering q t b low i → (r ≡ 0 → ⊥) ⊎ (low < get_or q.desks i 0) → Lowering q t b low (i + 1)
    lowering_kept b w o = record { inside = w.inside; desk = w.desk; chosen = λ l bs ts. kept b w.desk o l bs ts (w.chosen l bs ts) }
      where
        kept : (b : Maybe ℕ) → LowDesk q.desks low b → (r ≡ 0 → ⊥) ⊎ (low < get_or q.desks i 0) → (l : List Mark) (bs : ℕ → Carried) → TallyOf width l t
            → mark_of_slot (slot_with bs q.stamps q) b ≡ lowest mark_id (ready l) (down_from (slot_with bs q.stamps q) i)
            → mark_of_slot (slot_with bs q.stamps q) b ≡ lowest mark_id (ready l) (down_from (slot_with bs q.stamps q) (i + 1))
        kept b k (inl f) l bs ts c = chosen_passed (slot_with bs q.stamps q) (ready l) i b c (by false (ne_eqb r 0 f) l bs ts)
        kept None k (inr f) l bs ts c = let x = named-at width q.count q.desks i d h in let y = x.1 in let z : ⊥ = omega arith in absurd z
        kept (Some s) k (inr f) l bs ts c = one (eqb r 0) refl
          where
            one : (x : Bool) → eqb r 0 ≡ x → some (slot_with bs q.stamps q s) ≡ lowest mark_id (ready l) (down_from (slot_with bs q.stamps q) (i + 1))
            one true z = chosen_kept (slot_with bs q.stamps q) (ready l) i s c (by true z l bs ts) (omega arith)
            one false z = chosen_passed (slot_with bs q.stamps q) (ready l) i (Some s) c (by false z l bs ts)
