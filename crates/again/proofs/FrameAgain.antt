-- Frame again by its two ways out: the mark is at no place, or its frame is written from its place. Assumes nothing.
use Prim.Native.Nat.{◌<◌, ℕ}
use lib.ListN.{length}
use mathlib.Core.List.{List}
use mathlib.Core.Option.{Option, none, some}
use mathlib.Core.Path.{◌∙◌, ◌≡◌, sym}
use native.Mathlib.Omega.{arith}
use Rattle.frame.specs.declared.Refusal.TheVariants.{NotExecuted}
use Rattle.std.specs.Prelude.{Err, Result, Some}
use Rattle.frame.specs.declared.Refusal.{Refusal}
use Rattle.frame.specs.declared.MarkId.{MarkId}
use Rattle.rows.specs.declared.Held.{Held}
use Rattle.frame.specs.Answer.{refused}
use Rattle.frame.specs.Frame.{over_if, writing}
use Rattle.frame.specs.Names.{MarkId as Id, desks}
use Rattle.causality.specs.Calls.{frame_again_bytes, frame_again_size, frame_of_mark, size_of_mark}
use Rattle.causality.specs.Marks.{find, places}
use Rattle.causality.specs.declared.Place.{Place}
use Rattle.causality.specs.Meaning.{id_of}
use Rattle.causality.specs.State.{Mark, State, mark_id}
use Rattle.rows.specs.inner.Slots.{held_mark}
use Rattle.rows.specs.declared.Executed.{Executed}
use Rattle.waiting.specs.declared.Waiting.{Waiting}
use Rattle.executed.specs.inner.Rows.{Finds}
use Rattle.executed.proofs.Chain.{found_inside}
use Rattle.verdict.specs.Kept.{KeptIn}
use Rattle.verdict.proofs.Invariant.{kept-count, kept-lent}
use Rattle.in_place.specs.Lent.{counted_with}
use Rattle.in_place.specs.inner.Steps.{AgainIn}

-- The definition where it is known what is found.
module _ (st : State) (x : MarkId) (out : List ℕ) where
  size_by : (o : Option Mark) → find mark_id (id_of x) st.executed ≡ o
      → frame_again_size desks st (id_of x) (length out) ≡ elim o [ none ↦ refused 12 | some m ↦ size_of_mark desks m (length out) ]
  unfolding frame_again_size
  size_by o e = λ i. elim (e i) [ none ↦ refused 12 | some m ↦ size_of_mark desks m (length out) ]

  bytes_by : (o : Option Mark) → find mark_id (id_of x) st.executed ≡ o
      → frame_again_bytes desks st (id_of x) out ≡ elim o [ none ↦ out | some m ↦ over_if (size_of_mark desks m (length out)) (frame_of_mark m) out ]
  unfolding frame_again_bytes
  bytes_by o e = λ i. elim (e i) [ none ↦ out | some m ↦ over_if (size_of_mark desks m (length out)) (frame_of_mark m) out ]

  pub not-executed : find mark_id (id_of x) st.executed ≡ none → AgainIn st x out out (Err NotExecuted)
  not-executed e = record { answer = sym (size_by none e); bytes = sym (bytes_by none e) }

  pub written-again : (m : Held) → find mark_id (id_of x) st.executed ≡ some (held_mark m)
      → (w : Result ℕ Refusal) (after : List ℕ) → writing w ≡ size_of_mark desks (held_mark m) (length out)
      → after ≡ over_if (size_of_mark desks (held_mark m) (length out)) (frame_of_mark (held_mark m)) out
      → AgainIn st x out after w
  written-again m e w after size bytes = record { answer = size ∙ sym (size_by (some (held_mark m)) e); bytes = bytes ∙ sym (bytes_by (some (held_mark m)) e) }

-- The place of a mark that is found is one of the places.
pub found_few : (own count : ℕ) (heads : List ℕ) (a : Executed) (q : Waiting) → KeptIn own (counted_with count heads a) q → (i : Id) (p : Place) → Finds a i (Some p) → p.0 < places
found_few own count heads a q k i p f =
    let l = found_inside count (counted_with count heads a) (kept-lent own (counted_with count heads a) q k) i p f in
    let n = kept-count own (counted_with count heads a) q k in
    omega arith
