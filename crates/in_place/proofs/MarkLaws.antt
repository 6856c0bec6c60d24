-- The next mark of a desk and the frame of a mark that is held, by what the row functions and the writer ensure. Assumes nothing.
use Prim.Native.Nat.{◌+◌, ◌-◌, ◌<◌, ◌≤◌, suc, ℕ}
use lib.Dec.{T}
use lib.ListN.{get_or, length}
use mathlib.Core.List.{List, ◌∷◌}
use mathlib.Core.Path.{◌∙◌, ◌≡◌, ap, subst, sym}
use native.Mathlib.Numerals.{add-one}
use native.Mathlib.Omega.{arith}
use Rattle.frame.specs.declared.MarkBox.{MarkBox}
use Rattle.rows.specs.declared.Held.{Held}
use Rattle.frame.specs.declared.Fields.{Fields}
use Rattle.frame.specs.declared.Past.{Past}
use Rattle.frame.specs.declared.Past.TheVariants.{Said}
use Rattle.frame.specs.Answer.{Answer}
use Rattle.frame.specs.Frame.{entry_bytes, over_if, write_bytes, write_size}
use Rattle.frame.specs.Names.{MarkId, desks}
use Rattle.causality.specs.Calls.{fields_of_mark, frame_of_mark, new_mark, size_of_mark}
use Rattle.causality.specs.Marks.{has, places, tally}
use Rattle.causality.specs.State.{Mark, heads, ids, mark_id}
use Rattle.causality.specs.inner.Fit.{Range}
use Rattle.causality.proofs.Lists.{all-names, all_map, tally-length}
use Rattle.causality.proofs.Numbers.{heads_strict}
use Rattle.causality.proofs.Past.{Standing, heads-has}
use Rattle.causality.proofs.Reach.{local, local_hist, mark_sound}
use Rattle.causality.specs.inner.Order.{CausallyOrdered}
use Rattle.causality.specs.Rows.{entries_of_row}
use Rattle.causality.specs.inner.Passes.{row_of}
use Rattle.rows.specs.View.{past_from, width}
use Rattle.rows.specs.inner.Slots.{held_mark, row_fn}
use Rattle.rows.specs.declared.Executed.{Executed}
use Rattle.executed.specs.inner.Takes.{Takes}
use Rattle.waiting.specs.declared.Waiting.{Waiting}
use Rattle.verdict.specs.Kept.{KeptIn, state_in}
use Rattle.in_place.specs.inner.Steps.{next_held}
use Rattle.rows.proofs.ByRows.{row_at_lem, row-entries}
use Rattle.verdict.proofs.Invariant.{executed-length, kept-count, kept_fit, kept_own, kept_sound}

-- The frame of a mark: p is its past, es are the bytes of its entries.
module _ (h : Held) (p : Past) (g : p ≡ past_from h.past) (es : List ℕ) (e : es ≡ entry_bytes (entries_of_row width (row_fn h.row))) where
  abbrev fields : Past → Fields
  fields p = record { desk = h.desk; number = h.number; extent = h.extent; past = p }

  pub held_size : (lent : ℕ) (a : Answer ℕ) → a ≡ write_size desks (fields p) es lent → a ≡ size_of_mark desks (held_mark h) lent
  unfolding size_of_mark fields_of_mark
  held_size lent a f = f ∙ (λ i. write_size desks (fields (g i)) (e i) lent)

  pub held_bytes : (out after : List ℕ) → after ≡ write_bytes desks (fields p) es out → after ≡ over_if (size_of_mark desks (held_mark h) (length out)) (frame_of_mark (held_mark h)) out
  unfolding size_of_mark frame_of_mark fields_of_mark write_bytes
  held_bytes out after f = f ∙ (λ i. write_bytes desks (fields (g i)) (e i) out)

-- The next mark of a kept desk, by its kept rows.
module _ (own : ℕ) (a : Executed) (q : Waiting) (k : KeptIn own a q) where
  own_count : (t : List ℕ) → ((j : ℕ) → j < width → get_or t j 0 ≡ tally (suc j) (ids (state_in own a q).executed)) → get_or t (own - 1) 0 ≡ tally own (ids (state_in own a q).executed)
  own_count t f = row_at_lem width t (λ e. tally e (ids (state_in own a q).executed)) f own (kept_own own a q k).0 (kept_own own a q k).1

  heads-stamp : (row : List ℕ) → ((j : ℕ) → j < width → get_or row j 0 ≡ row_of (heads (state_in own a q).executed) (suc j)) → entries_of_row width (row_fn row) ≡ heads (state_in own a q).executed
  heads-stamp row f = row-entries width (heads l) row (heads_strict (local l) l h) range f
    where
      l : List Mark
      l = (state_in own a q).executed

      h : Standing (local l) l
      h = local_hist l (kept_sound own a q k)

      range : (e : MarkId) → T (has e (heads l)) → (1 ≤ e.desk) × (e.desk ≤ width) × (1 ≤ e.number)
      range e t =
          let r = all-names mark_id (Range desks) l (all_map (λ m f. f.range) l (kept_fit own a q k)) e (heads-has (local l) l e t).0 in
          (r.low, r.high, r.first)

  -- No count is above the number of places.
  pub tally_small : get_or a.tally (own - 1) 0 ≤ places
  tally_small =
      let e = own_count a.tally k.ordered.rows.tally in
      let t = tally-length own (state_in own a q).executed in
      let n = executed-length own a q in
      let c = kept-count own a q k in
      omega arith

  pub next_mark_lem : (b : MarkBox)
      → held_mark (next_held own a.count a.tally a.heads b) ≡ new_mark (state_in own a q) b
  unfolding new_mark
  next_mark_lem b =
      let e : get_or a.tally (own - 1) 0 + 1 ≡ suc (tally own (ids (state_in own a q).executed)) = let x = own_count a.tally k.ordered.rows.tally in omega arith in
      let s = heads-stamp a.heads k.ordered.rows.heads in
      let p : past_from (a.count + 1) ≡ Said (length (state_in own a q).executed) = ap past_from (add-one a.count) ∙ ap Said (sym (executed-length own a q)) in
      λ i. record { id = record { desk = own; number = e i }; extent = b; stamp = s i; past = p i }

  -- The next place may take it.
  pub mark_takes : (b : MarkBox) (h : Held) → held_mark h ≡ new_mark (state_in own a q) b → a.count < places → Takes h a
  unfolding new_mark
  mark_takes b h e l =
      let o : h.desk ≡ own = ap (λ (m : Mark). m.id.desk) e in
      let w = kept_own own a q k in
      record {
        ordered = k.ordered;
        room = l;
        low = omega arith;
        high = omega arith;
        sound = subst (λ (m : Mark). CausallyOrdered (m ∷ (state_in own a q).executed)) (sym e) (mark_sound (state_in own a q) b (kept_sound own a q k), kept_sound own a q k);
      }
