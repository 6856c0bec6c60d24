-- The columns after an execution: one mark more, and the kept rows with it. Assumes nothing.
use Prim.Native.Nat.{◌+◌, ◌-◌, ◌<◌, ◌≤◌, suc, ℕ}
use lib.ListN.{get_or, length, length-set, set}
use mathlib.Core.List.{List, ◌∷◌}
use mathlib.Core.Path.{◌∙◌, ◌≡◌, ap, subst, sym}
use native.Mathlib.Numerals.{sub-one}
use native.Mathlib.Omega.{arith}
use Rattle.causality.specs.Marks.{places}
use Rattle.causality.specs.State.{Mark, ids}
use Rattle.causality.proofs.RowLaws.{entries_strict, row_of-entries}
use Rattle.rows.specs.declared.Executed.{Executed}
use Rattle.rows.specs.Executed.{executed_in, stored_in}
use Rattle.rows.specs.View.{carried_at, width}
use Rattle.rows.specs.inner.Slots.{held_mark, row_fn}
use Rattle.rows.specs.declared.Held.{Held}
use Rattle.rows.proofs.Arrays.{view-length}
use Rattle.rows.proofs.Slots.{stored_slots, stored_view}
use Rattle.executed.specs.inner.Takes.{Takes, Took}
use Rattle.executed.specs.inner.Rows.{Rows, Struck, struck, turned}
use Rattle.executed.proofs.Keeping.{ids-length, rows_step, set_desk}

-- The desk's own head is set in a row whose others were struck.
turned_set : (n e v : ℕ) (row h₀ h : List ℕ) → length h ≡ n → 1 ≤ e → e ≤ n → ((j : ℕ) → j < n → get_or h j 0 ≡ struck (get_or row j 0) (get_or h₀ j 0))
    → (j : ℕ) → j < n → get_or (set h (e - 1) v) j 0 ≡ turned e v (get_or row j 0) (suc j) (get_or h₀ j 0)
turned_set n e v row h₀ h len p q f = set_desk n e v h (λ j. struck (get_or row j 0) (get_or h₀ j 0)) len p q f

-- What the code stores.
module _ (a : Executed) (h : Held) (t : Takes h a) (wide : length h.row ≡ width) (hs : List ℕ) (y : Struck h.row a.heads hs) where
  abbrev after : Executed
  after = record (stored_in a a.count h) {
    count = a.count + 1;
    tally = set a.tally (h.desk - 1) h.number.0;
    heads = set hs (h.desk - 1) h.number.0;
    last = set a.last (h.desk - 1) (a.count + 1);
    before = set a.before a.count (get_or a.last (h.desk - 1) 0);
  }

  marks : executed_in after ≡ held_mark h ∷ executed_in a
  marks = stored_view a.count h a.desks a.numbers a.boxes a.pasts a.stamps places t.ordered.slots t.room

  -- As many names as the count says.
  names : length (ids (executed_in a)) ≡ a.count
  names = ids-length (executed_in a) ∙ view-length width a.count a.desks a.numbers (carried_at a.boxes a.pasts) a.stamps

  rows : Rows (held_mark h ∷ executed_in a) after.tally after.heads after.last after.before
  rows = subst (λ (k : ℕ). Rows (held_mark h ∷ executed_in a) after.tally after.heads (set a.last (h.desk - 1) (k + 1)) (set a.before k (get_or a.last (h.desk - 1) 0))) names
      (rows_step (held_mark h) (executed_in a) t.sound (entries_strict (row_fn h.row) 1 width) t.low t.high h.row a.tally a.heads a.last a.before after.heads t.ordered.rows
      (let e = names in let r = t.room in omega arith) (λ j q. row_of-entries width (row_fn h.row) (suc j) (omega arith) q ∙ ap (λ (k : ℕ). get_or h.row k 0) (sub-one (suc j)))
      (length-set hs (h.desk - 1) h.number.0 ∙ y.long) (turned_set width h.desk h.number.0 h.row a.heads hs y.long t.low t.high y.counts))

  pub took : Took h a after
  took = record {
    one = let z : a.count + 1 ≡ a.count + 1 = omega arith in z;
    ordered = record {
      slots = stored_slots a.count h a.desks a.numbers a.boxes a.pasts a.stamps places t.ordered.slots t.room wide;
      rows = subst (λ (l : List Mark). Rows l after.tally after.heads after.last after.before) (sym marks) rows;
    };
    marks = marks;
  }
