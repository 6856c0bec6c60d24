-- The executed marks of a desk: the mark at a place, the marks before a place, and one stored.
use Rattle.std.specs.Prelude.{List, ℕ, set}
use Rattle.causality.specs.State.{Mark}
use Rattle.rows.specs.declared.Executed.{Executed}
use Rattle.rows.specs.declared.Held.{Held}
use Rattle.rows.specs.View.{Carried, carried_at, mark_at, view, width}

abbrev pub mark_in : Executed → ℕ → Mark
mark_in a p = mark_at width a.desks a.numbers (carried_at a.boxes a.pasts) a.stamps p

-- Those before place p, newest first, if they carry this beside their names and stamps.
abbrev pub marks_with : (ℕ → Carried) → ℕ → Executed → List Mark
marks_with bs p a = view width p a.desks a.numbers bs a.stamps

-- Those before place p, newest first.
abbrev pub marks_to : ℕ → Executed → List Mark
marks_to p a = view width p a.desks a.numbers (carried_at a.boxes a.pasts) a.stamps

-- All of them.
abbrev pub executed_in : Executed → List Mark
executed_in a = marks_to a.count a

-- A mark stored at place p.
abbrev pub stored_in : Executed → ℕ → Held → Executed
stored_in a p h = record a {
  desks = set a.desks p h.desk;
  numbers = set a.numbers p h.number.0;
  boxes = set a.boxes p h.extent;
  pasts = set a.pasts p h.past;
  stamps = set a.stamps p h.row;
}
