-- The desks passed are added.
use Rattle.rows.specs.View.{width}
use Rattle.tables.proofs.Adding.{Adding}
use Rattle.tables.proofs.Tables.add.Given as goal

abbrev pub invariant-loop-j : goal.invariant-loop-j
invariant-loop-j l = Adding width l.d l.past l.made l.initial.self l.self l.j
