-- `find` meets its contract. Invariant: the mark of that name, if any, is among the first s.
use Rattle.causality.specs.Meaning.{id_of}
use Rattle.rows.specs.View.{width}
use Rattle.rows.proofs.Copies.{Below}
use Rattle.waiting.proofs.Waiting.find.Given as goal

abbrev pub invariant-loop-s : goal.invariant-loop-s
invariant-loop-s l = Below width l.self.count l.self.desks l.self.numbers (id_of l.i) l.s
