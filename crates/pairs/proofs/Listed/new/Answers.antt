-- `new` meets its contract: its arrays are of zeros alone.
use Rattle.causality.specs.Marks.{places}
use Rattle.rows.proofs.Slots.{zero-all}
use Rattle.pairs.proofs.Listed.new.Goals as goal

pub returns-clause-spare : goal.returns-clause-spare
returns-clause-spare c = record { desks = zero-all places 0; numbers = zero-all places 0 }
