-- A marking gives a desk that came from the calls.
use mathlib.Core.Path.{refl}
use Rattle.desk.proofs.Invariant.{desk_is}
use Rattle.desk.proofs.Desk.mark_in_place.Goals as goal

pub invariant_of-self : goal.invariant_of-self
invariant_of-self c = desk_is _ _ _ (c.marking.ensures c.self.inside.queue refl c.self.invariant.kept).kept
