-- A Receive gives a desk that came from the calls.
use Rattle.desk.proofs.Invariant.{desk_is}
use Rattle.desk.proofs.Desk.receive_in_place.Goals as goal

pub invariant_of-self : goal.invariant_of-self
invariant_of-self c = desk_is _ _ _ c.receiving.ensures.kept
