-- An empty desk of a number in range comes from New.
use Rattle.desk.proofs.Invariant.{desk_is, kept_empty}
use Rattle.desk.proofs.new.blank.Goals as goal

pub invariant_of-result : goal.invariant_of-result
invariant_of-result c =
    desk_is _ _ _ (kept_empty c.args.own c.requires.0 c.requires.1 _ _ c.empty.ensures.ordered c.empty.ensures.none c.new.ensures.0 c.new.ensures.1)
