-- Pair tables of the desk's own marks.
use Rattle.desk.proofs.Invariant.{marks_by}
use Rattle.desk.proofs.LentPairs.{lent_tables}
use Rattle.desk.proofs.Desk.pair_tables_in_place.Goals as goal

pub pair_tables-requires : goal.pair_tables-requires
pair_tables-requires c = marks_by c.self.inside c.self.invariant

pub returns : goal.returns
returns c = lent_tables c.self.inside c.self.invariant _ c.self.view_is c.args.out.now _ _ c.pair_tables.ensures
