-- `add` meets its contract: what the check leaves of it.
use Rattle.rows.specs.View.{width}
use Rattle.tables.proofs.Adding.{adding_more}
use Rattle.tables.proofs.Tables.add.Goals as goal

pub loop-j-preserved : goal.loop-j-preserved
loop-j-preserved c =
    adding_more width _ _ _ _ c.requires.desk c.loop-j.self c.loop-j.j c.loop-j.invariant c.loop-j-test.true _ _ c.from.ensures c.from-rest.ensures
