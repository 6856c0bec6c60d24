-- The laws of rows, as proofs/Laws.antt has them.
use Rattle.agreement.proofs.Laws.{laws_by_rows}
use Rattle.agreement.proofs.desks_keep_the_laws_of_rows.Goals as goal

pub returns : goal.returns
returns c = laws_by_rows
