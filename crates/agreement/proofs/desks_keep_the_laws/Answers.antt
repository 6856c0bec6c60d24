-- The laws, as proofs/Laws.antt has them.
use Rattle.agreement.proofs.Laws.{laws_of_desks}
use Rattle.agreement.proofs.desks_keep_the_laws.Goals as goal

pub returns : goal.returns
returns c = laws_of_desks
