-- That pairs add up, as proofs/Laws.antt has it.
use Rattle.agreement.proofs.Laws.{pairs_add}
use Rattle.agreement.proofs.pairs_add_up.Goals as goal

pub returns : goal.returns
returns c = pairs_add
