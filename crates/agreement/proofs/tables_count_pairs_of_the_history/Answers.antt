-- What the tables count, as proofs/Sequences.antt has it.
use Rattle.agreement.proofs.Sequences.{pairs_counted}
use Rattle.agreement.proofs.tables_count_pairs_of_the_history.Goals as goal

pub returns : goal.returns
returns c = pairs_counted
