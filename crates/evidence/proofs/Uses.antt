-- The lemmas that a function's proof is tried with, where their names are no Rust names.
use Rattle.evidence.proofs.Reversing.{names_reversed}
use Rattle.pairs.proofs.Longer.{longer-kept, longer-new, longer_spare}
use Rattle.rows.proofs.RowSteps.{named-at, named-less}

pub ruleset for_counts = (named-at, named-less)

pub ruleset for_reversed = (longer-kept, longer-new, longer_spare, names_reversed)
