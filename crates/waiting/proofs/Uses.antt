-- The lemmas that a function's proof is tried with, where their names are no Rust names.
use Rattle.rows.proofs.RowSteps.{named-at}

pub ruleset for_lowest_ready = (named-at)
