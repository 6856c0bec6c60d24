-- The lemmas that a function's proof is tried with, where their names are no Rust names.
use Rattle.causality.proofs.Fit.{desk_facts, desk_test}
use Rattle.executed.proofs.Chain.{chain-place, chain_start}
use Rattle.rows.proofs.RowSteps.{passed-all, passed-set}

pub ruleset for_find = (desk_facts, desk_test, chain-place, chain_start)

pub ruleset for_strike = (passed-all, passed-set)
