-- The lemmas that a function's proof is tried with, where their names are no Rust names.
use Rattle.causality.proofs.Fit.{desk_facts}

pub ruleset for_new = (desk_facts)
