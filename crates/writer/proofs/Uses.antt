-- The lemmas that a function's proof is tried with, where their names are no Rust names.
use Rattle.frame.proofs.RoundTrip.{head_bounds, head_length}
use Rattle.frame.proofs.Written.{head_of_lem}

pub ruleset for_head_of = (head_of_lem)

pub ruleset for_write = (head_bounds, head_length)
