-- The lemmas that a function's proof is tried with, where their names are no Rust names.
use Rattle.queries.proofs.InPast.{counts_last, counts_met, in_past_reached, in_past_traced}
use Rattle.queries.proofs.Reaching.{reach_joined, reach_passed}
use Rattle.rows.proofs.Arrays.{sound_below}
use Rattle.rows.proofs.RowSteps.{named-at, named-less, pass_rest}

pub ruleset for_in_past_count = (named-at, named-less, counts_last, counts_met)

pub ruleset for_relate_follow = (sound_below, named-at, named-less, reach_joined, reach_passed)

pub ruleset for_relate_precedes = (named-at)
