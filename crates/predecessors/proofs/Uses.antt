-- The lemmas that a function's proof is tried with, where their names are no Rust names.
use Rattle.causality.proofs.Logic.{not-leb}
use Rattle.causality.proofs.Upto.{count_le, sum_none}
use Rattle.predecessors.proofs.MissingLaws.{missing-entry, missing-more, missing-none}
use Rattle.predecessors.proofs.OldestLaws.{above-names, left-all, left-kept, left-none, left-struck}
use Rattle.predecessors.proofs.SettleLaws.{counted-at, counted-more, counted_no, tally-less, tally-some, total-more, total_part}
use Rattle.rows.proofs.RowSteps.{counted-first, counted-second, named-at, named_last, named-less, one-turn, pass_ended, passed-all, passed-set, reached_more, reached_no, reached_yes}

pub ruleset for_examine = (named-at, one-turn)

pub ruleset for_settle = (named_last, named-less, pass_ended, counted-at, tally-less, tally-some)

pub ruleset for_trace = (named-less, pass_ended)

pub ruleset for_above = (count_le, sum_none)

pub ruleset for_counted = (counted-first, counted-second)

pub ruleset for_covered = (counted-more, counted_no)

pub ruleset for_false_stamp = (not-leb, reached_more, reached_no, reached_yes)

pub ruleset for_join = (passed-set, passed-all)

pub ruleset for_missing = (missing-entry, missing-more, missing-none, count_le)

pub ruleset for_oldest = (above-names, left-all, left-kept, left-none, left-struck, named-at)

pub ruleset for_total = (sum_none, total-more, total_part)
