-- The lemmas that a function's proof is tried with, where their names are no Rust names.
use Rattle.executed.proofs.Chain.{found-mark, found-nowhere}
use Rattle.predecessors.proofs.OldestLaws.{oldest_before}
use Rattle.rows.proofs.Arrays.{view-length}
use Rattle.rows.proofs.Places.{ids-names}
use Rattle.verdict.proofs.Invariant.{kept-count, kept_few, kept-lent, kept-named, kept_own, kept_sound, kept-total, waiting-length}
use Rattle.verdict.proofs.JudgeLaws.{asked-set, both-said, false-found, first_unsaid, kept-false-count, kept-false_entries, kept-reckoned, older_none, reckoned_few, reckoned-found, second_tells, second_unsaid}
use Rattle.verdict.proofs.Judged.{by_parts, row_same}
use Rattle.verdict.proofs.Judging.{admit_crowded, admit-false, admit-full, admit_holds, admit-runs, judge-executed, judge-new, judge-unmade, judge-waiting, kept_tallies, ready-found}

pub ruleset for_admit = (view-length, admit_crowded, admit-false, admit-full, admit_holds, admit-runs, ready-found)

pub ruleset for_asked = (asked-set)

pub ruleset for_judge = (ids-names, found-mark, found-nowhere, kept-count, kept_few, kept-lent, kept-named, kept_own, kept_sound, kept-total, waiting-length, judge-executed, judge-new, judge-unmade, judge-waiting, kept_tallies)

pub ruleset for_reckon = (ids-names, oldest_before, false-found, kept-false-count, kept-false_entries, kept-reckoned, older_none, reckoned_few, reckoned-found)

pub ruleset for_same_fields = (by_parts)

pub ruleset for_same_row = (row_same)

pub ruleset for_same_past = (both-said, first_unsaid, second_unsaid)

pub ruleset for_unmade = (second_tells)
