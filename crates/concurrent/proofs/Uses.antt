-- The lemmas that a function's proof is tried with, where their names are no Rust names.
use Rattle.causality.proofs.EvidenceLaws.{told_by_count}
use Rattle.concurrent.proofs.ApartTurns.{apart-all, passed_no, passed-yes}
use Rattle.rows.proofs.Places.{named-has}
use Rattle.rows.proofs.RowSteps.{named-at, named-less}

pub ruleset for_apart = (told_by_count, named-has, named-at, named-less, apart-all)

pub ruleset for_first_followers = (named-at)

pub ruleset for_follows = (passed_no, passed-yes)
