-- The lemmas that a function's proof is tried with, where their names are no Rust names.
use Rattle.causality.proofs.Fit.{desk_facts}
use Rattle.halving.proofs.FirstApart.{first_no_desk}
use Rattle.halving.proofs.Searching.{few_asks, fewer_asks, halved_end, halved_high, halved_low, halved_start}
use Rattle.queries.proofs.Asking.{asked-counted, asked_on, asked-passed, not_ended, some-place, turned_joined, turned-passed}
use Rattle.queries.proofs.MadeBefore.{made_none, none_more, other-same, own_less}
use Rattle.rows.proofs.RowSteps.{named-at, named-less}

pub ruleset for_ask = (named-at, named-less, asked-counted, asked-passed, some-place, other-same, own_less)

pub ruleset for_first_apart = (desk_facts, first_no_desk)

pub ruleset for_made_before = (made_none, none_more)

pub ruleset for_search = (named-less, few_asks, fewer_asks)
