-- The lemmas that a function's proof is tried with, where their names are no Rust names.
use Rattle.causality.proofs.Fit.{frame_fit}
use Rattle.in_place.proofs.MarkLaws.{held_size, mark_takes, next_mark_lem, tally_small}
use Rattle.in_place.proofs.Marking.{box-refused, full-refused, is-full, place-left, write-refused}
use Rattle.in_place.proofs.Receipt.{made-mark, receipt_mark, receipt_refused}
use Rattle.verdict.proofs.Invariant.{kept-count, kept_own, kept-total}

pub ruleset for_mark_marking = (kept-count, kept_own, kept-total, box-refused, full-refused, is-full, place-left, write-refused, mark_takes, next_mark_lem, tally_small)

pub ruleset for_mark_write_mark = (held_size)

pub ruleset for_receive_mark_in = (made-mark)

pub ruleset for_receive_receiving = (frame_fit, receipt_mark, receipt_refused)
