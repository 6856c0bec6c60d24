-- The lemmas that a function's proof is tried with, where their names are no Rust names.
use Rattle.frame.proofs.Bytes.{tail_part}
use Rattle.frame.proofs.RoundTrip.{accepted, edition_read, first_in, head_bounds, own_edition, second_in, version_read, version_wrong}

pub ruleset for_entries = (tail_part, accepted, own_edition)

pub ruleset for_fields = (tail_part, head_bounds, edition_read, version_read, version_wrong)

pub ruleset for_past_of = (first_in, second_in, edition_read)
