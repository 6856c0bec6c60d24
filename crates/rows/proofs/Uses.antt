-- The lemmas that a function's proof is tried with, where their names are no Rust names.
use Rattle.rows.proofs.Pasts.{from-count}
use Rattle.rows.proofs.RowBytes.{write-more}

pub ruleset for_codec_entries_of = (write-more)

pub ruleset for_past_number = (from-count)
