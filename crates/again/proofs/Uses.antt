-- The lemmas that a function's proof is tried with, where their names are no Rust names.
use Rattle.again.proofs.Converting.{first-refused, first-same, first-written, kept-absent, kept_differs, kept-written, said-none, said-some, second-kept, second-refused, second-same}
use Rattle.again.proofs.FrameAgain.{not-executed, written-again}
use Rattle.executed.proofs.Chain.{found-mark, found-nowhere}
use Rattle.verdict.proofs.Invariant.{kept-count, kept-lent}

pub ruleset for_convert_to_first = (first-refused, first-same, first-written, said-none, said-some)

pub ruleset for_convert_to_second = (said-none, said-some, second-kept, second-refused, second-same)

pub ruleset for_convert_write_kept = (found-mark, found-nowhere, kept-count, kept-lent, kept-absent, kept_differs, kept-written)

pub ruleset for_frame_again_write_again = (found-mark, found-nowhere, kept-count, kept-lent, not-executed, written-again)
