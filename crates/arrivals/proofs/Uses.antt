-- The lemmas that a function's proof is tried with, where their names are no Rust names.
use Rattle.arrivals.proofs.Arriving.{promise_runs, promise_stays, promise_waits, runs_midway, runs_takes, waits_room}
use Rattle.arrivals.proofs.Turning.{counts_dropped, counts-executed, held_named, mid_count, mid_named, releases_again, releases_ends, releases_few, releases_starts, releases_turns, turn_dropped_is, turn-executed-is, turn_fit, turn-is-ready, turn-ready, turn_takes}
use Rattle.verdict.proofs.Judging.{kept-none, kept-some}

pub ruleset for_arrive = (promise_runs, promise_stays, promise_waits, runs_midway, runs_takes, waits_room)

pub ruleset for_release = (counts_dropped, counts-executed, held_named, releases_again, releases_ends, releases_few, releases_starts, releases_turns)

pub ruleset for_turn = (kept-none, kept-some, mid_count, mid_named, turn_dropped_is, turn-executed-is, turn_fit, turn-is-ready, turn-ready, turn_takes)
