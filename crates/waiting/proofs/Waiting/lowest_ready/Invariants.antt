-- `lowest_ready` meets its contract. Invariant: `best` is the slot of the one to execute of those passed, and `lowest` its desk; or none and 255.
use Rattle.waiting.proofs.LowestLaws.{Lowering}
use Rattle.waiting.proofs.Waiting.lowest_ready.Given as goal

abbrev pub invariant-loop-i : goal.invariant-loop-i
invariant-loop-i l = Lowering l.self l.tally l.best l.lowest l.i
