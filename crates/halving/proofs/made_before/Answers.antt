-- `made_before` meets its contract: all are, if the last one is; else the mark that is met has the number that is asked for.
use Rattle.queries.proofs.MadeBefore.{made_all, made_met}
use Rattle.halving.proofs.made_before.Goals as goal

pub returns-then-from-p : goal.returns-then-from-p
returns-then-from-p c =
    let last = rw c.from.ensures at c.if-from-p.true in
    rw c.from-d.ensures (made_all c.args.executed.now _ _ c.requires.low c.requires.high (rw c.from-d.ensures at last))

pub returns-then-executed-q : goal.returns-then-executed-q
returns-then-executed-q c = made_met c.args.executed.now _ _ _ c.loop-q.invariant c.loop-q-test.true c.if-executed-q.true
