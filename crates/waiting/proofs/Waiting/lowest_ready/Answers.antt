-- `lowest_ready` meets its contract: what the check leaves of it.
use mathlib.Core.Logic.{inl, inr}
use native.Mathlib.Omega.{arith}
use Rattle.waiting.proofs.LowestLaws.{lowering_all, lowering_kept, lowering_taken}
use Rattle.waiting.proofs.Waiting.lowest_ready.Goals.{then-short-eq0+then-desk-lowest, else-short-eq0, else-short-eq0-via-then-short-eq0+else-desk-lowest, else-short-eq0-via-else-short-eq0}
use Rattle.waiting.proofs.Waiting.lowest_ready.Goals as goal

pub loop-i-preserved : goal.loop-i-preserved
loop-i-preserved c =
    let a = c.args in
    let e = c.missing-short.ensures in
    let l = c.loop-i in
    let h = c.loop-i-test.true in
    elim c.if-short-eq0.branch [
      | then-short-eq0+then-desk-lowest w ↦ rw (w.best-is, w.lowest-is) (lowering_taken a.self.now a.tally c.requires.1 l.lowest l.i _ h e l.best l.invariant w.if-short-eq0.true w.if-desk-lowest.true)
      | else-short-eq0 w ↦ rw (w.best-is, w.lowest-is) (lowering_kept a.self.now a.tally c.requires.1 l.lowest l.i _ h e l.best l.invariant (elim w.else-short-eq0.branch [
        | else-short-eq0-via-then-short-eq0+else-desk-lowest v ↦ inr v.if-desk-lowest.false
        | else-short-eq0-via-else-short-eq0 v ↦ inl v.if-short-eq0.false
      ]))
    ]

pub returns : goal.returns
returns c = lowering_all c.args.self.now c.args.tally c.loop-i.best c.loop-i.lowest c.loop-i.i c.loop-i.invariant (omega arith)
