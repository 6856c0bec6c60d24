-- `find` meets its contract: what the check leaves of it.
use mathlib.Core.Logic.{inl, inr}
use native.Mathlib.Omega.{arith}
use Rattle.rows.specs.View.{width}
use Rattle.rows.proofs.Copies.{below_hit, below_miss}
use Rattle.waiting.proofs.Waiting.find.Goals.{else-self-s-via-then-self-s+else-self-s-2, else-self-s-via-else-self-s}
use Rattle.waiting.proofs.Waiting.find.Goals as goal

pub returns-then-self-s-2 : goal.returns-then-self-s-2
returns-then-self-s-2 c =
    let t = c.loop-s.invariant.turns in
    record { inside = omega arith; mark = below_hit width _ _ _ _ c.loop-s.s c.loop-s.invariant (omega arith) c.if-self-s.true c.if-self-s-2.true }

pub loop-s-preserved : goal.loop-s-preserved
loop-s-preserved c = below_miss width _ _ _ _ c.loop-s.s c.loop-s.invariant (omega arith) (elim c.else-self-s.branch [
  | else-self-s-via-then-self-s+else-self-s-2 w ↦ inr w.if-self-s-2.false
  | else-self-s-via-else-self-s w ↦ inl w.if-self-s.false
])
