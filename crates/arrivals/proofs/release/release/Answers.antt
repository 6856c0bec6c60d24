-- `release` meets its contract: what the check leaves of it.
use mathlib.Core.Path.{refl}
use native.Mathlib.Numerals.{add-one}
use Rattle.arrivals.proofs.Turning.{releases_again, releases_ends, releases_turns}
use Rattle.arrivals.proofs.release.release.Goals as goal

pub turn-requires : goal.turn-requires
turn-requires c = releases_turns _ _ _ _ _ _ c.loop-i.invariant c.in-Some.i c.in-Some.ensures

pub loop-i-preserved-then-turn : goal.loop-i-preserved-then-turn
loop-i-preserved-then-turn c = releases_again _ _ _ _ _ _ c.loop-i.invariant _ _ _ c.if-turn.ensures _ _ (add-one _) refl

pub loop-i-preserved : goal.loop-i-preserved
loop-i-preserved c = releases_again _ _ _ _ _ _ c.loop-i.invariant _ _ _ c.if-turn.ensures _ _ refl (add-one _)

pub returns : goal.returns
returns c = releases_ends _ _ _ _ _ _ c.loop-i.invariant c.in_default.ensures c.loop-i.done refl refl
