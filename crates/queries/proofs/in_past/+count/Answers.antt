-- `count` meets its contract: the row counts as many as are asked for, no mark is left, or the desk's next is met; else the mark at the last place is examined. The place falls at each call.
use mathlib.Core.Path.{◌∙◌, ◌≡◌, ap}
use Prim.Native.Nat.{◌-◌, ◌<◌, min}
use native.Mathlib.Omega.{arith}
use Rattle.rows.specs.View.{width}
use Rattle.rows.proofs.Arrays.{sound_below}
use Rattle.queries.proofs.Reaching.{reach_joined, reach_passed, reached}
use Rattle.queries.proofs.in_past.+count.Goals.{then-executed-p-3, else-executed-p-3}
use Rattle.queries.proofs.in_past.+count.Goals as goal

pub returns : goal.returns
returns t c bs sound =
    let a = c.args in
    let e = a.executed.now in
    let h = c.requires in
    let z : 0 < a.at.0 = let l = c.if-at-eq0.false in omega arith in
    let reaches : (let a = c.args in let e = a.executed.now in
    reached width e.desks e.numbers bs e.stamps (a.at.0 - 1) c.if-executed-p-3.row a.desk ≡ reached width e.desks e.numbers bs e.stamps a.at.0 a.row.now a.desk) = elim c.if-executed-p-3.branch [
      | then-executed-p-3 w ↦ rw w.row-is (reach_joined width _ _ bs e.stamps _ _ _ z h.named (rw c.from-2.ensures at w.if-executed-p-3.true) w.join.ensures.counts _ h.low h.high)
      | else-executed-p-3 w ↦ rw w.row-is (reach_passed width _ _ bs e.stamps _ _ z (rw c.from-2.ensures at w.if-executed-p-3.false) _ h.low)
    ] in
    c.count.ensures bs (sound_below width _ e.desks e.numbers bs e.stamps sound _ (omega arith)) ∙ ap (min a.most) reaches
