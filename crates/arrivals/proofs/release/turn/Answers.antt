-- `turn` meets its contract: the mark of the slot is taken out, and dropped or executed by its stamp (Turning).
use Rattle.rows.specs.Executed.{executed_in}
use Rattle.rows.specs.inner.Slots.{held_mark}
use Rattle.verdict.proofs.Judging.{kept-some}
use Rattle.arrivals.proofs.Releasing.{next_fits}
use Rattle.std.specs.Prelude.{Some}
use Rattle.arrivals.proofs.Turning.{turn-executed-is, turn_few, turn_fit, turn_kept, turn-ready, turn_takes}
use Rattle.arrivals.proofs.release.turn.Goals as goal

pub reckon-requires-clause-fit : goal.reckon-requires-clause-fit
reckon-requires-clause-fit c = let h = c.mark_at-h in turn_fit _ _ _ c.requires h.result h.ensures

pub reckon-requires-clause-ready : goal.reckon-requires-clause-ready
reckon-requires-clause-ready c = let h = c.mark_at-h in turn-ready _ _ _ c.requires h.result h.ensures

pub overflow_add-past : goal.overflow_add-past
overflow_add-past c =
    let h = c.mark_at-h in
    let n = c.in-Some.past in
    let k = kept-some (executed_in c.args.executed.now) (held_mark h.result) n (turn_kept _ _ _ c.requires h.result h.ensures (Some n) c.in-Some.ensures) in
    next_fits n (turn_few _ _ _ c.requires h.result h.ensures k.0 n k.1)

pub execute-requires : goal.execute-requires
execute-requires c =
    let h = c.mark_at-h in
    let n = c.in-Some.past in
    let k = kept-some (executed_in c.args.executed.now) (held_mark h.result) n (turn_kept _ _ _ c.requires h.result h.ensures (Some n) c.in-Some.ensures) in
    rw c.with_past.ensures (turn_takes _ _ _ c.requires h.result h.ensures k.0 n k.1)

pub returns-in-Some : goal.returns-in-Some
returns-in-Some c =
    let h = c.mark_at-h in
    let n = c.in-Some.past in
    let k = kept-some (executed_in c.args.executed.now) (held_mark h.result) n (turn_kept _ _ _ c.requires h.result h.ensures (Some n) c.in-Some.ensures) in
    turn-executed-is _ _ _ c.requires h.result h.ensures k.0 n k.1 _ c.remove.ensures _ (rw c.with_past.ensures at c.execute.ensures)
