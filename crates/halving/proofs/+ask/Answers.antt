-- `ask` meets its contract: what the row counts is reached; else the mark at the last place is examined, unless that mark is met or passed. The place falls at each call.
use Rattle.causality.specs.Meaning.{id_of}
use Rattle.queries.proofs.Asking.{Turned, asked_on, not_ended, some-place, turned_joined, turned-passed}
use Rattle.halving.proofs.+ask.Goals.{then-executed-p-2, else-executed-p-2}
use Rattle.halving.proofs.+ask.Goals as goal

pub returns : goal.returns
returns t c =
    let a = c.args in
    let e = a.executed.now in
    let h = c.requires in
    let i = id_of a.i in
    let less = rw c.from.ensures at c.if-i-row.false in
    let turned : (let a = c.args in Turned a.executed.now a.row.now a.at.0 (id_of a.i) c.if-executed-p-2.row) = elim c.if-executed-p-2.branch [
      | then-executed-p-2 w ↦ rw w.row-is (turned_joined e _ _ i _ (rw c.from-2.ensures at w.if-executed-p-2.true) w.join.ensures.counts)
      | else-executed-p-2 w ↦ rw w.row-is (turned-passed e _ _ i (rw c.from-2.ensures at w.if-executed-p-2.false))
    ] in
    asked_on e a.row.now a.at.0 i h.named h.low h.high c.if-executed-p-2.row _ _ _ (some-place e a.row.now _ i _ h.made less c.if-made-i.false) turned
    (not_ended e a.row.now _ i _ h.made less c.if-made-i.false) c.ask.ensures
