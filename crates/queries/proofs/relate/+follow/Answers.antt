-- `follow` meets its contract: what the row counts is reached; else the mark at the last place is examined, if it is behind the end. The place falls at each call.
use Rattle.causality.specs.Meaning.{id_of}
use Rattle.rows.specs.View.{width}
use Rattle.queries.proofs.Reaching.{reach_end, reach_now}
use Rattle.queries.proofs.relate.+follow.Goals as goal

pub returns-then-i-row : goal.returns-then-i-row
returns-then-i-row t c bs sound out pos =
    let e = c.args.executed.now in
    reach_now width e.desks e.numbers bs e.stamps (id_of c.args.i) _ c.args.row.now (rw c.from.ensures at c.if-i-row.true)

pub returns-then-at-to : goal.returns-then-at-to
returns-then-at-to t c bs sound out pos =
    let e = c.args.executed.now in
    reach_end width e.desks e.numbers bs e.stamps (id_of c.args.i) _ _ c.args.row.now (rw c.from.ensures at c.if-i-row.false) c.if-at-to.true sound out pos
