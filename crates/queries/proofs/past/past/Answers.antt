-- `past` meets its contract: what the row of a stamp reaches counts the marks that precede the mark.
use lib.ListN.{replicate}
use native.Mathlib.Omega.{arith}
use mathlib.Core.Path.{refl}
use Rattle.rows.specs.View.{view, width}
use Rattle.rows.specs.inner.Slots.{row_fn}
use Rattle.rows.proofs.RowSteps.{pass_rest}
use Rattle.queries.proofs.InPast.{in_past_traced}
use Rattle.queries.proofs.past.past.Goals as goal

pub returns : goal.returns
unfolding view
returns c count h bs sound d lo hi =
    let e = c.args.executed.now in
    let row = c.trace.new.below in
    in_past_traced width _ _ bs e.stamps count _ h c.requires.1 sound _ (λ j q. refl) d lo hi row
    (pass_rest width e.desks e.numbers bs e.stamps (row_fn (replicate width 0)) c.args.p.0 0 (omega arith)
    c.requires.1 _ row (c.trace.ensures.counts bs) d lo hi)
