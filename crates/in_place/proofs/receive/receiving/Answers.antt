-- `receiving` meets its contract: a refusal of the reader is passed on, else the mark in the frame arrives (Receipt).
use mathlib.Core.Path.{refl, subst, sym}
use Rattle.std.proofs.lemmas.Result.{err_from_is_err_and}
use Rattle.frame.specs.Names.{desks}
use Rattle.causality.proofs.Fit.{frame_fit}
use Rattle.causality.specs.inner.Fit.{Fit}
use Rattle.in_place.proofs.Receipt.{receipt_mark, receipt_refused}
use Rattle.in_place.proofs.receive.receiving.Goals as goal

pub returns-in_err-fields : goal.returns-in_err-fields
returns-in_err-fields c =
    let p = err_from_is_err_and c.from_residual.result c.from_residual.ensures.1 in
    rw (p.1, p.2) (receipt_refused c.args.own c.args.executed.now c.args.queue.now c.requires c.args.frame.now _ _ c.in_err-fields.ensures refl)

pub arrive-requires-clause-fit : goal.arrive-requires-clause-fit
arrive-requires-clause-fit c =
    subst (Fit desks) (sym c.mark_in.ensures) (frame_fit desks c.args.frame.now c.in_ok-fields.fields (sym c.in_ok-fields.ensures))

pub returns : goal.returns
returns c =
    receipt_mark c.args.own c.args.executed.now c.args.queue.now c.requires c.args.frame.now c.in_ok-fields.fields c.in_ok-fields.ensures
    c.mark_in.result c.mark_in.ensures _ _ _ c.arrive.ensures
