-- `write_kept` meets its contract: each way out is the definition's by `Converting`, from what find, mark_at and write_mark ensure.
use mathlib.Core.Option.{some}
use mathlib.Core.Path.{◌∙◌, ap, sym}
use Rattle.rows.specs.View.{carried_at}
use Rattle.rows.specs.inner.Slots.{held_id, held_mark}
use Rattle.executed.proofs.Chain.{found-mark, found-nowhere}
use Rattle.in_place.specs.Lent.{counted_with}
use Rattle.verdict.specs.Kept.{state_in}
use Rattle.verdict.proofs.Invariant.{kept-lent}
use Rattle.again.proofs.Converting.{kept-absent, kept_differs, kept-written}
use Rattle.again.proofs.FrameAgain.{found_few}
use Rattle.again.proofs.convert.write_kept.Goals as goal

pub find-requires : goal.find-requires
find-requires c = record { names = _; chain = (kept-lent _ _ _ c.requires.kept).chain }

pub mark_at-kept-requires : goal.mark_at-kept-requires
mark_at-kept-requires c = let r = c.requires in found_few r.own r.count r.heads c.args.executed.now r.queue r.kept _ c.in-Some.place c.in-Some.ensures

pub returns-in_default : goal.returns-in_default
returns-in_default c own count heads q k =
    let a = counted_with count heads c.args.executed.now in
    let h = c.args.h.now in
    kept-absent (state_in own a q) (held_mark h) c.args.out.now
    (found-nowhere count a (kept-lent own a q k) (held_id h) c.in_default.ensures (carried_at a.boxes a.pasts) a.stamps)

pub returns-then-not-same_fields : goal.returns-then-not-same_fields
returns-then-not-same_fields c own count heads q k =
    let a = counted_with count heads c.args.executed.now in
    let h = c.args.h.now in
    kept_differs (state_in own a q) (held_mark h) c.args.out.now (held_mark c.mark_at-kept.result)
    (found-mark count a (kept-lent own a q k) (held_id h) c.in-Some.place c.in-Some.ensures (carried_at a.boxes a.pasts) a.stamps ∙ ap some (sym c.mark_at-kept.ensures))
    (sym c.same_fields.ensures ∙ c.if-not-same_fields.true)

pub returns : goal.returns
returns c own count heads q k =
    let a = counted_with count heads c.args.executed.now in
    let h = c.args.h.now in
    let w = c.write_mark in
    kept-written (state_in own a q) (held_mark h) c.args.out.now (held_mark c.mark_at-kept.result)
    (found-mark count a (kept-lent own a q k) (held_id h) c.in-Some.place c.in-Some.ensures (carried_at a.boxes a.pasts) a.stamps ∙ ap some (sym c.mark_at-kept.ensures))
    (sym c.same_fields.ensures ∙ c.if-not-same_fields.false) w.new.out w.result w.ensures.answer w.ensures.bytes
