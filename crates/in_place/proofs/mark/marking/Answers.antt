-- `marking` meets its contract: each way out is the definition's by `Marking`, from the tests before it and from what next_mark, write_mark and execute ensure.
use mathlib.Core.Path.{◌∙◌, ap, sym}
use Rattle.std.proofs.lemmas.Result.{err_from_is_err_and}
use Rattle.frame.specs.Frame.{writing}
use Rattle.rows.specs.inner.Slots.{held_mark}
use Rattle.in_place.proofs.Marking.{has_room, made, place-left, write-refused}
use Rattle.in_place.proofs.MarkLaws.{mark_takes, next_mark_lem}
use Rattle.in_place.proofs.mark.marking.Goals as goal

pub returns-in_err-size : goal.returns-in_err-size
returns-in_err-size c q e k =
    let a = c.args in
    let h = c.next_mark-h in
    let w = c.write_mark in
    let p = err_from_is_err_and c.from_residual.result c.from_residual.ensures.1 in
    rw (p.1, p.2) (write-refused _ _ _ k a.extent a.out.now (sym c.box_rule.ensures ∙ c.if-not-box_rule.false) (has_room _ _ _ k a.waiting e c.if-executed-waiting-eq-PLACES.false)
    h.result (ap held_mark h.ensures ∙ next_mark_lem _ _ _ k a.extent) (writing w.result) w.new.out w.ensures.answer w.ensures.bytes
    c.in_err-size.field-0.0 (ap writing c.in_err-size.was))

pub execute-requires : goal.execute-requires
execute-requires c =
    let a = c.args in
    let p = c.requires in
    let h = c.next_mark-h in
    mark_takes _ _ _ p.kept a.extent h.result (ap held_mark h.ensures ∙ next_mark_lem _ _ _ p.kept a.extent) (place-left _ _ _ p.kept a.waiting p.held c.if-executed-waiting-eq-PLACES.false)

pub returns : goal.returns
returns c q e k =
    let a = c.args in
    let h = c.next_mark-h in
    let w = c.write_mark in
    let left = c.if-executed-waiting-eq-PLACES.false in
    made _ _ _ k a.extent a.out.now (sym c.box_rule.ensures ∙ c.if-not-box_rule.false) (has_room _ _ _ k a.waiting e left)
    h.result (ap held_mark h.ensures ∙ next_mark_lem _ _ _ k a.extent) (writing w.result) w.new.out w.ensures.answer w.ensures.bytes
    c.in_ok-size.size _ (ap writing c.in_ok-size.was) c.execute.ensures
