-- `judge` meets its contract: 7 by the tally; a mark of the name that is executed or waiting is compared; another one is left to `admit` (Judging).
use mathlib.Core.Path.{◌∙◌, ap, sym}
use mathlib.Core.Option.{some}
use native.Mathlib.Omega.{arith}
use Rattle.executed.specs.inner.Rows.{Lent}
use Rattle.executed.proofs.Chain.{found-absent, found-mark, found-nowhere, found_inside}
use Rattle.rows.specs.View.{carried_at, width}
use Rattle.rows.specs.declared.Executed.{Executed}
use Rattle.rows.specs.inner.Slots.{held_id}
use Rattle.rows.proofs.Places.{ids-names}
use Rattle.causality.specs.Marks.{has}
use Rattle.waiting.specs.Queue.{waiting_in}
use Rattle.verdict.proofs.Invariant.{kept-count, kept-lent, kept-named, kept_own, kept_sound, kept-total, waiting-length}
use Rattle.verdict.proofs.Judging.{judge-executed, judge-new, judge-unmade, judge-waiting, kept_tallies}
use Rattle.verdict.proofs.judge.Goals.{Start}
use Rattle.verdict.proofs.judge.Goals as goal

-- The executed marks with heads that make them a desk's. What queries rest on has no heads.
abbrev desk : Start → Executed
desk s = record s.args.executed.now { heads = s.requires.kept.heads }

lent : (s : Start) → Lent s.args.executed.now
lent s = let l = kept-lent s.args.own (desk s) s.args.queue.now s.requires.kept.kept in record { few = l.few; named = l.named; chain = l.chain }

pub unmade-requires : goal.unmade-requires
unmade-requires c = kept_own _ _ _ c.requires.kept.kept

pub returns-then-unmade : goal.returns-then-unmade
returns-then-unmade c =
    let s = (goal.at.returns-then-unmade c).Start in
    judge-unmade c.args.own (desk s) c.args.queue.now c.args.h.now c.requires.kept.kept (sym c.unmade.ensures ∙ c.if-unmade.true)

pub find-requires : goal.find-requires
find-requires c = record { names = _; chain = (lent (goal.at.find-requires c).Start).chain }

pub mark_at-requires : goal.mark_at-requires
mark_at-requires c =
    let s = (goal.at.mark_at-requires c).Start in
    let i = found_inside _ c.args.executed.now (lent s) (held_id c.args.h.now) c.in-Some.place c.in-Some.ensures in
    let n = kept-count c.args.own (desk s) c.args.queue.now c.requires.kept.kept in
    omega arith

pub returns-in-Some : goal.returns-in-Some
returns-in-Some c =
    let s = (goal.at.returns-in-Some c).Start in
    let a = c.args.executed.now in
    let h = c.args.h.now in
    c.known.ensures ∙ judge-executed c.args.own (desk s) c.args.queue.now h c.requires.kept.kept (sym c.unmade.ensures ∙ c.if-unmade.false) c.mark_at.result
    (found-mark _ a (lent s) (held_id h) c.in-Some.place c.in-Some.ensures (carried_at a.boxes a.pasts) a.stamps ∙ ap some (sym c.mark_at.ensures))

pub returns-in-Some-find : goal.returns-in-Some-find
returns-in-Some-find c =
    let s = (goal.at.returns-in-Some-find c).Start in
    let a = c.args.executed.now in
    let q = c.args.queue.now in
    let h = c.args.h.now in
    c.known-in-Some-find.ensures ∙ judge-waiting c.args.own (desk s) q h c.requires.kept.kept (sym c.unmade.ensures ∙ c.if-unmade.false)
    (found-nowhere _ a (lent s) (held_id h) c.in_default.ensures (carried_at a.boxes a.pasts) a.stamps) c.mark_at-in-Some-find.result
    (sym (c.in-Some-find.ensures.mark (carried_at q.boxes q.pasts) q.stamps) ∙ ap some (sym c.mark_at-in-Some-find.ensures))

pub admit-requires-clause-room : goal.admit-requires-clause-room
admit-requires-clause-room c = kept-total _ _ _ c.requires.kept.kept

pub admit-requires-clause-named : goal.admit-requires-clause-named
admit-requires-clause-named c = kept-named _ _ _ c.requires.kept.kept

pub admit-requires-clause-new : goal.admit-requires-clause-new
admit-requires-clause-new c =
    let s = (goal.at.admit-requires-clause-new c).Start in
    let k = c.requires.kept.kept in
    let a = c.args.executed.now in
    let h = c.args.h.now in
    let bs = carried_at a.boxes a.pasts in
    record {
      marks = record {
        carried = bs;
        sound = kept_sound _ _ _ k;
        long = k.ordered.rows.long_tally;
        tallied = kept_tallies c.args.own (desk s) c.args.queue.now h k;
      };
      fresh = ap (has (held_id h)) (sym (ids-names width a.desks a.numbers bs a.stamps a.count)) ∙ found-absent _ a (lent s) (held_id h) c.in_default.ensures bs a.stamps;
    }

pub returns : goal.returns
returns c =
    let s = (goal.at.returns c).Start in
    let k = c.requires.kept.kept in
    let a = c.args.executed.now in
    let q = c.args.queue.now in
    let h = c.args.h.now in
    let bs = carried_at a.boxes a.pasts in
    c.admit.ensures c.args.own bs (waiting_in q) (waiting-length c.args.own (desk s) q) (kept_sound c.args.own (desk s) q k) (kept_tallies c.args.own (desk s) q h k)
    ∙ judge-new c.args.own (desk s) q h k (sym c.unmade.ensures ∙ c.if-unmade.false)
    (found-nowhere _ a (lent s) (held_id h) c.in_default.ensures bs a.stamps)
    (sym (c.in_default-find.ensures.mark (carried_at q.boxes q.pasts) q.stamps))
