-- `reckon` meets its contract: the row of the trace tells whether the stamp is false, and its sum is the reckoning (JudgeLaws).
use Prim.Native.Nat.{ℕ, ◌≤◌, ◌+◌}
use mathlib.Core.Bool.{false}
use mathlib.Core.List.{List, ◌∷◌}
use mathlib.Core.Path.{◌≡◌, ◌∙◌, ap, sym}
use native.Mathlib.Numerals.{add-one}
use native.Mathlib.Omega.{arith}
use lib.Dec.{T}
use Rattle.frame.specs.declared.Past.TheVariants.{Said}
use Rattle.causality.specs.Marks.{has}
use Rattle.causality.specs.State.{Mark, false_entries, ids, ready, reckoning, same_count}
use Rattle.causality.specs.inner.Order.{CausallyOrdered}
use Rattle.rows.specs.Executed.{marks_with}
use Rattle.rows.specs.View.{Carried, past_from, width}
use Rattle.rows.specs.inner.Slots.{held_id, held_mark}
use Rattle.rows.proofs.Places.{ids-names}
use Rattle.predecessors.specs.inner.Steps.{greater_sum}
use Rattle.predecessors.proofs.OldestLaws.{oldest_before}
use Rattle.verdict.proofs.JudgeLaws.{false-found, kept-false-count, kept-false_entries, kept-reckoned, older_none, reckoned_few, reckoned-found}
use Rattle.verdict.proofs.reckon.Goals.{After-false_stamp}
use Rattle.verdict.proofs.reckon.Goals as goal

-- The executed marks, whatever they carry, and the row that the trace left.
abbrev marks : After-false_stamp → (ℕ → Carried) → List Mark
marks c bs = let a = c.args.executed.now in marks_with bs a.count a

abbrev below : After-false_stamp → List ℕ
below c = c.settle.new.below

-- The false-stamp test.
tested : (c : After-false_stamp) (bs : ℕ → Carried) → CausallyOrdered (marks c bs) → T (ready (marks c bs) (held_mark c.args.h.now))
    → c.false_stamp.result ≡ false_entries (marks c bs) (held_mark c.args.h.now)
tested c bs so t =
    let a = c.args.executed.now in
    let h = c.args.h.now in
    let w = c.settle.ensures in
    let r = c.requires.fit.range in
    false-found width a.count w.place a.desks a.numbers bs a.stamps c.requires.named w.within h.row (below c) (w.traced.counts bs) so
    (held_id h) h.extent (past_from h.past) r.low r.high c.asked.result c.asked.ensures.named c.asked.ensures.previous
    (λ j l p. older_none width a.desks a.numbers bs a.stamps w.place c.oldest-to.result w.low _
    (oldest_before a.desks a.numbers c.asked.result a.count c.oldest-to.result c.oldest-to.ensures bs a.stamps so j l p))
    c.false_stamp.result c.false_stamp.ensures t

-- The mark is none of those executed.
fresh : (c : After-false_stamp) (bs : ℕ → Carried) → has (held_id c.args.h.now) (ids (marks c bs)) ≡ false
fresh c bs =
    let a = c.args.executed.now in
    ap (has (held_id c.args.h.now)) (ids-names width a.desks a.numbers bs a.stamps a.count) ∙ c.requires.ready.new.fresh

-- The sum is the reckoning, and no more than the marks are.
summed : (c : After-false_stamp) (bs : ℕ → Carried) → CausallyOrdered (marks c bs) → T (ready (marks c bs) (held_mark c.args.h.now)) → c.false_stamp.result ≡ false
    → greater_sum width c.args.h.now.row (below c) ≡ reckoning (held_mark c.args.h.now ∷ marks c bs) (held_id c.args.h.now)
summed c bs so t e =
    let a = c.args.executed.now in
    let h = c.args.h.now in
    let w = c.settle.ensures in
    let r = c.requires.fit.range in
    reckoned-found width a.count w.place a.desks a.numbers bs a.stamps c.requires.named w.within h.row (below c) (w.traced.counts bs) so
    (held_id h) h.extent (past_from h.past) r.low r.high w.covers r.first (fresh c bs) t (sym (tested c bs so t) ∙ e)

few : (c : After-false_stamp) → c.false_stamp.result ≡ false → greater_sum width c.args.h.now.row (below c) ≤ c.args.executed.now.count
few c e =
    let a = c.args.executed.now in
    let h = c.args.h.now in
    let n = c.requires.ready in
    let bs = n.new.marks.carried in
    let so = n.new.marks.sound in
    let w = c.settle.ensures in
    let r = c.requires.fit.range in
    reckoned_few width a.count w.place a.desks a.numbers bs a.stamps c.requires.named w.within h.row (below c) (w.traced.counts bs) so
    (held_id h) h.extent (past_from h.past) r.low r.high w.covers r.first (fresh c bs) n.ready (sym (tested c bs so n.ready) ∙ e)

-- The sum n is the reckoning, as it would be said.
said : (c : After-false_stamp) (n : ℕ) → n ≡ greater_sum width c.args.h.now.row (below c) → c.false_stamp.result ≡ false
    → (bs : ℕ → Carried) → CausallyOrdered (marks c bs) → T (ready (marks c bs) (held_mark c.args.h.now))
    → past_from (n + 1) ≡ Said (reckoning (held_mark c.args.h.now ∷ marks c bs) (held_id c.args.h.now))
said c n is e bs so t = ap past_from (add-one n) ∙ ap Said (is ∙ summed c bs so t e)

pub returns-then-false_stamp : goal.returns-then-false_stamp
returns-then-false_stamp c bs so t =
    let f = (goal.at.returns-then-false_stamp c).After-false_stamp in
    kept-false_entries (marks f bs) (held_mark c.args.h.now) (sym (tested f bs so t) ∙ c.if-false_stamp.true)

pub total-past-requires : goal.total-past-requires
total-past-requires c = let n = c.requires.few in omega (arith, few (goal.at.total-past-requires c).After-false_stamp c.if-false_stamp.false)

pub overflow_add-past : goal.overflow_add-past
overflow_add-past c =
    let n = c.requires.few in
    let e = c.total-past.ensures in
    omega (arith, few (goal.at.overflow_add-past c).After-false_stamp c.if-false_stamp.false)

pub returns-then-not-same_past : goal.returns-then-not-same_past
returns-then-not-same_past c bs so t =
    let f = (goal.at.returns-then-not-same_past c).After-false_stamp in
    let h = c.args.h.now in
    kept-false-count (marks f bs) (held_mark h) (sym (tested f bs so t) ∙ c.if-false_stamp.false)
    (ap (same_count (past_from h.past)) (sym (said f c.total-past.result c.total-past.ensures c.if-false_stamp.false bs so t)) ∙ sym c.same_past.ensures ∙ c.if-not-same_past.true)

pub returns : goal.returns
returns c bs so t =
    let f = (goal.at.returns c).After-false_stamp in
    let h = c.args.h.now in
    let e = c.if-false_stamp.false in
    let past = said f c.total-past.result c.total-past.ensures e bs so t in
    ap Said (c.total-past.ensures ∙ summed f bs so t e) ∙ kept-reckoned (marks f bs) (held_mark h) (sym (tested f bs so t) ∙ e)
    (ap (same_count (past_from h.past)) (sym past) ∙ sym c.same_past.ensures ∙ c.if-not-same_past.false)
