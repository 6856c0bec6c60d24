-- `evidence_list` meets its contract: its five ways out are those of `Ways`.
use mathlib.Core.Path.{subst, sym}
use Prim.Native.Nat.{◌<◌, ◌≤◌}
use native.Mathlib.Omega.{arith}
use Rattle.causality.specs.Marks.{places}
use Rattle.executed.proofs.Chain.{found_inside}
use Rattle.rows.specs.View.{width}
use Rattle.rows.proofs.RowSteps.{named-at, named-less}
use Rattle.evidence.proofs.Ways.{FollowsAt, evidence-concurrent, evidence_no_first, evidence_no_second, evidence-shown, evidence_too_short, follows-told, has-mark}
use Rattle.evidence.proofs.evidence_list.Goals.{After-max-to, After-reaches}
use Rattle.evidence.proofs.evidence_list.Goals as goal

-- What the search for a mark rests on.
pub find-requires : goal.find-requires
find-requires c = record { names = _; chain = c.requires.marks.chain }

pub find-requires-2 : goal.find-requires-2
find-requires-2 c = record { names = _; chain = c.requires.marks.chain }

pub returns-in_default : goal.returns-in_default
returns-in_default c count own bs waiting l s = evidence_no_first count _ l own bs waiting _ _ _ c.in_default.ensures

pub returns-in_default-find : goal.returns-in_default-find
returns-in_default-find c count own bs waiting l s = evidence_no_second count _ l own bs waiting _ _ _ c.in_default-find.ensures

-- The marks found stand at places, and so do the lower and the higher of these.
within : (c : After-max-to) → (c.min-from.result ≤ c.max-to.result) × (c.max-to.result < c.requires.count) × (c.requires.count ≤ places)
within c =
    let p = found_inside _ _ c.requires.marks _ _ c.in-Some.ensures in
    let q = found_inside _ _ c.requires.marks _ _ c.in-Some-find.ensures in
    let lower = c.min-from.ensures in
    let higher = c.max-to.ensures in
    (omega arith, omega arith, c.requires.marks.few)

-- The test says whether there is a chain between them.
told : (c : After-reaches) → c.min-from.result ≤ c.max-to.result → FollowsAt c.args.executed.now c.min-from.result c.max-to.result c.reaches.result
told c order =
    subst (FollowsAt c.args.executed.now c.min-from.result c.max-to.result) (sym (rw c.from.ensures at c.reaches.ensures))
    (follows-told _ _ _ order _ c.first_followers-first.ensures)

pub first_followers-first-requires : goal.first_followers-first-requires
first_followers-first-requires c =
    let w = within (goal.at.first_followers-first-requires c).After-max-to in
    let x = w.1 in
    let y = w.2 in
    (omega (arith, w.0), omega arith, named-less width _ _ _ c.requires.marks.named (omega arith))

pub overflow_sub-from : goal.overflow_sub-from
overflow_sub-from c = rw c.from.ensures ((named-at width _ _ _ c.requires.marks.named (within (goal.at.overflow_sub-from c).After-max-to).1).0)

pub bounds-first-from : goal.bounds-first-from
bounds-first-from c =
    let r = named-at width _ _ _ c.requires.marks.named (within (goal.at.bounds-first-from c).After-max-to).1 in
    let e = c.from.ensures in
    omega arith

pub counts-requires : goal.counts-requires
counts-requires c = (
  has-mark _ _ c.requires.marks _ (found_inside _ _ c.requires.marks _ _ c.in-Some.ensures),
  has-mark _ _ c.requires.marks _ (found_inside _ _ c.requires.marks _ _ c.in-Some-find.ensures),
)

pub returns-then-not-reaches : goal.returns-then-not-reaches
returns-then-not-reaches c count own bs waiting l s =
    let at = goal.at.returns-then-not-reaches c in
    let y = subst (FollowsAt c.args.executed.now _ _) c.if-not-reaches.true (told at.After-reaches (within at.After-max-to).0) in
    let n = c.new.ensures in
    evidence-concurrent count _ l own bs waiting _ _ _ _ _ c.in-Some.ensures c.in-Some-find.ensures s _ _ c.min-from.ensures c.max-to.ensures y _ c.counts.ensures _ n.empty n.spare

pub returns-then-room-back : goal.returns-then-room-back
returns-then-room-back c count own bs waiting l s =
    let at = goal.at.returns-then-room-back c in
    let y = subst (FollowsAt c.args.executed.now _ _) c.if-not-reaches.false (told at.After-reaches (within at.After-max-to).0) in
    evidence_too_short count _ l own bs waiting _ _ _ _ _ c.in-Some.ensures c.in-Some-find.ensures s _ _ c.min-from.ensures c.max-to.ensures y _ c.going_back.ensures c.if-room-back.true

pub returns : goal.returns
returns c count own bs waiting l s =
    let at = goal.at.returns c in
    let y = subst (FollowsAt c.args.executed.now _ _) c.if-not-reaches.false (told at.After-reaches (within at.After-max-to).0) in
    rw c.verdict.ensures (evidence-shown count _ l own bs waiting _ _ _ _ _ c.in-Some.ensures c.in-Some-find.ensures s _ _ c.min-from.ensures c.max-to.ensures y _ c.going_back.ensures c.if-room-back.false
    _ c.reversed.ensures)
