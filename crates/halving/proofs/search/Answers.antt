-- `search` meets its contract: what the check leaves of it.
use borrow.Author.Rules.{rules}
use mathlib.Core.Path.{refl}
use native.Mathlib.Omega.{arith}
use Rattle.halving.proofs.RowLength.{row_long}
use Rattle.halving.proofs.Searching.{halved_end, halved_high, halved_low, halved_start}
use Rattle.halving.proofs.search.Goals.{then-k-row, else-k-row}
use Rattle.halving.proofs.search.Goals as goal

pub loop-low-init : goal.loop-low-init
loop-low-init c =
    let h = c.requires in
    (rw (c.min-low.ensures, c.from-d.ensures) (halved_start c.args.executed.now _ _ _ _ (search (rules, row_long)) h.place h.made), h.made)

pub loop-low-preserved : goal.loop-low-preserved
loop-low-preserved c =
    let h = c.requires in
    let e = c.args.executed.now in
    let a = c.ask-at.ensures in
    elim c.if-k-row.branch [
      | then-k-row w ↦ let t = rw c.from-d.ensures at w.if-k-row.true in
          rw (w.low-is, w.high-is) (halved_low e _ _ _ _ _ _ _ _ _ c.loop-low.invariant.0 c.loop-low-test.true h.named h.low h.high _ (omega arith) _ _ _ a (omega arith), a.standing)
      | else-k-row w ↦ let t = rw c.from-d.ensures at w.if-k-row.false in
          rw (w.low-is, w.high-is) (halved_high e _ _ _ _ _ _ _ _ _ c.loop-low.invariant.0 c.loop-low-test.true h.named h.low h.high _ (omega arith) _ _ _ a (omega arith), a.standing)
    ]

pub returns-clause-found : goal.returns-clause-found
returns-clause-found c =
    let h = c.requires in
    halved_end c.args.executed.now _ _ _ _ _ _ _ _ _ c.loop-low.invariant.0 c.loop-low-test.false h.named h.low h.high (λ j q. refl)
