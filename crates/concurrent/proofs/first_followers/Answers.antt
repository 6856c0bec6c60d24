-- `first_followers` meets its contract: what the check leaves of it.
use Rattle.std.proofs.Common.{rules}
use mathlib.Core.Path.{◌∙◌, sym}
use Rattle.concurrent.proofs.Noting.{noting_behind, noting_done, noting_ends, noting_new, noting_none, noting_starts}
use Rattle.concurrent.proofs.first_followers.Goals.{then-first-i-eq0+then-follows+else-noted-eq-WIDTH, else-first-i-eq0}
use Rattle.concurrent.proofs.first_followers.Goals.{else-first-i-eq0-via-then-first-i-eq0+else-follows, else-first-i-eq0-via-else-first-i-eq0}
use Rattle.concurrent.proofs.first_followers.Goals as goal

pub loop-r-init : goal.loop-r-init
loop-r-init c = search (rules, noting_starts)

pub returns-then-noted-eq-WIDTH : goal.returns-then-noted-eq-WIDTH
returns-then-noted-eq-WIDTH c =
    let r = c.requires in
    rw c.from-i.ensures (noting_done _ _ _ r.0 r.2 _ _ _ (noting_new _ _ _ r.0 r.2 _ _ _ c.loop-r.invariant c.loop-r-test.true (rw c.from-i.ensures at c.if-first-i-eq0.true) (sym c.follows.ensures ∙ c.if-follows.true)) c.if-noted-eq-WIDTH.true)

pub loop-r-preserved : goal.loop-r-preserved
loop-r-preserved c =
    let r = c.requires in
    elim c.if-first-i-eq0.branch [
      | then-first-i-eq0+then-follows+else-noted-eq-WIDTH w ↦
          rw (w.first-is, w.noted-is, c.from-i.ensures) (noting_new _ _ _ r.0 r.2 _ _ _ c.loop-r.invariant c.loop-r-test.true (rw c.from-i.ensures at w.if-first-i-eq0.true) (sym w.follows.ensures ∙ w.if-follows.true))
      | else-first-i-eq0 w ↦ rw (w.first-is, w.noted-is) (elim w.else-first-i-eq0.branch [
        | else-first-i-eq0-via-then-first-i-eq0+else-follows x ↦ noting_none _ _ _ r.0 r.2 _ _ _ c.loop-r.invariant c.loop-r-test.true (sym x.follows.ensures ∙ x.if-follows.false)
        | else-first-i-eq0-via-else-first-i-eq0 x ↦ noting_behind _ _ _ r.0 r.2 _ _ _ c.loop-r.invariant c.loop-r-test.true (rw c.from-i.ensures at x.if-first-i-eq0.false)
      ])
    ]

pub returns : goal.returns
returns c = search (rules, noting_ends)
