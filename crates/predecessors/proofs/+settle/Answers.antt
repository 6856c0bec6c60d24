-- `settle` meets its contract: it stops where the rows are final; else the mark at the last place is examined, the tally falls, and so does the place.
use mathlib.Core.Path.{◌∙◌, subst, sym}
use Rattle.rows.specs.View.{width}
use Rattle.rows.specs.inner.Slots.{row_fn}
use Rattle.rows.proofs.RowSteps.{named-less, pass_ended, pass_step}
use Rattle.predecessors.proofs.SettleLaws.{counted-at, tally-less, tally-some}
use native.Mathlib.Omega.{arith}
use Prim.Native.Nat.{ℕ, suc, max, ◌-◌, ◌≤◌}
use Rattle.predecessors.proofs.+settle.Goals as goal

pub returns-then-covered : goal.returns-then-covered
returns-then-covered t c =
    let a = c.args in
    record {
      place = a.at.0;
      low = c.if-at-to.true;
      within = omega arith;
      traced = record {
        long = omega arith;
        counts = λ bs j h. pass_ended width a.executed.now.desks a.executed.now.numbers bs a.executed.now.stamps (row_fn a.entries.now) a.at.0 a.at.0 a.below.now (omega arith) j;
      };
      covers = λ d p q. subst (λ (x : ℕ). x ≤ max (row_fn a.entries.now d) (row_fn a.below.now d)) (c.requires.2.1 d p q)
          (counted-at a.entries.now a.below.now a.tally.now width (sym c.covered.ensures ∙ c.if-covered.true) d p q);
    }

pub overflow_sub-tally : goal.overflow_sub-tally
overflow_sub-tally t c = rw c.from-d.ensures (tally-some c.args.tally.now c.args.executed.now.desks c.args.executed.now.numbers c.args.at.0 c.if-at-eq0.false c.requires.1 c.requires.2)

pub settle-requires : goal.settle-requires
settle-requires t c =
    let l = c.if-at-eq0.false in
    let a = c.args in (
      omega arith,
      (
        omega arith,
        named-less width a.at.0 a.executed.now.desks (a.at.0 - 1) c.requires.1 (omega arith),
        rw c.from-d.ensures (tally-less a.tally.now a.executed.now.desks a.executed.now.numbers a.at.0 l c.requires.1 c.requires.2),
      ),
    )

pub returns : goal.returns
returns t c =
    let a = c.args in
    let m = a.executed.now in
    let l = c.if-at-eq0.false in
    let r = c.settle.ensures in
    let w = r.within in
    record {
      place = r.place;
      low = r.low;
      within = omega arith;
      traced = record {
        long = r.traced.long;
        counts = λ bs j h. r.traced.counts bs j h ∙ pass_step width m.desks m.numbers bs m.stamps (row_fn a.entries.now) a.at.0 r.place (omega arith) c.requires.1
            a.below.now c.examine.new.below (c.examine.ensures.counts bs) (suc j) (omega arith) h;
      };
      covers = r.covers;
    }
