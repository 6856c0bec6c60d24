-- `find` meets its contract: what the check leaves of it.
use mathlib.Core.Logic.{inl, inr, ⊎_elim}
use mathlib.Core.Path.{◌≡◌, ◌∙◌, sym}
use Prim.Native.Nat.{suc, ◌-◌, ◌≤◌, ◌<◌}
use native.Mathlib.Omega.{arith}
use borrow.Author.Rules.{rules}
use Rattle.causality.specs.Meaning.{id_of}
use Rattle.causality.specs.Marks.{places}
use Rattle.causality.proofs.Fit.{desk_facts}
use Rattle.rows.specs.View.{width}
use Rattle.executed.specs.inner.Rows.{place_in}
use Rattle.executed.proofs.Chain.{chain_next, chain-place, none_of, place_of}
use Rattle.executed.proofs.find.Goals.{At-loop-k}
use Rattle.executed.proofs.find.Goals as goal

pub returns-then-made-n : goal.returns-then-made-n
returns-then-made-n c is h =
    let a = c.args.executed.now in
    let d = c.from-d.ensures in
    none_of is a.tally a.last a.before h (id_of c.args.i) (λ r. ⊎_elim (λ x. inr (rw d at x)) (λ x. inl x.1) c.then-made-n.either)

-- In the walk the desk is one of the columns', and so is the place.
index : (c : At-loop-k) → (c.from-d.result - 1 < width) × (suc (c.from-d.result - 1) ≡ c.args.i.desk)
index c = let f = desk_facts width c.args.i.desk (sym c.is_desk.ensures ∙ c.if-not-is_desk.false) in let d = c.from-d.ensures in (omega arith, omega arith)

bound : (c : At-loop-k) → (1 ≤ c.loop-k.p) × (c.loop-k.p ≤ places)
bound c =
    let a = c.args.executed.now in
    let h = c.requires in
    let i = c.loop-k.invariant in
    let o = c.if-n-lt1.false in
    let x = i.0 in
    let q = i.2 h.names h.chain in
    let r = chain-place h.names a.tally a.last a.before h.chain (c.from-d.result - 1) (index c).0 c.loop-k._k (omega arith) i.1 in
    (omega arith, omega arith)

pub overflow_sub-p : goal.overflow_sub-p
overflow_sub-p c = (bound (goal.at.overflow_sub-p c).At-loop-k).0

pub offset_bounds-executed-p : goal.offset_bounds-executed-p
offset_bounds-executed-p c = let b = bound (goal.at.offset_bounds-executed-p c).At-loop-k in record { fits = omega arith }

pub bounds-executed-p : goal.bounds-executed-p
bounds-executed-p c = omega (arith, bound (goal.at.bounds-executed-p c).At-loop-k)

pub loop-k-preserved : goal.loop-k-preserved
loop-k-preserved c =
    let a = c.args.executed.now in
    let i = c.loop-k.invariant in
    let t = c.loop-k-test.true in
    let o = c.if-n-lt1.false in
    let m = i.1 in (
      search rules,
      omega arith,
      λ is h. c.from-p-in-loop-k.ensures ∙ chain_next is a.tally a.last a.before h (c.from-d.result - 1) (index (goal.at.loop-k-preserved c).At-loop-k).0
          c.args.i.number.0 c.loop-k._k c.loop-k.p (omega arith) t m (i.2 is h),
    )

pub overflow_sub-result : goal.overflow_sub-result
overflow_sub-result c = (bound (goal.at.overflow_sub-result c).At-loop-k).0

pub returns : goal.returns
returns c is h =
    let a = c.args.executed.now in
    let i = c.loop-k.invariant in
    let at = (goal.at.returns c).At-loop-k in
    let b = bound at in
    let x = i.0 in
    let y = c.loop-k-test.false in
    let n : c.loop-k._k ≡ c.args.i.number.0 = omega arith in
    let d = (index at).1 in
    place_of is a.tally a.last a.before h (id_of c.args.i) c.loop-k.p b.0 b.1 (i.2 is h ∙ (λ k. place_in is (record { desk = d k; number = n k })))
