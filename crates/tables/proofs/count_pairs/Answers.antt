-- `count_pairs` meets its contract: what the check leaves of it.
use Prim.Native.Nat.{◌-◌, ◌<◌, ◌≤◌, suc, ℕ}
use lib.ListN.{get_or}
use mathlib.Core.List.{List}
use mathlib.Core.Path.{◌∙◌, ◌≡◌, ap, sym}
use native.Mathlib.Numerals.{sub-one}
use native.Mathlib.Omega.{arith}
use Rattle.causality.specs.Evidence.{in_past}
use Rattle.causality.specs.Marks.{places}
use Rattle.causality.specs.inner.Order.{CausallyOrdered}
use Rattle.queries.specs.inner.Lent.{HasMarks, OfMarks}
use Rattle.queries.specs.inner.Steps.{PastOf}
use Rattle.rows.specs.declared.Executed.{Executed}
use Rattle.rows.specs.Executed.{marks_with}
use Rattle.rows.specs.View.{name_at, width}
use Rattle.rows.proofs.Arrays.{sound_below}
use Rattle.rows.proofs.RowSteps.{named-at}
use Rattle.tables.proofs.Counting.{counted-more, counted_none, made_few, past_within, small_apart, small_before}
use Rattle.tables.proofs.count_pairs.Goals as goal

-- Of the mark at place q: its desk, the desk's index, the marks up to it.
module _ (a : Executed) (m : HasMarks a) (q : ℕ) (l : q < a.count) where
  in-range : let e = get_or a.desks q 0 in (1 ≤ e) × (e ≤ width) × (q < places)
  in-range = let w = named-at width a.count a.desks q m.named l in let f = m.few in (w.0, w.1, omega arith)

  index : let e = get_or a.desks q 0 in (e - 1 < width) × (e ≡ suc (e - 1))
  index = let r = in-range in (omega arith, omega arith)

  sound : CausallyOrdered (marks_with m.carried (suc q) a)
  sound = sound_below width a.count a.desks a.numbers m.carried a.stamps m.sound (suc q) l

-- Its past, by the index of a desk.
past_is : (a : Executed) (q : ℕ) (past : List ℕ) → PastOf a q past
    → OfMarks (suc q) a (λ l. (j : ℕ) → j < width → get_or past j 0 ≡ in_past l (suc j) (name_at a.desks a.numbers q))
past_is a q past p bs s j h =
    ap (λ (x : ℕ). get_or past x 0) (sym (sub-one (suc j))) ∙ p (suc q) (omega arith) bs s (suc j) (omega arith) (omega arith)

pub loop-q-init : goal.loop-q-init
loop-q-init c = counted_none _

pub add-requires : goal.add-requires
add-requires c =
    let a = c.args.executed.now in
    let q = c.loop-q.q in
    let r = in-range a c.requires q c.loop-q-test.true in
    let i = index a c.requires q c.loop-q-test.true in
    let s = sound a c.requires q c.loop-q-test.true in
    let p = past_is a q _ c.past.ensures in
    let few : c.loop-q.q ≤ places = omega arith in
    rw c.from-d.ensures (record {
      desk = i.0;
      past = past_within a _ _ q c.loop-q.invariant _ i.0 i.1 c.past.result p c.requires.carried s;
      made = made_few a _ _ q c.loop-q.invariant _ i.0 i.1 c.past.result p c.requires.carried s few;
      apart = small_apart a _ _ q c.loop-q.invariant _ i.0 i.1 c.past.result p c.requires.carried s few;
      before = small_before a _ _ q c.loop-q.invariant _ i.0 i.1 c.past.result p c.requires.carried s few;
    })

pub overflow_add-made : goal.overflow_add-made
overflow_add-made c =
    let a = c.args.executed.now in
    let q = c.loop-q.q in
    let r = in-range a c.requires q c.loop-q-test.true in
    let i = index a c.requires q c.loop-q-test.true in
    let s = sound a c.requires q c.loop-q-test.true in
    let m = made_few a _ _ q c.loop-q.invariant _ i.0 i.1 c.past.result (past_is a q _ c.past.ensures) c.requires.carried s (omega arith) _ i.0 in
    rw c.from-d.ensures (record { fits = omega (arith, m) })

pub loop-q-preserved : goal.loop-q-preserved
loop-q-preserved c =
    let a = c.args.executed.now in
    let q = c.loop-q.q in
    let i = index a c.requires q c.loop-q-test.true in
    rw c.from-d.ensures (counted-more a _ _ q c.loop-q.invariant _ i.0 i.1 c.past.result (past_is a q _ c.past.ensures) _ (rw c.from-d.ensures at c.add.ensures))
