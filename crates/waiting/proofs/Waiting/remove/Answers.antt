-- `remove` meets its contract: of each column the value of the slot is gone, and zero stands in the last one (SlotLaws).
use lib.ListN.{replicate}
use native.Mathlib.Omega.{arith}
use Prim.Native.Nat.{◌+◌, ◌-◌}
use mathlib.Core.Path.{◌≡◌}
use Rattle.rows.specs.View.{no_box, width}
use Rattle.waiting.proofs.SlotLaws.{gone, removed}
use Rattle.waiting.proofs.Waiting.remove.Goals as goal

pub returns : goal.returns
returns c =
    let q = c.args.self.now in
    let i = c.args.i in
    let u = c.requires.0 in
    let f = u.few in
    let s = u.slots in
    let d = s.desks.long in
    let n = s.numbers.long in
    let b = s.boxes.long in
    let p = s.pasts.long in
    let r = s.stamps.long in
    let l = c.requires.1 in
    let one : q.count ≡ q.count - 1 + 1 = omega arith in
    let x = c.copy_within.ensures in
    let x2 = c.copy_within-2.ensures in
    let x3 = c.copy_within-3.ensures in
    let x4 = c.copy_within-4.ensures in
    let x5 = c.copy_within-5.ensures in
    removed q i (q.count - 1) _ _ _ _ _ one u
    (gone 0 q.desks c.copy_within.new.self i q.count (q.count - 1) one l (omega arith) x.len x.by_index.0 x.by_index.1 x.by_index.2)
    (gone 0 q.numbers c.copy_within-2.new.self i q.count (q.count - 1) one l (omega arith) x2.len x2.by_index.0 x2.by_index.1 x2.by_index.2)
    (gone no_box q.boxes c.copy_within-3.new.self i q.count (q.count - 1) one l (omega arith) x3.len x3.by_index.0 x3.by_index.1 x3.by_index.2)
    (gone 0 q.pasts c.copy_within-4.new.self i q.count (q.count - 1) one l (omega arith) x4.len x4.by_index.0 x4.by_index.1 x4.by_index.2)
    (gone (replicate width 0) q.stamps c.copy_within-5.new.self i q.count (q.count - 1) one l (omega arith) x5.len x5.by_index.0 x5.by_index.1 x5.by_index.2) l
