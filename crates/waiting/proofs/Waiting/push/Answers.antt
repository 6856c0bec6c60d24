-- `push` meets its contract: the mark is stored in the first unused slot.
use mathlib.Core.Path.{refl}
use native.Mathlib.Omega.{arith}
use Rattle.causality.specs.Marks.{waiting_places}
use Rattle.rows.proofs.Slots.{stored_slots, stored_view}
use Rattle.waiting.proofs.Waiting.push.Goals as goal

pub returns : goal.returns
returns c =
    let q = c.args.self.now in
    let h = c.args.h.now in
    let s = c.requires.0.slots in
    let e = c.store.ensures in
    rw (e.desks, e.numbers, e.boxes, e.pasts, e.stamps) (record {
      one = refl;
      queued = record { few = omega arith; slots = stored_slots q.count h q.desks q.numbers q.boxes q.pasts q.stamps waiting_places s c.requires.1 e.wide };
      marks = stored_view q.count h q.desks q.numbers q.boxes q.pasts q.stamps waiting_places s c.requires.1;
    })
