-- The struct of waiting marks is that of its marks. Assumes nothing.
use mathlib.Core.Path.{◌≡◌}
use Rattle.causality.specs.Marks.{waiting_places}
use Rattle.rows.specs.View.{carried_at, width}
use Rattle.rows.proofs.Arrays.{view-length}
use Rattle.rows.proofs.Columns.{boxes-back, desks-back, numbers-back, pasts-back, stamps-back}
use Rattle.waiting.specs.inner.Columns.{waiting_of}
use Rattle.waiting.specs.Queue.{waiting_in}
use Rattle.waiting.specs.declared.Waiting.{Waiting}
use Rattle.waiting.specs.inner.Steps.{Queued}

pub waiting-back : (q : Waiting) → Queued q → waiting_of (waiting_in q) ≡ q
waiting-back q k =
    let s = k.slots in
    let n = view-length width q.count q.desks q.numbers (carried_at q.boxes q.pasts) q.stamps in
    let ds = desks-back waiting_places q.count q.desks q.numbers q.boxes q.pasts q.stamps s in
    let ns = numbers-back waiting_places q.count q.desks q.numbers q.boxes q.pasts q.stamps s in
    let bs = boxes-back waiting_places q.count q.desks q.numbers q.boxes q.pasts q.stamps s in
    let ps = pasts-back waiting_places q.count q.desks q.numbers q.boxes q.pasts q.stamps s in
    let ss = stamps-back waiting_places q.count q.desks q.numbers q.boxes q.pasts q.stamps s in
    λ i. record { count = n i; desks = ds i; numbers = ns i; boxes = bs i; pasts = ps i; stamps = ss i }
