-- For callers: what `lowest_ready` asks for. n: how many desks. Assumes nothing.
use Prim.Native.Nat.{ℕ}
use mathlib.Core.List.{List}
use Rattle.causality.specs.Marks.{All}
use Rattle.causality.specs.inner.Fit.{Fit}
use Rattle.rows.specs.View.{Carried, mark_at, view}
use Rattle.rows.specs.inner.Slots.{Named}
use Rattle.rows.proofs.Down.{down-at}

-- Marks that fit are of desks from 1 to n.
pub fit_named : (n count : ℕ) (ds ns : List ℕ) (bs : ℕ → Carried) (ss : List (List ℕ)) → All (Fit n) (view n count ds ns bs ss) → Named n count ds
unfolding Named view
fit_named n count ds ns bs ss a p l = let f = down-at (mark_at n ds ns bs ss) (Fit n) count a p l in (f.range.low, f.range.high)
