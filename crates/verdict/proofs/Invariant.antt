-- What holds of the arrays and counts of a desk that came from New and the calls. Assumes nothing.
use Prim.Native.Nat.{◌+◌, ◌≤◌, ℕ}
use lib.ListN.{length}
use mathlib.Core.Path.{◌≡◌}
use native.Mathlib.Omega.{arith}
use Rattle.frame.specs.Names.{desks}
use Rattle.causality.specs.Marks.{All, places, waiting_places}
use Rattle.causality.specs.inner.Fit.{Fit}
use Rattle.causality.proofs.Invariant.{Invariant as KeptState, kept}
use Rattle.causality.specs.inner.Order.{CausallyOrdered}
use Rattle.rows.specs.View.{carried_at, width}
use Rattle.rows.specs.inner.Slots.{Named}
use Rattle.executed.specs.inner.Rows.{Lent}
use Rattle.executed.proofs.Chain.{lent_of}
use Rattle.rows.specs.declared.Executed.{Executed}
use Rattle.waiting.specs.declared.Waiting.{Waiting}
use Rattle.verdict.specs.Kept.{KeptIn, state_in}
use Rattle.rows.proofs.Arrays.{view-length}
use Rattle.waiting.proofs.UseLaws.{fit_named as named-slots}

-- As many marks as the counts say.
module _ (own : ℕ) (a : Executed) (q : Waiting) where
  pub executed-length : length (state_in own a q).executed ≡ a.count
  executed-length = view-length width a.count a.desks a.numbers (carried_at a.boxes a.pasts) a.stamps

  pub waiting-length : length (state_in own a q).waiting ≡ q.count
  waiting-length = view-length width q.count q.desks q.numbers (carried_at q.boxes q.pasts) q.stamps

  -- Marks that a frame can carry are of desks 1 to the width.
  pub fit_named : All (Fit desks) (state_in own a q).executed → Named width a.count a.desks
  fit_named = named-slots width a.count a.desks a.numbers (carried_at a.boxes a.pasts) a.stamps

  pub kept_state : KeptIn own a q → KeptState desks (omega arith) (state_in own a q)
  kept_state k = kept desks (omega arith) k.from

  pub kept_sound : KeptIn own a q → CausallyOrdered (state_in own a q).executed
  kept_sound k = (kept_state k).reach.sound

  pub kept_fit : KeptIn own a q → All (Fit desks) (state_in own a q).executed
  kept_fit k = (kept_state k).executed

  pub kept-named : KeptIn own a q → Named width a.count a.desks
  kept-named k = fit_named (kept_fit k)

  pub kept-total : KeptIn own a q → a.count + q.count ≤ places
  kept-total k = omega (arith, (kept_state k).still.room.total, executed-length, waiting-length)

  pub kept-count : KeptIn own a q → a.count ≤ places
  kept-count k = omega (arith, kept-total k)

  pub kept_few : KeptIn own a q → q.count ≤ waiting_places
  kept_few k = k.queued.few

  pub kept_own : KeptIn own a q → (1 ≤ own) × (own ≤ width)
  kept_own k = ((kept_state k).low, (kept_state k).high)

  -- What the queries rest on.
  pub kept-lent : KeptIn own a q → Lent a
  kept-lent k = lent_of a k.ordered.rows (kept_sound k) (kept-named k) (kept-count k)
