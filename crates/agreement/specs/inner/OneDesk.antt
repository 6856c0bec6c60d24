-- A desk of the code is settled by its state, so a refusal leaves the very desk (docs/SPECIFICATION.md, Refusals: what stays). Inner: need not be believed.
use Rattle.std.specs.Prelude.{◌≡◌, List, ℕ, Result}
use Rattle.frame.specs.Answer.{refused}
use Rattle.frame.specs.declared.MarkBox.{MarkBox}
use Rattle.frame.specs.declared.Refusal.{Refusal}
use Rattle.causality.specs.Meaning.{numbering, reception}
use Rattle.causality.specs.declared.Made.{Made}
use Rattle.causality.specs.declared.Received.{Received}
use Rattle.desk.specs.Promises.{MarkPromise, ReceivePromise}
use Rattle.desk.specs.StateOf.{state_of}
use Rattle.desk.specs.declared.Desk.TheInside.{Inside}
use Rattle.desk.specs.inner.IsDesk.{IsDesk}

pub record OneStateOneDesk : Type 0 where
  -- Two desks of the same number with the same executed and waiting marks are one value.
  pub one : (d e : Inside) → IsDesk d → IsDesk e → state_of d ≡ state_of e → d ≡ e
  -- A refused Receive leaves the very desk.
  pub receive : (d : Inside) (s : List ℕ) (e : Inside) (r : Result Received Refusal) (c : ℕ) → IsDesk d → IsDesk e
      → ReceivePromise (state_of d) s (state_of e) r → reception r ≡ refused c → e ≡ d
  -- A refused Mark leaves the very desk, and the lent bytes as found.
  pub mark : (d : Inside) (b : MarkBox) (out : List ℕ) (e : Inside) (after : List ℕ) (r : Result Made Refusal) (c : ℕ) → IsDesk d → IsDesk e
      → MarkPromise (state_of d) b out (state_of e) after r → numbering r ≡ refused c → (e ≡ d) × (after ≡ out)
