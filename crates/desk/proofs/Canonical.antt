-- A desk is settled by its state, so a refusal returns the very desk. Assumes nothing.
use Prim.Native.Nat.{ℕ}
use mathlib.Core.List.{List}
use mathlib.Core.Path.{◌∙◌, ◌≡◌, ap, sym}
use Rattle.std.specs.Prelude.{Result}
use Rattle.frame.specs.Answer.{refused}
use Rattle.frame.specs.Names.{desks}
use Rattle.frame.specs.declared.MarkBox.{MarkBox}
use Rattle.frame.specs.declared.Refusal.{Refusal}
use Rattle.causality.specs.Meaning.{numbering, reception}
use Rattle.causality.specs.declared.Made.{Made}
use Rattle.causality.specs.declared.Received.{Received}
use Rattle.causality.proofs.Refusals.{mark-refused, receive-refused}
use Rattle.desk.specs.Promises.{MarkPromise, ReceivePromise}
use Rattle.desk.specs.StateOf.{state_of}
use Rattle.desk.specs.declared.Desk.TheInside.{Inside}
use Rattle.desk.specs.inner.IsDesk.{IsDesk, desk_of}

-- Two desks of the same number with the same executed and waiting marks are one value.
pub one_desk : (d e : Inside) → IsDesk d → IsDesk e → state_of d ≡ state_of e → d ≡ e
one_desk d e kd ke s = sym kd.is ∙ ap desk_of s ∙ ke.is

-- A refused Receive returns the very desk.
pub refused-receive : (d : Inside) (s : List ℕ) (e : Inside) (r : Result Received Refusal) (c : ℕ) → IsDesk d → IsDesk e
    → ReceivePromise (state_of d) s (state_of e) r → reception r ≡ refused c → e ≡ d
refused-receive d s e r c k l p h = one_desk e d l k (p.state ∙ receive-refused desks (state_of d) s c (sym p.answer ∙ h))

-- A refused Mark returns the very desk, and the lent bytes as found.
pub refused-mark : (d : Inside) (b : MarkBox) (out : List ℕ) (e : Inside) (after : List ℕ) (r : Result Made Refusal) (c : ℕ) → IsDesk d → IsDesk e
    → MarkPromise (state_of d) b out (state_of e) after r → numbering r ≡ refused c → (e ≡ d) × (after ≡ out)
refused-mark d b out e after r c k l p h =
    let same = mark-refused desks (state_of d) b out c (sym p.answer ∙ h) in
    (one_desk e d l k (p.state ∙ same.0), p.bytes ∙ same.1)
