-- What Evidence finds in a state, where there is room for `room` names.
use Rattle.std.specs.Prelude.{◌≡◌, ℕ, Result, Ok, Err, IfOk}
use Rattle.frame.specs.Names.{MarkId}
use Rattle.frame.specs.declared.Refusal.{Refusal}
use Rattle.causality.specs.Evidence.{evidence, evidence_chain}
use Rattle.causality.specs.Meaning.{proving}
use Rattle.causality.specs.State.{State}
use Rattle.causality.specs.declared.Evidence.{Evidence}
use Rattle.concurrent.specs.Found.{ListsIn}
use Rattle.pairs.specs.declared.Listed.{Listed}

-- The evidence without the list that comes with it.
abbrev pub shown : Result (Evidence × Listed) Refusal → Result Evidence Refusal
shown (Ok e) = Ok e.0
shown (Err c) = Err c

pub record EvidenceFound (st : State) (a b : MarkId) (room : ℕ) (r : Result (Evidence × Listed) Refusal) : Type 0 where
  pub answer : proving (shown r) ≡ evidence st a b room
  pub list : IfOk r (λ e. ListsIn room (evidence_chain st a b) e.1)
