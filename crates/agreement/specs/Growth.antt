-- What Receive says of executed marks is their growth (docs/SPECIFICATION.md, Laws: growth), in every state and whatever bytes are received.
use Rattle.std.specs.Prelude.{◌+◌, ◌≡◌, List, ℕ, length}
use Rattle.frame.specs.Answer.{Answer, gives, refused}
use Rattle.causality.specs.Answers.{Executed, Known, Reply, Waiting}
use Rattle.causality.specs.Calls.{receive}
use Rattle.causality.specs.State.{State}

-- How many marks an answer of Receive says were executed.
abbrev pub grown_by : Answer Reply → ℕ
grown_by (gives Known) = 0
grown_by (gives (Waiting n)) = 0
grown_by (gives (Executed k f)) = k
grown_by (refused c) = 0

abbrev pub ReceiveGrows : Type 0
ReceiveGrows = (N : ℕ) (st : State) (s : List ℕ)
    → length (receive N st s).state.executed ≡ grown_by (receive N st s).answer + length st.executed
