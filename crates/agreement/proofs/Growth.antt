-- What Receive says of executed marks is their growth, from the law of the crate causality. Assumes nothing.
use Prim.Native.Nat.{◌+◌, ℕ}
use lib.ListN.{length}
use mathlib.Core.Path.{◌∙◌, ◌≡◌, ap, refl}
use Rattle.frame.specs.Answer.{Answer, gives, refused}
use Rattle.causality.specs.Answers.{Executed, Known, Reply, Waiting}
use Rattle.causality.specs.Calls.{receive}
use Rattle.causality.proofs.Cases.{executed_by}
use Rattle.causality.proofs.Growth.{receive_growth}
use Rattle.agreement.specs.Growth.{ReceiveGrows, grown_by}

executed-grown : (a : Answer Reply) → executed_by a ≡ grown_by a
executed-grown (gives Known) = refl
executed-grown (gives (Waiting n)) = refl
executed-grown (gives (Executed k f)) = refl
executed-grown (refused c) = refl

pub receive_grows : ReceiveGrows
receive_grows N st s = receive_growth N st s ∙ ap (λ (k : ℕ). k + length st.executed) (executed-grown (receive N st s).answer)
