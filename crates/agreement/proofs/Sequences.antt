-- What holds over every sequence of steps, from the theorems of the crates history and desk. Assumes nothing.
use Rattle.frame.specs.Names.{MarkId}
use Rattle.desk.proofs.Demand3.{demand3_calls}
use Rattle.history.proofs.Evidence.{evidence_holds}
use Rattle.history.proofs.Paper.{paper}
use Rattle.history.proofs.Silent.{followed_alike, silent_desk_leaves}
use Rattle.history.proofs.Tables.{pairs_hold}
use Rattle.history.proofs.Theorem.{consequences, demand3}
use Rattle.agreement.specs.Agreement.{DesksAgree, EvidenceHolds, PairsAreOfTheHistory}
use Rattle.agreement.specs.Precedence.{ChainsWithin, StampsAreDirect}
use Rattle.agreement.specs.Silence.{SilentDesksLeave}

pub desks_agree : DesksAgree
desks_agree = record { machine = demand3; follows = consequences; calls = demand3_calls }

pub evidence_is_true : EvidenceHolds
evidence_is_true = evidence_holds

pub stamps_direct : StampsAreDirect
stamps_direct N s at = let p = paper N s at in record { happened = p.definition_1; vectors = p.definition_4; frames = p.frames; desks = p.desks }

pub chains_within : (S : MarkId → Type 0) → ChainsWithin S
chains_within S N s at = (paper N s at).theorem_1 S

pub silent_leave : SilentDesksLeave
silent_leave = record { alike = followed_alike; leaves = silent_desk_leaves }

pub pairs_counted : PairsAreOfTheHistory
pairs_counted N s at x t i j = let p = pairs_hold N s at x t i j in record { apart = p.apart; before = p.before }
