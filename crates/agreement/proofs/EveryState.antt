-- Refusals, missing marks, and Evidence beside Relate: from the laws of the crate causality. Assumes nothing.
use Rattle.causality.proofs.EvidenceLaws.{beside_relate, evidence-verdict}
use Rattle.causality.proofs.Missing.{ready-missing, short-some}
use Rattle.causality.proofs.Refusals.{mark-refused, receive-refused}
use Rattle.agreement.specs.EveryState.{EvidenceIsRelates, ReadyByMissing, RefusalsKeep}

pub refusals_keep : RefusalsKeep
refusals_keep = record { by_receive = receive-refused; by_mark = mark-refused }

pub ready_by_missing : ReadyByMissing
ready_by_missing = record { none = ready-missing; some = short-some }

pub evidence_is_relates : EvidenceIsRelates
evidence_is_relates = record { beside = beside_relate; verdict = evidence-verdict }
