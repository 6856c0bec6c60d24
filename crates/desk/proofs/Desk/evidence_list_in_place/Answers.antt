-- Evidence by its list of the desk's own marks.
use Rattle.causality.specs.Meaning.{id_of}
use Rattle.evidence.specs.Found.{EvidenceFound}
use Rattle.desk.proofs.Invariant.{found_by, of_desk}
use Rattle.desk.proofs.Desk.evidence_list_in_place.Goals as goal

pub evidence_list-requires : goal.evidence_list-requires
evidence_list-requires c = found_by c.self.inside c.self.invariant

pub returns : goal.returns
returns c =
    of_desk c.self.inside c.self.invariant _ c.self.view_is
    (λ st. EvidenceFound st (id_of c.args.a) (id_of c.args.b) c.args.room c.evidence_list.result) (c.evidence_list.ensures _)
