-- Apart by its list of the desk's own marks.
use Rattle.causality.specs.Meaning.{id_of}
use Rattle.concurrent.specs.Found.{ApartFound}
use Rattle.desk.proofs.Invariant.{lent_by, of_desk}
use Rattle.desk.proofs.Desk.apart_list_in_place.Goals as goal

pub apart_list-requires : goal.apart_list-requires
apart_list-requires c = lent_by c.self.inside c.self.invariant

pub returns : goal.returns
returns c =
    of_desk c.self.inside c.self.invariant _ c.self.view_is (λ st. ApartFound st (id_of c.args.a) c.args.room c.apart_list.result) c.apart_list.ensures
