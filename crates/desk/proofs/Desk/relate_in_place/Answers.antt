-- Relate of the desk's own marks.
use Rattle.desk.specs.Promises.{RelatePromise}
use Rattle.desk.proofs.Invariant.{found_by, of_desk}
use Rattle.desk.proofs.Desk.relate_in_place.Goals as goal

pub relate-requires : goal.relate-requires
relate-requires c = found_by c.self.inside c.self.invariant

pub returns : goal.returns
returns c = of_desk c.self.inside c.self.invariant _ c.self.view_is (λ st. RelatePromise st c.args.a c.args.b c.relate.result) (c.relate.ensures _)
