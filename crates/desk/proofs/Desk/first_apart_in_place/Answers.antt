-- First apart of the desk's own marks.
use mathlib.Core.Path.{◌≡◌}
use Rattle.frame.specs.Names.{desks}
use Rattle.causality.specs.Calls.{first_apart}
use Rattle.causality.specs.Meaning.{id_of, lowest_given}
use Rattle.desk.proofs.Invariant.{found_by, of_desk}
use Rattle.desk.proofs.Desk.first_apart_in_place.Goals as goal

pub first_apart-requires : goal.first_apart-requires
first_apart-requires c = found_by c.self.inside c.self.invariant

pub returns : goal.returns
returns c = record {
  answer = of_desk c.self.inside c.self.invariant _ c.self.view_is (λ st. lowest_given c.first_apart.result ≡ first_apart desks st (id_of c.args.a) c.args.desk) (c.first_apart.ensures.lowest _);
  from_one = c.first_apart.ensures.from_one;
}
