-- The conversion of a frame of one of the desk's own marks.
use Rattle.in_place.specs.inner.Steps.{ToSecondIn}
use Rattle.desk.proofs.Invariant.{of_state}
use Rattle.desk.proofs.Desk.to_second_in_place.Goals as goal

pub returns : goal.returns
returns c =
    let w = c.to_second in
    let p = of_state c.self.inside c.self.invariant _ c.self.view_is (λ st. ToSecondIn st c.args.frame.now c.args.out.now w.new.out w.result) w.ensures in
    record { answer = p.answer; bytes = p.bytes }
