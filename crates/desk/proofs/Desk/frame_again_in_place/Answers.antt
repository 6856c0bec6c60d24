-- Frame again of the desk's own marks.
use Rattle.in_place.specs.inner.Steps.{AgainIn}
use Rattle.desk.proofs.Invariant.{of_state}
use Rattle.desk.proofs.Desk.frame_again_in_place.Goals as goal

pub returns : goal.returns
returns c =
    let w = c.write_again in
    let p = of_state c.self.inside c.self.invariant _ c.self.view_is (λ st. AgainIn st c.args.a c.args.out.now w.new.out w.result) w.ensures in
    record { answer = p.answer; bytes = p.bytes }
