-- `in_past` meets its contract: what the row of the mark's stamp reaches at a desk is how many of that desk's marks precede it.
use mathlib.Core.Path.{◌∙◌, ap, refl}
use Prim.Native.Nat.{min}
use native.Mathlib.Omega.{arith}
use Rattle.rows.specs.View.{width}
use Rattle.rows.proofs.Arrays.{sound_below}
use Rattle.queries.proofs.InPast.{in_past_reached}
use Rattle.queries.proofs.in_past.in_past.Goals as goal

pub returns : goal.returns
returns c count h bs sound =
    let e = c.args.executed.now in
    let r = c.requires in
    c.count.ensures bs (sound_below width count e.desks e.numbers bs e.stamps sound _ (omega arith))
    ∙ ap (min c.args.most) (in_past_reached width e.desks e.numbers bs e.stamps count _ h r.1 sound _ (λ j q. refl) _ r.2 r.3)
