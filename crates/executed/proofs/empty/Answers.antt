-- Of no marks all that is kept is zero.
use Prim.Native.Nat.{ℕ}
use lib.ListN.{length-replicate}
use Rattle.causality.specs.Marks.{places}
use Rattle.causality.specs.State.{heads}
use Rattle.rows.specs.View.{view, width}
use Rattle.rows.proofs.Slots.{slots-none, zero-all, zeros}
use Rattle.executed.proofs.empty.Goals as goal

pub returns-clause-ordered : goal.returns-clause-ordered
unfolding view heads
returns-clause-ordered c = record {
  slots = slots-none places;
  rows = record {
    long_tally = length-replicate {A = ℕ} width 0;
    long_heads = length-replicate {A = ℕ} width 0;
    long_last = length-replicate {A = ℕ} width 0;
    tally = λ j h. zeros width j;
    heads = λ j h. zeros width j;
    last = λ j h. zeros width j;
    before = tt;
    unused = zero-all places 0;
  };
}
