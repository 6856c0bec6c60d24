-- The struct of a state, and what is true of every desk's fields. Inner: need not be believed.
use Rattle.std.specs.Prelude.{◌≡◌}
use Rattle.causality.specs.State.{State}
use Rattle.executed.specs.inner.Columns.{executed_of}
use Rattle.verdict.specs.Kept.{KeptIn}
use Rattle.waiting.specs.inner.Columns.{waiting_of}
use Rattle.desk.specs.declared.Desk.TheInside.{Inside}
use Rattle.desk.specs.StateOf.{state_of}

-- The desk of a state.
abbrev pub desk_of : State → Inside
desk_of s = record { own = s.own; executed = executed_of s.executed; queue = waiting_of s.waiting }

-- Every desk came from New and the calls, unused places are zero, and what is kept of the executed marks is theirs. So it is the desk of its state.
pub record IsDesk (d : Inside) : Type 0 where
  pub kept : KeptIn d.own d.executed d.queue
  pub is : desk_of (state_of d) ≡ d
