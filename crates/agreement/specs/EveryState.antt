-- Laws of every state, whatever is called with it (docs/SPECIFICATION.md, Refusals: what stays; Precedence: missing; Calls: Evidence), for any count N of desks.
use Rattle.std.specs.Prelude.{◌≡◌, ◌<◌, false, List, ℕ, eqb}
use Rattle.frame.specs.Answer.{gives, refused}
use Rattle.frame.specs.Names.{MarkId}
use Rattle.frame.specs.declared.MarkBox.{MarkBox}
use Rattle.causality.specs.Answers.{Evidence, verdict_of}
use Rattle.causality.specs.Calls.{mark, receive, relate}
use Rattle.causality.specs.Evidence.{BesideRelate, evidence}
use Rattle.causality.specs.State.{Mark, State, missing, ready}

-- A refusal leaves the state, and Mark's the lent bytes too.
pub record RefusalsKeep : Type 0 where
  pub by_receive : (N : ℕ) (st : State) (s : List ℕ) (c : ℕ) → (receive N st s).answer ≡ refused c → (receive N st s).state ≡ st
  pub by_mark : (N : ℕ) (st : State) (b : MarkBox) (out : List ℕ) (c : ℕ) → (mark N st b out).answer ≡ refused c
      → ((mark N st b out).state ≡ st) × ((mark N st b out).bytes ≡ out)

-- A mark is ready where none is missing, and one that is not ready is short of one or more.
pub record ReadyByMissing : Type 0 where
  pub none : (l : List Mark) (m : Mark) → ready l m ≡ eqb (missing l m) 0
  pub some : (l : List Mark) (m : Mark) → ready l m ≡ false → 0 < missing l m

-- Evidence stands beside Relate, and its verdict is Relate's.
pub record EvidenceIsRelates : Type 0 where
  pub beside : (st : State) (a b : MarkId) (lent : ℕ) → BesideRelate st a b lent
  pub verdict : (st : State) (a b : MarkId) (lent : ℕ) (e : Evidence) → evidence st a b lent ≡ gives e → relate st a b ≡ gives (verdict_of e)
