-- A refusal leaves the state and the lent bytes as found. Assumes nothing.
use Prim.Native.Nat.{ℕ}
use lib.ListN.{length}
use mathlib.Core.List.{List}
use mathlib.Core.Path.{◌≡◌, refl}
use native.Mathlib.Omega.{arith}
use Rattle.frame.specs.declared.MarkBox.{MarkBox}
use Rattle.frame.specs.Answer.{Answer, gives, refused}
use Rattle.frame.specs.Frame.{over_if}
use Rattle.causality.specs.Answers.{Judgement, Numbered}
use Rattle.causality.specs.Calls.{act, execute, frame_of_mark, mark, mark_answer, mark_in, new_mark, receive, rules, state_if}
use Rattle.causality.specs.Kinds.{executing_by, mark_of, receive_of}
use Rattle.causality.specs.State.{Mark, State}
use Rattle.causality.proofs.Cases.{JudgeCase, received_case, to_execute, to_know, to_refuse, to_wait}

-- No answer is a refusal.
gives_refused : {A : Type 0} (a : A) (c : ℕ) → gives a ≡ refused c → ⊥
gives_refused a c e = let z : ◌≡◌ {A = ℕ} 0 1 = cc in omega arith

case_refused : (st : State) (m : Mark) (j : Answer (Judgement Mark)) (c : ℕ) → JudgeCase rules st m j → (act st j).answer ≡ refused c → (act st j).state ≡ st
unfolding executing_by
case_refused st m j c (to_refuse n) e = refl
case_refused st m j c to_know e = refl
case_refused st m j c (to_wait w b f) e = absurd (gives_refused _ c e)
case_refused st m j c (to_execute w b f) e = absurd (gives_refused _ c e)

pub receive-refused : (N : ℕ) (st : State) (s : List ℕ) (c : ℕ) → (receive N st s).answer ≡ refused c → (receive N st s).state ≡ st
unfolding receive_of
receive-refused N st s c = case_refused st (mark_in N s) _ c (received_case N st s)

pub mark-refused : (N : ℕ) (st : State) (b : MarkBox) (out : List ℕ) (c : ℕ) → (mark N st b out).answer ≡ refused c → ((mark N st b out).state ≡ st) × ((mark N st b out).bytes ≡ out)
unfolding mark_of
mark-refused N st b out c = go (mark_answer N st b (length out))
  where
    go : (a : Answer Numbered) → a ≡ refused c → (state_if a (execute (new_mark st b) st) st ≡ st) × (over_if a (frame_of_mark (new_mark st b)) out ≡ out)
    go (gives n) e = absurd (gives_refused n c e)
    go (refused k) e = (refl, refl)
