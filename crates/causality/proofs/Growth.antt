-- The numbers in Receive's answers, whatever bytes are received: k is the growth in places, and the number that Waiting carries is never 0. Assumes nothing.
use Prim.Native.Nat.{◌+◌, ◌<◌, ℕ}
use lib.ListN.{length}
use mathlib.Core.List.{List, ◌∷◌}
use mathlib.Core.Path.{◌≡◌, refl}
use native.Mathlib.Omega.{arith}
use Rattle.frame.specs.Answer.{Answer, gives}
use Rattle.causality.specs.Answers.{Judgement, Waiting}
use Rattle.causality.specs.Calls.{act, mark_in, receive, release, rules}
use Rattle.causality.specs.Kinds.{executing_by, receive_of}
use Rattle.causality.specs.State.{Mark, State, missing, reckoned}
use Rattle.causality.proofs.Missing.{short-some}
use Rattle.causality.proofs.Cases.{JudgeCase, executed_by, received_case, to_execute, to_know, to_refuse, to_wait}
use Rattle.causality.proofs.Releases.{release_keeps}

release_growth : (turns : ℕ) (l ws : List Mark) (k f : ℕ) → (release turns l ws k f).k + length l ≡ k + length (release turns l ws k f).executed
release_growth turns l ws k f = release_keeps rules (λ l' ws' k' f'. k' + length l ≡ k + length l') (λ l' ws' k' f' w g e. g) (λ l' ws' k' f' w g e t. omega arith) turns l ws k f refl

case_growth : (st : State) (m : Mark) (j : Answer (Judgement Mark)) → JudgeCase rules st m j → length (act st j).state.executed ≡ executed_by (act st j).answer + length st.executed
unfolding executing_by
case_growth st m j (to_refuse c) = omega arith
case_growth st m j to_know = omega arith
case_growth st m j (to_wait a b c) = omega arith
case_growth st m j (to_execute a b c) = let g = release_growth (length st.waiting) (reckoned st.executed m ∷ st.executed) st.waiting 1 0 in omega arith

pub receive_growth : (N : ℕ) (st : State) (s : List ℕ)
    → length (receive N st s).state.executed ≡ executed_by (receive N st s).answer + length st.executed
unfolding receive_of
receive_growth N st s = case_growth st (mark_in N s) _ (received_case N st s)

-- Waiting carries a number above 0.
case_short : (st : State) (m : Mark) (j : Answer (Judgement Mark)) (n : ℕ) → JudgeCase rules st m j → (act st j).answer ≡ gives (Waiting n) → 0 < n
unfolding executing_by
case_short st m j n (to_refuse c) e = let z : ◌≡◌ {A = ℕ} 0 1 = cc in omega arith
case_short st m j n to_know e = let z : ◌≡◌ {A = ℕ} 0 1 = cc in omega arith
case_short st m j n (to_wait a b c) e = let z : missing st.executed m ≡ n = cc in omega (arith, short-some st.executed m b)
case_short st m j n (to_execute a b c) e = let z : ◌≡◌ {A = ℕ} 0 1 = cc in omega arith

pub waiting-short : (N : ℕ) (st : State) (s : List ℕ) (n : ℕ) → (receive N st s).answer ≡ gives (Waiting n) → 0 < n
unfolding receive_of
waiting-short N st s n = case_short st (mark_in N s) _ n (received_case N st s)
