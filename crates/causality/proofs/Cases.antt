-- The ways that Mark and Receive can go, each with the conditions that led there. Assumes nothing.
use Prim.Native.Nat.{ℕ}
use borrow.Author.Tests.{not-false}
use lib.Dec.{eqb}
use lib.ListN.{length}
use mathlib.Core.Bool.{Bool, false, not, true}
use mathlib.Core.List.{List, ◌++◌}
use mathlib.Core.Option.{Option, none, some}
use mathlib.Core.Path.{◌≡◌, refl, subst}
use Rattle.frame.specs.declared.Fields.{Fields}
use Rattle.frame.specs.declared.MarkBox.{MarkBox}
use Rattle.frame.specs.Answer.{Answer, gives, refuse_if, refused}
use Rattle.frame.specs.Frame.{read_fields}
use Rattle.frame.specs.Names.{box_rule}
use Rattle.frame.proofs.Tests.{passes}
use Rattle.causality.specs.Answers.{Executed, Judgement, Known, Numbered, Reply, Waiting, executes, knows, waits}
use Rattle.causality.specs.Calls.{and_then, full, judge, mark_answer, mark_in, new_mark, numbered, read_mark, rules, size_of_mark}
use Rattle.causality.specs.Kinds.{Rules, StateOf, admit_by, judge_by, mark_answer_of}
use Rattle.causality.specs.Marks.{find, waiting_places}
use Rattle.causality.specs.State.{State}

-- What Mark has passed where it answers.
pub record MarkGives (N : ℕ) (st : State) (b : MarkBox) (lent : ℕ) (n : Numbered) : Type 0 where
  pub rule : box_rule b ≡ true
  pub room : full st ≡ false
  pub writes : numbered (new_mark st b).id.number (size_of_mark N (new_mark st b) lent) ≡ gives n

pub mark_gives : (N : ℕ) (st : State) (b : MarkBox) (lent : ℕ) (n : Numbered) → mark_answer N st b lent ≡ gives n → MarkGives N st b lent n
unfolding mark_answer_of
mark_gives N st b lent n h =
    let p5 = passes _ _ _ _ h in
    let p9 = passes _ _ _ _ p5.1 in
    record { rule = not-false _ p5.0; room = p9.0; writes = p9.1 }

-- How many marks an answer of Receive says were executed.
abbrev pub executed_by : Answer Reply → ℕ
executed_by (gives Known) = 0
executed_by (gives (Waiting n)) = 0
executed_by (gives (Executed k f)) = k
executed_by (refused c) = 0

-- Desks of any kind.
module _ {A : Type 0} (R : Rules A) where
  -- A mark that has passed 7 to 9.
  pub record Arrives (st : StateOf A) (m : A) : Type 0 where
    pub made : R.unmade st m ≡ false
    pub absent : find R.name_of (R.name_of m) (st.executed ++ st.waiting) ≡ none
    pub room : full st ≡ false

  -- What led to each judgement.
  pub data JudgeCase (st : StateOf A) (m : A) : Answer (Judgement A) → Type 0 where
    to_refuse : (c : ℕ) → JudgeCase st m (refused c)
    to_know : JudgeCase st m (gives knows)
    to_wait : Arrives st m → R.ready st.executed m ≡ false → eqb (length st.waiting) waiting_places ≡ false → JudgeCase st m (gives (waits m (R.short st.executed m)))
    to_execute : Arrives st m → R.ready st.executed m ≡ true → R.false_stamp st.executed m ≡ false → JudgeCase st m (gives (executes (R.reckoned st.executed m)))

  admit_case : (st : StateOf A) (m : A) → (full st ≡ false → Arrives st m) → JudgeCase st m (admit_by R st m)
  unfolding admit_by
  admit_case st m here = go (full st) (R.ready st.executed m) (eqb (length st.waiting) waiting_places) (R.false_stamp st.executed m) refl refl refl refl
    where
      go : (a b c g : Bool) → full st ≡ a → R.ready st.executed m ≡ b → eqb (length st.waiting) waiting_places ≡ c → R.false_stamp st.executed m ≡ g → JudgeCase st m (admit_by R st m)
      go true b c g ea eb ec eg = rw (ea, admit_by) (to_refuse 9)
      go false false true g ea eb ec eg = rw (ea, admit_by) (rw (eb, ec) (to_refuse 10))
      go false false false g ea eb ec eg = rw (ea, admit_by) (rw (eb, ec) (to_wait (here ea) eb ec))
      go false true c true ea eb ec eg = rw (ea, admit_by) (rw (eb, eg) (to_refuse 11))
      go false true c false ea eb ec eg = rw (ea, admit_by) (rw (eb, eg) (to_execute (here ea) eb eg))

  pub judge_case : (st : StateOf A) (m : A) → JudgeCase st m (judge_by R st m)
  unfolding judge_by
  judge_case st m = go (R.unmade st m) refl (find R.name_of (R.name_of m) (st.executed ++ st.waiting)) refl
    where
      held : (b : Bool) → JudgeCase st m (refuse_if (not b) 8 (gives knows))
      held true = to_know
      held false = to_refuse 8

      go : (b : Bool) → R.unmade st m ≡ b → (o : Option A) → find R.name_of (R.name_of m) (st.executed ++ st.waiting) ≡ o → JudgeCase st m (judge_by R st m)
      go true e o q = rw (e, judge_by) (to_refuse 7)
      go false e none q = rw (e, judge_by) (rw q (admit_case st m (λ r. record { made = e; absent = q; room = r })))
      go false e (some h) q = rw (e, judge_by) (rw q (held (R.agrees h m)))

  pub judged_waits : (st : StateOf A) (m x : A) (n : ℕ) → judge_by R st m ≡ gives (waits x n) → Arrives st m × (eqb (length st.waiting) waiting_places ≡ false)
  judged_waits st m x n e = go x n (subst (JudgeCase st m) e (judge_case st m))
    where
      go : (x : A) (n : ℕ) → JudgeCase st m (gives (waits x n)) → Arrives st m × (eqb (length st.waiting) waiting_places ≡ false)
      go x n (to_wait a b c) = (a, c)

  pub judged_executes : (st : StateOf A) (m x : A) → judge_by R st m ≡ gives (executes x)
      → Arrives st m × (R.ready st.executed m ≡ true) × (R.false_stamp st.executed m ≡ false) × (x ≡ R.reckoned st.executed m)
  judged_executes st m x e = go x (subst (JudgeCase st m) e (judge_case st m))
    where
      go : (x : A) → JudgeCase st m (gives (executes x)) → Arrives st m × (R.ready st.executed m ≡ true) × (R.false_stamp st.executed m ≡ false) × (x ≡ R.reckoned st.executed m)
      go x (to_execute a b c) = (a, b, c, refl)

-- The same of bytes at our desks: those that the reader refuses are refused.
pub received_case : (N : ℕ) (st : State) (s : List ℕ) → JudgeCase rules st (mark_in N s) (and_then (read_mark N s) (judge st))
unfolding read_mark
received_case N st s = go (read_fields N s)
  where
    go : (a : Answer Fields) → JudgeCase rules st (mark_in N s) (and_then (and_then a (λ f. gives (mark_in N s))) (judge st))
    go (gives f) = judge_case rules st (mark_in N s)
    go (refused c) = to_refuse c
