-- No two waiting marks have the same name, in every state that came from New and the calls. Assumes nothing.
use Prim.Native.Nat.{ℕ}
use lib.ListN.{length}
use mathlib.Core.Bool.{Bool, ◌||◌, false, true}
use mathlib.Core.List.{List, [], ◌++◌, ◌∷◌}
use mathlib.Core.Option.{none}
use mathlib.Core.Path.{◌∙◌, ◌≡◌, ap, refl, sym}
use Rattle.frame.specs.declared.MarkBox.{MarkBox}
use Rattle.frame.specs.Answer.{Answer, gives, refused}
use Rattle.frame.specs.Names.{MarkId, is_desk}
use Rattle.causality.specs.Answers.{Judgement, Numbered}
use Rattle.causality.specs.Calls.{Created, FromCalls, act, begun, empty, execute, mark, mark_answer, mark_in, marked, new_mark, receive, received, release, rules, state_if}
use Rattle.causality.specs.Kinds.{executing_by, mark_of, new_of, receive_of}
use Rattle.causality.specs.Marks.{find, has, same, without}
use Rattle.causality.specs.State.{Mark, State, ids, mark_id, reckoned}
use Rattle.causality.proofs.Lists.{find-has, has_append, map_append, is_some}
use Rattle.causality.proofs.Cases.{JudgeCase, received_case, to_execute, to_know, to_refuse, to_wait}
use Rattle.causality.proofs.Releases.{release_keeps}
use Rattle.waiting.specs.inner.Steps.{Distinct}
use Rattle.frame.proofs.Tests.{or-false}

-- Fewer marks have a name that more do not have.
has_without : (b a : MarkId) (xs : List Mark) → has b (ids xs) ≡ false → has b (ids (without mark_id a xs)) ≡ false
has_without b a [] e = refl
has_without b a (x ∷ xs) e = go (same a x.id) (has_without b a xs (or-false (same b x.id) (has b (ids xs)) e).1)
  where
    go : (c : Bool) → has b (ids (without mark_id a xs)) ≡ false → has b (ids (elim c as (λ y. List Mark) [ true ↦ without mark_id a xs | false ↦ x ∷ without mark_id a xs ])) ≡ false
    go true h = h
    go false h = let q = (or-false (same b x.id) (has b (ids xs)) e).0 in λ i. q i || h i

pub distinct_without : (a : MarkId) (xs : List Mark) → Distinct xs → Distinct (without mark_id a xs)
distinct_without a [] d = d
distinct_without a (x ∷ xs) d = go (same a x.id) (distinct_without a xs d.1)
  where
    go : (c : Bool) → Distinct (without mark_id a xs) → Distinct (elim c as (λ y. List Mark) [ true ↦ without mark_id a xs | false ↦ x ∷ without mark_id a xs ])
    go true h = h
    go false h = (has_without x.id a xs d.0, h)

pub distinct_release : (turns : ℕ) (l ws : List Mark) (k f : ℕ) → Distinct ws → Distinct (release turns l ws k f).waiting
distinct_release = release_keeps rules (λ l ws k f. Distinct ws) (λ l ws k f w d e. distinct_without w.id ws d) (λ l ws k f w d e t. distinct_without w.id ws d)

-- A name that is not found is none of the later ones.
absent : (a : MarkId) (xs ys : List Mark) → find mark_id a (xs ++ ys) ≡ none → has a (ids ys) ≡ false
absent a xs ys e = (or-false (has a (ids xs)) (has a (ids ys)) (sym (has_append a (ids xs) (ids ys)) ∙ ap (has a) (sym (map_append mark_id xs ys)) ∙ find-has mark_id a (xs ++ ys) ∙ ap is_some e)).1

module _ (N : ℕ) where
  distinct_receive : (st : State) (s : List ℕ) → Distinct st.waiting → Distinct (receive N st s).state.waiting
  unfolding receive_of executing_by
  distinct_receive st s d = go (received_case N st s)
    where
      m : Mark
      m = mark_in N s

      go : {j : Answer (Judgement Mark)} → JudgeCase rules st m j → Distinct (act st j).state.waiting
      go (to_refuse c) = d
      go to_know = d
      go (to_wait a b c) = (absent m.id st.executed st.waiting a.absent, d)
      go (to_execute a b c) = distinct_release (length st.waiting) (reckoned st.executed m ∷ st.executed) st.waiting 1 0 d

  distinct_marked : (st : State) (b : MarkBox) (out : List ℕ) → Distinct st.waiting → Distinct (mark N st b out).state.waiting
  unfolding mark_of
  distinct_marked st b out d = go (mark_answer N st b (length out))
    where
      go : (a : Answer Numbered) → Distinct (state_if a (execute (new_mark st b) st) st).waiting
      go (gives n) = d
      go (refused c) = d

  pub waiting_distinct : {st : State} → FromCalls N st → Distinct st.waiting
  unfolding new_of
  waiting_distinct (begun d) = go (is_desk N d)
    where
      go : (b : Bool) → Distinct (elim b as (λ x. Created) [ true ↦ record { state = empty d; answer = gives d } | false ↦ record { state = empty 1; answer = refused 1 } ]).state.waiting
      go true = tt
      go false = tt
  waiting_distinct (marked c b out) = distinct_marked _ b out (waiting_distinct c)
  waiting_distinct (received c s) = distinct_receive _ s (waiting_distinct c)
