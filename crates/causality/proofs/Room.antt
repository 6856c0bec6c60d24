-- Room, and that no waiting mark is ready. Assumes nothing.
use Prim.Native.Nat.{◌+◌, ◌≤◌, ℕ}
use lib.Dec.{T, T_not, leb, not_T}
use lib.ListN.{length}
use mathlib.Core.Bool.{Bool, ◌||◌, false, not}
use mathlib.Core.List.{List, [], ◌∷◌}
use mathlib.Core.Logic.{inl, inr}
use mathlib.Core.Path.{◌≡◌, ap, refl}
use native.Mathlib.Omega.{arith}
use Rattle.frame.specs.declared.MarkBox.{MarkBox}
use Rattle.frame.specs.Answer.{Answer, gives, refused}
use Rattle.frame.specs.Names.{MarkId}
use Rattle.causality.specs.Answers.{Judgement, Numbered}
use Rattle.causality.specs.Calls.{act, execute, full, mark, mark_answer, new_mark, receive_mark, rules, state_if}
use Rattle.causality.specs.Kinds.{executing_by, mark_of}
use Rattle.causality.specs.Marks.{All, all, has, places, same, waiting_places}
use Rattle.causality.specs.State.{Mark, State, ids, previous, ready, reckoned}
use Rattle.causality.proofs.Cases.{JudgeCase, judge_case, mark_gives, to_execute, to_know, to_refuse, to_wait}
use Rattle.causality.proofs.Lists.{all-at, all_intro}
use Rattle.causality.proofs.Logic.{and_yes, or_inl, or_inr, or_yes, same→eq, yes_and}
use Rattle.causality.proofs.Past.{prefix_le}
use Rattle.causality.proofs.Reach.{ReachState, Wait, sound_counted}
use Rattle.causality.proofs.Releases.{release_room, release_quiet}
use borrow.Author.Tests.{eqb-false}

pub record Room (l ws : List Mark) : Type 0 where
  pub total : length l + length ws ≤ places
  pub few : length ws ≤ waiting_places

pub record Still (l ws : List Mark) : Type 0 where
  pub room : Room l ws
  pub quiet : All (λ w. T (not (ready l w))) ws

abbrev pub StillState : State → Type 0
StillState d = Still d.executed d.waiting

pub receive-still : (d : State) (m : Mark) → StillState d → StillState (receive_mark d m).state
unfolding executing_by full
receive-still d m r = go (judge_case rules d m)
  where
    go : {j : Answer (Judgement Mark)} → JudgeCase rules d m j → StillState (act d j).state
    go (to_refuse c) = r
    go to_know = r
    go (to_wait a b c) =
        let n1 : ¬ (length d.executed + length d.waiting ≡ places) = eqb-false _ _ a.room in
        let n2 : ¬ (length d.waiting ≡ waiting_places) = eqb-false _ _ c in
        let p = r.room.total in let q = r.room.few in
        record { room = record { total = omega arith; few = omega arith }; quiet = (rw b tt, r.quiet) }
    go (to_execute a b c) =
        let n1 : ¬ (length d.executed + length d.waiting ≡ places) = eqb-false _ _ a.room in
        let l = reckoned d.executed m ∷ d.executed in
        let x = release_room rules (length d.waiting) l d.waiting 1 0 in
        let p = r.room.total in let q = r.room.few in
        record { room = record { total = omega arith; few = omega arith }; quiet = release_quiet rules (length d.waiting) l d.waiting 1 0 (omega arith) }

pub mark-still : (N : ℕ) (d : State) (box : MarkBox) (out : List ℕ) → ReachState d → StillState d → StillState (mark N d box out).state
unfolding mark_of new_mark full ready previous
mark-still N d box out re r = go (mark_answer N d box (length out)) refl
  where
    l : List Mark
    l = d.executed

    i : MarkId
    i = (new_mark d box).id

    absent : T (has i (ids l)) → ⊥
    absent t = let p = (prefix_le (ids l) (sound_counted l re.sound) i t).1 in omega arith

    old : (e : MarkId) → (e.desk ≡ d.own → T (has e (ids l))) → T (has e (i ∷ ids l)) → T (has e (ids l))
    old e f t = elim (or_yes (same e i) (has e (ids l)) t) [ inl q ↦ f (ap (λ (k : MarkId). k.desk) (same→eq e i q)) | inr q ↦ q ]

    still-not : (w : Mark) → Wait d.own l w × T (not (ready l w)) → T (not (ready (new_mark d box ∷ l) w))
    still-not w x = not_T (ready (new_mark d box ∷ l) w) (λ t. T_not (ready l w) x.1
        (let a : Bool = all (λ e. has e (ids (new_mark d box ∷ l))) w.stamp in
        let b : Bool = leb w.id.number 1 || has (previous w.id) (ids (new_mark d box ∷ l)) in
        yes_and (all (λ e. has e (ids l)) w.stamp) (leb w.id.number 1 || has (previous w.id) (ids l))
        (all_intro (λ e. has e (ids l)) w.stamp (λ e te. old e (x.0.asks e te) (all-at (λ e. has e (ids (new_mark d box ∷ l))) w.stamp (and_yes a b t).0 e te)))
        (elim (or_yes (leb w.id.number 1) (has (previous w.id) (ids (new_mark d box ∷ l))) (and_yes a b t).1) [
          | inl q ↦ or_inl (leb w.id.number 1) (has (previous w.id) (ids l)) q
          | inr q ↦ or_inr (leb w.id.number 1) (has (previous w.id) (ids l)) (old (previous w.id) (λ z. absurd (x.0.away z)) q)
        ])))

    both : (ws : List Mark) → All (Wait d.own l) ws → All (λ w. T (not (ready l w))) ws → All (λ w. T (not (ready (new_mark d box ∷ l) w))) ws
    both [] a b = tt
    both (w ∷ ws) a b = (still-not w (a.0, b.0), both ws a.1 b.1)

    new : full d ≡ false → Still (new_mark d box ∷ l) d.waiting
    new e =
        let n : ¬ (length l + length d.waiting ≡ places) = eqb-false _ _ e in
        let p = r.room.total in
        record { room = record { total = omega arith; few = r.room.few }; quiet = both d.waiting re.wait r.quiet }

    go : (a : Answer Numbered) → mark_answer N d box (length out) ≡ a → StillState (state_if a (execute (new_mark d box) d) d)
    go (gives n) e = new (mark_gives N d box (length out) n e).room
    go (refused c) e = r
