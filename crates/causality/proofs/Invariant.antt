-- Every state that came from New and the calls, whatever bytes it was lent: what holds of it. Assumes nothing.
use Prim.Native.Nat.{◌<◌, ◌+◌, ◌≤◌, suc, ℕ}
use borrow.Author.Tests.{eqb-false, le-ltb}
use lib.Dec.{T}
use lib.ListN.{length}
use mathlib.Core.Bool.{Bool, false, true}
use mathlib.Core.List.{List, [], ◌∷◌}
use mathlib.Core.Path.{◌≡◌, refl, subst}
use native.Mathlib.Omega.{arith}
use Rattle.frame.specs.declared.Fields.{Fields}
use Rattle.frame.specs.declared.MarkBox.{MarkBox}
use Rattle.frame.specs.declared.Past.{Past}
use Rattle.frame.specs.declared.Past.TheVariants.{Unsaid}
use Rattle.frame.specs.Answer.{Answer, gives, refused}
use Rattle.frame.specs.Frame.{past_bad, read_fields}
use Rattle.frame.specs.Names.{MarkId, box_rule, is_desk, numbers, pasts}
use Rattle.causality.specs.Answers.{Judgement, Numbered}
use Rattle.causality.specs.Calls.{Created, FromCalls, act, and_then, begun, empty, execute, full, judge, mark, mark_answer, mark_in, marked, new_mark, read_mark, receive, receive_mark, received, release, rules, state_if}
use Rattle.causality.specs.Kinds.{executing_by, mark_of, new_of, receive_of}
use Rattle.causality.specs.Marks.{All, has, places, tally}
use Rattle.causality.specs.State.{Mark, State, heads, ids, mark_id, ready, reckoned, reckoning, with_past}
use Rattle.causality.proofs.Cases.{JudgeCase, judge_case, mark_gives, to_execute, to_know, to_refuse, to_wait}
use Rattle.causality.proofs.Fit.{desk_facts, frame_fit, strict_count}
use Rattle.causality.specs.inner.Fit.{Fit, Range}
use Rattle.causality.proofs.Lists.{all_map, all-names, lowest-picked, tally-length, without_all}
use Rattle.causality.proofs.Numbers.{heads_strict}
use Rattle.causality.specs.inner.Order.{Strict, CausallyOrdered}
use Rattle.causality.proofs.Past.{Standing, counted, heads-has, prefix_le}
use Rattle.causality.proofs.Reach.{ReachState, local, local_hist, mark_reach, receive_reach, reckoning_le}
use Rattle.causality.proofs.Room.{StillState, mark-still, receive-still}
use Rattle.causality.proofs.Releases.{release_keeps, others}

module _ (N : ℕ) (some_desk : 1 ≤ N) where
  pub record Invariant (st : State) : Type 0 where
    pub low : 1 ≤ st.own
    pub high : st.own ≤ N
    pub reach : ReachState st
    pub still : StillState st
    pub executed : All (Fit N) st.executed
    pub waiting : All (Fit N) st.waiting

  listed_range : (st : State) → Invariant st → (i : MarkId) → T (has i (ids st.executed)) → Range N i
  listed_range st k = all-names mark_id (Range N) st.executed (all_map (λ m f. f.range) st.executed k.executed)

  -- The new mark passes the writer's conditions 4 to 6.
  pub new_fit : (st : State) (b : MarkBox) → Invariant st → box_rule b ≡ true → full st ≡ false → Fit N (new_mark st b)
  unfolding new_mark full
  new_fit st b k rule room = record {
    range = record { low = k.low; high = k.high; first = omega arith; last = last };
    rule = rule;
    strict = strict;
    entries = range;
    earlier = λ e t z. let a = (prefix_le (ids l) (counted past l h) e (heads-has past l e t).0).1 in
        let c : e.number ≤ tally st.own (ids l) = subst (λ (n : ℕ). e.number ≤ tally n (ids l)) z a in omega arith;
    count = let c = strict_count N 0 (heads l) (omega arith) strict (λ e t. (range e t).low) (λ e t. (range e t).high) in omega arith;
    past = le-ltb pasts (length l) few;
  }
    where
      l : List Mark
      l = st.executed

      past : MarkId → List MarkId
      past = local l

      h : Standing past l
      h = local_hist l k.reach.sound

      strict : Strict (heads l)
      strict = heads_strict past l h

      range : (e : MarkId) → T (has e (heads l)) → Range N e
      range e t = listed_range st k e (heads-has past l e t).0

      few : length l ≤ pasts
      few =
          let c = k.still.room.total in
          let n : ¬ (length l + length st.waiting ≡ places) = eqb-false _ _ room in
          omega arith

      last : suc (tally st.own (ids l)) ≤ numbers
      last =
          let a = tally-length st.own l in
          let c = k.still.room.total in
          let n : ¬ (length l + length st.waiting ≡ places) = eqb-false _ _ room in
          omega arith

  -- Passing but for the past, which of an executed mark is within bounds: fewer than 512 marks precede one.
  abbrev Bare : Mark → Type 0
  Bare m = Fit N (with_past m Unsaid)

  pub fit_with : (m : Mark) (p : Past) → Fit N m → past_bad p ≡ false → Fit N (with_past m p)
  fit_with m p f b = record { range = f.range; rule = f.rule; strict = f.strict; entries = f.entries; earlier = f.earlier; count = f.count; past = b }

  -- Fewer marks than places precede it, so its count is in range.
  pub count_fit : (m : Mark) (older : List Mark) → CausallyOrdered (m ∷ older) → length older < places → Bare m → Fit N m
  count_fit m older s q f =
      let r = reckoning_le m older s in
      fit_with (with_past m Unsaid) m.past f (rw s.0.count (le-ltb pasts (reckoning (m ∷ older) m.id) (omega arith)))

  reckoned_fit : (l : List Mark) → CausallyOrdered l → length l ≤ places → All Bare l → All (Fit N) l
  reckoned_fit [] s q a = tt
  reckoned_fit (m ∷ older) s q a = (count_fit m older s (omega arith) a.0, reckoned_fit older s.1 (omega arith) a.1)

  pub mark-kept : (st : State) (b : MarkBox) (out : List ℕ) → Invariant st → Invariant (mark N st b out).state
  unfolding mark_of
  mark-kept st b out k = go (mark_answer N st b (length out)) refl (mark_reach N st b out k.reach) (mark-still N st b out k.reach k.still)
    where
      go : (a : Answer Numbered) → mark_answer N st b (length out) ≡ a → ReachState (state_if a (execute (new_mark st b) st) st) → StillState (state_if a (execute (new_mark st b) st) st)
          → Invariant (state_if a (execute (new_mark st b) st) st)
      go (gives n) e r s =
          let g = mark_gives N st b (length out) n e in
          record { low = k.low; high = k.high; reach = r; still = s; executed = (new_fit st b k g.rule g.room, k.executed); waiting = k.waiting }
      go (refused c) e r s = k

  pub receive_mark-kept : (st : State) (m : Mark) → Fit N m → Invariant st → Invariant (receive_mark st m).state
  unfolding executing_by
  receive_mark-kept st m f k = go (judge_case rules st m)
      (receive_reach st m f.range.first (λ e t. (f.entries e t).first) k.reach) (receive-still st m k.still)
    where
      go : {j : Answer (Judgement Mark)} → JudgeCase rules st m j → ReachState (act st j).state → StillState (act st j).state → Invariant (act st j).state
      go (to_refuse c) r q = k
      go to_know r q = k
      go (to_wait a b c) r q = record { low = k.low; high = k.high; reach = r; still = q; executed = k.executed; waiting = (f, k.waiting) }
      go (to_execute a b c) r q =
          let x = release_keeps rules (λ l ws n d. All Bare l × All (Fit N) ws)
          (λ l ws n d w p e. (p.0, all_map (λ v x. x.0) (others rules w ws) (without_all mark_id (Fit N) w.id ws p.1)))
          (λ l ws n d w p e t. ((fit_with w Unsaid (lowest-picked mark_id (Fit N) (ready l) ws p.1 w e).0 refl, p.0), all_map (λ v x. x.0) (others rules w ws) (without_all mark_id (Fit N) w.id ws p.1)))
          (length st.waiting) (reckoned st.executed m ∷ st.executed) st.waiting 1 0 ((fit_with m Unsaid f refl, all_map (λ v g. fit_with v Unsaid g refl) st.executed k.executed), k.waiting) in
          let l = (release (length st.waiting) (reckoned st.executed m ∷ st.executed) st.waiting 1 0).executed in
          let t = q.room.total in
          record { low = k.low; high = k.high; reach = r; still = q; executed = reckoned_fit l r.sound (omega arith) x.0; waiting = x.1 }

  pub receive-kept : (st : State) (s : List ℕ) → Invariant st → Invariant (receive N st s).state
  unfolding receive_of read_mark
  receive-kept st s k = go (read_fields N s) refl
    where
      go : (a : Answer Fields) → read_fields N s ≡ a → Invariant (act st (and_then (and_then a (λ f. gives (mark_in N s))) (judge st))).state
      go (gives f) e = receive_mark-kept st (mark_in N s) (frame_fit N s f e) k
      go (refused c) e = k

  empty-kept : (d : ℕ) → 1 ≤ d → d ≤ N → Invariant (empty d)
  empty-kept d p q = record {
    low = p;
    high = q;
    reach = record { sound = tt; wait = tt };
    still = record { room = record { total = omega arith; few = omega arith }; quiet = tt };
    executed = tt;
    waiting = tt;
  }

  pub kept : {st : State} → FromCalls N st → Invariant st
  unfolding new_of
  kept (begun d) = go (is_desk N d) refl
    where
      go : (b : Bool) → is_desk N d ≡ b → Invariant (elim b as (λ x. Created) [ true ↦ record { state = empty d; answer = gives d } | false ↦ record { state = empty 1; answer = refused 1 } ]).state
      go true e = let p = desk_facts N d e in empty-kept d p.0 p.1
      go false e = empty-kept 1 (omega arith) some_desk
  kept (marked c b out) = mark-kept _ b out (kept c)
  kept (received c s) = receive-kept _ s (kept c)
