-- A mark that arrives, from the verdict to what comes of it. Assumes nothing.
use Rattle.std.specs.Prelude.{Ok, Result}
use Rattle.causality.specs.declared.Received.{Received as Answered}
use Rattle.causality.specs.declared.Received.TheVariants.{Executed as ExecutedBoth}
use Rattle.frame.specs.declared.Refusal.{Refusal}
use Rattle.frame.specs.declared.Past.TheVariants.{Said}
use Prim.Native.Nat.{◌+◌, ◌<◌, ◌≤◌, ℕ}
use borrow.Author.Tests.{eqb-false}
use lib.ListN.{length}
use mathlib.Core.List.{List, ◌∷◌}
use mathlib.Core.Path.{◌∙◌, ◌≡◌, ap, sym}
use native.Mathlib.Numerals.{add-one}
use native.Mathlib.Omega.{arith}
use Rattle.frame.specs.Answer.{Answer, gives}
use Rattle.frame.specs.Frame.{past_bad}
use Rattle.frame.specs.Names.{desks, pasts}
use Rattle.causality.specs.Answers.{Executed, Judgement, Waiting, executes, waits}
use Rattle.causality.specs.Calls.{act, judge, release, rules}
use Rattle.causality.specs.Kinds.{executing_by}
use Rattle.causality.specs.Marks.{waiting_places}
use Rattle.causality.specs.Meaning.{reception}
use Rattle.causality.specs.State.{Mark, State, with_past}
use Rattle.causality.proofs.Cases.{judged_executes, judged_waits}
use Rattle.causality.specs.inner.Fit.{Fit}
use Rattle.rows.specs.View.{past_from}
use Rattle.rows.specs.inner.Slots.{held_mark, held_with}
use Rattle.rows.specs.declared.Held.{Held}
use Rattle.rows.specs.declared.Executed.{Executed as Marks}
use Rattle.executed.specs.inner.Takes.{Ordered, Takes, Took}
use Rattle.waiting.specs.Queue.{waiting_in}
use Rattle.waiting.specs.inner.Steps.{Pushed, Queued}
use Rattle.waiting.specs.declared.Waiting.{Waiting as Queue}
use Rattle.arrivals.specs.declared.Released.{Released}
use Rattle.verdict.specs.Kept.{KeptIn, state_in}
use Rattle.arrivals.specs.inner.Steps.{Arrived, Between, Midway, ReleasePromise}
use Rattle.verdict.proofs.Invariant.{executed-length, kept_few, waiting-length}
use Rattle.arrivals.proofs.Releasing.{between_arrived, said_few}

module _ (own : ℕ) (a : Marks) (q : Queue) (k : KeptIn own a q) (h : Held) where
  abbrev here : State
  here = state_in own a q

  -- What was judged is done.
  done : (j : Answer (Judgement Mark)) → j ≡ judge here (held_mark h) → (b : Marks) (w : Queue) (r : Result Answered Refusal) → state_in own b w ≡ (act here j).state → reception r ≡ (act here j).answer
      → Ordered b → Queued w → Arrived own a q b w h r
  done j e b w r s z o u = record {
    state = s ∙ ap (λ (x : Answer (Judgement Mark)). (act here x).state) e;
    reply = z ∙ ap (λ (x : Answer (Judgement Mark)). (act here x).answer) e;
    ordered = o;
    queued = u;
  }

  -- The desk is as it was.
  pub promise_stays : (j : Answer (Judgement Mark)) (r : Result Answered Refusal) → j ≡ judge here (held_mark h) → here ≡ (act here j).state → reception r ≡ (act here j).answer → Arrived own a q a q h r
  promise_stays j r e s z = done j e a q r s z k.ordered k.queued

  pub waits_room : (n : ℕ) → gives (waits (held_mark h) n) ≡ judge here (held_mark h) → q.count < waiting_places
  waits_room n e =
      let z : ¬ (length (waiting_in q) ≡ waiting_places) = eqb-false _ _ (judged_waits rules here (held_mark h) (held_mark h) n (sym e)).1 in
      let w = waiting-length own a q in
      let f = kept_few own a q k in
      omega arith

  pub promise_waits : (w : Queue) (r : Result Answered Refusal) (n : ℕ) → gives (waits (held_mark h) n) ≡ judge here (held_mark h) → Pushed h q w → reception r ≡ gives (Waiting n) → Arrived own a q a w h r
  promise_waits w r n e x z = let m = x.marks in done (gives (waits (held_mark h) n)) e a w r (λ i. record { own = own; executed = here.executed; waiting = m i }) z k.ordered x.queued

  -- A mark that is executed, with its reckoning kept.
  module _ (fit : Fit desks (held_mark h)) (past : ℕ) (e : gives (executes (with_past (held_mark h) (Said past))) ≡ judge here (held_mark h)) where
    abbrev kept : Held
    kept = held_with h (past + 1)

    as_said : held_mark kept ≡ with_past (held_mark h) (Said past)
    as_said = ap (with_past (held_mark h)) (ap past_from (add-one past))

    between : Between (held_mark kept ∷ here.executed) here.waiting
    between = let j = judged_executes rules here (held_mark h) (with_past (held_mark h) (Said past)) (sym e) in rw (as_said, j.3) (between_arrived here (held_mark h) k.from fit j.0 j.1 j.2)

    pub runs_few : past ≤ pasts
    runs_few = said_few past (ap (λ (m : Mark). past_bad m.past) (sym as_said) ∙ between.executed.0.past)

    pub runs_takes : Takes kept a
    runs_takes =
        let r = between.room in
        let l = executed-length own a q in
        record { ordered = k.ordered; room = omega arith; low = fit.range.low; high = fit.range.high; sound = between.sound }

    module _ (b : Marks) (x : Took kept a b) where
      pub runs_midway : Midway b q
      runs_midway = record { between = rw x.marks between; ordered = x.ordered; queued = k.queued }

      pub promise_runs : (c : Marks) (w : Queue) (n : Released) → ReleasePromise b q c w n
          → Arrived own a q c w h (Ok (ExecutedBoth n.executed n.dropped))
      unfolding executing_by
      promise_runs c w n y =
          let z = y.end ∙ ap (λ (l : List Mark). release (length (waiting_in q)) l (waiting_in q) 1 0) (x.marks ∙ ap (λ (m : Mark). m ∷ here.executed) as_said) in
          done (gives (executes (with_past (held_mark h) (Said past)))) e c w _ (λ i. record { own = own; executed = (z i).executed; waiting = (z i).waiting })
          (λ i. gives (Executed (z i).k (z i).f)) y.ordered y.queued
