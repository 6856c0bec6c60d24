-- The release, turn by turn: what one turn does to the executed and the waiting marks. Assumes nothing.
use Prim.Native.Nat.{◌+◌, ◌<◌, ◌≤◌, ℕ}
use borrow.Author.Tests.{eqb-false, ltb-false}
use lib.Dec.{T, T_not, not_T}
use lib.ListN.{length}
use mathlib.Core.Bool.{false, not, true}
use mathlib.Core.List.{List, ◌∷◌}
use mathlib.Core.Logic.{inl, inr}
use mathlib.Core.Option.{some}
use mathlib.Core.Path.{◌≡◌, refl}
use native.Mathlib.Omega.{arith}
use Rattle.std.proofs.Common.{Fits, w16}
use Rattle.frame.specs.declared.Past.TheVariants.{Said, Unsaid}
use Rattle.frame.specs.Frame.{past_bad}
use Rattle.frame.specs.Names.{desks, pasts}
use Rattle.causality.specs.Calls.{FromCalls, full, rules}
use Rattle.causality.specs.Marks.{has, lowest, places, same, without}
use Rattle.causality.specs.State.{Mark, State, false_stamp, ids, mark_id, ready, reckoned}
use Rattle.causality.proofs.Cases.{Arrives}
use Rattle.causality.specs.inner.Fit.{Fit}
use Rattle.causality.proofs.Invariant.{count_fit, fit_with, kept}
use Rattle.causality.proofs.Lists.{all_map, lowest-picked, lowest_shorter, without_all}
use Rattle.causality.proofs.Logic.{or_yes, same_refl, same→eq}
use Rattle.causality.proofs.Reach.{execute_reach, follows_of}
use Rattle.causality.specs.inner.Order.{CausallyOrdered}
use Rattle.waiting.proofs.DistinctLaws.{distinct_without, waiting_distinct}
use Rattle.arrivals.specs.inner.Steps.{Between}

-- The ready waiting mark of lowest desk is w.
module _ (l ws : List Mark) (w : Mark) (m : Between l ws) (e : lowest mark_id (ready l) ws ≡ some w) where
  pub next_fit : Fit desks w
  next_fit = (lowest-picked mark_id (Fit desks) (ready l) ws m.waiting w e).0

  pub next_ready : T (ready l w)
  next_ready = (lowest-picked mark_id (Fit desks) (ready l) ws m.waiting w e).1

  pub next_fresh : T (not (has w.id (ids l)))
  next_fresh = (lowest-picked mark_id (λ v. T (not (has v.id (ids l)))) (ready l) ws m.fresh w e).0

  shorter : length (without mark_id w.id ws) < length ws
  shorter = lowest_shorter mark_id (ready l) ws w e

  pub between_dropped : Between l (without mark_id w.id ws)
  between_dropped =
      let room = m.room in
      let s = shorter in
      record {
        sound = m.sound;
        fresh = all_map (λ v x. x.0) (without mark_id w.id ws) (without_all mark_id (λ v. T (not (has v.id (ids l)))) w.id ws m.fresh);
        distinct = distinct_without w.id ws m.distinct;
        room = omega arith;
        executed = m.executed;
        waiting = all_map (λ v x. x.0) (without mark_id w.id ws) (without_all mark_id (Fit desks) w.id ws m.waiting);
      }

  pub next_sound : false_stamp l w ≡ false → CausallyOrdered (reckoned l w ∷ l)
  next_sound t = (follows_of l w m.sound next_fit.range.first next_fresh next_ready t, m.sound)

  pub between_executed : false_stamp l w ≡ false → Between (reckoned l w ∷ l) (without mark_id w.id ws)
  between_executed t =
      let room = m.room in
      let s = shorter in
      record {
        sound = next_sound t;
        fresh = all_map other (without mark_id w.id ws) (without_all mark_id (λ v. T (not (has v.id (ids l)))) w.id ws m.fresh);
        distinct = distinct_without w.id ws m.distinct;
        room = omega arith;
        executed = (count_fit desks (omega arith) (reckoned l w) l (next_sound t) (omega arith) (fit_with desks (omega arith) w Unsaid next_fit refl), m.executed);
        waiting = between_dropped.waiting;
      }
    where
      other : (v : Mark) → T (not (has v.id (ids l))) × T (not (same w.id v.id)) → T (not (has v.id (w.id ∷ ids l)))
      other v x = not_T (has v.id (w.id ∷ ids l)) (λ u. elim (or_yes (same v.id w.id) (has v.id (ids l)) u) [
        | inl q ↦ T_not (same w.id v.id) x.1 (rw (same→eq v.id w.id q) (same_refl w.id))
        | inr q ↦ T_not (has v.id (ids l)) x.0 q
      ])

-- A kept desk after the execution of a mark that arrived.
pub between_arrived : (st : State) (m : Mark) → FromCalls desks st → Fit desks m → Arrives rules st m → ready st.executed m ≡ true → false_stamp st.executed m ≡ false
    → Between (reckoned st.executed m ∷ st.executed) st.waiting
unfolding full
between_arrived st m c f a b g =
    let k = kept desks (omega arith) c in
    let room = k.still.room.total in
    let n : ¬ (length st.executed + length st.waiting ≡ places) = eqb-false _ _ a.room in
    let r = execute_reach st m f.range.first k.reach a b g in
    record {
      sound = r.sound;
      fresh = all_map (λ v x. x.fresh) st.waiting r.wait;
      distinct = waiting_distinct desks c;
      room = omega arith;
      executed = (count_fit desks (omega arith) (reckoned st.executed m) st.executed r.sound (omega arith) (fit_with desks (omega arith) m Unsaid f refl), k.executed);
      waiting = k.waiting;
    }

-- A past that a frame can carry is in range.
pub said_few : (n : ℕ) → past_bad (Said n) ≡ false → n ≤ pasts
said_few n e = let h = ltb-false pasts n e in omega arith

pub next_fits : (n : ℕ) → n ≤ pasts → Fits w16 (n + 1)
next_fits n l = omega arith
