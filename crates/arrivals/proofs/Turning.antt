-- The loop of the release over the arrays: one turn, and what is kept from turn to turn. Assumes nothing.
use Prim.Native.Nat.{◌+◌, ◌<◌, ◌≤◌, suc, ℕ}
use lib.Dec.{T}
use lib.ListN.{length}
use mathlib.Core.Bool.{Bool, false, true}
use mathlib.Core.List.{List, ◌∷◌}
use mathlib.Core.Option.{some}
use mathlib.Core.Path.{◌∙◌, ◌≡◌, ap, sym}
use native.Mathlib.Numerals.{add-one}
use native.Mathlib.Omega.{arith}
use Rattle.std.specs.Prelude.{Option as Maybe, None, Some}
use Rattle.frame.specs.declared.Past.TheVariants.{Said}
use Rattle.frame.specs.Frame.{past_bad}
use Rattle.frame.specs.Names.{desks, pasts}
use Rattle.causality.specs.Calls.{release, rules}
use Rattle.causality.specs.Marks.{has, lowest, places, tally, waiting_places, without}
use Rattle.causality.specs.State.{Mark, false_stamp, ids, mark_id, ready, reckoned, with_past}
use Rattle.causality.specs.inner.Fit.{Fit}
use Rattle.causality.proofs.Logic.{nT→eq}
use Rattle.causality.proofs.Reach.{sound_counted}
use Rattle.causality.proofs.Releases.{release_drops, release_rests, release-runs}
use Rattle.rows.specs.View.{carried_at, past_from, width}
use Rattle.rows.specs.inner.Slots.{Named, held_id, held_mark, held_with}
use Rattle.rows.specs.declared.Held.{Held}
use Rattle.rows.proofs.Arrays.{view-length}
use Rattle.rows.proofs.ByRows.{row_at_lem}
use Rattle.rows.specs.Executed.{executed_in}
use Rattle.rows.specs.declared.Executed.{Executed}
use Rattle.executed.specs.inner.Takes.{Takes, Took}
use Rattle.waiting.specs.Queue.{waiting_at, waiting_in}
use Rattle.waiting.specs.inner.Steps.{LowestAt, Removed, mark_of_slot}
use Rattle.waiting.specs.declared.Waiting.{Waiting}
use Rattle.waiting.proofs.UseLaws.{fit_named}
use Rattle.rows.proofs.Places.{ids-names}
use Rattle.verdict.specs.inner.Steps.{ReadyIn, Reckons, kept_by, past_kept}
use Rattle.arrivals.specs.declared.Released.{Released}
use Rattle.arrivals.specs.inner.Steps.{Midway, ReleasePromise, Turned, Turns, dropped_by, executed_by}
use Rattle.arrivals.proofs.Releasing.{between_dropped, between_executed, next_fit, next_fresh, next_ready, next_sound, said_few}

-- As many marks as the counts say.
pub executed_many : (a : Executed) → length (executed_in a) ≡ a.count
executed_many a = view-length width a.count a.desks a.numbers (carried_at a.boxes a.pasts) a.stamps

pub waiting_many : (q : Waiting) → length (waiting_in q) ≡ q.count
waiting_many q = view-length width q.count q.desks q.numbers (carried_at q.boxes q.pasts) q.stamps

-- What the calls in the loop ask for.
module _ (a : Executed) (q : Waiting) (m : Midway a q) where
  pub mid_named : Named width a.count a.desks
  mid_named = fit_named width a.count a.desks a.numbers (carried_at a.boxes a.pasts) a.stamps m.between.executed

  pub mid_count : a.count ≤ places
  mid_count = let r = m.between.room in let e = executed_many a in omega arith

  pub held_named : Named width q.count q.desks
  held_named = fit_named width q.count q.desks q.numbers (carried_at q.boxes q.pasts) q.stamps m.between.waiting

  -- The slot that the readiness test chose, or none.
  pub chosen_is : (r : Maybe ℕ) → LowestAt a.tally q r → mark_of_slot (waiting_at q) r ≡ lowest mark_id (ready (executed_in a)) (waiting_in q)
  chosen_is r w = w.mark (executed_in a) (carried_at q.boxes q.pasts) (record {
    counted = sound_counted (executed_in a) m.between.sound;
    tallied = row_at_lem width a.tally (λ e. tally e (ids (executed_in a))) m.ordered.rows.tally;
  })

-- ONE TURN: the mark h of slot i is taken out

module _ (a : Executed) (q : Waiting) (i : ℕ) (t : Turns a q i) (h : Held) (eh : held_mark h ≡ waiting_at q i) where
  m : Midway a q
  m = t.midway

  chosen : lowest mark_id (ready (executed_in a)) (waiting_in q) ≡ some (held_mark h)
  chosen = sym t.next ∙ ap some (sym eh)

  -- What was kept of its past.
  pub turn_kept : (r : Maybe ℕ) → Reckons a h r → kept_by r ≡ past_kept (executed_in a) (held_mark h)
  turn_kept r w = w (carried_at a.boxes a.pasts) m.between.sound (next_ready (executed_in a) (waiting_in q) (held_mark h) m.between chosen)

  pub turn_fit : Fit desks (held_mark h)
  turn_fit = next_fit (executed_in a) (waiting_in q) (held_mark h) m.between chosen

  pub turn-is-ready : T (ready (executed_in a) (held_mark h))
  turn-is-ready = next_ready (executed_in a) (waiting_in q) (held_mark h) m.between chosen

  pub turn-ready : ReadyIn a h
  turn-ready = record {
    new = record {
      marks = record {
        carried = carried_at a.boxes a.pasts;
        sound = m.between.sound;
        long = m.ordered.rows.long_tally;
        tallied = row_at_lem width a.tally (λ e. tally e (ids (executed_in a))) m.ordered.rows.tally;
      };
      fresh = ap (has (held_id h)) (sym (ids-names width a.desks a.numbers (carried_at a.boxes a.pasts) a.stamps a.count))
          ∙ nT→eq _ (next_fresh (executed_in a) (waiting_in q) (held_mark h) m.between chosen);
    };
    ready = turn-is-ready;
  }

  others : (r : Waiting) → Removed i q r → waiting_in r ≡ without mark_id (held_mark h).id (waiting_in q)
  others r x = x.marks m.between.distinct ∙ ap (λ (k : Mark). without mark_id k.id (waiting_in q)) (sym eh)

  pub turn_dropped_is : false_stamp (executed_in a) (held_mark h) ≡ true → (r : Waiting) → Removed i q r → Turned a q a r false
  turn_dropped_is e r x = let o = others r x in record {
    midway = record { between = rw o (between_dropped (executed_in a) (waiting_in q) (held_mark h) m.between chosen); ordered = m.ordered; queued = x.queued };
    one = x.one;
    turn = λ turns k f. release_drops rules turns (executed_in a) (waiting_in q) k f (held_mark h) chosen e ∙ ap (λ (ws : List Mark). release turns (executed_in a) ws k (suc f)) (sym o);
  }

  -- Its stamp is not false, and the past kept is the reckoning.
  module _ (e : false_stamp (executed_in a) (held_mark h) ≡ false) (past : ℕ) (ep : Said past ≡ (reckoned (executed_in a) (held_mark h)).past) where
    as_reckoned : held_mark (held_with h (past + 1)) ≡ reckoned (executed_in a) (held_mark h)
    as_reckoned = ap (with_past (held_mark h)) (ap past_from (add-one past) ∙ ep)

    pub turn_few : past ≤ pasts
    turn_few = said_few past (ap past_bad ep ∙ (between_executed (executed_in a) (waiting_in q) (held_mark h) m.between chosen e).executed.0.past)

    pub turn_takes : Takes (held_with h (past + 1)) a
    turn_takes =
        let r = m.between.room in
        let x = executed_many a in
        let y = waiting_many q in
        let z = t.slot in
        record {
          ordered = m.ordered;
          room = omega arith;
          low = turn_fit.range.low;
          high = turn_fit.range.high;
          sound = rw as_reckoned (next_sound (executed_in a) (waiting_in q) (held_mark h) m.between chosen e);
        }

    pub turn-executed-is : (r : Waiting) → Removed i q r → (b : Executed) → Took (held_with h (past + 1)) a b → Turned a q b r true
    turn-executed-is r x b y =
        let o = others r x in
        let l = y.marks ∙ ap (λ (v : Mark). v ∷ executed_in a) as_reckoned in
        record {
          midway = record { between = rw (l, o) (between_executed (executed_in a) (waiting_in q) (held_mark h) m.between chosen e); ordered = y.ordered; queued = x.queued };
          one = x.one;
          turn = λ turns k f. release-runs rules turns (executed_in a) (waiting_in q) k f (held_mark h) chosen e ∙ (λ j. release turns (sym l j) (sym o j) (suc k) f);
        }

-- The counts after a turn.
pub counts-executed : (x : Bool) → x ≡ true → (k f k' f' : ℕ) → k' ≡ k + 1 → f' ≡ f → (k' ≡ executed_by x k) × (f' ≡ dropped_by x f)
counts-executed true e k f k' f' ek ef = (omega arith, ef)
counts-executed false e k f k' f' ek ef = let z : ◌≡◌ {A = ℕ} 0 1 = cc in absurd (omega arith)

pub counts_dropped : (x : Bool) → x ≡ false → (k f k' f' : ℕ) → k' ≡ k → f' ≡ f + 1 → (k' ≡ executed_by x k) × (f' ≡ dropped_by x f)
counts_dropped true e k f k' f' ek ef = let z : ◌≡◌ {A = ℕ} 0 1 = cc in absurd (omega arith)
counts_dropped false e k f k' f' ek ef = (ek, omega arith)

-- FROM TURN TO TURN: from a₀ and q₀ on, with k executed and f dropped

pub record Releases (a₀ : Executed) (q₀ : Waiting) (a : Executed) (q : Waiting) (k f : ℕ) : Type 0 where
  pub midway : Midway a q
  pub few : k + f + q.count ≤ suc waiting_places
  pub end : release q.count (executed_in a) (waiting_in q) k f ≡ release (length (waiting_in q₀)) (executed_in a₀) (waiting_in q₀) 1 0

pub releases_starts : (a : Executed) (q : Waiting) → Midway a q → Releases a q a q 1 0
releases_starts a q m = record {
  midway = m;
  few = let l = m.queued.few in omega arith;
  end = ap (λ (n : ℕ). release n (executed_in a) (waiting_in q) 1 0) (sym (waiting_many q));
}

module _ (a₀ : Executed) (q₀ : Waiting) (a : Executed) (q : Waiting) (k f : ℕ) (w : Releases a₀ q₀ a q k f) where
  pub releases_turns : (i : ℕ) → LowestAt a.tally q (Some i) → Turns a q i
  releases_turns i l = record { midway = w.midway; slot = l.inside; next = chosen_is a q w.midway (Some i) l }

  pub releases_few : (i : ℕ) → i < q.count → k + f ≤ waiting_places
  releases_few i l = let x = w.few in omega arith

  pub releases_again : (b : Executed) (r : Waiting) (x : Bool) → Turned a q b r x → (k' f' : ℕ) → k' ≡ executed_by x k → f' ≡ dropped_by x f
      → Releases a₀ q₀ b r k' f'
  releases_again b r x t k' f' ek ef = rw (ek, ef) (record {
    midway = t.midway;
    few = go x;
    end = sym (t.turn r.count k f) ∙ ap (λ (n : ℕ). release n (executed_in a) (waiting_in q) k f) (let o = t.one in let z : suc r.count ≡ q.count = omega arith in z) ∙ w.end;
  })
    where
      go : (x : Bool) → executed_by x k + dropped_by x f + r.count ≤ suc waiting_places
      go true = let o = t.one in let l = w.few in omega arith
      go false = let o = t.one in let l = w.few in omega arith

  pub releases_ends : LowestAt a.tally q None → (n : Released) → n.executed ≡ k → n.dropped ≡ f → ReleasePromise a₀ q₀ a q n
  releases_ends l n ek ef = record {
    ordered = w.midway.ordered;
    queued = w.midway.queued;
    end = (λ j. record { executed = executed_in a; waiting = waiting_in q; k = ek j; f = ef j })
        ∙ sym (release_rests rules q.count (executed_in a) (waiting_in q) k f (sym (chosen_is a q w.midway None l))) ∙ w.end;
  }
