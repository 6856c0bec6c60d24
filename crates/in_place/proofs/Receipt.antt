-- Receive, from what comes of the mark in a frame to the promise. Assumes nothing.
use Rattle.std.specs.Prelude.{Result}
use Rattle.causality.specs.declared.Received.{Received as Answered}
use Rattle.frame.specs.declared.Refusal.{Refusal}
use Prim.Native.Nat.{◌<◌, suc, ℕ}
use lib.ListN.{get_or}
use mathlib.Core.Bool.{false}
use mathlib.Core.List.{List}
use mathlib.Core.Path.{◌∙◌, ◌≡◌, ap, refl, subst, sym}
use Rattle.frame.specs.declared.Fields.{Fields}
use Rattle.rows.specs.declared.Held.{Held}
use Rattle.waiting.specs.declared.Waiting.{Waiting}
use Rattle.frame.specs.Answer.{gives, refused}
use Rattle.frame.specs.Frame.{entries_of, fields_of, past_bad, read_entries, read_fields}
use Rattle.frame.specs.Names.{desks}
use Rattle.frame.proofs.RoundTrip.{accepted}
use Rattle.causality.specs.Calls.{FromCalls, Received, mark_in, read_mark, receive, receive_mark, received}
use Rattle.causality.specs.Kinds.{receive_of}
use Rattle.causality.specs.Meaning.{reception}
use Rattle.causality.proofs.Fit.{frame_fit}
use Rattle.causality.specs.inner.Passes.{row_of}
use Rattle.rows.specs.View.{past_from, width}
use Rattle.rows.specs.inner.Slots.{held_mark}
use Rattle.rows.proofs.ByRows.{row-entries}
use Rattle.rows.specs.declared.Executed.{Executed}
use Rattle.verdict.specs.Kept.{KeptIn, state_in}
use Rattle.arrivals.specs.inner.Steps.{Arrived}
use Rattle.in_place.specs.inner.Steps.{ReceivedIn}

module _ (own : ℕ) (a : Executed) (q : Waiting) (k : KeptIn own a q) (s : List ℕ) where
  pub receipt_refused : (c : ℕ) (r : Result Answered Refusal) → refused c ≡ read_fields desks s → reception r ≡ refused c → ReceivedIn own a q a q s r
  unfolding receive_of read_mark
  receipt_refused c r e z = record { state = rw (sym e, receive_of) refl; answer = z ∙ rw (sym e, receive_of) refl; kept = k }

  -- What comes of the mark comes of its frame.
  pub receipt_mark : (f : Fields) → gives f ≡ read_fields desks s → (h : Held) → held_mark h ≡ mark_in desks s → (b : Executed) (w : Waiting) (r : Result Answered Refusal) → Arrived own a q b w h r → ReceivedIn own a q b w s r
  unfolding receive_of read_mark
  receipt_mark f e h m b w r p = record { state = state; answer = p.reply ∙ ap (λ (x : Received). x.answer) same; kept = record { from = subst (FromCalls desks) (sym state) (received k.from s); ordered = p.ordered; queued = p.queued } }
    where
      same : receive_mark (state_in own a q) (held_mark h) ≡ receive desks (state_in own a q) s
      same = ap (receive_mark (state_in own a q)) m ∙ rw (sym e, receive_of) refl

      state : state_in own b w ≡ (receive desks (state_in own a q) s).state
      state = p.state ∙ ap (λ (x : Received). x.state) same

-- The mark that the code makes of a frame is the mark in it.
pub made-mark : (s : List ℕ) (f : Fields) → gives f ≡ read_fields desks s → (row : List ℕ) → ((j : ℕ) → j < width → get_or row j 0 ≡ row_of (entries_of (read_entries desks s)) (suc j)) → (n : ℕ) → past_from n ≡ f.past
    → held_mark (record { desk = f.desk; number = f.number; extent = f.extent; past = n; row = row }) ≡ mark_in desks s
unfolding mark_in
made-mark s f e row g n z =
    let a = sym (accepted desks s f (sym e)).1 in
    let fit = frame_fit desks s f (sym e) in
    let en = row-entries width (entries_of (read_entries desks s)) row fit.strict (λ x t. let r = fit.entries x t in (r.low, r.high, r.first)) g in
    let p : past_from n ≡ (fields_of s).past = z ∙ ap (λ (x : Fields). x.past) a in
    λ i. record { id = record { desk = (a i).desk; number = (a i).number.0 }; extent = (a i).extent; stamp = en i; past = p i }

-- The count of an accepted frame is in range.
pub read_past : (s : List ℕ) (f : Fields) → gives f ≡ read_fields desks s → past_bad f.past ≡ false
unfolding mark_in
read_past s f e = ap (λ (x : Fields). past_bad x.past) (sym (accepted desks s f (sym e)).1) ∙ (frame_fit desks s f (sym e)).past
