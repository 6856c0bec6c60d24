-- Silent desks over sequences: the law of one desk, carried into the history by the agreement of the two. Assumes nothing.
use Prim.Native.Nat.{◌≤◌, ℕ}
use lib.Dec.{T}
use mathlib.Core.List.{List, [], ◌++◌, ◌∷◌}
use mathlib.Core.Logic.{◌↔◌}
use mathlib.Core.Option.{Option, none, some}
use mathlib.Core.Path.{◌∙◌, ◌≡◌, ap, refl, subst, sym}
use Rattle.frame.specs.declared.MarkBox.{MarkBox}
use Rattle.frame.specs.Frame.{entries_of, read_entries}
use Rattle.frame.specs.Names.{MarkId, is_desk}
use Rattle.causality.specs.Calls.{FromCalls, Later, begun, mark, marked, new_mark, receive, received}
use Rattle.causality.specs.Marks.{All, has}
use Rattle.causality.specs.Silent.{FollowedHere}
use Rattle.causality.specs.State.{State, ids, precedes}
use Rattle.causality.proofs.Fit.{fit_entries, fit_front}
use Rattle.causality.proofs.Invariant.{Invariant, kept}
use Rattle.causality.proofs.Lists.{all_map}
use Rattle.causality.proofs.Past.{precedes-past}
use Rattle.causality.proofs.Reach.{local, local_hist}
use Rattle.causality.proofs.Silent.{from-later, silent_leaves_later}
use Rattle.history.specs.Demand3.{entries_in}
use Rattle.history.specs.Evidence.{happened_before}
use Rattle.history.specs.Plain.{look}
use Rattle.history.specs.Run.{Run, Step, Written, at_desk, frame_at, handing, marking, run, run_step, state_at, to_first, to_second, written, written_id}
use Rattle.history.specs.Silent.{FollowedAlike, FollowedAt, SilentDeskLeaves, listed_at}
use Rattle.history.proofs.Calls.{MarkCase, declined, granted, mark_cases}
use Rattle.history.proofs.Lookup.{fresh, look-new}
use Rattle.history.proofs.Sequence.{AtDesks, inv_of, past_at, plain_of}
use Rattle.history.proofs.Theorem.{listed-executed, some_desk}

-- THE AGREEMENT: at desk x the list is the executed marks, and what happened before is what precedes.

module _ (N : ℕ) (s : List Step) (at : AtDesks N s) (x : ℕ) (tx : T (is_desk N x)) where
  abbrev st : State
  st = state_at N (run N s) x

  sd : 1 ≤ N
  sd = some_desk N x tx

  in_state : (a : MarkId) → T (has a (listed_at s x)) → T (has a (ids st.executed))
  in_state a t = rw (listed-executed N sd s at x) at t

  in_list : (a : MarkId) → T (has a (ids st.executed)) → T (has a (listed_at s x))
  in_list a t = rw (listed-executed N sd s at x) t

  pub before_precedes : (a b : MarkId) → T (has b (ids st.executed)) → precedes st.executed a b ≡ happened_before (plain_of s).made a b
  before_precedes = precedes-past (past_at s) st.executed ((inv_of N sd s at).desks x).ok.hist

  alike : (d : ℕ) (m : MarkId) → FollowedAt s x d m ↔ FollowedHere st d m
  alike d m = (
    λ f. record { listed = in_state m f.listed; other = f.other; every = λ a t q. rw (before_precedes a m (in_state m f.listed)) (f.every a (in_list a t) q) },
    λ f. record { listed = in_list m f.listed; other = f.other; every = λ a t q. rw (before_precedes a m f.listed) at (f.every a (in_state a t) q) },
  )

pub followed_alike : (N : ℕ) → FollowedAlike N
followed_alike N s at x d m tx = alike N s at x tx d m

-- THE CALLS AT ONE DESK

-- Each step gives desk x as it was, or as Mark or Receive there gives it.
module _ (N x : ℕ) (from : State) where
  put-later : (r : Run) (d : ℕ) (y : State) → (Later N from (state_at N r d) → Later N from y) → Later N from (state_at N r x)
      → Later N from (look (fresh N) ((d, y) ∷ r.states) x)
  put-later r d y f p = look-new (λ e z. e ≡ x → Later N from z) (fresh N) r.states d y (λ q. f (subst (λ (n : ℕ). Later N from (state_at N r n)) (sym q) p)) x (λ q. p) refl

  step-later : (r : Run) (t : Step) → Later N from (state_at N r x) → Later N from (state_at N (run_step N r t) x)
  step-later r (marking d b lent) p = put-later r d (mark N (state_at N r d) b lent).state (λ q. marked q b lent) p
  step-later r (handing d i k) p = go (frame_at written_id i k r.frames) refl
    where
      go : (o : Option Written) → frame_at written_id i k r.frames ≡ o → Later N from (state_at N (run_step N r (handing d i k)) x)
      go none e = rw (e, run_step) p
      go (some f) e = rw (e, run_step) (put-later r d (receive N (state_at N r d) f.bytes).state (λ q. received q f.bytes) p)
  step-later r (to_second d i k lent) p = go (frame_at written_id i k r.frames) refl
    where
      go : (o : Option Written) → frame_at written_id i k r.frames ≡ o → Later N from (state_at N (run_step N r (to_second d i k lent)) x)
      go none e = rw (e, run_step) p
      go (some f) e = rw (e, run_step) p
  step-later r (to_first i k lent) p = go (frame_at written_id i k r.frames) refl
    where
      go : (o : Option Written) → frame_at written_id i k r.frames ≡ o → Later N from (state_at N (run_step N r (to_first i k lent)) x)
      go none e = rw (e, run_step) p
      go (some f) e = rw (e, run_step) p

run-later : (N x : ℕ) (since earlier : List Step) → Later N (state_at N (run N earlier) x) (state_at N (run N (since ++ earlier)) x)
run-later N x [] earlier = begun tt
run-later N x (t ∷ since) earlier = step-later N x (state_at N (run N earlier) x) (run N (since ++ earlier)) t (run-later N x since earlier)

run-from : (N x : ℕ) (s : List Step) → FromCalls N (state_at N (run N s) x)
run-from N x [] = begun x
run-from N x (t ∷ s) = from-later N (run-from N x s) (run-later N x (t ∷ []) s)

-- What Mark writes has the new mark's stamp.
mark-writes : (N : ℕ) (sd : 1 ≤ N) (st : State) (b : MarkBox) (lent : List ℕ) (x : ℕ) → Invariant N sd st
    → let o = mark N st b lent in All (λ f. entries_in N f ≡ (new_mark st b).stamp) (written x o.answer o.bytes [])
mark-writes N sd st b lent x k = go (mark_cases (local st.executed) N sd st b lent (local_hist st.executed k.reach.sound) k)
  where
    go : MarkCase (local st.executed) N st b lent
        → let o = mark N st b lent in All (λ f. entries_in N f ≡ (new_mark st b).stamp) (written x o.answer o.bytes [])
    go (declined c e₁ e₂) = rw e₁ tt
    go (granted n e₁ e₂ fit en) =
        rw (e₁, en) (ap (λ (f : List ℕ). entries_of (read_entries N f)) (fit_front N (new_mark st b) _) ∙ fit_entries N (new_mark st b) fit, tt)

-- THE CLAIM

pub all_back : {A : Type 0} (P : A → Type 0) (xs ys : List A) → All P (xs ++ ys) → All P ys
all_back P [] ys a = a
all_back P (x ∷ xs) ys a = all_back P xs ys a.1

pub silent_desk_leaves : (N : ℕ) → SilentDeskLeaves N
silent_desk_leaves N s at x d tx p b lent =
    let sd = some_desk N x tx in
    let before = all_back (λ t. T (at_desk N t)) p.since p.earlier (subst (λ (r : List Step). AtDesks N r) p.steps at) in
    let st : State = state_at N (run N s) x in
    let later = subst (λ (r : List Step). Later N (state_at N (run N p.earlier) x) (state_at N (run N r) x)) (sym p.steps) (run-later N x p.since p.earlier) in
    let leaves = silent_leaves_later N sd (run-from N x p.earlier) d p.m ((alike N p.earlier before x tx d p.m).0 p.followed) st later
    (record { silent = λ a t q. in_state N p.earlier before x tx a (p.until.silent a (in_list N s at x tx a t) q) }) in
    all_map (λ f e. rw e (leaves.stamp b)) (written x (mark N st b lent).answer (mark N st b lent).bytes []) (mark-writes N sd st b lent x (kept N sd (run-from N x s)))
