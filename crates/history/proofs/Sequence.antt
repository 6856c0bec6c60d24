-- The whole sequence: the simulation holds, and each mark made has the past that it was made with. Assumes nothing.
use Prim.Native.Nat.{◌≤◌, ℕ}
use lib.Dec.{T}
use lib.ListN.{length}
use mathlib.Core.Bool.{not}
use mathlib.Core.List.{List, [], ◌∷◌}
use mathlib.Core.Option.{Option, none, some}
use mathlib.Core.Path.{◌≡◌, refl}
use Rattle.frame.specs.Answer.{Answer, gives, refused}
use Rattle.frame.specs.Names.{MarkId, is_desk}
use Rattle.causality.specs.Marks.{All, find, has, same}
use Rattle.causality.proofs.Lists.{absent-all, all_map}
use Rattle.causality.proofs.Logic.{T→eq, nT→eq, same_refl}
use Rattle.history.specs.Plain.{History, MadeMark, hand_over_at, lists_at, made_id, made_ids, making, new_made, past_of, plain, plain_step, plain_step_by, recorded}
use Rattle.history.specs.Run.{Step, at_desk, fed, handing, marking, run, to_first, to_second}
use Rattle.history.proofs.Calls.{apart}
use Rattle.history.proofs.Simulation.{Inv, first_ok, handing_ok, marking_ok, new-absent, second_ok, start}

abbrev pub AtDesks : ℕ → List Step → Type 0
AtDesks N s = All (λ t. T (at_desk N t)) s

pub recorded-all : {A B : Type 0} (P : B → Type 0) (a : Answer A) (x : B) (xs : List B) → All P (recorded a x xs) → All P xs
recorded-all P (gives n) x xs p = p.1
recorded-all P (refused c) x xs p = p

pub hand_hist : (h : History) (d : ℕ) (i : MarkId) → (plain_step h (hand_over_at d i)).made ≡ h.made
hand_hist h d i = go (find made_id i h.made) refl
  where
    go : (o : Option MadeMark) → find made_id i h.made ≡ o → (plain_step h (hand_over_at d i)).made ≡ h.made
    go none e = rw (e, plain_step_by)
    go (some x) e = rw (e, plain_step_by)

abbrev pub plain_of : List Step → History
plain_of s = plain (fed s)

-- The past of a made mark, at the end of a sequence.
abbrev pub past_at : List Step → MarkId → List MarkId
past_at s i = past_of (plain_of s).made i

abbrev pub Fits : (MarkId → List MarkId) → List MadeMark → Type 0
Fits past xs = All (λ x. past x.id ≡ x.past) xs

-- A new name hides none.
recorded_fits : {A : Type 0} (a : Answer A) (x : MadeMark) (xs : List MadeMark) → T (not (has x.id (made_ids xs))) → Fits (past_of xs) xs → Fits (past_of (recorded a x xs)) (recorded a x xs)
recorded_fits (refused c) x xs n f = f
recorded_fits (gives k) x xs n f = (
  rw (T→eq (same x.id x.id) (same_refl x.id), past_of) refl,
  all_map hidden xs (absent-all made_id (λ y. past_of xs y.id ≡ y.past) x.id xs n f),
)
  where
    hidden : (y : MadeMark) → (past_of xs y.id ≡ y.past) × T (not (same x.id y.id)) → past_of (x ∷ xs) y.id ≡ y.past
    hidden y p = rw (nT→eq (same y.id x.id) (apart x.id y.id p.1), past_of) p.0

module _ (N : ℕ) (some_desk : 1 ≤ N) where
  -- The simulation, for a past that fits the end of the sequence.
  simulation : (past : MarkId → List MarkId) (s : List Step) → AtDesks N s → Fits past (plain_of s).made → Inv N some_desk past (run N s) (plain_of s)
  simulation past [] at f = start N some_desk past
  simulation past (marking d b lent ∷ s) at f = marking_ok N some_desk past (run N s) (plain_of s)
      (simulation past s at.1 (recorded-all (λ y. past y.id ≡ y.past) (making d (lists_at (plain_of s) d) b (length lent)).answer (new_made d (lists_at (plain_of s) d) b) (plain_of s).made f))
      d (T→eq (is_desk N d) at.0) b lent f
  simulation past (handing d i k ∷ s) at f = handing_ok N some_desk past (run N s) (plain_of s) (simulation past s at.1 (rw (hand_hist (plain_of s) d i) at f)) d (T→eq (is_desk N d) at.0) i k
  simulation past (to_second d i k lent ∷ s) at f = second_ok N some_desk past (run N s) (plain_of s) (simulation past s at.1 f) d (T→eq (is_desk N d) at.0) i k lent
  simulation past (to_first i k lent ∷ s) at f = first_ok N some_desk past (run N s) (plain_of s) (simulation past s at.1 f) i k lent

  abbrev pub InvAt : List Step → Type 0
  InvAt s = Inv N some_desk (past_at s) (run N s) (plain_of s)

  pub fits : (s : List Step) → AtDesks N s → Fits (past_at s) (plain_of s).made
  fits [] at = tt
  fits (handing d i k ∷ s) at = rw (hand_hist (plain_of s) d i) (fits s at.1)
  fits (to_second d i k lent ∷ s) at = fits s at.1
  fits (to_first i k lent ∷ s) at = fits s at.1
  fits (marking d b lent ∷ s) at =
      let h = plain_of s in
      let f = fits s at.1 in
      recorded_fits (making d (lists_at h d) b (length lent)).answer (new_made d (lists_at h d) b) h.made
      (new-absent N some_desk (past_at s) (run N s) h (simulation (past_at s) s at.1 f) d (T→eq (is_desk N d) at.0) b) f

  pub inv_of : (s : List Step) → AtDesks N s → InvAt s
  inv_of s at = simulation (past_at s) s at (fits s at)
