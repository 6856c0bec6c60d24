-- The release at desks of any kind: what each turn keeps holds at its end, it takes no room, and it goes on until none is ready. Assumes nothing.
use Prim.Native.Nat.{◌+◌, ◌≤◌, suc, zero, ℕ}
use lib.Dec.{T}
use lib.ListN.{length}
use mathlib.Core.Bool.{Bool, false, not, true}
use mathlib.Core.List.{List, [], ◌∷◌}
use mathlib.Core.Option.{Option, none, some}
use mathlib.Core.Path.{◌≡◌, refl}
use native.Mathlib.Omega.{arith}
use Rattle.causality.specs.Kinds.{ReleaseOf, Rules, release_by}
use Rattle.causality.specs.Marks.{All, lowest, without}
use Rattle.causality.proofs.Lists.{lowest-none, lowest_shorter}

module _ {A : Type 0} (R : Rules A) where
  -- w is the ready waiting mark of lowest desk; and the others.
  abbrev pub Next : List A → List A → A → Type 0
  Next l ws w = lowest R.name_of (R.ready l) ws ≡ some w

  abbrev pub others : A → List A → List A
  others w ws = without R.name_of (R.name_of w) ws

  -- One turn, or none where none is ready.
  pub release_rests : (turns : ℕ) (l ws : List A) (k f : ℕ) → lowest R.name_of (R.ready l) ws ≡ none → release_by R turns l ws k f ≡ record { executed = l; waiting = ws; k = k; f = f }
  release_rests zero l ws k f e = refl
  release_rests (suc turns) l ws k f e = rw (e, release_by)

  pub release_drops : (turns : ℕ) (l ws : List A) (k f : ℕ) (w : A) → Next l ws w → R.false_stamp l w ≡ true → release_by R (suc turns) l ws k f ≡ release_by R turns l (others w ws) k (suc f)
  release_drops turns l ws k f w e t = rw (e, release_by) (rw t)

  pub release-runs : (turns : ℕ) (l ws : List A) (k f : ℕ) (w : A) → Next l ws w → R.false_stamp l w ≡ false
      → release_by R (suc turns) l ws k f ≡ release_by R turns (R.reckoned l w ∷ l) (others w ws) (suc k) f
  release-runs turns l ws k f w e t = rw (e, release_by) (rw t)

  -- What holds of the executed and the waiting marks, k and f, and goes on holding as one is dropped or executed.
  module _ (P : List A → List A → ℕ → ℕ → Type 0)
      (drops : (l ws : List A) (k f : ℕ) (w : A) → P l ws k f → Next l ws w → P l (others w ws) k (suc f))
      (runs : (l ws : List A) (k f : ℕ) (w : A) → P l ws k f → Next l ws w → R.false_stamp l w ≡ false → P (R.reckoned l w ∷ l) (others w ws) (suc k) f) where
    abbrev Ends : ReleaseOf A → Type 0
    Ends r = P r.executed r.waiting r.k r.f

    pub release_keeps : (turns : ℕ) (l ws : List A) (k f : ℕ) → P l ws k f → Ends (release_by R turns l ws k f)
    release_keeps zero l ws k f p = p
    release_keeps (suc turns) l ws k f p = go (lowest R.name_of (R.ready l) ws) refl (release_keeps turns)
      where
        go : (o : Option A) → lowest R.name_of (R.ready l) ws ≡ o → ((l ws : List A) (k f : ℕ) → P l ws k f → Ends (release_by R turns l ws k f)) → Ends (release_by R (suc turns) l ws k f)
        go none e ih = rw (e, release_by) p
        go (some w) e ih = by (R.false_stamp l w) refl
          where
            by : (b : Bool) → R.false_stamp l w ≡ b → Ends (release_by R (suc turns) l ws k f)
            by true q = rw (e, release_by) (rw q (ih l (others w ws) k (suc f) (drops l ws k f w p e)))
            by false q = rw (e, release_by) (rw q (ih (R.reckoned l w ∷ l) (others w ws) (suc k) f (runs l ws k f w p e q)))

  pub release_room : (turns : ℕ) (l ws : List A) (k f : ℕ) → let r = release_by R turns l ws k f in
      (length r.executed + length r.waiting ≤ length l + length ws) × (length r.waiting ≤ length ws)
  release_room turns l ws k f = release_keeps (λ l' ws' k' f'. (length l' + length ws' ≤ length l + length ws) × (length ws' ≤ length ws))
      (λ l' ws' k' f' w p e. let s = lowest_shorter R.name_of (R.ready l') ws' w e in (omega arith, omega arith))
      (λ l' ws' k' f' w p e t. let s = lowest_shorter R.name_of (R.ready l') ws' w e in (omega arith, omega arith)) turns l ws k f (omega arith, omega arith)

  abbrev Quiet : ReleaseOf A → Type 0
  Quiet r = All (λ w. T (not (R.ready r.executed w))) r.waiting

  pub release_quiet : (turns : ℕ) (l ws : List A) (k f : ℕ) → length ws ≤ turns → Quiet (release_by R turns l ws k f)
  release_quiet zero l [] k f q = tt
  release_quiet zero l (w ∷ ws) k f q = let z : ⊥ = omega arith in absurd z
  release_quiet (suc turns) l ws k f q = go (lowest R.name_of (R.ready l) ws) refl (release_quiet turns)
    where
      go : (o : Option A) → lowest R.name_of (R.ready l) ws ≡ o → ((l ws : List A) (k f : ℕ) → length ws ≤ turns → Quiet (release_by R turns l ws k f)) → Quiet (release_by R (suc turns) l ws k f)
      go none e ih = rw (e, release_by) (lowest-none R.name_of (R.ready l) ws e)
      go (some w) e ih = by (R.false_stamp l w) refl
        where
          fewer : length (others w ws) ≤ turns
          fewer = let s = lowest_shorter R.name_of (R.ready l) ws w e in omega arith

          by : (b : Bool) → R.false_stamp l w ≡ b → Quiet (release_by R (suc turns) l ws k f)
          by true x = rw (e, release_by) (rw x (ih l (others w ws) k (suc f) fewer))
          by false x = rw (e, release_by) (rw x (ih (R.reckoned l w ∷ l) (others w ws) (suc k) f fewer))
