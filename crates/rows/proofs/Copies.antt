-- The loop that searches places for a name, turn by turn. Assumes nothing.
use mathlib.Core.Path.{◌≡◌, refl, sym, ap, ◌∙◌}
use mathlib.Core.Bool.{false, and-false}
use mathlib.Core.List.{List}
use mathlib.Core.Logic.{◌⊎◌, inl, inr}
use mathlib.Core.Option.{none, some}
use Prim.Native.Nat.{ℕ, ◌-◌, ◌≤◌, ◌<◌}
use native.Mathlib.Omega.{arith}
use borrow.Author.Tests.{eq-eqb, ne_eqb}
use lib.Dec.{eqb}
use lib.ListN.{get_or}
use Rattle.frame.specs.Names.{MarkId}
use Rattle.causality.specs.Marks.{same, find}
use Rattle.causality.specs.State.{mark_id}
use Rattle.rows.specs.View.{Carried, view, mark_at, name_at}
use Rattle.rows.proofs.RowSteps.{view_last}

-- The mark of the name, if any, is among the first p.
pub record Below (n count : ℕ) (ds ns : List ℕ) (i : MarkId) (p : ℕ) : Type 0 where
  pub turns : p ≤ count
  pub below : (bs : ℕ → Carried) (ss : List (List ℕ)) → find mark_id i (view n count ds ns bs ss) ≡ find mark_id i (view n p ds ns bs ss)

module _ (n count : ℕ) (ds ns : List ℕ) (i : MarkId) where
  pub below_all : Below n count ds ns i count
  below_all = record { turns = omega arith; below = λ bs ss. refl }

  module _ (p : ℕ) (w : Below n count ds ns i p) where
    -- The newest of them has the name.
    pub below_hit : 0 < p → get_or ds (p - 1) 0 ≡ i.desk → get_or ns (p - 1) 0 ≡ i.number → (bs : ℕ → Carried) (ss : List (List ℕ))
        → some (mark_at n ds ns bs ss (p - 1)) ≡ find mark_id i (view n count ds ns bs ss)
    unfolding same
    below_hit h d m bs ss = sym (w.below bs ss ∙ ap (find mark_id i) (view_last n ds ns bs ss p h)
        ∙ rw (eq-eqb i.desk (get_or ds (p - 1) 0) (sym d), eq-eqb i.number (get_or ns (p - 1) 0) (sym m), find) refl)

    -- It has not.
    pub below_miss : 0 < p → (get_or ds (p - 1) 0 ≡ i.desk → ⊥) ⊎ (get_or ns (p - 1) 0 ≡ i.number → ⊥) → Below n count ds ns i (p - 1)
    unfolding same
    below_miss h o = record {
      turns = let t = w.turns in omega arith;
      below = λ bs ss. w.below bs ss ∙ ap (find mark_id i) (view_last n ds ns bs ss p h) ∙ rw (other o, find) refl;
    }
      where
        other : (get_or ds (p - 1) 0 ≡ i.desk → ⊥) ⊎ (get_or ns (p - 1) 0 ≡ i.number → ⊥) → same i (name_at ds ns (p - 1)) ≡ false
        other (inl f) = rw (ne_eqb i.desk (get_or ds (p - 1) 0) (λ e. f (sym e))) refl
        other (inr f) = rw (ne_eqb i.number (get_or ns (p - 1) 0) (λ e. f (sym e))) (and-false (eqb i.desk (get_or ds (p - 1) 0)))

    -- None is left.
    pub below_none : p ≤ 0 → (bs : ℕ → Carried) (ss : List (List ℕ)) → none ≡ find mark_id i (view n count ds ns bs ss)
    unfolding view
    below_none z bs ss = let e : p ≡ 0 = omega arith in sym (w.below bs ss ∙ ap (λ (k : ℕ). find mark_id i (view n k ds ns bs ss)) e)
