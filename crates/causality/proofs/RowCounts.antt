-- The reckoning by rows: it is the sum of the row that a mark's entries reach, and that row is final as soon as it covers the tally. Assumes nothing.
use Prim.Native.Nat.{◌≤◌, max, min, suc, ℕ}
use lib.Dec.{T, T_not, eqb, eqb_refl, leb, leb→le, le→leb, nleb→lt, not_T}
use lib.ListN.{length}
use mathlib.Core.Bool.{Bool, cond, false, not, true}
use mathlib.Core.List.{List, [], ◌∷◌}
use mathlib.Core.Logic.{inl, inr}
use mathlib.Core.Path.{◌∙◌, ◌≡◌, ap, refl, subst, sym}
use native.Mathlib.Omega.{arith}
use Rattle.frame.specs.Names.{MarkId}
use Rattle.causality.specs.Marks.{has, keep, same, tally}
use Rattle.causality.specs.State.{Mark, ids, precedes, reckoning}
use Rattle.causality.proofs.Apart.{past-counts}
use Rattle.causality.proofs.Lists.{has-self, keep_cong}
use Rattle.causality.proofs.Logic.{eqb_yes, nT→eq, or_inr, split}
use Rattle.causality.proofs.Past.{prefix_le, tally-same}
use Rattle.causality.specs.inner.Order.{Consecutive, CausallyOrdered}
use Rattle.causality.proofs.Reach.{local_hist, local-precedes, precedes-self, sound_counted}
use Rattle.causality.specs.inner.Passes.{row_of, under}
use Rattle.causality.specs.inner.Upto.{sum_to}
use Rattle.causality.proofs.Upto.{sum_cong, sum_one, sum_zero}

pub tally-other : (d : ℕ) (i : MarkId) (is : List MarkId) → (d ≡ i.desk → ⊥) → tally d (i ∷ is) ≡ tally d is
tally-other d i is n = go (eqb d i.desk) refl
  where
    go : (b : Bool) → eqb d i.desk ≡ b → elim b [ true ↦ suc (tally d is) | false ↦ tally d is ] ≡ tally d is
    go true e = absurd (n (eqb_yes (rw e tt)))
    go false e = refl

-- How many of the marks a row covers.
sum_counts : (n : ℕ) (r : ℕ → ℕ) (is : List MarkId) → Consecutive is → ((i : MarkId) → T (has i is) → (1 ≤ i.desk) × (i.desk ≤ n))
    → length (keep (λ a. leb a.number (r a.desk)) is) ≡ sum_to n (λ d. min (r d) (tally d is))
sum_counts n r [] c f = sym (sum_zero n (λ d. min (r d) 0) (λ d. omega arith))
sum_counts n r (i ∷ is) c f = go (leb i.number (r i.desk)) refl (sum_counts n r is c.1 (λ j t. f j (or_inr (same j i) (has j is) t)))
  where
    k : List MarkId
    k = keep (λ a. leb a.number (r a.desk)) is

    old : ℕ → ℕ
    old = λ d. min (r d) (tally d is)

    new : ℕ → ℕ
    new = λ d. min (r d) (tally d (i ∷ is))

    same_else : (d : ℕ) → (d ≡ i.desk → ⊥) → new d ≡ old d
    same_else d x = ap (λ (t : ℕ). min (r d) t) (tally-other d i is x)

    at : new i.desk ≡ min (r i.desk) (suc (tally i.desk is))
    at = ap (λ (t : ℕ). min (r i.desk) t) (tally-same i.desk i is refl)

    go : (b : Bool) → leb i.number (r i.desk) ≡ b → length k ≡ sum_to n old → length (cond b (i ∷ k) k) ≡ sum_to n new
    go true e ih =
        let l = leb→le i.number (r i.desk) (rw e tt) in
        let x = c.0 in
        let y = at in
        let d = f i (has-self i is) in
        let o : new i.desk ≡ suc (old i.desk) = omega arith in
        ap suc ih ∙ sym (sum_one n old new i.desk d.0 d.1 o (λ e p. same_else e))
    go false e ih =
        let l = nleb→lt i.number (r i.desk) (rw e tt) in
        let x = c.0 in
        let y = at in
        let o : new i.desk ≡ old i.desk = omega arith in
        ih ∙ sum_cong n old new (λ d p q. elim (split (eqb d i.desk)) [
          | inl t ↦ subst (λ (v : ℕ). old v ≡ new v) (sym (eqb_yes t)) (sym o)
          | inr t ↦ sym (same_else d (λ z. T_not (eqb d i.desk) t (rw z (eqb_refl i.desk))))
        ])

-- The sum of the past row: two rows that together are that of the newest mark's entries, after the pass.
module _ (m : Mark) (older : List Mark) (so : CausallyOrdered (m ∷ older)) (s r : ℕ → ℕ) (all : (d : ℕ) → max (s d) (r d) ≡ row_of m.stamp d) where
  abbrev row : ℕ → ℕ
  row d = max (s d) (under older s r d)

  -- The row counts no mark that is not listed.
  pub row-tally : (d : ℕ) → max (s d) (under older s r d) ≤ tally d (ids older)
  row-tally d = elim (split (leb 1 (row d))) [
    | inl t ↦
        let i : MarkId = record { desk = d; number = row d } in
        let p : T (precedes (m ∷ older) i m.id) = rw (past-counts m older so s r all i (leb→le 1 (row d) t)) (le→leb (row d) (row d) (omega arith)) in
        let l = (local_hist (m ∷ older) so).0.behind i (rw (local-precedes (m ∷ older) so i m.id) p) in
        (prefix_le (ids older) (sound_counted older so.1) i l).1
    | inr t ↦ let k = nleb→lt 1 (row d) t in omega arith
  ]

  pub reckoning-row : (n : ℕ) → ((i : MarkId) → T (has i (ids older)) → (1 ≤ i.desk) × (i.desk ≤ n)) → reckoning (m ∷ older) m.id ≡ sum_to n (λ d. max (s d) (under older s r d))
  unfolding reckoning
  reckoning-row n f = rw (nT→eq (precedes (m ∷ older) m.id m.id) alone) (ap length (keep_cong p q (ids older) agree)
      ∙ sum_counts n row (ids older) (sound_counted older so.1) f ∙ sum_cong n (λ d. min (row d) (tally d (ids older))) row (λ d a b. let t = row-tally d in omega arith))
    where
      p : MarkId → Bool
      p a = precedes (m ∷ older) a m.id

      q : MarkId → Bool
      q a = leb a.number (row a.desk)

      agree : (a : MarkId) → T (has a (ids older)) → p a ≡ q a
      agree a t = past-counts m older so s r all a (prefix_le (ids older) (sound_counted older so.1) a t).0

      alone : T (not (precedes (m ∷ older) m.id m.id))
      alone = not_T (precedes (m ∷ older) m.id m.id) (precedes-self (m ∷ older) so m.id)
