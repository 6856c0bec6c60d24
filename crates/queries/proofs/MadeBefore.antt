-- How many marks of a desk stand before a place. Assumes nothing.
use Prim.Native.Nat.{◌-◌, ◌<◌, ◌≤◌, suc, zero, ℕ}
use lib.Dec.{T, eqb, eqb→eq, eqb_refl, ltb, ltb→lt, nltb→le, not_T}
use lib.ListN.{get_or, length}
use mathlib.Core.Bool.{not}
use mathlib.Core.List.{List, ◌∷◌}
use mathlib.Core.Logic.{inl, inr}
use mathlib.Core.Path.{◌∙◌, ◌≡◌, ap, refl, subst, sym}
use native.Mathlib.Omega.{arith}
use Rattle.frame.specs.Names.{MarkId}
use Rattle.causality.specs.Marks.{tally}
use Rattle.causality.specs.State.{ids}
use Rattle.causality.proofs.Logic.{T→eq, nT→eq, split}
use Rattle.causality.specs.inner.Order.{Consecutive}
use Rattle.executed.specs.inner.Rows.{LentTo, last_in}
use Rattle.rows.specs.declared.Executed.{Executed}
use Rattle.rows.specs.Executed.{marks_with}
use Rattle.rows.specs.View.{Carried, name_at, names_down, width}
use Rattle.rows.proofs.Places.{ids-names}
use Rattle.queries.specs.inner.Steps.{MadeBefore}
use Rattle.rows.proofs.Down.{down_last, down-length, down-less}

-- The newest of the names is of desk d, or another's.
module _ (d : ℕ) (i : MarkId) (is : List MarkId) where
  own : T (eqb d i.desk) → (last_in d (i ∷ is) ≡ suc (length is)) × (tally d (i ∷ is) ≡ suc (tally d is))
  own t = (rw (T→eq (eqb d i.desk) t, last_in) refl, rw (T→eq (eqb d i.desk) t, tally) refl)

  other : T (not (eqb d i.desk)) → (last_in d (i ∷ is) ≡ last_in d is) × (tally d (i ∷ is) ≡ tally d is)
  other t = (rw (nT→eq (eqb d i.desk) t, last_in) refl, rw (nT→eq (eqb d i.desk) t, tally) refl)

module _ (ds ns : List ℕ) where
  -- Of counted names the first are counted.
  pub counted-less : (count p : ℕ) → p ≤ count → Consecutive (names_down count ds ns) → Consecutive (names_down p ds ns)
  counted-less count p h c = down-less (name_at ds ns) Consecutive (λ i is x. x.1) count p h c

  module _ (d : ℕ) where
    -- The desk's last mark stands before place p: so do all.
    all_before : (count p : ℕ) → p ≤ count → last_in d (names_down count ds ns) ≤ p → tally d (names_down count ds ns) ≡ tally d (names_down p ds ns)
    all_before zero p h l = let e : 0 ≡ p = omega arith in ap (λ (x : ℕ). tally d (names_down x ds ns)) e
    all_before (suc k) p h l = elim (split (ltb k p)) [
      | inl t ↦ let o = ltb→lt k p t in let e : suc k ≡ p = omega arith in ap (λ (x : ℕ). tally d (names_down x ds ns)) e
      | inr t ↦ let b = nltb→le k p t in elim (split (eqb d (get_or ds k 0))) [
        | inl u ↦ let m = down-length (name_at ds ns) k in let z : ⊥ = omega (arith, (own d (name_at ds ns k) (names_down k ds ns) u).0) in absurd z
        | inr u ↦ (other d (name_at ds ns k) (names_down k ds ns) u).1 ∙ all_before k p b (omega (arith, (other d (name_at ds ns k) (names_down k ds ns) u).0))
      ]
    ]

    -- The mark before a place is of the desk: one fewer stands before it. Or it is another's.
    own_more : (q : ℕ) → 0 < q → get_or ds (q - 1) 0 ≡ d → tally d (names_down q ds ns) ≡ suc (tally d (names_down (q - 1) ds ns))
    own_more q z e = ap (tally d) (down_last (name_at ds ns) q z) ∙ (own d (name_at ds ns (q - 1)) (names_down (q - 1) ds ns) (rw e (eqb_refl d))).1

    pub own_less : (q : ℕ) → 0 < q → get_or ds (q - 1) 0 ≡ d → (made : ℕ) → made ≡ tally d (names_down q ds ns) → made - 1 ≡ tally d (names_down (q - 1) ds ns)
    own_less q z e made m = omega (arith, m ∙ own_more q z e)

    pub other-same : (q : ℕ) → 0 < q → (get_or ds (q - 1) 0 ≡ d → ⊥) → tally d (names_down q ds ns) ≡ tally d (names_down (q - 1) ds ns)
    other-same q z f = ap (tally d) (down_last (name_at ds ns) q z) ∙ (other d (name_at ds ns (q - 1)) (names_down (q - 1) ds ns) (not_T (eqb d (get_or ds (q - 1) 0)) (λ t. f (sym (eqb→eq d (get_or ds (q - 1) 0) t))))).1

    -- Down from place p no mark of the desk has been met as far as place q.
    abbrev pub NoneDown : ℕ → ℕ → Type 0
    NoneDown p q = (q ≤ p) × (tally d (names_down p ds ns) ≡ tally d (names_down q ds ns))

    pub none_yet : (p : ℕ) → NoneDown p p
    none_yet p = (omega arith, refl)

    module _ (p q : ℕ) (w : NoneDown p q) (z : 0 < q) where
      pub none_more : (get_or ds (q - 1) 0 ≡ d → ⊥) → NoneDown p (q - 1)
      none_more f = let l = w.0 in (omega arith, w.1 ∙ other-same q z f)

      -- One is met: its number counts them.
      pub met : get_or ds (q - 1) 0 ≡ d → Consecutive (names_down p ds ns) → get_or ns (q - 1) 0 ≡ tally d (names_down p ds ns)
      met e c =
          let k = subst Consecutive (down_last (name_at ds ns) q z) (counted-less p q w.0 c) in
          k.0 ∙ ap (λ (x : ℕ). suc (tally x (names_down (q - 1) ds ns))) e ∙ sym (w.1 ∙ own_more q z e)

-- EXECUTED MARKS THAT ARE LENT

module _ (a : Executed) (d p : ℕ) where
  pub made_all : 1 ≤ d → d ≤ width → get_or a.last (d - 1) 0 ≤ p → MadeBefore a d p (get_or a.tally (d - 1) 0)
  made_all lo hi h count l b =
      let c = l.chain in
      let e : suc (d - 1) ≡ d = omega arith in
      let g = c.last (d - 1) (omega arith) ∙ ap (λ (x : ℕ). last_in x (names_down count a.desks a.numbers)) e in
      c.tally (d - 1) (omega arith) ∙ ap (λ (x : ℕ). tally x (names_down count a.desks a.numbers)) e ∙ all_before a.desks a.numbers d count p b (omega arith)

  pub made_none : (q : ℕ) → NoneDown a.desks a.numbers d p q → q ≤ 0 → MadeBefore a d p 0
  made_none q w z count l b = let e : q ≡ 0 = omega arith in sym (w.1 ∙ ap (λ (x : ℕ). tally d (names_down x a.desks a.numbers)) e)

  pub made_met : (q : ℕ) → NoneDown a.desks a.numbers d p q → 0 < q → get_or a.desks (q - 1) 0 ≡ d → MadeBefore a d p (get_or a.numbers (q - 1) 0)
  made_met q w z e count l b = met a.desks a.numbers d p q w z e (counted-less a.desks a.numbers count p b l.chain.counted)

module _ (a : Executed) (p d made count : ℕ) (l : LentTo count a) (m : MadeBefore a d p made) (h : p ≤ count) where
  pub made-first : (bs : ℕ → Carried) → made ≡ tally d (ids (marks_with bs p a))
  made-first bs = m count l h ∙ ap (tally d) (sym (ids-names width a.desks a.numbers bs a.stamps p))
