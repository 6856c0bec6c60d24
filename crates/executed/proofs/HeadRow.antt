-- The row of heads after one more execution: heads that the new mark names are struck, its own desk's is set. Assumes nothing.
use Prim.Native.Nat.{◌≤◌, suc, ℕ}
use lib.Dec.{T, T_not, eqb, eqb→eq, leb, leb→le, nleb→lt, not_T}
use mathlib.Core.Bool.{Bool, ◌||◌, false, not, true}
use mathlib.Core.List.{List, ◌∷◌}
use mathlib.Core.Logic.{◌⊎◌, inl, inr}
use mathlib.Core.Path.{◌∙◌, ◌≡◌, ap, subst, sym}
use native.Mathlib.Omega.{arith}
use Rattle.frame.specs.Names.{MarkId}
use Rattle.causality.specs.Marks.{has, keep, same}
use Rattle.causality.specs.State.{Mark, heads}
use Rattle.causality.proofs.Heads.{heads-step}
use Rattle.causality.proofs.Lists.{has-insert, has-keep, keep-has}
use Rattle.causality.proofs.Logic.{T→eq, nT→eq, or_inl, or_inr, or_yes, same_refl, same→eq, split}
use Rattle.causality.proofs.Numbers.{heads_strict}
use Rattle.causality.specs.inner.Order.{Strict, CausallyOrdered}
use Rattle.causality.proofs.Past.{Standing}
use Rattle.causality.proofs.Reach.{local, local_hist}
use Rattle.causality.proofs.RowLaws.{row-entry}
use Rattle.causality.proofs.Rows.{row-find}
use Rattle.causality.specs.inner.Passes.{row_of}
use Rattle.rows.proofs.Columns.{eq→eqb}
use Rattle.executed.specs.inner.Rows.{struck, turned}

module _ (m : Mark) (older : List Mark) (s : CausallyOrdered (m ∷ older)) (st : Strict m.stamp) (d : ℕ) where
  abbrev unnamed : MarkId → Bool
  unnamed i = not (has i m.stamp)

  hist : Standing (local (m ∷ older)) (m ∷ older)
  hist = local_hist (m ∷ older) s

  strict_old : Strict (heads older)
  strict_old = heads_strict (local (m ∷ older)) older hist.1

  strict_new : Strict (heads (m ∷ older))
  strict_new = heads_strict (local (m ∷ older)) (m ∷ older) hist

  -- Who is a head now.
  member : (i : MarkId) → has i (heads (m ∷ older)) ≡ (same i m.id || has i (keep unnamed (heads older)))
  member i = ap (λ (xs : List MarkId). has i xs) (heads-step (local (m ∷ older)) m older hist) ∙ has-insert i m.id (keep unnamed (heads older))

  own : d ≡ m.id.desk → row_of (heads (m ∷ older)) d ≡ m.id.number
  own e = rw e (row-entry (heads (m ∷ older)) strict_new m.id (rw (member m.id) (or_inl (same m.id m.id) (has m.id (keep unnamed (heads older))) (same_refl m.id))))

  -- A head of another desk was one before, and the mark does not name it.
  old : (d ≡ m.id.desk → ⊥) → (i : MarkId) → T (has i (heads (m ∷ older))) → i.desk ≡ d → T (has i (heads older)) × T (unnamed i)
  old ne i t e = elim (or_yes (same i m.id) (has i (keep unnamed (heads older))) (rw (member i) at t)) [
    | inl q ↦ absurd (ne (sym e ∙ ap (λ (x : MarkId). x.desk) (same→eq i m.id q)))
    | inr n ↦ keep-has unnamed (heads older) i n
  ]

  gone : ((i : MarkId) → T (has i (heads (m ∷ older))) → i.desk ≡ d → 1 ≤ i.number → ⊥) → row_of (heads (m ∷ older)) d ≡ 0
  gone f = elim (split (leb 1 (row_of (heads (m ∷ older)) d))) [
    | inl u ↦ let x = row-find (heads (m ∷ older)) d 1 (omega arith) (leb→le 1 (row_of (heads (m ∷ older)) d) u) in absurd (f x.e x.there x.desk x.high)
    | inr u ↦ let g = nleb→lt 1 (row_of (heads (m ∷ older)) d) u in omega arith
  ]

  -- The number of an entry of desk d.
  entry-is : (es : List MarkId) → Strict es → (i : MarkId) → T (has i es) → i.desk ≡ d → row_of es d ≡ i.number
  entry-is es r i t e = subst (λ (k : ℕ). row_of es k ≡ i.number) e (row-entry es r i t)

  other : (d ≡ m.id.desk → ⊥) → row_of (heads (m ∷ older)) d ≡ struck (row_of m.stamp d) (row_of (heads older) d)
  other ne = elim (split (leb 1 h)) [ inl p ↦ has_head (leb→le 1 h p) (split (eqb (row_of m.stamp d) h)) | inr p ↦ no_head (nleb→lt 1 h p) (eqb (row_of m.stamp d) h) ]
    where
      h : ℕ
      h = row_of (heads older) d

      no_head : suc h ≤ 1 → (b : Bool) → row_of (heads (m ∷ older)) d ≡ elim b [ true ↦ 0 | false ↦ h ]
      no_head p true = gone (λ i t e n. let q = entry-is (heads older) strict_old i (old ne i t e).0 e in omega arith)
      no_head p false = let z = gone (λ i t e n. let q = entry-is (heads older) strict_old i (old ne i t e).0 e in omega arith) in omega arith

      has_head : 1 ≤ h → T (eqb (row_of m.stamp d) h) ⊎ T (not (eqb (row_of m.stamp d) h)) → row_of (heads (m ∷ older)) d ≡ struck (row_of m.stamp d) h
      has_head p (inl q) = rw (T→eq (eqb (row_of m.stamp d) h) q, struck) (gone (λ i t e n.
          let r = old ne i t e in
          let a = entry-is (heads older) strict_old i r.0 e in
          let b = eqb→eq (row_of m.stamp d) h q in
          let y = row-find m.stamp d h p (omega arith) in
          let c = entry-is m.stamp st y.e y.there y.desk in
          let f : y.e.desk ≡ i.desk = y.desk ∙ sym e in
          let g : y.e.number ≡ i.number = omega arith in
          let z : y.e ≡ i = λ k. record { desk = f k; number = g k } in
          T_not (has i m.stamp) r.1 (subst (λ (k : MarkId). T (has k m.stamp)) z y.there)))
      has_head p (inr q) =
          let x = row-find (heads older) d h p (omega arith) in
          let a = entry-is (heads older) strict_old x.e x.there x.desk in
          let out : T (unnamed x.e) = not_T (has x.e m.stamp) (λ t.
          let b = entry-is m.stamp st x.e t x.desk in
          T_not (eqb (row_of m.stamp d) h) q (eq→eqb (row_of m.stamp d) h (omega arith))) in
          let now : T (has x.e (heads (m ∷ older))) = rw (member x.e) (or_inr (same x.e m.id) (has x.e (keep unnamed (heads older))) (has-keep unnamed (heads older) x.e x.there out)) in
          rw (nT→eq (eqb (row_of m.stamp d) h) q, struck) (entry-is (heads (m ∷ older)) strict_new x.e now x.desk ∙ sym a)

  pub head_row-step : row_of (heads (m ∷ older)) d ≡ turned m.id.desk m.id.number (row_of m.stamp d) d (row_of (heads older) d)
  head_row-step = elim (split (eqb d m.id.desk)) [
    | inl t ↦ rw (T→eq (eqb d m.id.desk) t, turned) (own (eqb→eq d m.id.desk t))
    | inr t ↦ rw (nT→eq (eqb d m.id.desk) t, turned) (other (λ e. T_not (eqb d m.id.desk) t (eq→eqb d m.id.desk e)))
  ]
