-- The struct of executed marks is that of its marks. Assumes nothing.
use Prim.Native.Nat.{◌<◌, ◌≤◌, suc, ℕ}
use lib.Dec.{T_not, eqb, eqb→eq, ltb, ltb→lt, nltb→le}
use lib.ListN.{get_or, length}
use mathlib.Core.List.{List, [], ◌∷◌}
use mathlib.Core.Logic.{inl, inr, ⊎_elim}
use mathlib.Core.Path.{◌∙◌, ◌≡◌, ap, refl, sym}
use native.Mathlib.Nat.{eq-or-lt_of_le}
use native.Mathlib.Omega.{arith}
use Rattle.frame.specs.Names.{MarkId}
use Rattle.causality.specs.Marks.{places, tally}
use Rattle.causality.specs.State.{heads, ids}
use Rattle.causality.specs.inner.Passes.{row_of}
use Rattle.causality.proofs.Logic.{T→eq, nT→eq, split}
use Rattle.rows.specs.Executed.{executed_in}
use Rattle.rows.specs.View.{carried_at, width}
use Rattle.rows.specs.declared.Executed.{Executed}
use Rattle.rows.proofs.Arrays.{view-length}
use Rattle.rows.proofs.Columns.{boxes-back, desks-back, eq→eqb, numbers-back, pasts-back, stamps-back, tabled_is}
use Rattle.executed.specs.inner.Columns.{before_at, executed_of}
use Rattle.executed.specs.inner.Rows.{Chained, last_in}
use Rattle.executed.specs.inner.Takes.{Ordered}

-- The chain of places.
before_in : (is : List MarkId) (bf : List ℕ) → Chained is bf → (p : ℕ) → p < length is → get_or bf p 0 ≡ before_at is p
before_in [] bf c p h = let z : ⊥ = omega arith in absurd z
before_in (i ∷ is) bf c p h = elim (split (eqb p (length is))) [
  | inl t ↦ rw (T→eq (eqb p (length is)) t, before_at) (ap (λ (x : ℕ). get_or bf x 0) (eqb→eq p (length is) t) ∙ c.0)
  | inr t ↦ rw (nT→eq (eqb p (length is)) t, before_at)
      (before_in is bf c.1 p (⊎_elim (λ e. let z : ⊥ = T_not (eqb p (length is)) t (eq→eqb p (length is) e) in absurd z) (λ l. l) (eq-or-lt_of_le {n = p} {m = length is} (omega arith))))
]

before_out : (is : List MarkId) (p : ℕ) → length is ≤ p → before_at is p ≡ 0
before_out [] p h = refl
before_out (i ∷ is) p h = elim (split (eqb p (length is))) [
  | inl t ↦ let e = eqb→eq p (length is) t in let z : ⊥ = omega arith in absurd z
  | inr t ↦ rw (nT→eq (eqb p (length is)) t, before_at) (before_out is p (omega arith))
]

module _ (a : Executed) (o : Ordered a) where
  pub executed-back : executed_of (executed_in a) ≡ a
  executed-back =
      let s = o.slots in
      let r = o.rows in
      let is = ids (executed_in a) in
      let n = view-length width a.count a.desks a.numbers (carried_at a.boxes a.pasts) a.stamps in
      let ds = desks-back places a.count a.desks a.numbers a.boxes a.pasts a.stamps s in
      let ns = numbers-back places a.count a.desks a.numbers a.boxes a.pasts a.stamps s in
      let bs = boxes-back places a.count a.desks a.numbers a.boxes a.pasts a.stamps s in
      let ps = pasts-back places a.count a.desks a.numbers a.boxes a.pasts a.stamps s in
      let ss = stamps-back places a.count a.desks a.numbers a.boxes a.pasts a.stamps s in
      let ts = tabled_is width 0 (λ j. tally (suc j) is) a.tally r.long_tally r.tally in
      let hs = tabled_is width 0 (λ j. row_of (heads (executed_in a)) (suc j)) a.heads r.long_heads r.heads in
      let ls = tabled_is width 0 (λ j. last_in (suc j) is) a.last r.long_last r.last in
      let bf = tabled_is places 0 (before_at is) a.before r.unused.long (λ p h. elim (split (ltb p (length is))) [
        | inl t ↦ before_in is a.before r.before p (ltb→lt p (length is) t)
        | inr t ↦ let q = nltb→le p (length is) t in r.unused.zeros p q ∙ sym (before_out is p q)
      ]) in
      λ i. record { count = n i; desks = ds i; numbers = ns i; boxes = bs i; pasts = ps i; stamps = ss i; tally = ts i; heads = hs i; last = ls i; before = bf i }
