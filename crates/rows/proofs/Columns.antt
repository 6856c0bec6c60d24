-- Columns whose unused places are zero are those of their marks. Assumes nothing.
use Prim.Native.Nat.{◌<◌, ◌≤◌, suc, zero, ℕ}
use lib.Dec.{T, T_not, eqb, eqb_refl, eqb→eq, ltb, ltb→lt, nltb→le}
use lib.ListN.{get_or, length}
use lib.Seq.{ext_get_or}
use mathlib.Core.List.{List, []}
use mathlib.Core.Logic.{inl, inr, ⊎_elim}
use mathlib.Core.Path.{◌∙◌, ◌≡◌, ap, refl, subst, sym}
use native.Mathlib.Nat.{eq-or-lt_of_le}
use native.Mathlib.Numerals.{sub-one}
use native.Mathlib.Omega.{arith}
use Rattle.frame.specs.declared.MarkBox.{MarkBox}
use Rattle.causality.specs.State.{Mark}
use Rattle.causality.specs.inner.Passes.{row_of}
use Rattle.causality.proofs.Logic.{T→eq, nT→eq, split}
use Rattle.causality.proofs.RowLaws.{row_of-entries}
use Rattle.rows.specs.inner.Columns.{boxes_of, counts_of, desks_of, numbers_of, past_code, pasts_of, slot, stamps_of, tabled}
use Rattle.rows.specs.View.{carried_at, down_from, mark_at, no_box, past_from, row_at, view, width}
use Rattle.rows.specs.inner.Slots.{Slots}
use Rattle.rows.proofs.Down.{down-length}

-- TABLES

module _ {A : Type 0} where
  pub tabled-length : (n : ℕ) (f : ℕ → A) → length (tabled n f) ≡ n
  unfolding tabled
  tabled-length zero f = refl
  tabled-length (suc n) f = ap suc (tabled-length n (λ p. f (suc p)))

  tabled_at : (n : ℕ) (e : A) (f : ℕ → A) (p : ℕ) → p < n → get_or (tabled n f) p e ≡ f p
  unfolding tabled
  tabled_at zero e f p h = let z : ⊥ = omega arith in absurd z
  tabled_at (suc n) e f zero h = refl
  tabled_at (suc n) e f (suc p) h = tabled_at n e (λ q. f (suc q)) p (omega arith)

  -- A list is the table of what stands in it.
  pub tabled_is : (n : ℕ) (e : A) (f : ℕ → A) (xs : List A) → length xs ≡ n → ((p : ℕ) → p < n → get_or xs p e ≡ f p) → tabled n f ≡ xs
  tabled_is n e f xs q h =
      let t = tabled-length n f in
      ext_get_or e (tabled n f) xs (t ∙ sym q) (λ p l. tabled_at n e f p (omega arith) ∙ sym (h p (omega arith)))

-- SLOTS

pub eq→eqb : (a b : ℕ) → a ≡ b → T (eqb a b)
eq→eqb a b e = subst (λ (k : ℕ). T (eqb a k)) e (eqb_refl a)

-- Of f 0, f 1, .., newest first: what stands at a place, and that nothing stands behind them.
module _ {A : Type 0} (f : ℕ → Mark) (d : A) (v : Mark → A) where
  slot_in : (k p : ℕ) → p < k → slot d v (down_from f k) p ≡ v (f p)
  slot_in zero p h = let z : ⊥ = omega arith in absurd z
  slot_in (suc k) p h = elim (split (eqb p (length (down_from f k)))) [
    | inl t ↦ rw (T→eq (eqb p (length (down_from f k))) t, slot) (ap (λ (x : ℕ). v (f x)) (sym (eqb→eq p (length (down_from f k)) t ∙ down-length f k)))
    | inr t ↦ rw (nT→eq (eqb p (length (down_from f k))) t, slot)
        (slot_in k p (⊎_elim (λ e. let z : ⊥ = T_not (eqb p (length (down_from f k))) t (eq→eqb p (length (down_from f k)) (e ∙ sym (down-length f k))) in absurd z) (λ l. l) (eq-or-lt_of_le {n = p} {m = k} (omega arith))))
  ]

  slot_out : (k p : ℕ) → k ≤ p → slot d v (down_from f k) p ≡ d
  slot_out zero p h = refl
  slot_out (suc k) p h = elim (split (eqb p (length (down_from f k)))) [
    | inl t ↦ let e = eqb→eq p (length (down_from f k)) t in let q = down-length f k in let z : ⊥ = omega arith in absurd z
    | inr t ↦ rw (nT→eq (eqb p (length (down_from f k))) t, slot) (slot_out k p (omega arith))
  ]

past-back : (n : ℕ) → past_code (past_from n) ≡ n
past-back zero = refl
past-back (suc n) = refl

-- THE COLUMNS

module _ (n c : ℕ) (ds ns : List ℕ) (bs : List MarkBox) (ps : List ℕ) (ss : List (List ℕ)) (s : Slots n c ds ns bs ps ss) where
  abbrev m : ℕ → Mark
  m = mark_at width ds ns (carried_at bs ps) ss

  abbrev l : List Mark
  l = view width c ds ns (carried_at bs ps) ss

  column : {A : Type 0} (e d : A) (v : Mark → A) (xs : List A) → length xs ≡ n → ((p : ℕ) → c ≤ p → p < n → get_or xs p e ≡ d)
      → ((p : ℕ) → p < c → p < n → get_or xs p e ≡ v (m p)) → tabled n (slot d v l) ≡ xs
  unfolding view
  column e d v xs long rest used = tabled_is n e (slot d v l) xs long (λ p h. elim (split (ltb p c)) [
    | inl t ↦ let q = ltb→lt p c t in used p q h ∙ sym (slot_in m d v c p q)
    | inr t ↦ let q = nltb→le p c t in rest p q h ∙ sym (slot_out m d v c p q)
  ])

  pub desks-back : desks_of n l ≡ ds
  desks-back = column 0 0 (λ m. m.id.desk) ds s.desks.long (λ p q h. s.desks.zeros p q) (λ p q h. refl)

  pub numbers-back : numbers_of n l ≡ ns
  numbers-back = column 0 0 (λ m. m.id.number) ns s.numbers.long (λ p q h. s.numbers.zeros p q) (λ p q h. refl)

  pub boxes-back : boxes_of n l ≡ bs
  boxes-back = column no_box no_box (λ m. m.extent) bs s.boxes.long (λ p q h. s.boxes.zeros p q) (λ p q h. refl)

  pub pasts-back : pasts_of n l ≡ ps
  pasts-back = column 0 0 (λ m. past_code m.past) ps s.pasts.long (λ p q h. s.pasts.zeros p q) (λ p q h. sym (past-back (get_or ps p 0)))

  row-back : (p : ℕ) → p < n → counts_of (m p).stamp ≡ get_or ss p []
  row-back p h =
      tabled_is width 0 (λ j. row_of (m p).stamp (suc j)) (get_or ss p []) (s.stamps.wide p h)
      (λ j q. ap (λ (x : ℕ). get_or (get_or ss p []) x 0) (sym (sub-one (suc j))) ∙ sym (row_of-entries width (row_at ss p) (suc j) (omega arith) q))

  no-row : (p : ℕ) → c ≤ p → p < n → get_or ss p [] ≡ counts_of []
  no-row p q h = sym (tabled_is width 0 (λ j. row_of [] (suc j)) (get_or ss p []) (s.stamps.wide p h) (λ j g. s.stamps.zeros p j q))

  pub stamps-back : stamps_of n l ≡ ss
  stamps-back = column [] (counts_of []) (λ m. counts_of m.stamp) ss s.stamps.long no-row (λ p q h. sym (row-back p h))
