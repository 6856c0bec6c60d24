-- Slots of columns that hold marks: unused ones are zero, and one mark more is stored. Assumes nothing.
use Prim.Native.Nat.{◌+◌, ◌<◌, suc, zero, ℕ}
use lib.Dec.{T, T_not, eqb, eqb_refl, eqb→eq}
use lib.ListN.{get_or, length, length-replicate, length-set, replicate, set}
use lib.Seq.{get_or-set_other, get_or-set_same}
use mathlib.Core.List.{List, [], ◌∷◌}
use mathlib.Core.Logic.{inl, inr}
use mathlib.Core.Path.{◌∙◌, ◌≡◌, ap, refl, subst, sym}
use native.Mathlib.Numerals.{add-one}
use native.Mathlib.Omega.{arith}
use Rattle.frame.specs.declared.MarkBox.{MarkBox}
use Rattle.causality.proofs.Logic.{split}
use Rattle.causality.specs.Rows.{entries_of_row}
use Rattle.rows.specs.declared.Held.{Held}
use Rattle.rows.specs.View.{Unused, ZeroFrom, ZeroRows, carried_at, mark_at, no_box, past_from, view, width}
use Rattle.rows.specs.inner.Slots.{Slots, held_mark, row_fn}
use Rattle.rows.proofs.Down.{down_cong}

-- COLUMNS

module _ {A : Type 0} (e : A) where
  pub filled : (n p : ℕ) → get_or (replicate n e) p e ≡ e
  filled zero p = refl
  filled (suc n) zero = refl
  filled (suc n) (suc p) = filled n p

  pub unused-all : (n k : ℕ) → Unused e (replicate n e) n k
  unused-all n k = record { long = length-replicate {A = A} n e; zeros = λ p l. filled n p }

  -- One more index is in use.
  pub unused_one : (xs : List A) (n k : ℕ) (v : A) → Unused e xs n k → Unused e (set xs k v) n (k + 1)
  unused_one xs n k v z = record { long = length-set xs k v ∙ z.long; zeros = λ p l. get_or-set_other xs k p v e (λ q. omega arith) ∙ z.zeros p (omega arith) }

pub zeros : (n p : ℕ) → ◌≡◌ {A = ℕ} (get_or (replicate n 0) p 0) 0
zeros n p = filled 0 n p

pub zero-all : (n k : ℕ) → ZeroFrom (replicate n 0) n k
zero-all n k = unused-all 0 n k

pub zero_one : (xs : List ℕ) (n k v : ℕ) → ZeroFrom xs n k → ZeroFrom (set xs k v) n (k + 1)
zero_one xs n k v z = unused_one 0 xs n k v z

-- ROWS

row_in : (n p : ℕ) (r : List ℕ) → p < n → get_or (replicate n r) p [] ≡ r
row_in zero p r h = let z : ⊥ = omega arith in absurd z
row_in (suc n) zero r h = refl
row_in (suc n) (suc p) r h = row_in n p r (omega arith)

row_zero : (n w p j : ℕ) → ◌≡◌ {A = ℕ} (get_or (get_or (replicate n (replicate w 0)) p []) j 0) 0
row_zero zero w p j = refl
row_zero (suc n) w zero j = zeros w j
row_zero (suc n) w (suc p) j = row_zero n w p j

pub rows-all : (n k : ℕ) → ZeroRows (replicate n (replicate width 0)) n k
rows-all n k = record {
  long = length-replicate {A = List ℕ} n (replicate width 0);
  wide = λ p h. ap length (row_in n p (replicate width 0) h) ∙ length-replicate {A = ℕ} width 0;
  zeros = λ p j l. row_zero n width p j;
}

-- Each of n rows is as wide as the desks are many.
wide_set : (ss : List (List ℕ)) (n k : ℕ) (row : List ℕ) → length ss ≡ n → ((p : ℕ) → p < n → length (get_or ss p []) ≡ width) → length row ≡ width → k < n
    → (p : ℕ) → p < n → length (get_or (set ss k row) p []) ≡ width
wide_set ss n k row l f w h p b = elim (split (eqb p k)) [
  | inl t ↦ ap (λ (q : ℕ). length (get_or (set ss k row) q [])) (eqb→eq p k t) ∙ ap length (get_or-set_same ss k row [] (omega arith)) ∙ w
  | inr t ↦ ap length (get_or-set_other ss k p row [] (λ z. T_not (eqb p k) t (subst (λ (q : ℕ). T (eqb q k)) (sym z) (eqb_refl k)))) ∙ f p b
]

rows_one : (ss : List (List ℕ)) (n k : ℕ) (row : List ℕ) → ZeroRows ss n k → length row ≡ width → k < n → ZeroRows (set ss k row) n (k + 1)
rows_one ss n k row z w h = record {
  long = length-set ss k row ∙ z.long;
  wide = wide_set ss n k row z.long z.wide w h;
  zeros = λ p j l. ap (λ (r : List ℕ). get_or r j 0) (get_or-set_other ss k p row [] (λ q. omega arith)) ∙ z.zeros p j (omega arith);
}

pub slots-none : (n : ℕ) → Slots n 0 (replicate n 0) (replicate n 0) (replicate n no_box) (replicate n 0) (replicate n (replicate width 0))
slots-none n = record { desks = zero-all n 0; numbers = zero-all n 0; boxes = unused-all no_box n 0; pasts = zero-all n 0; stamps = rows-all n 0 }

-- ONE MARK MORE, in the first unused slot

module _ (k : ℕ) (h : Held) (ds ns : List ℕ) (bs : List MarkBox) (ps : List ℕ) (ss : List (List ℕ)) where
  -- A mark stored in slot k leaves those below.
  pub stored_below : (p : ℕ) → p < k
      → mark_at width (set ds k h.desk) (set ns k h.number.0) (carried_at (set bs k h.extent) (set ps k h.past)) (set ss k h.row) p ≡ mark_at width ds ns (carried_at bs ps) ss p
  stored_below p l =
      let d = get_or-set_other ds k p h.desk 0 (λ z. omega arith) in
      let m = get_or-set_other ns k p h.number.0 0 (λ z. omega arith) in
      let b = get_or-set_other bs k p h.extent no_box (λ z. omega arith) in
      let s = get_or-set_other ps k p h.past 0 (λ z. omega arith) in
      let r = get_or-set_other ss k p h.row [] (λ z. omega arith) in
      λ i. record { id = record { desk = d i; number = m i }; extent = b i; stamp = entries_of_row width (row_fn (r i)); past = past_from (s i) }

  module _ (n : ℕ) (s : Slots n k ds ns bs ps ss) (room : k < n) where
    -- It stands there.
    pub stored_mark : mark_at width (set ds k h.desk) (set ns k h.number.0) (carried_at (set bs k h.extent) (set ps k h.past)) (set ss k h.row) k ≡ held_mark h
    stored_mark =
        let o = s.desks.long in
        let t = s.numbers.long in
        let u = s.boxes.long in
        let v = s.pasts.long in
        let w = s.stamps.long in
        let d = get_or-set_same ds k h.desk 0 (omega arith) in
        let m = get_or-set_same ns k h.number.0 0 (omega arith) in
        let b = get_or-set_same bs k h.extent no_box (omega arith) in
        let p = get_or-set_same ps k h.past 0 (omega arith) in
        let r = get_or-set_same ss k h.row [] (omega arith) in
        λ i. record { id = record { desk = d i; number = m i }; extent = b i; stamp = entries_of_row width (row_fn (r i)); past = past_from (p i) }

    pub stored_view : view width (k + 1) (set ds k h.desk) (set ns k h.number.0) (carried_at (set bs k h.extent) (set ps k h.past)) (set ss k h.row)
        ≡ held_mark h ∷ view width k ds ns (carried_at bs ps) ss
    unfolding view
    stored_view =
        let v = down_cong (mark_at width (set ds k h.desk) (set ns k h.number.0) (carried_at (set bs k h.extent) (set ps k h.past)) (set ss k h.row))
        (mark_at width ds ns (carried_at bs ps) ss) k stored_below in
        let t = stored_mark in
        rw (add-one k) (λ i. t i ∷ v i)

    pub stored_slots : length h.row ≡ width → Slots n (k + 1) (set ds k h.desk) (set ns k h.number.0) (set bs k h.extent) (set ps k h.past) (set ss k h.row)
    stored_slots wide = record {
      desks = unused_one 0 ds n k h.desk s.desks;
      numbers = unused_one 0 ns n k h.number.0 s.numbers;
      boxes = unused_one no_box bs n k h.extent s.boxes;
      pasts = unused_one 0 ps n k h.past s.pasts;
      stamps = rows_one ss n k h.row s.stamps wide room;
    }
