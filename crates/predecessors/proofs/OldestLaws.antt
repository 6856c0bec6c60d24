-- The search for the oldest of the marks that a row names, turn by turn: names counted, met, struck. What its place tells. Assumes nothing.
use Prim.Native.Nat.{◌-◌, ◌<◌, ◌≤◌, suc, zero, ℕ, ◌+◌}
use borrow.Author.Tests.{eqb-false, lt-ltb, ltb-false}
use lib.Dec.{T, eqb, eqb→eq, leb, leb→le, ltb, nleb→lt, not_T, ltb→lt}
use lib.ListN.{get_or, get_or-replicate, length, length-set, replicate, set}
use lib.Seq.{get_or-set_other, get_or-set_same}
use mathlib.Core.Bool.{Bool, false, true, cond}
use mathlib.Core.List.{List}
use mathlib.Core.Logic.{◌⊎◌, inl, inr, ⊎_elim}
use mathlib.Core.Path.{◌∙◌, ◌≡◌, ap, refl, subst, sym}
use native.Mathlib.Nat.{eq-or-lt_of_le}
use native.Mathlib.Omega.{arith}
use Rattle.frame.specs.Names.{MarkId}
use Rattle.causality.specs.Marks.{has}
use Rattle.causality.specs.State.{ids}
use Rattle.causality.proofs.Logic.{nT→eq, split}
use Rattle.causality.specs.inner.Order.{CausallyOrdered}
use Rattle.rows.specs.View.{Carried, name_at, view, width}
use Rattle.rows.specs.inner.Slots.{row_fn}
use Rattle.predecessors.specs.inner.Steps.{AllFrom, Oldest, StandsFrom, above_in}
use Rattle.rows.proofs.Places.{not_before}
use Rattle.causality.proofs.Upto.{count-some, sum_cong, sum_one, sum_part}
use Rattle.causality.specs.inner.Upto.{count_to}
use native.Mathlib.Numerals.{sub-one}

-- NAMES

-- How many of the first k counts of a row are no 0: so many marks it names.
abbrev pub names_in : ℕ → List ℕ → ℕ
names_in k r = count_to k (λ d. ltb 0 (row_fn r d))

abbrev pub one : List ℕ → ℕ → ℕ
one r d = cond (ltb 0 (row_fn r d)) 1 0

-- They are those above 0.
pub above-names : (n : ℕ) (r : List ℕ) → above_in n r (replicate n 0) ≡ names_in n r
above-names n r = sum_cong n (λ d. cond (ltb (row_fn (replicate n 0) d) (row_fn r d)) 1 0) (one r) (λ d lo hi. ap (λ (x : ℕ). cond (ltb x (row_fn r d)) 1 0) (get_or-replicate n (d - 1) 0 0 (omega arith)))

-- No name is left.
names-zero : (k : ℕ) (r : List ℕ) → names_in k r ≡ 0 → (j : ℕ) → j < k → get_or r j 0 ≡ 0
names-zero k r e j h = go (ltb 0 (get_or r j 0)) refl (rw (sub-one (suc j)) at (sum_part (one r) k j h))
  where
    go : (b : Bool) → ltb 0 (get_or r j 0) ≡ b → cond b 1 0 + names_in j r ≤ names_in k r → get_or r j 0 ≡ 0
    go true q w = let z : ⊥ = omega arith in absurd z
    go false q w = let l = ltb-false 0 (get_or r j 0) q in omega arith

-- A name is left.
names-some : (k : ℕ) (r : List ℕ) → 0 < names_in k r → (j : ℕ) × (j < k) × (0 < get_or r j 0)
names-some k r h = let x = count-some k (λ d. ltb 0 (row_fn r d)) h in let lo = x.low in let hi = x.high in (x.d - 1, omega arith, ltb→lt 0 (row_fn r x.d) x.passes)

-- A count set where there was none is one name more, and a name that is struck is one less.
module _ (k j : ℕ) (r : List ℕ) (v : ℕ) (h : j < k) (l : j < length r) where
  others : (d : ℕ) → 1 ≤ d → (d ≡ suc j → ⊥) → one (set r j v) d ≡ one r d
  others d lo ne = ap (λ (x : ℕ). cond (ltb 0 x) 1 0) (get_or-set_other r j (d - 1) v 0 (λ z. ne (omega arith)))

  pub names-one-more : get_or r j 0 ≡ 0 → 0 < v → names_in k (set r j v) ≡ suc (names_in k r)
  names-one-more e p = sum_one k (one r) (one (set r j v)) (suc j) (omega arith) h (rw (sub-one (suc j), get_or-set_same r j v 0 l, e, lt-ltb 0 v p) refl) others

  names-one-less : 0 < get_or r j 0 → v ≡ 0 → suc (names_in k (set r j v)) ≡ names_in k r
  names-one-less p e = sym (sum_one k (one (set r j v)) (one r) (suc j) (omega arith) h (rw (sub-one (suc j), get_or-set_same r j v 0 l, e, lt-ltb 0 (get_or r j 0) p) refl) (λ d lo ne. sym (others d lo ne)))

-- PLACES

-- What stands from p on stands from the place before on.
down : (ds ns : List ℕ) (count p : ℕ) (i : MarkId) → StandsFrom ds ns count p i → StandsFrom ds ns count (p - 1) i
down ds ns count p i w = let l = w.low in record { place = w.place; low = omega arith; high = w.high; name = w.name }

-- What stands from the place before p on, and not there, stands from p on.
up : (ds ns : List ℕ) (count p : ℕ) (i : MarkId) → (name_at ds ns (p - 1) ≡ i → ⊥) → StandsFrom ds ns count (p - 1) i → StandsFrom ds ns count p i
up ds ns count p i f w = let l = w.low in ⊎_elim (λ q. absurd (f (ap (name_at ds ns) q ∙ w.name)))
    (λ q. record { place = w.place; low = omega arith; high = w.high; name = w.name }) (eq-or-lt_of_le {n = p - 1} {m = w.place} l)

-- The mark that a row names at index j.
abbrev name : List ℕ → ℕ → MarkId
name row j = record { desk = suc j; number = get_or row j 0 }

-- It is left in another row, and stands at no place from p on; or it is struck there, and stands at one.
abbrev Each : ℕ → List ℕ → List ℕ → List ℕ → List ℕ → ℕ → ℕ → Type 0
Each count ds ns row₀ row p j = ((get_or row j 0 ≡ get_or row₀ j 0) × (0 < get_or row₀ j 0 → StandsFrom ds ns count p (name row₀ j) → ⊥)) ⊎ ((get_or row j 0 ≡ 0) × StandsFrom ds ns count p (name row₀ j))

-- So it is with all names, and from no place behind p on all stand.
pub record Left (count : ℕ) (ds ns row₀ row : List ℕ) (left p : ℕ) : Type 0 where
  pub turns : p ≤ count
  pub long : length row ≡ width
  pub names : left ≡ names_in width row
  pub each : (j : ℕ) → j < width → Each count ds ns row₀ row p j
  pub last : (q : ℕ) → q ≤ count → AllFrom ds ns row₀ count q → q ≤ p

module _ (count : ℕ) (ds ns row₀ : List ℕ) where
  pub left-all : (left : ℕ) → length row₀ ≡ width → left ≡ names_in width row₀ → Left count ds ns row₀ row₀ left count
  left-all left l e = record {
    turns = omega arith;
    long = l;
    names = e;
    each = λ j h. inl (refl, λ o w. let a = w.low in let b = w.high in omega arith);
    last = λ q h f. h;
  }

  module _ (row : List ℕ) (left p : ℕ) (w : Left count ds ns row₀ row left p) (some : 0 < left) where
    -- A name is left, so all stand only from a place before p on.
    before : (q : ℕ) → q ≤ count → AllFrom ds ns row₀ count q → q ≤ p - 1
    before q h f = ⊎_elim unmet (λ z. let a = z.0 in let b = x.2 in let y : ⊥ = omega arith in absurd y) (w.each x.0 x.1)
      where
        x : (j : ℕ) × (j < width) × (0 < get_or row j 0)
        x = names-some width row (let e = w.names in omega arith)

        unmet : (get_or row x.0 0 ≡ get_or row₀ x.0 0) × (0 < get_or row₀ x.0 0 → StandsFrom ds ns count p (name row₀ x.0) → ⊥) → q ≤ p - 1
        unmet z =
            let a = z.0 in
            let b = x.2 in
            let pos : 0 < get_or row₀ x.0 0 = omega arith in
            let y = f x.0 x.1 pos in
            let l = y.low in
            elim (split (leb p y.place)) [
              | inl t ↦ absurd (z.1 pos (record { place = y.place; low = leb→le p y.place t; high = y.high; name = y.name }))
              | inr t ↦ let k = nleb→lt p y.place t in omega arith
            ]

    abbrev d : ℕ
    d = get_or ds (p - 1) 0 - 1

    -- A turn that meets none.
    pub left-kept : (0 < get_or row d 0 → get_or row d 0 ≡ get_or ns (p - 1) 0 → ⊥) → Left count ds ns row₀ row left (p - 1)
    left-kept none = record {
      turns = let t = w.turns in omega arith;
      long = w.long;
      names = w.names;
      each = λ j h. ⊎_elim (λ z. inl (z.0, λ o s. z.1 o (up ds ns count p (name row₀ j) (missed j z.0 o) s))) (λ z. inr (z.0, down ds ns count p (name row₀ j) z.1)) (w.each j h);
      last = before;
    }
      where
        missed : (j : ℕ) → get_or row j 0 ≡ get_or row₀ j 0 → 0 < get_or row₀ j 0 → name_at ds ns (p - 1) ≡ name row₀ j → ⊥
        missed j e o q =
            let a : get_or ds (p - 1) 0 ≡ suc j = ap (λ (i : MarkId). i.desk) q in
            let b : get_or ns (p - 1) 0 ≡ get_or row₀ j 0 = ap (λ (i : MarkId). i.number) q in
            let k : j ≡ d = omega arith in
            let v : get_or row d 0 ≡ get_or row₀ j 0 = ap (λ (i : ℕ). get_or row i 0) (sym k) ∙ e in
            none (omega arith) (v ∙ sym b)

    -- A turn that meets a name and strikes it.
    pub left-struck : 0 < p → 1 ≤ get_or ds (p - 1) 0 → get_or ds (p - 1) 0 ≤ width → get_or row d 0 ≡ get_or ns (p - 1) 0 → 0 < get_or row d 0 → Left count ds ns row₀ (set row d 0) (left - 1) (p - 1)
    left-struck o lo hi e pos = record {
      turns = omega arith;
      long = length-set row d 0 ∙ l;
      names = let x = names-one-less width d row 0 (omega arith) (omega arith) pos refl in let y = w.names in omega arith;
      each = λ j h. ⊎_elim (here j h) (other j h) (either j);
      last = before;
    }
      where
        t : p ≤ count
        t = w.turns

        l : length row ≡ width
        l = w.long

        either : (j : ℕ) → (j ≡ d) ⊎ (j ≡ d → ⊥)
        either j = elim (split (eqb j d)) [ inl u ↦ inl (eqb→eq j d u) | inr u ↦ inr (eqb-false j d (nT→eq (eqb j d) u)) ]

        here : (j : ℕ) → j < width → j ≡ d → Each count ds ns row₀ (set row d 0) (p - 1) j
        here j h q = inr (
          ap (λ (i : ℕ). get_or (set row d 0) i 0) q ∙ get_or-set_same row d 0 0 (omega arith),
          ⊎_elim (λ z. record { place = p - 1; low = omega arith; high = omega arith; name = same z.0 }) (λ z. down ds ns count p (name row₀ j) z.1) (w.each j h),
        )
          where
            same : get_or row j 0 ≡ get_or row₀ j 0 → name_at ds ns (p - 1) ≡ name row₀ j
            same y =
                let a : get_or ds (p - 1) 0 ≡ suc j = omega arith in
                let b : get_or ns (p - 1) 0 ≡ get_or row₀ j 0 = sym e ∙ ap (λ (i : ℕ). get_or row i 0) (sym q) ∙ y in
                λ i. record { desk = a i; number = b i }

        other : (j : ℕ) → j < width → (j ≡ d → ⊥) → Each count ds ns row₀ (set row d 0) (p - 1) j
        other j h q = ⊎_elim
            (λ z. inl (get_or-set_other row d j 0 0 q ∙ z.0, λ o s. z.1 o (up ds ns count p (name row₀ j) (λ y. q (let a : get_or ds (p - 1) 0 ≡ suc j = ap (λ (i : MarkId). i.desk) y in omega arith)) s)))
            (λ z. inr (get_or-set_other row d j 0 0 q ∙ z.0, down ds ns count p (name row₀ j) z.1)) (w.each j h)

  -- All are met, or no place is left.
  pub left-none : (row : List ℕ) (left p : ℕ) → Left count ds ns row₀ row left p → left ≡ 0 → Oldest ds ns row₀ count p
  left-none row left p w z = record {
    within = w.turns;
    from = λ o j h pos. ⊎_elim (λ y. let a = y.0 in let b = names-zero width row (sym w.names ∙ z) j h in let x : ⊥ = omega arith in absurd x) (λ y. y.1) (w.each j h);
    last = w.last;
  }

  pub left_end : (row : List ℕ) (left p : ℕ) → Left count ds ns row₀ row left p → p ≡ 0 → Oldest ds ns row₀ count p
  left_end row left p w z = record { within = w.turns; from = λ o. let x : ⊥ = omega arith in absurd x; last = w.last }

-- No mark that a row names is among those before the place of the oldest, whatever their stamps.
pub oldest_before : (ds ns row : List ℕ) (count r : ℕ) → Oldest ds ns row count r → (bs : ℕ → Carried) (ss : List (List ℕ)) → CausallyOrdered (view width count ds ns bs ss)
    → (j : ℕ) → j < width → 0 < get_or row j 0 → has (record { desk = suc j; number = get_or row j 0 }) (ids (view width r ds ns bs ss)) ≡ false
unfolding view
oldest_before ds ns row count zero o bs ss s j h pos = refl
oldest_before ds ns row count (suc r) o bs ss s j h pos =
    let w = o.from (omega arith) j h pos in
    let l = ids (view width (suc r) ds ns bs ss) in
    let i : MarkId = record { desk = suc j; number = get_or row j 0 } in
    nT→eq (has i l) (not_T (has i l) (λ t. not_before width ds ns bs ss count w.place (suc r) s w.high w.low (subst (λ (x : MarkId). T (has x l)) (sym w.name) t)))
