-- What the row tests of the code say of the definitions: ready, false stamps, stamps of rows, equal rows. n: how many desks. Assumes nothing.
use Prim.Native.Nat.{◌+◌, ◌-◌, ◌<◌, ◌≤◌, max, suc, zero, ℕ}
use borrow.Author.Tests.{eq-eqb}
use lib.Dec.{T, eqb, eqb→eq, leb, ltb, ltb→lt}
use lib.ListN.{get_or, length}
use lib.Pointwise.{bytes_decides, pointwise}
use lib.Seq.{ext_get_or}
use mathlib.Core.Bool.{Bool, ◌&&◌, ◌||◌, false, true}
use mathlib.Core.List.{List, [], ◌∷◌}
use mathlib.Core.Path.{◌∙◌, ◌≡◌, ap, refl, sym}
use native.Mathlib.Numerals.{sub-one}
use native.Mathlib.Omega.{arith}
use Rattle.frame.specs.declared.MarkBox.{MarkBox}
use Rattle.frame.specs.declared.Past.{Past}
use Rattle.frame.specs.Names.{MarkId}
use Rattle.causality.specs.Marks.{All, any, has}
use Rattle.causality.specs.State.{Mark, false_entries, ready}
use Rattle.causality.proofs.Logic.{T→eq, and_cong, bool_ext, eq→T}
use Rattle.causality.specs.inner.Order.{Strict, CausallyOrdered}
use Rattle.causality.proofs.RowLaws.{entries_of_row_lem, false_by_rows, row_of-entries, shown, any_entries}
use Rattle.causality.specs.Rows.{entries_from, entries_of_row}
use Rattle.causality.specs.inner.Passes.{row_of, under}
use Rattle.rows.specs.inner.Slots.{row_fn, same_counts}
use Rattle.causality.specs.inner.Upto.{some_reached}
use Rattle.causality.proofs.Upto.{all_desk, all_of, any_to_cong}

-- A row that is known count by count.
pub row_at_lem : (n : ℕ) (r : List ℕ) (f : ℕ → ℕ) → ((j : ℕ) → j < n → get_or r j 0 ≡ f (suc j)) → (d : ℕ) → 1 ≤ d → d ≤ n → row_fn r d ≡ f d
row_at_lem n r f h zero p q = let z : ⊥ = omega arith in absurd z
row_at_lem n r f h (suc j) p q = rw (sub-one (suc j)) (h j (omega arith))

-- Rows that agree at desks 1 to n have the same entries.
pub entries_cong : (n : ℕ) (r s : ℕ → ℕ) → ((d : ℕ) → 1 ≤ d → d ≤ n → r d ≡ s d) → entries_of_row n r ≡ entries_of_row n s
entries_cong n r s f = go 1 n (λ d p q. f d p (omega arith))
  where
    go : (d k : ℕ) → ((e : ℕ) → d ≤ e → e < d + k → r e ≡ s e) → entries_from r d k ≡ entries_from s d k
    go d zero h = refl
    go d (suc k) h =
        let e : r d ≡ s d = h d (omega arith) (omega arith) in
        let t = go (suc d) k (λ x p q. h x (omega arith) (omega arith)) in
        λ i. elim (ltb 0 (e i)) [ true ↦ record { desk = d; number = e i } ∷ t i | false ↦ t i ]

-- `under` reads its rows at desks 1 to n only.
pub under_cong : (n : ℕ) (l : List Mark) → All (λ m. (1 ≤ m.id.desk) × (m.id.desk ≤ n)) l → (s s' r r' : ℕ → ℕ)
    → ((d : ℕ) → 1 ≤ d → d ≤ n → s d ≡ s' d) → ((d : ℕ) → 1 ≤ d → d ≤ n → r d ≡ r' d) → (d : ℕ) → 1 ≤ d → d ≤ n → under l s r d ≡ under l s' r' d
under_cong n [] a s s' r r' f g d p q = g d p q
under_cong n (m ∷ older) a s s' r r' f g d p q =
    let e : s m.id.desk ≡ s' m.id.desk = f m.id.desk a.0.0 a.0.1 in
    let e' : r m.id.desk ≡ r' m.id.desk = g m.id.desk a.0.0 a.0.1 in
    let x = under_cong n older a.1 s s' (λ d. max (r d) (row_of m.stamp d)) (λ d. max (r' d) (row_of m.stamp d)) f (λ d p q. ap (λ (k : ℕ). max k (row_of m.stamp d)) (g d p q)) d p q in
    let y = under_cong n older a.1 s s' r r' f g d p q in
    go (leb m.id.number (max (s m.id.desk) (r m.id.desk))) (leb m.id.number (max (s' m.id.desk) (r' m.id.desk)))
    (λ i. leb m.id.number (max (e i) (e' i))) x y
  where
    go : (b c : Bool) → b ≡ c → under older s (λ d. max (r d) (row_of m.stamp d)) d ≡ under older s' (λ d. max (r' d) (row_of m.stamp d)) d → under older s r d ≡ under older s' r' d
        → (elim b as (λ x. ℕ → ℕ) [ true ↦ under older s (λ d. max (r d) (row_of m.stamp d)) | false ↦ under older s r ]) d
        ≡ (elim c as (λ x. ℕ → ℕ) [ true ↦ under older s' (λ d. max (r' d) (row_of m.stamp d)) | false ↦ under older s' r' ]) d
    go true true h x y = x
    go false false h x y = y
    go true false h x y = let z : ◌≡◌ {A = ℕ} 0 1 = cc in let w : ⊥ = omega arith in absurd w
    go false true h x y = let z : ◌≡◌ {A = ℕ} 0 1 = cc in let w : ⊥ = omega arith in absurd w

-- FALSE STAMPS

-- The false-stamp test by the row of the stamp and a row that tells of the entries and of the previous mark what is under the stamp.
pub false_by-row : (n : ℕ) (l : List Mark) → CausallyOrdered l → All (λ m. (1 ≤ m.id.desk) × (m.id.desk ≤ n)) l → (row below : List ℕ)
    → ((d : ℕ) → 1 ≤ d → d ≤ n → 1 ≤ row_fn row d → leb (row_fn row d) (row_fn below d) ≡ leb (row_fn row d) (under l (row_fn row) (λ d. 0) d)) → (i : MarkId) (b : MarkBox) (said : Past) → 1 ≤ i.desk → i.desk ≤ n
    → (1 < i.number → ltb (max (row_fn row i.desk) (row_fn below i.desk)) (i.number - 1) ≡ ltb (max (row_fn row i.desk) (under l (row_fn row) (λ d. 0) i.desk)) (i.number - 1))
    → T (ready l (record { id = i; extent = b; stamp = entries_of_row n (row_fn row); past = said }))
    → false_entries l (record { id = i; extent = b; stamp = entries_of_row n (row_fn row); past = said })
    ≡ (some_reached n (row_fn row) (row_fn below) || (ltb 1 i.number && ltb (max (row_fn row i.desk) (row_fn below i.desk)) (i.number - 1)))
false_by-row n l s ds row below f i b said lo hi f' t =
    false_by_rows l s (record { id = i; extent = b; stamp = es; past = said }) (λ e te. (shown (row_fn row) 1 n e te).pos) t
    ∙ (λ k. first k || second k)
  where
    es : List MarkId
    es = entries_of_row n (row_fn row)

    u : ℕ → ℕ
    u = under l (row_of es) (λ d. 0)

    g : (d : ℕ) → 1 ≤ d → d ≤ n → under l (row_fn row) (λ d. 0) d ≡ u d
    g d p q = under_cong n l ds (row_fn row) (row_of es) (λ d. 0) (λ d. 0) (λ d p q. sym (row_of-entries n (row_fn row) d p q)) (λ d p q. refl) d p q

    -- The test of the entries is one of the two rows.
    first : any (λ e. leb e.number (u e.desk)) es ≡ some_reached n (row_fn row) (row_fn below)
    first = any_entries n (row_fn row) (λ e. leb e.number (u e.desk)) ∙ any_to_cong n (λ d. ltb 0 (row_fn row d) && leb (row_fn row d) (u d)) (λ d. ltb 0 (row_fn row d) && leb (row_fn row d) (row_fn below d))
        (λ d p q. and_cong (ltb 0 (row_fn row d)) (leb (row_fn row d) (u d)) (leb (row_fn row d) (row_fn below d)) (λ w. sym (f d p q (ltb→lt 0 (row_fn row d) w) ∙ ap (leb (row_fn row d)) (g d p q))))

    m : ℕ
    m = i.number

    second : (ltb 1 m && ltb (max (row_of es i.desk) (u i.desk)) (m - 1)) ≡ (ltb 1 m && ltb (max (row_fn row i.desk) (row_fn below i.desk)) (m - 1))
    second = and_cong (ltb 1 m) (ltb (max (row_of es i.desk) (u i.desk)) (m - 1)) (ltb (max (row_fn row i.desk) (row_fn below i.desk)) (m - 1))
        (λ v. let c = row_of-entries n (row_fn row) i.desk lo hi in let e = sym (g i.desk lo hi) in (λ k. ltb (max (c k) (e k)) (m - 1)) ∙ sym (f' (ltb→lt 1 m v)))

-- STAMPS OF ROWS

-- A row that shows the numbers of entries by rising desk has just these entries.
pub row-entries : (n : ℕ) (es : List MarkId) (r : List ℕ) → Strict es → ((e : MarkId) → T (has e es) → (1 ≤ e.desk) × (e.desk ≤ n) × (1 ≤ e.number))
    → ((j : ℕ) → j < n → get_or r j 0 ≡ row_of es (suc j)) → entries_of_row n (row_fn r) ≡ es
row-entries n es r s g f = entries_cong n (row_fn r) (row_of es) (row_at_lem n r (row_of es) f) ∙ entries_of_row_lem n es s g

-- EQUAL ROWS

-- `a == b` of rows asks that their counts be the same.
pub rows-same : (n : ℕ) (a b : List ℕ) → length a ≡ n → length b ≡ n → pointwise eqb a b ≡ same_counts n (row_fn a) (row_fn b)
rows-same n a b p q = bool_ext (pointwise eqb a b) (same_counts n (row_fn a) (row_fn b))
    (λ t. all_of n (λ d. eqb (row_fn a d) (row_fn b d)) (λ d lo hi. let e = (bytes_decides a b).0 (T→eq (pointwise eqb a b) t) in
    eq→T (eqb (row_fn a d) (row_fn b d)) (eq-eqb (row_fn a d) (row_fn b d) (ap (λ (r : List ℕ). row_fn r d) e))))
    (λ t. eq→T (pointwise eqb a b) ((bytes_decides a b).1 (ext_get_or 0 a b (p ∙ sym q) (λ j h.
    let z : suc j - 1 ≡ j = sub-one (suc j) in rw z at (eqb→eq (row_fn a (suc j)) (row_fn b (suc j)) (all_desk n (λ d. eqb (row_fn a d) (row_fn b d)) t (suc j) (omega arith) (omega arith)))))))
