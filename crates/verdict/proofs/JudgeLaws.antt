-- What the tests of Receive and the row functions found, in the definitions' terms. n: how many desks. Assumes nothing.
use Prim.Native.Nat.{◌-◌, ◌<◌, ◌≤◌, max, suc, zero, ℕ}
use lib.Dec.{T, T_not, eqb, eqb→eq, leb, leb→le, le→leb, ltb, ltb→lt, lt→ltb, nleb→lt, not_T}
use lib.ListN.{get_or, replicate, set, take}
use lib.Seq.{get_or-set_other}
use mathlib.Core.Bool.{Bool, ◌&&◌, ◌||◌, false, true}
use mathlib.Core.List.{List, [], ◌∷◌}
use mathlib.Core.Logic.{inl, inr}
use mathlib.Core.Path.{◌∙◌, ◌≡◌, ap, refl, subst, sym}
use borrow.Author.Tests.{eq-eqb}
use native.Mathlib.Numerals.{sub-one}
use native.Mathlib.Omega.{arith}
use Rattle.frame.specs.declared.MarkBox.{MarkBox}
use Rattle.frame.specs.declared.Past.{Past}
use Rattle.frame.specs.declared.Past.TheVariants.{Said, Unsaid}
use Rattle.frame.specs.Names.{MarkId}
use Rattle.causality.specs.Marks.{All, has, tally}
use Rattle.causality.specs.State.{Mark, false_entries, false_stamp, ids, ready, reckoned, reckoning, same_count}
use Rattle.causality.proofs.Lists.{all_map}
use Rattle.causality.proofs.Logic.{and_yes, bool_ext, eq→T, nT→eq, split, yes_and}
use Rattle.causality.proofs.Past.{prefix_has, prefix_le}
use Rattle.causality.proofs.Reach.{follows_of, reckoning_le, sound_counted}
use Rattle.causality.specs.inner.Order.{Follows, CausallyOrdered}
use Rattle.causality.proofs.RowCounts.{reckoning-row, tally-other}
use Rattle.causality.proofs.RowLaws.{row_of-entries, under_out, under_final}
use Rattle.causality.specs.Rows.{entries_of_row}
use Rattle.causality.specs.inner.Passes.{row_of, under}
use Rattle.rows.specs.View.{Carried, names_down, past_from, view}
use Rattle.rows.specs.inner.Slots.{Named, row_fn}
use Rattle.rows.proofs.Slots.{zeros}
use Rattle.rows.proofs.Arrays.{sound_below, view-length}
use Rattle.rows.proofs.ByRows.{false_by-row, under_cong}
use Rattle.rows.proofs.Places.{has_more, ids-names, named-has}
use Rattle.rows.proofs.RowSteps.{named-desks, named-less, pass_rest}
use Rattle.predecessors.specs.inner.Steps.{greater_sum}
use Rattle.verdict.specs.inner.Steps.{past_kept}
use Rattle.causality.proofs.Upto.{sum_cong}
use Rattle.causality.specs.inner.Upto.{some_reached}

-- Of two tests of which one is enough, the first failed: the second tells.
pub second_tells : (x a b : Bool) → a ≡ false → x ≡ b → x ≡ (a || b)
second_tells x a b e f = rw e f

-- Two counts that tell the same of mark k do so beside a third.
max_test : (x a b k : ℕ) → (x < k → leb k a ≡ leb k b) → ltb (max x a) k ≡ ltb (max x b) k
max_test x a b k f = bool_ext (ltb (max x a) k) (ltb (max x b) k) (go a b f) (go b a (λ h. sym (f h)))
  where
    go : (a b : ℕ) → (x < k → leb k a ≡ leb k b) → T (ltb (max x a) k) → T (ltb (max x b) k)
    go a b e t = let h = ltb→lt (max x a) k t in elim (split (leb k b)) [
      | inl u ↦ let y = leb→le k a (subst T (sym (e (omega arith))) u) in let z : ⊥ = omega arith in absurd z
      | inr u ↦ let y = nleb→lt k b u in lt→ltb (max x b) k (omega arith)
    ]

-- A count that was 0 is set: the other names stay.
pub asked-set : (n : ℕ) (row : List ℕ) (d v : ℕ) → get_or row d 0 ≡ 0 → (j : ℕ) → j < n → 0 < get_or row j 0 → get_or (set row d v) j 0 ≡ get_or row j 0
asked-set n row d v h j q p = get_or-set_other row d j v 0 (λ z. let w : get_or row j 0 ≡ 0 = ap (λ (i : ℕ). get_or row i 0) z ∙ h in omega arith)

-- A mark that is not below `count` is not below less.
pub older_none : (n : ℕ) (ds ns : List ℕ) (bs : ℕ → Carried) (ss : List (List ℕ)) (p q : ℕ) → p ≤ q → (i : MarkId) → has i (ids (view n q ds ns bs ss)) ≡ false → has i (ids (view n p ds ns bs ss)) ≡ false
older_none n ds ns bs ss p q h i e = nT→eq x (not_T x (λ t. subst T e (has_more n ds ns bs ss p q h i t)))
  where
    x : Bool
    x = has i (ids (view n p ds ns bs ss))

-- WHAT IS KEPT OF A PAST

-- Two pasts as numbers, test by test.
pub first_unsaid : (a b : ℕ) → a ≡ 0 → true ≡ same_count (past_from a) (past_from b)
first_unsaid a b e = rw e refl

pub second_unsaid : (a b : ℕ) → b ≡ 0 → true ≡ same_count (past_from a) (past_from b)
second_unsaid zero b e = refl
second_unsaid (suc a) b e = rw e refl

pub both-said : (a b : ℕ) → (a ≡ 0 → ⊥) → (b ≡ 0 → ⊥) → eqb a b ≡ same_count (past_from a) (past_from b)
both-said zero b p q = absurd (p refl)
both-said (suc a) zero p q = absurd (q refl)
both-said (suc a) (suc b) p q = bool_ext (eqb (suc a) (suc b)) (eqb a b)
    (λ t. let e = eqb→eq (suc a) (suc b) t in eq→T (eqb a b) (eq-eqb a b (omega arith)))
    (λ t. let e = eqb→eq a b t in eq→T (eqb (suc a) (suc b)) (eq-eqb (suc a) (suc b) (omega arith)))

-- Of a ready mark: one entry precedes another or the like; its count is not the reckoning; neither.
module _ (l : List Mark) (m : Mark) where
  pub kept-false_entries : false_entries l m ≡ true → Unsaid ≡ past_kept l m
  unfolding false_stamp
  kept-false_entries e = rw (e, past_kept) refl

  pub kept-false-count : false_entries l m ≡ false → same_count m.past (Said (reckoning (m ∷ l) m.id)) ≡ false → Unsaid ≡ past_kept l m
  unfolding false_stamp
  kept-false-count e c = rw (e, c, past_kept) refl

  pub kept-reckoned : false_entries l m ≡ false → same_count m.past (Said (reckoning (m ∷ l) m.id)) ≡ true → Said (reckoning (m ∷ l) m.id) ≡ past_kept l m
  unfolding false_stamp
  kept-reckoned e c = rw (e, c, past_kept) refl

-- No mark of a list is of desk d.
tally-none : (d : ℕ) (l : List Mark) → All (λ m. d ≡ m.id.desk → ⊥) l → tally d (ids l) ≡ 0
tally-none d [] a = refl
tally-none d (m ∷ l) a = tally-other d m.id (ids l) a.0 ∙ tally-none d l a.1

-- A trace from an empty row over the marks of arrays that stopped at a place: what its row tells of a mark with its stamp as a row.
module _ (n count to : ℕ) (ds ns : List ℕ) (bs : ℕ → Carried) (ss : List (List ℕ)) (f : Named n count ds) (le : to ≤ count) (row below : List ℕ)
    (g : (j : ℕ) → j < n → get_or below j 0 ≡ under (take (count - to) (view n count ds ns bs ss)) (row_fn row) (row_fn (replicate n 0)) (suc j)) (s : CausallyOrdered (view n count ds ns bs ss)) where
  abbrev l : List Mark
  l = view n count ds ns bs ss

  abbrev first : List Mark
  first = view n to ds ns bs ss

  so : CausallyOrdered first
  so = sound_below n count ds ns bs ss s to le

  named-all : All (λ m. (1 ≤ m.id.desk) × (m.id.desk ≤ n)) l
  named-all = named-desks n count ds ns bs ss f

  -- The rest of the pass gives what is under the stamp.
  rest : (d : ℕ) → 1 ≤ d → d ≤ n → under first (row_fn row) (row_fn below) d ≡ under l (row_fn row) (λ d. 0) d
  rest d p q = pass_rest n ds ns bs ss (row_fn row) count to le f (replicate n 0) below g d p q
      ∙ under_cong n l named-all (row_fn row) (row_fn row) (row_fn (replicate n 0)) (λ d. 0) (λ d p q. refl) (λ d p q. zeros n (d - 1)) d p q

  module _ (i : MarkId) (b : MarkBox) (said : Past) (lo : 1 ≤ i.desk) (hi : i.desk ≤ n) where
    abbrev mark : Past → Mark
    mark p = record { id = i; extent = b; stamp = entries_of_row n (row_fn row); past = p }

    -- THE FALSE-STAMP TEST, where no mark that it asks stands before the place

    pub false-found : (asked : List ℕ)
        → ((j : ℕ) → j < n → 0 < get_or row j 0 → get_or asked j 0 ≡ get_or row j 0)
        → (row_fn row i.desk ≡ 0 → 1 < i.number → row_fn asked i.desk ≡ i.number - 1)
        → ((j : ℕ) → j < n → 0 < get_or asked j 0 → has (record { desk = suc j; number = get_or asked j 0 }) (ids first) ≡ false)
        → (r : Bool) → r ≡ (some_reached n (row_fn row) (row_fn below) || (ltb 1 i.number && ltb (max (row_fn row i.desk) (row_fn below i.desk)) (i.number - 1)))
        → T (ready l (mark said)) → r ≡ false_entries l (mark said)
    false-found asked kept prev none r e t = e ∙ sym (false_by-row n l s named-all row below entry i b said lo hi second t)
      where
        -- The rest adds nothing that tells of a mark at the place or behind.
        tells : (d k : ℕ) → 1 ≤ d → d ≤ n → 1 ≤ k → has (record { desk = d; number = k }) (ids first) ≡ false → leb k (row_fn below d) ≡ leb k (under l (row_fn row) (λ d. 0) d)
        tells d k p q o h = sym (under_out first so (row_fn row) (row_fn below) (record { desk = d; number = k }) o h) ∙ ap (leb k) (rest d p q)

        out : (d k : ℕ) → 1 ≤ d → d ≤ n → 1 ≤ k → row_fn asked d ≡ k → has (record { desk = d; number = k }) (ids first) ≡ false
        out zero k p q o h = let z : ⊥ = omega arith in absurd z
        out (suc j) k p q o h =
            let y : get_or asked j 0 ≡ k = rw (sub-one (suc j)) at h in
            subst (λ (x : ℕ). has (record { desk = suc j; number = x }) (ids first) ≡ false) y (none j (omega arith) (omega arith))

        named : (d : ℕ) → 1 ≤ d → d ≤ n → 1 ≤ row_fn row d → has (record { desk = d; number = row_fn row d }) (ids first) ≡ false
        named d p q o = out d (row_fn row d) p q o (kept (d - 1) (omega arith) o)

        entry : (d : ℕ) → 1 ≤ d → d ≤ n → 1 ≤ row_fn row d → leb (row_fn row d) (row_fn below d) ≡ leb (row_fn row d) (under l (row_fn row) (λ d. 0) d)
        entry d p q o = tells d (row_fn row d) p q o (named d p q o)

        k : ℕ
        k = i.number - 1

        own : ℕ
        own = row_fn row i.desk

        -- The previous mark, where it is newer than the desk's entry.
        previous_out : 1 < i.number → own < k → has (record { desk = i.desk; number = k }) (ids first) ≡ false
        previous_out o h = elim (split (leb 1 own)) [
          | inl u ↦ let w = leb→le 1 own u in nT→eq x (not_T x (λ v.
              let c = sound_counted first so in
              let y = (prefix_le (ids first) c (record { desk = i.desk; number = k }) v).1 in
              subst T (named i.desk lo hi w) (prefix_has (ids first) c (record { desk = i.desk; number = own }) w (omega arith))))
          | inr u ↦ let w = nleb→lt 1 own u in let z : own ≡ 0 = omega arith in out i.desk k lo hi (omega arith) (prev z o)
        ]
          where
            x : Bool
            x = has (record { desk = i.desk; number = k }) (ids first)

        second : 1 < i.number → ltb (max own (row_fn below i.desk)) k ≡ ltb (max own (under l (row_fn row) (λ d. 0) i.desk)) k
        second o = max_test own (row_fn below i.desk) (under l (row_fn row) (λ d. 0) i.desk) k (λ h. tells i.desk k lo hi (omega arith) (previous_out o h))

    -- THE RECKONING, where the row counts every mark before the place

    module _ (covers : (d : ℕ) → 1 ≤ d → d ≤ n → tally d (names_down to ds ns) ≤ max (row_fn row d) (row_fn below d)) where
      -- So it does for every desk: the others have no marks.
      covers_all : (d : ℕ) → tally d (ids first) ≤ max (row_fn row d) (row_fn below d)
      covers_all d = elim (split (leb 1 d && leb d n)) [
        | inl t ↦ subst (λ (is : List MarkId). tally d is ≤ max (row_fn row d) (row_fn below d)) (sym (ids-names n ds ns bs ss to))
            (covers d (leb→le 1 d (and_yes (leb 1 d) (leb d n) t).0) (leb→le d n (and_yes (leb 1 d) (leb d n) t).1))
        | inr t ↦ let e = tally-none d first (all_map (λ m q z. T_not (leb 1 d && leb d n) t
            (yes_and (leb 1 d) (leb d n) (le→leb 1 d (subst (λ (x : ℕ). 1 ≤ x) (sym z) q.0)) (le→leb d n (subst (λ (x : ℕ). x ≤ n) (sym z) q.1))))
            first (named-desks n to ds ns bs ss (named-less n count ds to f le))) in omega arith
      ]

      abbrev es : List MarkId
      es = entries_of_row n (row_fn row)

      settled : (d : ℕ) → 1 ≤ d → d ≤ n → max (row_of es d) (under l (row_of es) (λ d. 0) d) ≡ max (row_fn row d) (row_fn below d)
      settled d p q =
          let c = row_of-entries n (row_fn row) d p q in
          let u = under_cong n l named-all (row_of es) (row_fn row) (λ d. 0) (λ d. 0) (row_of-entries n (row_fn row)) (λ d p q. refl) d p q ∙ sym (rest d p q) in
          (λ j. max (c j) (u j)) ∙ under_final first so (row_fn row) (row_fn below) d (covers_all d)

      pub reckoned-found : 1 ≤ i.number → has i (ids l) ≡ false → T (ready l (mark said)) → false_entries l (mark said) ≡ false
          → greater_sum n row below ≡ reckoning (mark said ∷ l) i
      unfolding ready false_stamp false_entries reckoning
      reckoned-found pos new t e = sym (reckoning-row (reckoned l (mark Unsaid)) l (follows, s) (row_of es) (λ d. 0) (λ d. omega arith) n (λ j u. named-has n ds ns bs ss count f j u) ∙ sum_cong n (λ d. max (row_of es d) (under l (row_of es) (λ d. 0) d)) (λ d. max (row_fn row d) (row_fn below d)) settled)
        where
          follows : Follows (reckoned l (mark Unsaid)) l
          follows = follows_of l (mark Unsaid) s pos (rw new tt) t (rw e refl)

      -- It is no more than the marks are.
      pub reckoned_few : 1 ≤ i.number → has i (ids l) ≡ false → T (ready l (mark said)) → false_entries l (mark said) ≡ false → greater_sum n row below ≤ count
      unfolding ready false_stamp false_entries reckoning
      reckoned_few pos new t e =
          let c = view-length n count ds ns bs ss in
          let q = reckoning_le (reckoned l (mark Unsaid)) l (follows_of l (mark Unsaid) s pos (rw new tt) t (rw e refl), s) in
          let w : greater_sum n row below ≡ reckoning (mark said ∷ l) i = reckoned-found pos new t e in
          omega arith
