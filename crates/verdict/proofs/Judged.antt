-- What Receive's tests on rows and counts say of the definitions: 7, and Known or 8. n: how many desks. Assumes nothing.
use Prim.Native.Nat.{◌-◌, ◌≤◌, suc, ℕ}
use lib.Dec.{T, eqb, eqb_refl, eqb→eq, ltb, ltb→lt}
use lib.ListN.{length}
use lib.Pointwise.{bytes_decides, pointwise}
use lib.Seq.{ext_get_or}
use Rattle.std.specs.Prelude.{nat_eq}
use mathlib.Core.Bool.{Bool, ◌&&◌, ◌||◌}
use mathlib.Core.List.{List}
use mathlib.Core.Path.{◌∙◌, ◌≡◌, ap, refl, subst, sym}
use native.Mathlib.Omega.{arith}
use Rattle.frame.specs.Names.{MarkId}
use Rattle.causality.specs.Calls.{same_box, same_entries, same_fields, unmade}
use Rattle.causality.specs.Marks.{any, tally}
use Rattle.causality.specs.State.{State, ids, same_count}
use Rattle.causality.proofs.Fit.{entries-same, same_entries→eq}
use Rattle.causality.proofs.Lists.{any_find, any_of}
use Rattle.causality.proofs.Logic.{T→eq, and_yes, bool_ext, eq→T, yes_and}
use Rattle.causality.proofs.RowLaws.{row_of-entries, show, shown}
use Rattle.causality.specs.Rows.{entries_of_row}
use Rattle.causality.specs.inner.Passes.{row_of}
use Rattle.rows.specs.View.{past_from, width}
use Rattle.rows.specs.inner.Slots.{held_mark, row_fn, same_counts}
use Rattle.rows.specs.declared.Held.{Held}
use Rattle.rows.proofs.ByRows.{entries_cong}
use Rattle.causality.proofs.Upto.{all_desk, all_of}
use borrow.Author.Tests.{eq-eqb}

-- 7: of this desk and not yet made, by the tally's count for this desk.
pub unmade_by-row : (n : ℕ) (st : State) (row : List ℕ) → 1 ≤ st.own → st.own ≤ n → (i : MarkId)
    → (unmade st i || any (unmade st) (entries_of_row n (row_fn row)))
    ≡ ((eqb i.desk st.own && ltb (tally st.own (ids st.executed)) i.number) || ltb (tally st.own (ids st.executed)) (row_fn row st.own))
unfolding unmade
unmade_by-row n st row lo hi i = ap (λ (b : Bool). (eqb i.desk st.own && ltb t i.number) || b) (bool_ext (any p es) (ltb t (row_fn row st.own)) there back)
  where
    t : ℕ
    t = tally st.own (ids st.executed)

    p : MarkId → Bool
    p e = eqb e.desk st.own && ltb t e.number

    es : List MarkId
    es = entries_of_row n (row_fn row)

    there : T (any p es) → T (ltb t (row_fn row st.own))
    there u =
        let x = any_find p es u in
        let w = shown (row_fn row) 1 n x.0 x.1 in
        let d : x.0.desk ≡ st.own = eqb→eq x.0.desk st.own (and_yes (eqb x.0.desk st.own) (ltb t x.0.number) x.2).0 in
        let v : x.0.number ≡ row_fn row st.own = w.value ∙ ap (row_fn row) d in
        subst (λ (k : ℕ). T (ltb t k)) v (and_yes (eqb x.0.desk st.own) (ltb t x.0.number) x.2).1

    back : T (ltb t (row_fn row st.own)) → T (any p es)
    back u =
        let e : MarkId = record { desk = st.own; number = row_fn row st.own } in
        let l = ltb→lt t (row_fn row st.own) u in
        any_of p es e (show (row_fn row) 1 n e (record { low = lo; high = omega arith; value = refl; pos = omega arith }))
        (yes_and (eqb st.own st.own) (ltb t (row_fn row st.own)) (eqb_refl st.own) u)

-- KNOWN

-- Two stamps as rows have the same entries where they have the same counts.
pub entries_by_row : (n : ℕ) (r s : ℕ → ℕ) → same_entries (entries_of_row n r) (entries_of_row n s) ≡ same_counts n r s
entries_by_row n r s = bool_ext (same_entries (entries_of_row n r) (entries_of_row n s)) (same_counts n r s)
    (λ t. let e = same_entries→eq (entries_of_row n r) (entries_of_row n s) t in
    all_of n (λ d. eqb (r d) (s d)) (λ d p q. eq→T (eqb (r d) (s d)) (eq-eqb (r d) (s d) (sym (row_of-entries n r d p q) ∙ ap (λ (es : List MarkId). row_of es d) e ∙ row_of-entries n s d p q))))
    (λ t. rw (entries_cong n r s (λ d p q. eqb→eq (r d) (s d) (all_desk n (λ d. eqb (r d) (s d)) t d p q))) (eq→T _ (entries-same (entries_of_row n s))))

-- Rows are equal where they have the same counts.
pub row_same : (a b : List ℕ) → length a ≡ width → length b ≡ width → pointwise nat_eq a b ≡ same_counts width (row_fn a) (row_fn b)
row_same a b la lb = bool_ext (pointwise nat_eq a b) (same_counts width (row_fn a) (row_fn b))
    (λ t. let e = (bytes_decides a b).0 (T→eq (pointwise nat_eq a b) t) in
    all_of width (λ d. eqb (row_fn a d) (row_fn b d)) (λ d p q. eq→T (eqb (row_fn a d) (row_fn b d)) (eq-eqb (row_fn a d) (row_fn b d) (ap (λ (xs : List ℕ). row_fn xs d) e))))
    (λ t. eq→T (pointwise nat_eq a b) ((bytes_decides a b).1 (ext_get_or 0 a b (la ∙ sym lb) (λ j h.
    let g = eqb→eq (row_fn a (suc j)) (row_fn b (suc j)) (all_desk width (λ d. eqb (row_fn a d) (row_fn b d)) t (suc j) (omega arith) (omega arith)) in
    let x : suc j - 1 ≡ j = omega arith in
    (rw x at g)))))

-- What same_fields finds is sameness, by the box, the row and the past.
module _ (a b : Held) where
  pub by_parts : same_fields (held_mark a) (held_mark b)
      ≡ (same_box a.extent b.extent && (same_counts width (row_fn a.row) (row_fn b.row) && same_count (past_from a.past) (past_from b.past)))
  unfolding same_fields
  by_parts = ap (λ (x : Bool). same_box a.extent b.extent && (x && same_count (past_from a.past) (past_from b.past))) (entries_by_row width (row_fn a.row) (row_fn b.row))
