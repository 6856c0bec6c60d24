-- The laws of every state that came from New and the calls on rows of counts, and on marks whose frames pass the reader. Inner: need not be believed.
use Rattle.std.specs.Prelude.{◌-◌, ◌≡◌, ◌≤◌, max, ℕ, T, eqb, leb, ltb, ◌&&◌, ◌||◌, not, ◌++◌, ◌∷◌}
use Rattle.frame.specs.Names.{MarkId}
use Rattle.frame.specs.declared.Past.TheVariants.{Said}
use Rattle.causality.specs.Calls.{FromCalls}
use Rattle.causality.specs.Marks.{All, any, has, tally}
use Rattle.causality.specs.State.{Mark, State, false_stamp, ids, is_head, ready, reckoning, same_count}
use Rattle.causality.specs.inner.Fit.{Fit}
use Rattle.causality.specs.inner.Passes.{row_of, under}

pub record RowLaws (N : ℕ) (st : State) : Type 0 where
  -- A head is the last executed mark of its desk, where no stamp's row reaches it.
  pub head_rows : (i : MarkId) → T (has i (ids st.executed))
      → is_head st.executed i ≡ (eqb i.number (tally i.desk (ids st.executed)) && not (any (λ m. eqb (row_of m.stamp i.desk) i.number) st.executed))
  -- False stamps: an entry within the row of what precedes the entries, the mark before it in no row, or another past count than the desk reckons.
  pub false_rows : (m : Mark) → Fit N m → T (ready st.executed m)
      → false_stamp st.executed m ≡ ((any (λ e. leb e.number (under st.executed (row_of m.stamp) (λ d. 0) e.desk)) m.stamp
      || (ltb 1 m.id.number && ltb (max (row_of m.stamp m.id.desk) (under st.executed (row_of m.stamp) (λ d. 0) m.id.desk)) (m.id.number - 1)))
      || not (same_count m.past (Said (reckoning (m ∷ st.executed) m.id))))
  -- Two marks of one desk that are not executed and are ready have one number.
  pub one_ready_each : (m k : Mark) → Fit N m → Fit N k → T (not (has m.id (ids st.executed))) → T (not (has k.id (ids st.executed)))
      → T (ready st.executed m) → T (ready st.executed k) → m.id.desk ≡ k.id.desk → m.id.number ≡ k.id.number
  -- The frame of each mark passes the reader of N desks.
  pub fits : All (Fit N) (st.executed ++ st.waiting)

abbrev pub LawsByRows : Type 0
LawsByRows = (N : ℕ) → 1 ≤ N → (st : State) → FromCalls N st → RowLaws N st
