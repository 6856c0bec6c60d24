-- Pairs add up (docs/SPECIFICATION.md, Laws), at every desk that came from New and the calls.
use Rattle.std.specs.Prelude.{◌*◌, ◌+◌, ◌-◌, ◌/◌, ◌≡◌, ◌≤◌, ℕ}
use Rattle.causality.specs.Calls.{FromCalls}
use Rattle.causality.specs.Marks.{tally}
use Rattle.causality.specs.State.{State, ids}
use Rattle.causality.specs.Tables.{pairs_apart, pairs_before}

pub record PairsOf (st : State) : Type 0 where
  -- Each pair of marks of two desks is apart, or one of them is before the other.
  pub of_two : (i j : ℕ) → (i ≡ j → ⊥)
      → pairs_apart st.executed i j + pairs_before st.executed i j + pairs_before st.executed j i ≡ tally i (ids st.executed) * tally j (ids st.executed)
  -- Of one desk no pair is apart, and in each the one mark is before the other.
  pub none_apart : (i : ℕ) → pairs_apart st.executed i i ≡ 0
  pub of_one : (i : ℕ) → pairs_before st.executed i i ≡ tally i (ids st.executed) * (tally i (ids st.executed) - 1) / 2

abbrev pub PairsAddUp : Type 0
PairsAddUp = (N : ℕ) → 1 ≤ N → (st : State) → FromCalls N st → PairsOf st
