-- Pair tables over sequences: the entries of a desk's tables count pairs in the history, since the two agree. Assumes nothing.
use Prim.Native.Nat.{ℕ}
use lib.Dec.{T}
use lib.ListN.{length}
use mathlib.Core.List.{List}
use mathlib.Core.Path.{◌≡◌, refl}
use Rattle.frame.specs.Frame.{over_if}
use Rattle.frame.specs.Names.{MarkId, is_desk}
use Rattle.causality.specs.Marks.{has}
use Rattle.causality.specs.State.{State, concurrent, ids, precedes}
use Rattle.causality.specs.Tables.{pair_tables, pair_tables_counts, pairs_apart, pairs_before, tables}
use Rattle.causality.proofs.Tables.{pairs_cong}
use Rattle.history.specs.Evidence.{happened_before}
use Rattle.history.specs.Plain.{MadeMark}
use Rattle.history.specs.Run.{Step, run, state_at}
use Rattle.history.specs.Tables.{PairsHold, PairsOfHistory, made_apart, made_apart_at, made_before_at}
use Rattle.history.proofs.Sequence.{AtDesks, plain_of}
use Rattle.history.proofs.Silent.{before_precedes}
use Rattle.history.proofs.Theorem.{listed-executed, some_desk}

module _ (N : ℕ) (s : List Step) (at : AtDesks N s) (x : ℕ) (tx : T (is_desk N x)) where
  abbrev st : State
  st = state_at N (run N s) x

  abbrev made : List MadeMark
  made = (plain_of s).made

  before : (a b : MarkId) → T (has a (ids st.executed)) → T (has b (ids st.executed)) → precedes st.executed a b ≡ happened_before made a b
  before a b ta tb = before_precedes N s at x tx a b tb

  apart : (a b : MarkId) → T (has a (ids st.executed)) → T (has b (ids st.executed)) → concurrent st.executed a b ≡ made_apart made a b
  unfolding concurrent
  apart a b ta tb = rw (before a b ta tb, before b a tb ta) refl

  pairs_of_history : (i j : ℕ) → PairsOfHistory N s x i j
  unfolding pairs_apart pairs_before
  pairs_of_history i j = record {
    apart = rw (listed-executed N (some_desk N x tx) s at x) (pairs_cong (concurrent st.executed) (made_apart made) (ids st.executed) apart i j);
    before = rw (listed-executed N (some_desk N x tx) s at x) (pairs_cong (precedes st.executed) (happened_before made) (ids st.executed) before i j);
  }

  -- So do a run's first counts after the call.
  pub tables_of_history : (lent : List ℕ) → pair_tables_counts N (state_at N (run N s) x) lent ≡ over_if (pair_tables N (length lent)) (tables N (made_apart_at s x) (made_before_at s x)) lent
  unfolding pair_tables_counts
  tables_of_history lent = λ k. over_if (pair_tables N (length lent)) (tables N (λ i j. (pairs_of_history i j).apart k) (λ i j. (pairs_of_history i j).before k)) lent

pub pairs_hold : (N : ℕ) → PairsHold N
pairs_hold N s at x tx = pairs_of_history N s at x tx
