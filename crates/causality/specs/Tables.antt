-- Pair tables (docs/SPECIFICATION.md, Calls): the two tables as functions of a desk's state, the call that fills them, and what holds of them.
use Rattle.std.specs.Prelude.{Bool, List, [], ◌∷◌, ◌++◌, ◌≡◌, ℕ, zero, suc, ◌+◌, ◌-◌, ◌*◌, ◌/◌, ◌≤◌, ◌<◌, eqb, ltb, get_or, length}
use Rattle.frame.specs.Answer.{Answer, gives, refuse_if}
use Rattle.frame.specs.Frame.{over_if}
use Rattle.frame.specs.Names.{MarkId}
use Rattle.causality.specs.Marks.{keep, tally}
use Rattle.causality.specs.State.{Mark, State, concurrent, ids, precedes}

-- PAIRS

-- The marks of desk d, and f of each mark, added up.
abbrev pub of_desk : ℕ → List MarkId → List MarkId
of_desk d marks = keep (λ a. eqb d a.desk) marks

abbrev pub total : (MarkId → ℕ) → List MarkId → ℕ
total f [] = 0
total f (a ∷ rest) = f a + total f rest

-- How many pairs there are, a mark of i and a mark of j, in which the one stands so to the other: for each mark of i how many of j, added up.
abbrev pub pairs_of : (MarkId → MarkId → Bool) → List MarkId → ℕ → ℕ → ℕ
pairs_of stands marks i j = total (λ a. tally j (keep (stands a) marks)) (of_desk i marks)

-- Pairs that are concurrent.
unfoldable pub pairs_apart : List Mark → ℕ → ℕ → ℕ
pairs_apart executed i j = pairs_of (concurrent executed) (ids executed) i j

-- Pairs in which the mark of i precedes that of j.
unfoldable pub pairs_before : List Mark → ℕ → ℕ → ℕ
pairs_before executed i j = pairs_of (precedes executed) (ids executed) i j

-- TABLES, of desks 1 to N

-- f of 1, then of 2, up to n.
abbrev pub table_row : ℕ → (ℕ → ℕ) → List ℕ
table_row zero f = []
table_row (suc n) f = f 1 ∷ table_row n (λ j. f (suc j))

abbrev pub table_rows : ℕ → ℕ → (ℕ → ℕ → ℕ) → List ℕ
table_rows N zero f = []
table_rows N (suc n) f = table_row N (f 1) ++ table_rows N n (λ i. f (suc i))

-- One row behind another, so that the entry for i and j has index N · (i − 1) + (j − 1) in its table (`EntriesAt`).
unfoldable pub tables : ℕ → (ℕ → ℕ → ℕ) → (ℕ → ℕ → ℕ) → List ℕ
tables N first second = table_rows N N first ++ table_rows N N second

abbrev pub table_size : ℕ → ℕ
table_size N = N * N

-- THE CALL

-- Refusals: 13; else the count of both tables' entries.
unfoldable pub pair_tables : ℕ → ℕ → Answer ℕ
pair_tables N lent = refuse_if (ltb lent (2 * table_size N)) 13 (gives (2 * table_size N))

-- The lent counts after it: the first table, the second, and behind them what stood there.
unfoldable pub pair_tables_counts : ℕ → State → List ℕ → List ℕ
pair_tables_counts N st lent =
    over_if (pair_tables N (length lent)) (tables N (pairs_apart st.executed) (pairs_before st.executed)) lent

-- WHAT HOLDS

-- Where the entries of two tables of desks 1 to N stand in a run that starts with them.
pub record EntriesAt (N : ℕ) (first second : ℕ → ℕ → ℕ) (counts : List ℕ) : Type 0 where
  pub in_first : (i j : ℕ) → 1 ≤ i → i ≤ N → 1 ≤ j → j ≤ N → get_or counts (N * (i - 1) + (j - 1)) 0 ≡ first i j
  pub in_second : (i j : ℕ) → 1 ≤ i → i ≤ N → 1 ≤ j → j ≤ N → get_or counts (table_size N + (N * (i - 1) + (j - 1))) 0 ≡ second i j

-- 2³²: a 32-bit count is below it.
abbrev pub count_limit : ℕ
count_limit = 4_294_967_296

-- The laws of the tables, of any desks i and j.
pub record PairLaws (executed : List Mark) : Type 0 where
  -- Laws: pairs add up. Each pair of marks of two desks is apart, or one of them is before the other.
  pub all_pairs : (i j : ℕ) → (i ≡ j → ⊥)
      → pairs_apart executed i j + pairs_before executed i j + pairs_before executed j i ≡ tally i (ids executed) * tally j (ids executed)
  -- Of one desk no pair is apart, and in each the one mark is before the other.
  pub none_apart : (i : ℕ) → pairs_apart executed i i ≡ 0
  pub own_before : (i : ℕ) → pairs_before executed i i ≡ tally i (ids executed) * (tally i (ids executed) - 1) / 2
  pub symmetric : (i j : ℕ) → pairs_apart executed i j ≡ pairs_apart executed j i
  -- They fit into 32 bits.
  pub apart_fits : (i j : ℕ) → pairs_apart executed i j < count_limit
  pub before_fits : (i j : ℕ) → pairs_before executed i j < count_limit
