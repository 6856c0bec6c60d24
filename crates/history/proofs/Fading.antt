-- A silent desk's entry fades, computed by the run over bytes; that all of its marks are followed, that they are executed and that none is new are each needed. Assumes nothing.
use Prim.Native.Nat.{ℕ}
use borrow.Author.Tests.{eq-eqb}
use lib.Dec.{T, eqb}
use lib.ListN.{replicate}
use mathlib.Core.Bool.{Bool, ◌&&◌, ◌||◌, false, not}
use mathlib.Core.List.{List, [], ◌∷◌}
use mathlib.Core.Path.{subst}
use native.Mathlib.Omega.{arith}
use Rattle.frame.specs.Frame.{at2, at4, bytes2, bytes4, count_bad, entries_bad, entry_bad, fields_bad, fields_of, frame_of, head_of, length_bad, output_short, part_bad, past_in, read_entries, read_fields, version_bad, write_size}
use Rattle.frame.specs.Names.{MarkId, box_rule, desks, is_desk, is_number}
use Rattle.causality.specs.Calls.{fields_of_mark, frame_of_mark, full, mark_in, new_mark, read_mark, same_fields, size_of_mark, unmade}
use Rattle.causality.specs.Kinds.{admit_by, executing_by, judge_by, mark_answer_of, mark_of, new_of, receive_of}
use Rattle.causality.specs.Marks.{all, has, same}
use Rattle.causality.specs.Silent.{names}
use Rattle.causality.specs.State.{false_entries, false_stamp, heads, is_head, lacks_previous, missing, missing_entries, previous, ready, reckoning}
use Rattle.causality.proofs.Lists.{all-at}
use Rattle.history.specs.Demand3.{entries_in}
use Rattle.history.specs.Evidence.{happened_before}
use Rattle.history.specs.Plain.{frame_size, hand_over, is_last, leave_out, lists_full, making_by, new_made, past_listed, plain}
use Rattle.history.specs.Run.{Step, Written, fed, handing, marking, run}
use Rattle.history.specs.Silent.{FollowedAt, listed_at}

abbrev id : ℕ → ℕ → MarkId
id d n = record { desk = d; number = n }

abbrev marks : ℕ → Step
marks d = marking d (record { start = 1_000; end = 1_500; low = 100; high = 400 }) (replicate 73 0)

-- Desk d is handed e.n.
abbrev hands : ℕ → ℕ → ℕ → Step
hands d e n = handing d (id e n) 0

-- Desk 1 has executed 2.1; every mark of desk 3 that it has executed happened before 2.1; the frame that it writes next names desk 3.
abbrev has21 : List Step → Bool
has21 s = has (id 2 1) (listed_at s 1)

abbrev before21 : List Step → MarkId → Bool
before21 s a = happened_before (plain (fed s)).made a (id 2 1)

abbrev every3 : List Step → Bool
every3 s = all (λ a. not (eqb a.desk 3) || before21 s a) (listed_at s 1)

abbrev newest : List Written → Bool
newest [] = false
newest (f ∷ fs) = names 3 (entries_in desks f)

abbrev named3 : List Step → Bool
named3 s = newest (run desks (marks 1 ∷ s)).frames

-- 3.1 is made, desk 2 gets it and makes 2.1, desk 1 gets both. Then 3.2 comes to desk 1.
abbrev point : List Step
point = hands 1 2 1 ∷ hands 1 3 1 ∷ marks 2 ∷ hands 2 3 1 ∷ marks 3 ∷ []

abbrev further : List Step
further = hands 1 3 2 ∷ marks 3 ∷ point

-- Desk 1 has 3.1, 3.2 and 2.1, which follows 3.1 alone. Desk 1 has 3.1, and 2.1 was made and did not come.
abbrev apart : List Step
apart = hands 1 2 1 ∷ hands 1 3 2 ∷ hands 1 3 1 ∷ marks 2 ∷ hands 2 3 1 ∷ marks 3 ∷ marks 3 ∷ []

abbrev absent : List Step
absent = hands 1 3 1 ∷ marks 2 ∷ hands 2 3 1 ∷ marks 3 ∷ []

pub record Shown : Type 0 where
  -- At that point 2.1 follows all of desk 3, and the stamps of desk 1 leave it out ..
  pub listed : T (has21 point)
  pub every : T (every3 point)
  pub fades : T (not (named3 point) && not (named3 (marks 1 ∷ point)))
  -- .. until 3.2 comes; then they do again.
  pub until_needed : T (named3 further && not (named3 (marks 1 ∷ further)))
  -- It is not enough that 2.1 follows some mark of desk 3, nor that it was made.
  pub every_needed : T (has21 apart && (before21 apart (id 3 1) && named3 apart))
  pub executed-needed : T (not (has21 absent) && (every3 absent && named3 absent))

pub shown : Shown
unfolding is_desk is_number box_rule at2 at4 bytes2 bytes4 past_in fields_of head_of frame_of length_bad version_bad count_bad part_bad fields_bad entry_bad entries_bad output_short read_fields read_entries write_size same is_head heads previous ready missing_entries lacks_previous missing reckoning false_entries false_stamp new_of fields_of_mark frame_of_mark size_of_mark mark_in full new_mark mark_answer_of mark_of executing_by admit_by unmade same_fields judge_by read_mark receive_of leave_out lists_full past_listed is_last frame_size new_made making_by hand_over
shown = record { listed = tt; every = tt; fades = tt; until_needed = tt; every_needed = tt; executed-needed = tt }

-- That point is one of those of which the claim speaks.
pub followed : FollowedAt point 1 3 (id 2 1)
followed = record {
  listed = shown.listed;
  other = λ q. omega arith;
  every = λ a t q. subst (λ (b : Bool). T (not b || before21 point a)) (eq-eqb a.desk 3 q) (all-at (λ a. not (eqb a.desk 3) || before21 point a) (listed_at point 1) shown.every a t);
}
