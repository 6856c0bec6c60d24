-- The laws of every state that came from New and the calls, whatever bytes it was lent, for an open count of desks (docs/SPECIFICATION.md, Laws).
use Rattle.std.specs.Prelude.{◌+◌, ◌<◌, ◌≤◌, ℕ, T, length, not, List, ◌∷◌, ◌↔◌, ◌≡◌}
use Rattle.frame.specs.Names.{MarkId}
use Rattle.frame.specs.declared.MarkBox.{MarkBox}
use Rattle.frame.specs.declared.Past.TheVariants.{Said}
use Rattle.causality.specs.Calls.{FromCalls, new_mark, relate}
use Rattle.causality.specs.Evidence.{Proves, evidence, evidence_pairs, in_past, stamp_of}
use Rattle.causality.specs.Marks.{All, has, places, tally, waiting_places}
use Rattle.causality.specs.Silent.{SilentLeaves, SilentLeavesLater}
use Rattle.causality.specs.State.{PrecedesDirectly, State, ids, precedes, ready, reckoning}
use Rattle.causality.specs.Tables.{PairLaws}
use Rattle.causality.specs.Tail.{ApartIsTail, PastIsFirstRun}

pub record DeskLaws (N : ℕ) (st : State) : Type 0 where
  -- The executed marks of a desk are those with numbers from 1 to its tally.
  pub executed_numbers : (i : MarkId) → T (has i (ids st.executed)) ↔ ((1 ≤ i.number) × (i.number ≤ tally i.desk (ids st.executed)))
  -- The marks of one desk form a chain.
  pub desk_chain : (i j : MarkId) → T (has i (ids st.executed)) → j.desk ≡ i.desk → 1 ≤ j.number → j.number < i.number → T (precedes st.executed j i)
  -- Precedence is an order.
  pub transitive : (a b c : MarkId) → T (precedes st.executed a b) → T (precedes st.executed b c) → T (precedes st.executed a c)
  pub irreflexive : (a : MarkId) → T (precedes st.executed a a) → ⊥
  -- Of one desk's marks executed before a mark those apart from it are a tail, since those that precede it are a first run of numbers.
  pub apart_is_tail : (a : MarkId) → ApartIsTail st.executed a
  pub past_is_first_run : (a : MarkId) → PastIsFirstRun st.executed a
  -- The evidence behind a verdict, by the stamps, the precedence and the counts of this desk.
  pub evidence_proves : (a b : MarkId) (lent : List MarkId)
      → Proves (stamp_of st.executed) (precedes st.executed) (in_past st.executed) (relate st a b) a b lent (evidence st a b (length lent)) (evidence_pairs st a b lent)
  -- While a mark of another desk follows every executed mark of desk d, no head is of d and a mark made here does not name it; and so on
  -- through all further calls, until a further mark of d is executed.
  pub silent_desk_leaves : SilentLeaves st
  pub silent_desk_leaves_later : SilentLeavesLater N st
  -- Of the pairs that are apart, and of those where one precedes the other.
  pub pairs : PairLaws st.executed
  -- After each call no waiting mark is ready.
  pub none_ready : All (λ w. T (not (ready st.executed w))) st.waiting
  -- How many marks there are, and how many of them wait.
  pub few_marks : length st.executed + length st.waiting ≤ places
  pub few_waiting : length st.waiting ≤ waiting_places
  -- Each executed mark's stamp is its direct causal vector.
  pub direct_causal_vectors : All (λ m. (e : MarkId) → T (has e m.stamp) ↔ PrecedesDirectly st.executed e m.id) st.executed
  -- A new mark follows just what its desk had executed, and its stamp is its direct causal vector.
  pub new_precedes : (b : MarkBox) (a : MarkId) → T (precedes (new_mark st b ∷ st.executed) a (new_mark st b).id) ↔ T (has a (ids st.executed))
  pub new_direct : (b : MarkBox) (e : MarkId) → T (has e (new_mark st b).stamp) ↔ PrecedesDirectly (new_mark st b ∷ st.executed) e (new_mark st b).id
  -- What is said of the past of an executed mark is the number of executed marks that precede it, the desk's own reckoning; so it is with a new one's.
  pub executed_reckoned : All (λ m. m.past ≡ Said (reckoning st.executed m.id)) st.executed
  pub new_reckoned : (b : MarkBox) → (new_mark st b).past ≡ Said (reckoning (new_mark st b ∷ st.executed) (new_mark st b).id)

abbrev pub LawsOfDesks : Type 0
LawsOfDesks = (N : ℕ) → 1 ≤ N → (st : State) → FromCalls N st → DeskLaws N st
