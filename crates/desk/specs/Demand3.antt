-- THE CLAIM (docs/SPECIFICATION.md, History: agreement): over every sequence of markings, hand-overs of frames of either edition and conversions, whatever New, Mark,
-- Receive and the converter did within their promises, desks and plain machine agree, Relate answers as the history has it, so does Evidence, a silent
-- desk leaves the stamps, and Pair tables counts pairs in the history.
use Rattle.std.specs.Prelude.{◌≡◌, List, [], ◌∷◌, map, ℕ, T, Result}
use mathlib.Core.Option.{none, some}
use Rattle.frame.specs.Answer.{Answer}
use Rattle.frame.specs.Frame.{over_if, writing}
use Rattle.frame.specs.Names.{MarkId, desks, is_desk}
use Rattle.frame.specs.declared.MarkBox.{MarkBox}
use Rattle.frame.specs.declared.Refusal.{Refusal}
use Rattle.frame.specs.declared.MarkId.{MarkId as CodeId}
use Rattle.causality.specs.Marks.{All}
use Rattle.causality.specs.Meaning.{counting, id_of, numbering, proving, reception, relating}
use Rattle.causality.specs.State.{State}
use Rattle.causality.specs.Tables.{tables}
use Rattle.causality.specs.declared.Evidence.{Evidence}
use Rattle.causality.specs.declared.Made.{Made}
use Rattle.causality.specs.declared.Received.{Received}
use Rattle.causality.specs.declared.Relation.{Relation}
use Rattle.history.specs.Plain.{StepAnswer, of_mark, of_receive, Unmade, look, plain, lists_at, relation}
use Rattle.history.specs.Run.{Step, marking, handing, to_second, to_first, at_desk, fed, Written, written_id, written, converted, frame_at, Run, without_missing}
use Rattle.history.specs.Demand3.{Agree, Consequent}
use Rattle.history.specs.Evidence.{ProvedBy}
use Rattle.history.specs.Silent.{Silent, NoneNames}
use Rattle.history.specs.Tables.{made_apart_at, made_before_at}
use Rattle.desk.specs.Promises.{NewPromise, MarkPromise, ReceivePromise, RelatePromise, EvidencePromise, PairTablesPromise, ToSecondPromise, ToFirstPromise}

-- The states of the desks as the last call there gave them, the frames that Mark wrote and the converter made, the answers of Mark and Receive, and those of the
-- converter; newest first.
pub record CallRun : Type 0 where
  pub given : List (ℕ × State)
  pub frames : List Written
  pub answers : List StepAnswer
  pub conversions : List (Answer ℕ)

-- The run one step on: after what Mark gave at desk d and left in the lent bytes, after what Receive gave there, after a hand-over that is no step.
abbrev pub after_mark : CallRun → ℕ → State → List ℕ → Result Made Refusal → CallRun
after_mark c d after bytes r = record {
  given = (d, after) ∷ c.given;
  frames = written d (numbering r) bytes c.frames;
  answers = of_mark (numbering r) ∷ c.answers;
  conversions = c.conversions;
}

abbrev pub after_receive : CallRun → ℕ → State → Result Received Refusal → CallRun
after_receive c d after r = record {
  given = (d, after) ∷ c.given;
  frames = c.frames;
  answers = of_receive (without_missing (reception r)) ∷ c.answers;
  conversions = c.conversions;
}

abbrev pub after_miss : CallRun → CallRun
after_miss c = record { given = c.given; frames = c.frames; answers = Unmade ∷ c.answers; conversions = c.conversions }

-- After what the converter answered of a frame and left in the lent bytes. It changes no desk.
abbrev pub after_convert : CallRun → Written → Result ℕ Refusal → List ℕ → CallRun
after_convert c f r bytes = record {
  given = c.given;
  frames = converted f.id (writing r) bytes c.frames;
  answers = c.answers;
  conversions = writing r ∷ c.conversions;
}

-- fresh: what New gave for each desk number.
module _ (fresh : ℕ → State) where
  abbrev pub desk_at : CallRun → ℕ → State
  desk_at c d = look fresh c.given d

  -- A run of the calls: each step's desk, answer and lent bytes stand in that call's own promise to the desk of the last step there.
  pub data Runs : List Step → CallRun → Type 0 where
    starts : Runs [] (record { given = []; frames = []; answers = []; conversions = [] })
    marks : {s : List Step} {c : CallRun} → Runs s c → (d : ℕ) (b : MarkBox) (lent : List ℕ) (after : State) (bytes : List ℕ) (r : Result Made Refusal)
        → MarkPromise (desk_at c d) b lent after bytes r → Runs (marking d b lent ∷ s) (after_mark c d after bytes r)
    receives : {s : List Step} {c : CallRun} → Runs s c → (d : ℕ) (i : MarkId) (k : ℕ) (f : Written) → frame_at written_id i k c.frames ≡ some f
        → (after : State) (r : Result Received Refusal) → ReceivePromise (desk_at c d) f.bytes after r → Runs (handing d i k ∷ s) (after_receive c d after r)
    misses : {s : List Step} {c : CallRun} → Runs s c → (d : ℕ) (i : MarkId) (k : ℕ) → frame_at written_id i k c.frames ≡ none
        → Runs (handing d i k ∷ s) (after_miss c)
    converts2 : {s : List Step} {c : CallRun} → Runs s c → (d : ℕ) (i : MarkId) (k : ℕ) (f : Written) → frame_at written_id i k c.frames ≡ some f
        → (lent after : List ℕ) (r : Result ℕ Refusal) → ToSecondPromise (desk_at c d) f.bytes lent after r
        → Runs (to_second d i k lent ∷ s) (after_convert c f r after)
    converts2_misses : {s : List Step} {c : CallRun} → Runs s c → (d : ℕ) (i : MarkId) (k : ℕ) (lent : List ℕ) → frame_at written_id i k c.frames ≡ none
        → Runs (to_second d i k lent ∷ s) c
    converts1 : {s : List Step} {c : CallRun} → Runs s c → (i : MarkId) (k : ℕ) (f : Written) → frame_at written_id i k c.frames ≡ some f
        → (lent after : List ℕ) (r : Result ℕ Refusal) → ToFirstPromise f.bytes lent after r → Runs (to_first i k lent ∷ s) (after_convert c f r after)
    converts1_misses : {s : List Step} {c : CallRun} → Runs s c → (i : MarkId) (k : ℕ) (lent : List ℕ) → frame_at written_id i k c.frames ≡ none
        → Runs (to_first i k lent ∷ s) c

-- The run as the history has it.
abbrev pub states_of : CallRun → Run
states_of c = record { states = c.given; frames = c.frames; answers = c.answers; conversions = c.conversions }

pub record CallsAgree (fresh : ℕ → State) (s : List Step) (c : CallRun) : Type 0 where
  -- Lists, waiting sets, answers, frames and stamps, as history has them.
  pub agree : Agree desks (states_of c) (plain (fed s))
  -- What follows: each listed mark stands behind its past, each waiting one lacks a mark of its past, no entry of a frame happened before another,
  -- refusals 2 to 4, 6 to 8 and 11, and drops, never occur, and conversions are refused only with 12, 13 and 14.
  pub follows : Consequent desks (states_of c) (plain (fed s))
  -- What Relate answers, at every desk and for any two marks.
  pub relates : (d : ℕ) → T (is_desk desks d) → (a b : CodeId) (r : Result Relation Refusal) → RelatePromise (desk_at fresh c d) a b r
      → relating r ≡ relation (plain (fed s)).made (lists_at (plain (fed s)) d) (id_of a) (id_of b)
  -- Evidence holds in the history: at every desk, for any two marks and any lent pairs.
  pub proves : (d : ℕ) → T (is_desk desks d) → (a b : CodeId) (out after : List CodeId) (r : Result Evidence Refusal)
      → EvidencePromise (desk_at fresh c d) a b out after r
      → ProvedBy (plain (fed s)).made (lists_at (plain (fed s)) d) (id_of a) (id_of b) (map id_of out) (proving r) (map id_of after)
  -- Silent desks leave the stamps: desk d is silent at desk x, and Mark makes a mark there.
  pub leaves : (x d : ℕ) → T (is_desk desks x) → Silent s x d → (b : MarkBox) (lent : List ℕ) (after : State) (bytes : List ℕ) (r : Result Made Refusal)
      → MarkPromise (desk_at fresh c x) b lent after bytes r → NoneNames desks d (written x (numbering r) bytes [])
  -- Pairs of the history: at desk x the tables count them, of the marks executed there.
  pub tabulates : (x : ℕ) → T (is_desk desks x) → (out after : List ℕ) (r : Result ℕ Refusal) → PairTablesPromise (desk_at fresh c x) out after r
      → after ≡ over_if (counting r) (tables desks (made_apart_at s x) (made_before_at s x)) out

abbrev pub Demand3Calls : Type 0
Demand3Calls = (fresh : ℕ → State) (answers : ℕ → Result (Unit {0}) Refusal) → ((d : ℕ) → NewPromise d (fresh d) (answers d))
    → (s : List Step) → All (λ t. T (at_desk desks t)) s → (c : CallRun) → Runs fresh s c → CallsAgree fresh s c
