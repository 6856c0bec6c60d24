-- Desks and the plain machine agree over every sequence of steps at desks 1 to N (docs/SPECIFICATION.md, History): lists, answers, frames and stamps, evidence and pairs.
use Rattle.std.specs.Prelude.{◌≡◌, List, ℕ, T, length}
use Rattle.frame.specs.Names.{MarkId, is_desk}
use Rattle.causality.specs.Evidence.{evidence, evidence_pairs}
use Rattle.causality.specs.Marks.{All}
use Rattle.causality.specs.Tables.{pairs_apart, pairs_before}
use Rattle.history.specs.Demand3.{Agree, Consequent}
use Rattle.history.specs.Evidence.{ProvedBy}
use Rattle.history.specs.Plain.{lists_at, plain}
use Rattle.history.specs.Run.{Step, at_desk, fed, run, state_at}
use Rattle.history.specs.Tables.{made_apart_at, made_before_at}
use Rattle.desk.specs.Demand3.{Demand3Calls}

-- Each step is at one of the desks 1 to N.
abbrev pub AtDesks : ℕ → List Step → Type 0
AtDesks N s = All (λ t. T (at_desk N t)) s

pub record DesksAgree : Type 0 where
  -- The desks as functions of their states, and what follows of them.
  pub machine : (N : ℕ) (s : List Step) → AtDesks N s → Agree N (run N s) (plain (fed s))
  pub follows : (N : ℕ) (s : List Step) → AtDesks N s → Consequent N (run N s) (plain (fed s))
  -- The calls, whatever they did within their contracts, at our count of desks.
  pub calls : Demand3Calls

-- The evidence behind a verdict at a desk holds in the history.
abbrev pub EvidenceHolds : Type 0
EvidenceHolds = (N : ℕ) (s : List Step) → AtDesks N s → (d : ℕ) → T (is_desk N d) → (a b : MarkId) (lent : List MarkId)
    → ProvedBy (plain (fed s)).made (lists_at (plain (fed s)) d) a b lent
    (evidence (state_at N (run N s) d) a b (length lent)) (evidence_pairs (state_at N (run N s) d) a b lent)

-- Each entry of a desk's tables counts pairs of the history: of i and j, marks made apart, and marks of which that of i happened before that of j.
pub record PairsCounted (N : ℕ) (s : List Step) (x i j : ℕ) : Type 0 where
  pub apart : pairs_apart (state_at N (run N s) x).executed i j ≡ made_apart_at s x i j
  pub before : pairs_before (state_at N (run N s) x).executed i j ≡ made_before_at s x i j

abbrev pub PairsAreOfTheHistory : Type 0
PairsAreOfTheHistory = (N : ℕ) (s : List Step) → AtDesks N s → (x : ℕ) → T (is_desk N x) → (i j : ℕ) → PairsCounted N s x i j
