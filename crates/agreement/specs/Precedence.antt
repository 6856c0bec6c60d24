-- Causal precedence as the field defines it (docs/SPECIFICATION.md, Laws: over sequences), over every sequence of steps at desks 1 to N.
use Rattle.std.specs.Prelude.{◌↔◌, List, ℕ, T}
use Rattle.frame.specs.Names.{MarkId, is_desk}
use Rattle.causality.specs.Marks.{All}
use Rattle.history.specs.Demand3.{entries_in}
use Rattle.history.specs.Evidence.{happened_before}
use Rattle.history.specs.Paper.{Chain, IsVector, PaperAt, Precedes, Uninterrupted}
use Rattle.history.specs.Plain.{last_of_past, plain}
use Rattle.history.specs.Run.{Step, fed, run, state_at}
use Rattle.agreement.specs.Agreement.{AtDesks}

pub record StampsOver (N : ℕ) (s : List Step) : Type 0 where
  -- Causal precedence is what the history says: a happened before b if a is in the past of b.
  pub happened : (a b : MarkId) → Precedes s a b ↔ T (happened_before (plain (fed s)).made a b)
  -- Just the marks that link to b are the last of its past, which the comparison takes for its stamp; and the entries of each frame are such marks.
  pub vectors : (b : MarkId) → IsVector s b (last_of_past (plain (fed s)).made b)
  pub frames : All (λ f. IsVector s f.id (entries_in N f)) (run N s).frames
  -- At each desk: the stamps of its marks, the order of execution, readiness and tracing.
  pub desks : (d : ℕ) → T (is_desk N d) → PaperAt N s (state_at N (run N s) d) (run N s).frames

abbrev pub StampsAreDirect : Type 0
StampsAreDirect = (N : ℕ) (s : List Step) → AtDesks N s → StampsOver N s

-- In an uninterrupted set with a and b in it, a precedes b just if a chain of links within it goes from a to b.
abbrev pub ChainsWithin : (MarkId → Type 0) → Type 0
ChainsWithin S = (N : ℕ) (s : List Step) → AtDesks N s → Uninterrupted s S → (a b : MarkId) → S a → S b → Precedes s a b ↔ Chain s S a b
