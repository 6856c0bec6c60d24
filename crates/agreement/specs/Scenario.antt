-- Five marks of three desks by causal precedence and their vectors (docs/SPECIFICATION.md, Scenario and examples), and what wrong readings of the definitions would claim of them.
use Rattle.std.specs.Prelude.{◌↔◌, List, [], ◌∷◌, ℕ, T, replicate}
use Rattle.frame.specs.Names.{MarkId}
use Rattle.causality.specs.Marks.{has}
use Rattle.history.specs.Paper.{Chain, IsVector, Links, Precedes}
use Rattle.history.specs.Run.{Step, handing, marking}
use Rattle.history.specs.Silent.{listed_at}

abbrev pub o : ℕ → ℕ → MarkId
o d n = record { desk = d; number = n }

abbrev pub marks : ℕ → Step
marks d = marking d (record { start = 1_000; end = 1_500; low = 100; high = 400 }) (replicate 73 0)

abbrev pub hands : ℕ → ℕ → ℕ → Step
hands d e n = handing d (o e n) 0

-- 1.1, 2.1, 3.1 and 3.2 are made; 2.1 and 3.1 come to desk 1, which makes 1.2; 1.1, 3.1 and 1.2 come to desk 2, which makes 2.2. Newest first.
abbrev pub steps : List Step
steps =
    marks 2 ∷ hands 2 1 2 ∷ hands 2 3 1 ∷ hands 2 1 1 ∷ marks 1 ∷ hands 1 3 1 ∷ hands 1 2 1 ∷ marks 3 ∷ marks 3 ∷ marks 2 ∷ marks 1 ∷ []

-- Just these marks precede b, and just those directly.
pub record Depends (b : MarkId) (on directly : List MarkId) : Type 0 where
  pub before : (a : MarkId) → Precedes steps a b ↔ T (has a on)
  pub vector : IsVector steps b directly

pub record Scenario : Type 0 where
  pub o11 : Depends (o 1 1) [] []
  pub o21 : Depends (o 2 1) [] []
  pub o31 : Depends (o 3 1) [] []
  pub o12 : Depends (o 1 2) (o 3 1 ∷ o 2 1 ∷ o 1 1 ∷ []) (o 1 1 ∷ o 2 1 ∷ o 3 1 ∷ [])
  pub o22 : Depends (o 2 2) (o 1 2 ∷ o 3 1 ∷ o 1 1 ∷ o 2 1 ∷ []) (o 1 2 ∷ [])
  pub o32 : Depends (o 3 2) (o 3 1 ∷ []) (o 3 1 ∷ [])

-- WHAT WRONG READINGS CLAIM

-- 1.2, which is between 1.1 and 2.2, is not in it.
abbrev pub Gap : MarkId → Type 0
Gap i = T (has i (o 1 1 ∷ o 2 2 ∷ []))

pub record WrongReadings : Type 0 where
  -- Causal precedence, of different desks: 2.1 was executed at desk 1, though after 1.1 was made.
  pub executed_later : T (has (o 2 1) (listed_at steps 1)) × ¬ Precedes steps (o 2 1) (o 1 1)
  -- Causal precedence, of one desk: 1.1 and 1.2 were both made at desk 1.
  pub generated_later : Precedes steps (o 1 1) (o 1 2) × ¬ Precedes steps (o 1 2) (o 1 1)
  -- Direct precedence: 1.1 precedes 2.2, though not directly, so the vector leaves it out.
  pub between : Precedes steps (o 1 1) (o 2 2) × ¬ Links steps (o 1 1) (o 2 2)
  -- Uninterrupted sets: no chain in a set with a gap goes from 1.1 to 2.2.
  pub interrupted : ¬ Chain steps Gap (o 1 1) (o 2 2)
