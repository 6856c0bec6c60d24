-- Silent desks leave the stamps (docs/SPECIFICATION.md, Laws), over every sequence of steps at desks 1 to N.
use Rattle.std.specs.Prelude.{◌↔◌, List, [], ℕ, T}
use Rattle.frame.specs.Names.{MarkId, is_desk}
use Rattle.frame.specs.declared.MarkBox.{MarkBox}
use Rattle.causality.specs.Calls.{mark}
use Rattle.causality.specs.Silent.{FollowedHere}
use Rattle.history.specs.Run.{Step, run, state_at, written}
use Rattle.history.specs.Silent.{FollowedAt, NoneNames, Silent}
use Rattle.agreement.specs.Agreement.{AtDesks}

pub record SilentDesksLeave : Type 0 where
  -- Whether m follows all marks of d that desk x has executed, the desk finds by the entries of stamps as the history has it.
  pub alike : (N : ℕ) (s : List Step) → AtDesks N s → (x d : ℕ) (m : MarkId) → T (is_desk N x)
      → FollowedAt s x d m ↔ FollowedHere (state_at N (run N s) x) d m
  -- Where desk d is silent at desk x, no stamp that a marking at x writes names d.
  pub leaves : (N : ℕ) (s : List Step) → AtDesks N s → (x d : ℕ) → T (is_desk N x) → Silent s x d → (b : MarkBox) (lent : List ℕ)
      → let o = mark N (state_at N (run N s) x) b lent in NoneNames N d (written x o.answer o.bytes [])
