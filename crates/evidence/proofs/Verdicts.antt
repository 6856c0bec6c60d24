-- The verdict of two places between which there is a chain. Assumes nothing.
use Prim.Native.Nat.{ℕ, ◌<◌, ◌≤◌}
use borrow.Author.Tests.{eq-eqb, le-ltb, lt-ltb, ne_eqb}
use mathlib.Core.Path.{◌≡◌}
use Rattle.causality.specs.declared.Evidence.TheVariants.{Same, Before, After}
use Rattle.evidence.specs.inner.Steps.{verdict_at}

pub verdict-same : (p q n : ℕ) → p ≡ q → verdict_at p q n ≡ Same n
verdict-same p q n e = rw (eq-eqb p q e, verdict_at)

pub verdict_before : (p q n : ℕ) → (p ≡ q → ⊥) → p < q → verdict_at p q n ≡ Before n
verdict_before p q n e h = rw (ne_eqb p q e, verdict_at, lt-ltb p q h)

pub verdict_after : (p q n : ℕ) → (p ≡ q → ⊥) → q ≤ p → verdict_at p q n ≡ After n
verdict_after p q n e h = rw (ne_eqb p q e, verdict_at, le-ltb p q h)
