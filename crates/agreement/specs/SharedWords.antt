-- What desk and plain machine share (docs/SPECIFICATION.md, Laws: shared words), each said otherwise, since comparing the two cannot show that such a word is wrong.
use Rattle.std.specs.Prelude.{◌⊎◌, ◌↔◌, ◌≡◌, ◌≤◌, ◌<◌, Bool, List, [], ◌∷◌, ℕ, T, eqb, length, not}
use mathlib.Core.Option.{Option, none, some}
use Rattle.frame.specs.Names.{MarkId, box_rule, numbers}
use Rattle.frame.specs.declared.MarkBox.{MarkBox}
use Rattle.causality.specs.Marks.{All, find, keep, lowest, places, rising, same, tally, without}

-- By rising desk.
abbrev pub Rising : List MarkId → Type 0
Rising [] = Unit {0}
Rising (e ∷ es) = All (λ f. e.desk ≤ f.desk) es × Rising es

pub record WordsOnNames : Type 0 where
  -- There is a number for each place.
  pub place : places ≤ numbers
  -- A sound box starts no later than it ends, and its low is below its high.
  pub box : (b : MarkBox) → T (box_rule b) ↔ ((b.start ≤ b.end) × (b.low < b.high))
  -- The tally is how many of the names are of that desk.
  pub counts : (d : ℕ) (is : List MarkId) → tally d is ≡ length (keep (λ i. eqb d i.desk) is)
  -- Sorted by desk are the same names, each as often: as many pass any test; and they rise.
  pub keeps : (p : MarkId → Bool) (xs : List MarkId) → length (keep p (rising xs)) ≡ length (keep p xs)
  pub rises : (xs : List MarkId) → Rising (rising xs)

module _ {A : Type 0} where
  -- The first of a list, and what is in it.
  abbrev pub first : List A → Option A
  first [] = none
  first (w ∷ ws) = some w

  abbrev pub Among : A → List A → Type 0
  Among w [] = ⊥
  Among w (v ∷ vs) = (w ≡ v) ⊎ Among w vs

-- Of things that are named by marks.
module _ {A : Type 0} (name_of : A → MarkId) where
  -- One of the list that passes, and none that passes is of a lower desk; or none passes.
  abbrev pub Least : (A → Bool) → List A → Option A → Type 0
  Least p ws none = All (λ v. T (p v) → ⊥) ws
  Least p ws (some w) = Among w ws × T (p w) × All (λ v. T (p v) → (name_of w).desk ≤ (name_of v).desk) ws

  pub record WordsOnThings : Type 0 where
    -- What is found is the first of that name.
    pub finds : (i : MarkId) (ws : List A) → find name_of i ws ≡ first (keep (λ w. same i (name_of w)) ws)
    -- What is left are those of other names, in their order.
    pub leaves : (i : MarkId) (ws : List A) → without name_of i ws ≡ keep (λ w. not (same i (name_of w))) ws
    pub chooses : (p : A → Bool) (ws : List A) → Least p ws (lowest name_of p ws)
