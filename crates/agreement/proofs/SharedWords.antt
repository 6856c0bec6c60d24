-- The laws of shared words, from those of the crate causality. Assumes nothing.
use mathlib.Core.Bool.{Bool}
use mathlib.Core.List.{List, [], ◌∷◌}
use mathlib.Core.Logic.{inl, inr}
use mathlib.Core.Option.{Option, none, some}
use mathlib.Core.Path.{◌∙◌, ◌≡◌, refl}
use Rattle.frame.specs.Names.{MarkId}
use Rattle.causality.specs.Marks.{keep, lowest, rising, same}
use Rattle.causality.proofs.Lists as lists
use Rattle.causality.proofs.Shared as shared
use Rattle.agreement.specs.SharedWords.{Among, Least, Rising, WordsOnNames, WordsOnThings, first}

rising_too : (xs : List MarkId) → shared.Rising xs → Rising xs
rising_too [] r = tt
rising_too (e ∷ es) r = (r.0, rising_too es r.1)

pub words_on_names : WordsOnNames
words_on_names = record {
  place = shared.places-numbers;
  box = shared.box_rule_lem;
  counts = shared.tally-counts;
  keeps = shared.rising_keeps;
  rises = λ xs. rising_too (rising xs) (shared.rising_rises xs);
}

among_too : {A : Type 0} (w : A) (ws : List A) → lists.Among w ws → Among w ws
among_too w [] t = t
among_too w (v ∷ vs) (inl e) = inl e
among_too w (v ∷ vs) (inr t) = inr (among_too w vs t)

module _ {A : Type 0} (name_of : A → MarkId) where
  first_too : (ws : List A) → shared.first name_of ws ≡ first ws
  first_too [] = refl
  first_too (w ∷ ws) = refl

  least_too : (p : A → Bool) (ws : List A) (o : Option A) → lists.Lowest name_of p ws o → Least name_of p ws o
  least_too p ws none l = l
  least_too p ws (some w) l = (among_too w ws l.0, l.1, l.2)

  pub words_on_things : WordsOnThings name_of
  words_on_things = record {
    finds = λ i ws. shared.find_first name_of i ws ∙ first_too (keep (λ w. same i (name_of w)) ws);
    leaves = shared.without_keeps name_of;
    chooses = λ p ws. least_too p ws (lowest name_of p ws) (lists.lowest_least name_of p ws);
  }
