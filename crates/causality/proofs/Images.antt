-- A list of things that are named by marks, and its image whose things have the same names: the same is chosen of both. Assumes nothing.
use lib.Dec.{ltb}
use mathlib.Core.Bool.{Bool, false, true}
use mathlib.Core.List.{List, [], ◌∷◌, map}
use mathlib.Core.Option
use mathlib.Core.Option.{Option, none, some}
use mathlib.Core.Path.{◌∙◌, ◌≡◌, refl}
use Rattle.frame.specs.Names.{MarkId}
use Rattle.causality.specs.Marks.{All, lower, lowest, same, without}

module _ {A B : Type 0} (name_a : A → MarkId) (name_b : B → MarkId) (image : A → B) (named : (x : A) → name_b (image x) ≡ name_a x) where
  pub names_image : (ws : List A) → map name_b (map image ws) ≡ map name_a ws
  names_image [] = refl
  names_image (v ∷ vs) = let e = named v in let r = names_image vs in λ i. e i ∷ r i

  pub without_image : (i : MarkId) (ws : List A) → without name_b i (map image ws) ≡ map image (without name_a i ws)
  without_image i [] = refl
  without_image i (v ∷ vs) =
      (λ j. elim (same i (named v j)) [ true ↦ without name_b i (map image vs) | false ↦ image v ∷ without name_b i (map image vs) ]) ∙ go (same i (name_a v)) (without_image i vs)
    where
      go : (b : Bool) → without name_b i (map image vs) ≡ map image (without name_a i vs)
          → elim b [ true ↦ without name_b i (map image vs) | false ↦ image v ∷ without name_b i (map image vs) ] ≡ map image (elim b [ true ↦ without name_a i vs | false ↦ v ∷ without name_a i vs ])
      go true ih = ih
      go false ih = λ j. image v ∷ ih j

  pub lowest_image : (p : A → Bool) (q : B → Bool) (ws : List A) → All (λ w. q (image w) ≡ p w) ws → lowest name_b q (map image ws) ≡ Option.map image (lowest name_a p ws)
  lowest_image p q [] a = refl
  lowest_image p q (v ∷ vs) a = start a.0 (lowest_image p q vs a.1) ∙ go (p v) (lowest name_a p vs)
    where
      start : q (image v) ≡ p v → lowest name_b q (map image vs) ≡ Option.map image (lowest name_a p vs)
          → lowest name_b q (map image (v ∷ vs)) ≡ elim (p v) [ true ↦ some (lower name_b (image v) (Option.map image (lowest name_a p vs))) | false ↦ Option.map image (lowest name_a p vs) ]
      start e ih = λ i. elim (e i) [ true ↦ some (lower name_b (image v) (ih i)) | false ↦ ih i ]

      two : (b : Bool) (u : A) → some (elim b [ true ↦ image u | false ↦ image v ]) ≡ Option.map image (some (elim b [ true ↦ u | false ↦ v ]))
      two true u = refl
      two false u = refl

      go : (b : Bool) (o : Option A) → elim b [ true ↦ some (lower name_b (image v) (Option.map image o)) | false ↦ Option.map image o ] ≡ Option.map image (elim b [ true ↦ some (lower name_a v o) | false ↦ o ])
      go true none = refl
      go true (some u) = (λ i. some (elim (ltb (named u i).desk (named v i).desk) [ true ↦ image u | false ↦ image v ])) ∙ two (ltb (name_a u).desk (name_a v).desk) u
      go false o = refl
