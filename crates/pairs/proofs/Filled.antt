-- What a filled run is by names: the names of the list by rising index, then the pairs beyond. Assumes nothing.
use mathlib.Core.Path.{◌≡◌, refl, ◌∙◌}
use mathlib.Core.List.{List, ◌++◌, map, reverse, reverse-cons, append_assoc}
use Prim.Native.Nat.{ℕ, zero, suc, ◌≤◌, ◌<◌}
use native.Mathlib.Omega.{arith}
use lib.ListN.{length, drop, length-set, length-map, length-reverse}
use lib.Seq.{drop-cons, set_at}
use Rattle.std.proofs.lemmas.List.{map-set}
use Rattle.frame.specs.Answer.{Answer, gives, refused}
use Rattle.frame.specs.Frame.{over_if}
use Rattle.frame.specs.Names.{MarkId}
use Rattle.frame.specs.declared.MarkId.{MarkId as CodeId}
use Rattle.causality.specs.Meaning.{id_of}
use Rattle.pairs.specs.Pairs.{marks_of, ListsIf}
use Rattle.pairs.specs.inner.Filled.{pair_at, filled}
use Rattle.rows.specs.View.{names_down, name_at}
use Rattle.pairs.specs.declared.Listed.{Listed}
use Rattle.rows.proofs.Down.{down-length}

pub length-filled : (xs : List CodeId) (list : Listed) (k : ℕ) → length (filled xs list k) ≡ length xs
length-filled xs list zero = refl
length-filled xs list (suc k) = length-set (filled xs list k) k (pair_at list k) ∙ length-filled xs list k

-- The first k names by rising index.
abbrev names_up : ℕ → List ℕ → List ℕ → List MarkId
names_up k ds ns = reverse (names_down k ds ns)

length-names_up : (k : ℕ) (ds ns : List ℕ) → length (names_up k ds ns) ≡ k
length-names_up k ds ns = length-reverse (names_down k ds ns) ∙ down-length (name_at ds ns) k

pub length-marks_of : (list : Listed) → length (marks_of list) ≡ list.count
unfolding marks_of
length-marks_of list = length-names_up list.count list.desks list.numbers

module _ (xs : List CodeId) (list : Listed) where
  abbrev ids : List MarkId
  ids = map id_of xs

  abbrev up : ℕ → List MarkId
  up k = names_up k list.desks list.numbers

  pub filled-names : (k : ℕ) → k ≤ length xs → map id_of (filled xs list k) ≡ up k ++ drop k ids
  filled-names zero h = refl
  filled-names (suc k) h =
      let d = id_of (pair_at list k) in
      let within : k < length ids = rw length-map h in
      map-set id_of (filled xs list k) k (pair_at list k)
      ∙ rw (filled-names k (omega arith), drop-cons ids k d within, set_at (up k) _ (drop (suc k) ids) d k (length-names_up k list.desks list.numbers), reverse-cons, append_assoc)

  pub filled_gives : {A : Type 0} (a : A) → list.count ≤ length xs → map id_of (filled xs list list.count) ≡ over_if (gives a) (marks_of list) ids
  unfolding marks_of
  filled_gives a h = rw length-marks_of (filled-names list.count h)

  -- What is left in the lent run, whatever the answer.
  pub filled_over : {A : Type 0} (a : Answer A) (names : List MarkId) → ListsIf a names list → list.count ≤ length xs → map id_of (filled xs list list.count) ≡ over_if a names ids
  filled_over (gives a) names e h = rw (← e) (filled_gives a h)
  filled_over (refused c) names e h = rw e
