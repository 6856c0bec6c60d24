-- Five marks of three desks by causal precedence and their vectors, computed; and that what the wrong readings of must-fail/ claim does not hold there. Assumes nothing.
use Prim.Native.Nat.{ℕ}
use lib.Dec.{T}
use lib.ListN.{replicate}
use mathlib.Core.List.{List, [], ◌∷◌}
use mathlib.Core.Logic.{◌↔◌, inl, inr}
use mathlib.Core.Path.{subst}
use Rattle.frame.specs.Names.{MarkId, box_rule, desks, is_desk}
use Rattle.causality.specs.Marks.{All, all, has, same}
use Rattle.causality.proofs.Logic.{and_yes, or_yes, same→eq}
use Rattle.history.specs.Paper.{Chain, IsVector, Links, PaperOver, Precedes, link, onward}
use Rattle.history.specs.Plain.{frame_size, hand_over, is_last, last_of_past, leave_out, lists_full, making_by, new_made, past_listed}
use Rattle.history.specs.Run.{Step, at_desk, handing, marking}
use Rattle.history.specs.Silent.{listed_at}
use Rattle.history.proofs.Paper.{paper}

abbrev o : ℕ → ℕ → MarkId
o d n = record { desk = d; number = n }

abbrev marks : ℕ → Step
marks d = marking d (record { start = 1_000; end = 1_500; low = 100; high = 400 }) (replicate 73 0)

abbrev hands : ℕ → ℕ → ℕ → Step
hands d e n = handing d (o e n) 0

-- 1.1, 2.1, 3.1 and 3.2 are made; 2.1 and 3.1 come to desk 1, which makes 1.2; 1.1, 3.1 and 1.2 come to desk 2, which makes 2.2.
abbrev figure : List Step
figure = marks 2 ∷ hands 2 1 2 ∷ hands 2 3 1 ∷ hands 2 1 1 ∷ marks 1 ∷ hands 1 3 1 ∷ hands 1 2 1 ∷ marks 3 ∷ marks 3 ∷ marks 2 ∷ marks 1 ∷ []

-- Just these marks precede b, and just those directly.
pub record Depends (b : MarkId) (on directly : List MarkId) : Type 0 where
  pub before : (a : MarkId) → Precedes figure a b ↔ T (has a on)
  pub vector : IsVector figure b directly

pub record Figure1 : Type 0 where
  -- No mark precedes 1.1, 2.1 or 3.1.
  pub o11 : Depends (o 1 1) [] []
  pub o21 : Depends (o 2 1) [] []
  pub o31 : Depends (o 3 1) [] []
  -- 1.2 has three marks before it.
  pub o12 : Depends (o 1 2) (o 3 1 ∷ o 2 1 ∷ o 1 1 ∷ []) (o 1 1 ∷ o 2 1 ∷ o 3 1 ∷ [])
  -- 2.2 has four.
  pub o22 : Depends (o 2 2) (o 1 2 ∷ o 3 1 ∷ o 1 1 ∷ o 2 1 ∷ []) (o 1 2 ∷ [])
  -- 3.2 has one, and its vector is [(3, 1)], the desk first.
  pub o32 : Depends (o 3 2) (o 3 1 ∷ []) (o 3 1 ∷ [])

each : (s : List Step) → T (all (at_desk desks) s) → All (λ t. T (at_desk desks t)) s
each [] t = tt
each (x ∷ s) t = ((and_yes (at_desk desks x) (all (at_desk desks) s) t).0, each s (and_yes (at_desk desks x) (all (at_desk desks) s) t).1)

at : All (λ t. T (at_desk desks t)) figure
unfolding is_desk
at = each figure tt

law : PaperOver desks figure
law = paper desks figure at

pub figure_1 : Figure1
unfolding box_rule same leave_out lists_full past_listed is_last frame_size new_made making_by hand_over last_of_past
figure_1 = record {
  o11 = record { before = λ a. law.definition_1 a (o 1 1); vector = law.definition_4 (o 1 1) };
  o21 = record { before = λ a. law.definition_1 a (o 2 1); vector = law.definition_4 (o 2 1) };
  o31 = record { before = λ a. law.definition_1 a (o 3 1); vector = law.definition_4 (o 3 1) };
  o12 = record { before = λ a. law.definition_1 a (o 1 2); vector = law.definition_4 (o 1 2) };
  o22 = record { before = λ a. law.definition_1 a (o 2 2); vector = law.definition_4 (o 2 2) };
  o32 = record { before = λ a. law.definition_1 a (o 3 2); vector = law.definition_4 (o 3 2) };
}

-- WHAT THE WRONG READINGS CLAIM

-- 1.2, which is between 1.1 and 2.2, is not in it.
abbrev Gap : MarkId → Type 0
Gap i = T (has i (o 1 1 ∷ o 2 2 ∷ []))

pub record Needed : Type 0 where
  -- Causal precedence, of different desks: 2.1 was executed at desk 1, though after 1.1 was made.
  pub executed-later : T (has (o 2 1) (listed_at figure 1)) × ¬ Precedes figure (o 2 1) (o 1 1)
  -- Causal precedence, of one desk: 1.1 and 1.2 were both made at desk 1.
  pub generated_later : Precedes figure (o 1 1) (o 1 2) × ¬ Precedes figure (o 1 2) (o 1 1)
  -- Direct precedence: 1.1 precedes 2.2, though not directly, so the vector leaves it out.
  pub between : Precedes figure (o 1 1) (o 2 2) × ¬ Links figure (o 1 1) (o 2 2)
  -- Uninterrupted sets: no chain in a set with a gap goes from 1.1 to 2.2.
  pub interrupted : ¬ Chain figure Gap (o 1 1) (o 2 2)

pub needed : Needed
unfolding box_rule same leave_out lists_full past_listed is_last frame_size new_made making_by hand_over
needed = record {
  executed-later = (tt, (law.definition_1 (o 2 1) (o 1 1)).0);
  generated_later = ((law.definition_1 (o 1 1) (o 1 2)).1 tt, (law.definition_1 (o 1 2) (o 1 1)).0);
  between = ((law.definition_1 (o 1 1) (o 2 2)).1 tt, far);
  interrupted = none;
}
  where
    far : ¬ Links figure (o 1 1) (o 2 2)
    far l = l.none_between (o 1 2) ((law.definition_1 (o 1 1) (o 1 2)).1 tt) ((law.definition_1 (o 1 2) (o 2 2)).1 tt)

    ends : (x : MarkId) → Gap x → ¬ Links figure x (o 2 2)
    ends x t l = elim (or_yes (same x (o 1 1)) (has x (o 2 2 ∷ [])) t) [
      | inl e ↦ far (subst (λ (i : MarkId). Links figure i (o 2 2)) (same→eq x (o 1 1) e) l)
      | inr n ↦ elim (or_yes (same x (o 2 2)) (has x []) n) [
        | inl e ↦ (law.definition_1 (o 2 2) (o 2 2)).0 (subst (λ (i : MarkId). Precedes figure i (o 2 2)) (same→eq x (o 2 2) e) l.precede)
        | inr e ↦ e
      ]
    ]

    none : ¬ Chain figure Gap (o 1 1) (o 2 2)
    none (link l) = far l
    none (onward x c t l) = ends x t l
