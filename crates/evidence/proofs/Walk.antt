-- The walk back from the later mark to the earlier one: what is listed on the way. Assumes nothing.
use Prim.Native.Nat.{◌+◌, ◌<◌, ◌≤◌, ℕ}
use lib.Dec.{T}
use mathlib.Core.List.{List, [], ◌++◌, ◌∷◌, append_assoc, append-nil, reverse, reverse-cons}
use mathlib.Core.Path.{◌∙◌, ◌≡◌, ap, sym}
use native.Mathlib.Omega.{arith}
use Rattle.std.proofs.Common.{Option, Some, None, unwrap_or}
use Rattle.frame.specs.Names.{MarkId}
use Rattle.causality.specs.declared.Place.{Place}
use Rattle.causality.specs.Evidence.{going_back}
use Rattle.causality.specs.Marks.{places}
use Rattle.causality.specs.State.{Mark}
use Rattle.pairs.specs.Pairs.{Spare}
use Rattle.pairs.specs.declared.Listed.{Listed}
use Rattle.pairs.proofs.Longer.{longer, longer-names, longer_spare}
use Rattle.queries.specs.inner.Lent.{OfMarks}
use Rattle.rows.specs.declared.Executed.{Executed}
use Rattle.rows.specs.Executed.{marks_with}
use Rattle.rows.specs.View.{names_down}
use Rattle.concurrent.specs.inner.Steps.{Tells, is_or_follows}
use Rattle.evidence.specs.inner.Steps.{GoneBack, SteppedBack, SteppedTo, name}
use Rattle.evidence.proofs.Chains.{back_end, follows-later}

module _ (executed : Executed) (p q : ℕ) where
  abbrev back : List Mark → ℕ → List MarkId
  back l r = reverse (going_back l (name executed p) (name executed r))

  abbrev names : Listed → List MarkId
  names list = names_down list.count list.desks list.numbers

  -- Down to place `at` the marks of the chain are listed.
  pub record WalkedTo (list : Listed) (at : ℕ) : Type 0 where
    pub small : list.count + at ≤ q
    pub spare : Spare list
    pub listed : (count : ℕ) → q < count → OfMarks count executed (λ l. T (is_or_follows l (name executed p) (name executed q))
        → T (is_or_follows l (name executed p) (name executed at)) × (back l q ≡ back l at ++ names list))

  pub walk_starts : (list : Listed) → list.count ≡ 0 → Spare list → WalkedTo list q
  walk_starts list e spare = record {
    small = omega arith;
    spare = spare;
    listed = λ count h bs s t.
        let l = marks_with bs count executed in
        (t, sym (ap (λ (k : ℕ). back l q ++ names_down k list.desks list.numbers) e ∙ append-nil (back l q)));
  }

  module _ (list : Listed) (at : ℕ) (w : WalkedTo list at) (few : q < places) where
    -- The mark at a place is listed behind the others.
    abbrev listing : ℕ → Listed
    listing r = longer list (name executed r).desk (name executed r).number

    more : (r : ℕ) → names (listing r) ≡ name executed r ∷ names list
    more r = let h = w.small in longer-names list w.spare (name executed r).desk (name executed r).number (omega arith)

    pub walk_turn : (first : List ℕ) → p < at → Tells executed p (q + 1) first → (r : ℕ) → SteppedTo executed first at r → WalkedTo (listing at) r
    walk_turn first lo tells r b =
        let h = w.small in
        let less = b.less in
        record {
          small = omega arith;
          spare = longer_spare list w.spare (name executed at).desk (name executed at).number;
          listed = λ count k bs s t.
              let l = marks_with bs count executed in
              let x = w.listed count k bs s t in
              let y = b.towards p (q + 1) lo (omega arith) tells count (omega arith) bs s x.0 in (
                y.0,
                x.1 ∙ ap (λ (g : List MarkId). reverse g ++ names list) y.1 ∙ ap (λ (g : List MarkId). g ++ names list) (reverse-cons (name executed at) (going_back l (name executed p) (name executed r)))
                    ∙ append_assoc (back l r) (name executed at ∷ []) (names list) ∙ ap (λ (g : List MarkId). back l r ++ g) (sym (more at)),
              );
        }

    -- The next place is p where there is no chain, so that the walk ends.
    pub walk_back : (first : List ℕ) (e : Place) → p ≡ e.0 → p < at → Tells executed p (q + 1) first → (r : Option Place) → SteppedBack executed first at r
        → WalkedTo (listing at) (unwrap_or r e).0
    walk_back first e i lo tells (Some r) b = walk_turn first lo tells r.0 b
    walk_back first e i lo tells None b =
        let h = w.small in
        record {
          small = omega arith;
          spare = longer_spare list w.spare (name executed at).desk (name executed at).number;
          listed = λ count k bs s t. absurd (b p (q + 1) lo (omega arith) tells count (omega arith) bs s (w.listed count k bs s t).0);
        }

    pub walk_ends : at ≤ p → p ≤ q → GoneBack executed p q (listing p)
    walk_ends hi lo =
        let h = w.small in
        record {
          few = omega arith;
          spare = longer_spare list w.spare (name executed p).desk (name executed p).number;
          names = λ count k bs s t.
              let l = marks_with bs count executed in
              let x = w.listed count k bs s t in
              let z = follows-later executed bs count s p at (omega arith) x.0 in
              let e : at ≡ p = omega arith in
              more p ∙ sym (x.1 ∙ ap (λ (r : ℕ). back l r ++ names list) e ∙ ap (λ (g : List MarkId). reverse g ++ names list) (back_end executed bs count s p (omega arith)));
        }
