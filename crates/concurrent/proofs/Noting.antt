-- The row of first followers, noted from the mark's own place on. Assumes nothing.
use Prim.Native.Nat.{◌+◌, ◌-◌, ◌<◌, ◌≤◌, suc, zero, ℕ}
use lib.Dec.{leb, ltb, ltb→lt}
use lib.ListN.{get_or, length, replicate, set}
use mathlib.Core.Bool.{◌&&◌, false, true}
use mathlib.Core.List.{List}
use mathlib.Core.Path.{◌∙◌, ◌≡◌, ap, refl, subst, sym}
use native.Mathlib.Numerals.{add-one, sub-one}
use native.Mathlib.Omega.{arith}
use Rattle.frame.specs.Names.{MarkId}
use Rattle.causality.proofs.Apart.{follower_row}
use Rattle.causality.specs.inner.Order.{CausallyOrdered}
use Rattle.predecessors.proofs.OldestLaws.{names-one-more, names_in, one}
use Rattle.rows.specs.declared.Executed.{Executed}
use Rattle.rows.specs.Executed.{marks_with}
use Rattle.rows.specs.View.{Carried, name_at, width}
use Rattle.rows.specs.inner.Slots.{Named, row_fn}
use Rattle.rows.proofs.Arrays.{follows_below, sound_below}
use Rattle.rows.proofs.Places.{ids-names, name-place}
use Rattle.rows.proofs.RowSteps.{named-at}
use Rattle.rows.proofs.Slots.{zeros}
use Rattle.concurrent.proofs.Followers.{Noted, none_before, note_behind, note_new, note_none, noted-none}
use Rattle.concurrent.specs.inner.Steps.{Tells, is_or_follows, is_or_names}
use Rattle.concurrent.proofs.ByPlaces.{follows_there}
use Rattle.causality.proofs.Upto.{count-all, sum_zero}

-- HOW MANY DESKS HAVE ONE

names-none : (n : ℕ) → names_in n (replicate n 0) ≡ 0
names-none n = sum_zero n (one (replicate n 0)) (λ d. rw (zeros n (d - 1)) refl)

-- Where all have one, each has.
names-all : (k : ℕ) (r : List ℕ) → names_in k r ≡ k → (j : ℕ) → j < k → 0 < get_or r j 0
names-all k r e j h = ltb→lt 0 (get_or r j 0) (rw (sub-one (suc j)) at (count-all k (λ d. ltb 0 (row_fn r d)) e (suc j) (omega arith) h))

-- THE PASS

module _ (executed : Executed) (p q : ℕ) where
  -- Up to place r the followers of the mark at p are noted, and so many desks have one: however many marks there are.
  pub record NotedTo (r : ℕ) (first : List ℕ) (found : ℕ) : Type 0 where
    pub from : p ≤ r
    pub to : r ≤ q
    pub few : found ≤ r
    pub long : length first ≡ width
    pub noted : (count : ℕ) → p < count → q ≤ count → Noted executed count p r first
    pub desks : (count : ℕ) → p < count → q ≤ count → (bs : ℕ → Carried) → CausallyOrdered (marks_with bs count executed) → names_in width first ≡ found

  module _ (h : p ≤ q) (named : Named width q executed.desks) where
    start : (count : ℕ) → p < count → q ≤ count → (r : ℕ) → r ≤ p → Noted executed count p r (replicate width 0)
    start count j k zero l = noted-none executed count p
    start count j k (suc r) l =
        let w = start count j k r (omega arith) in
        subst (λ (x : ℕ). Noted executed count p x (replicate width 0)) (add-one r)
        (note_none executed count p r (replicate width 0) w (omega arith) (omega arith) (λ bs s. none_before executed count p r (replicate width 0) w (omega arith) (omega arith) bs s l))

    pub noting_starts : NotedTo p (replicate width 0) 0
    noting_starts = record {
      from = omega arith;
      to = h;
      few = omega arith;
      long = (start (suc q) (omega arith) (omega arith) p (omega arith)).long;
      noted = λ count j k. start count j k p (omega arith);
      desks = λ count j k bs s. names-none width;
    }

    module _ (r : ℕ) (first : List ℕ) (found : ℕ) (w : NotedTo r first found) (l : r < q) where
      lo : 1 ≤ get_or executed.desks r 0
      lo = (named-at width q executed.desks r named l).0

      hi : get_or executed.desks r 0 ≤ width
      hi = (named-at width q executed.desks r named l).1

      -- The mark is the first follower of its desk; of a desk that has one; none.
      pub noting_new : get_or first (get_or executed.desks r 0 - 1) 0 ≡ 0 → is_or_names first executed.stamps p r ≡ true
          → NotedTo (r + 1) (set first (get_or executed.desks r 0 - 1) (get_or executed.numbers r 0)) (found + 1)
      noting_new z e =
          let f = w.from in
          let g = w.few in
          let x : (count : ℕ) → p < count → q ≤ count → Noted executed count p (r + 1) (set first (get_or executed.desks r 0 - 1) (get_or executed.numbers r 0)) =
          λ count j k. note_new executed count p r first (w.noted count j k) (omega arith) (omega arith) lo hi z e in
          record {
            from = omega arith;
            to = omega arith;
            few = omega arith;
            long = (x (suc q) (omega arith) (omega arith)).long;
            noted = x;
            desks = λ count j k bs s.
                let y = (follows_below width count executed.desks executed.numbers bs executed.stamps s r (omega arith)).next in
                let long = w.long in
                let a = hi in
                let b = lo in
                names-one-more width (get_or executed.desks r 0 - 1) first (get_or executed.numbers r 0) (omega arith) (omega arith) z (omega arith) ∙ ap suc (w.desks count j k bs s) ∙ sym (add-one found);
          }

      pub noting_behind : (get_or first (get_or executed.desks r 0 - 1) 0 ≡ 0 → ⊥) → NotedTo (r + 1) first found
      noting_behind z =
          let f = w.from in
          let g = w.few in
          record { from = omega arith; to = omega arith; few = omega arith; long = w.long; noted = λ count j k. note_behind executed count p r first (w.noted count j k) (omega arith) (omega arith) lo hi z; desks = w.desks }

      pub noting_none : is_or_names first executed.stamps p r ≡ false → NotedTo (r + 1) first found
      noting_none e =
          let f = w.from in
          let g = w.few in
          record { from = omega arith; to = omega arith; few = omega arith; long = w.long; noted = λ count j k. note_none executed count p r first (w.noted count j k) (omega arith) (omega arith) (λ bs s. e); desks = w.desks }

    -- What is noted of all marks before q tells of them.
    told : (first : List ℕ) → length first ≡ width → ((count : ℕ) → p < count → q ≤ count → (bs : ℕ → Carried) → CausallyOrdered (marks_with bs count executed) → Noted executed count p q first) → Tells executed p q first
    told first long f = record {
      long = long;
      tells = λ count j k bs s i t.
          let a = name_at executed.desks executed.numbers p in
          let x = name-place executed.desks executed.numbers q i t in
          let z = named-at width q executed.desks x.0 named x.1 in
          let d = ap (λ (j : MarkId). j.desk) x.2 in
          let e = (f count j k bs s).rows bs s i.desk (omega arith) (omega arith) in
          ap (is_or_follows (marks_with bs count executed) a) (sym x.2) ∙ sym (follows_there width executed.desks executed.numbers bs executed.stamps count s q x.0 (omega arith) x.1 a) ∙ ap (is_or_follows (marks_with bs q executed) a) x.2
          ∙ follower_row (marks_with bs q executed) (sound_below width count executed.desks executed.numbers bs executed.stamps s q (omega arith)) a i (rw (ids-names width executed.desks executed.numbers bs executed.stamps q) t) ∙ (λ j. ltb 0 (sym e j) && leb (sym e j) i.number);
    }

    pub noting_ends : (r : ℕ) (first : List ℕ) (found : ℕ) → NotedTo r first found → q ≤ r → Tells executed p q first
    noting_ends r first found w e =
        let x = w.to in
        let y : r ≡ q = omega arith in
        told first w.long (λ count j k bs s. subst (λ (z : ℕ). Noted executed count p z first) y (w.noted count j k))

    -- Where each desk has a follower the row stays.
    rest : (count : ℕ) → p < count → q ≤ count → (first : List ℕ) → ((j : ℕ) → j < width → 0 < get_or first j 0) → (r d : ℕ) → r + d ≤ q → p ≤ r → Noted executed count p r first → Noted executed count p (r + d) first
    rest count j k first all r zero l o w = let e : r ≡ r + 0 = omega arith in subst (λ (x : ℕ). Noted executed count p x first) e w
    rest count j k first all r (suc d) l o w =
        let e : r + d + 1 ≡ r + suc d = omega arith in
        let x = named-at width q executed.desks (r + d) named (omega arith) in
        let z = all (get_or executed.desks (r + d) 0 - 1) (omega arith) in
        subst (λ (x : ℕ). Noted executed count p x first) e
        (note_behind executed count p (r + d) first (rest count j k first all r d (omega arith) o w) (omega arith) (omega arith) x.0 x.1 (λ y. let v : ⊥ = omega arith in v))

    pub noting_done : (r : ℕ) (first : List ℕ) (found : ℕ) → NotedTo r first found → found ≡ width → Tells executed p q first
    noting_done r first found w e =
        let x = w.to in
        let y : r + (q - r) ≡ q = omega arith in
        told first w.long (λ count j k bs s. subst (λ (z : ℕ). Noted executed count p z first) y
        (rest count j k first (names-all width first (w.desks count j k bs s ∙ e)) r (q - r) (omega arith) w.from (w.noted count j k)))
