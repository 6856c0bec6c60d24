-- The search by halving: which numbers are left after each ask, and in how many turns none is. Assumes nothing.
use Prim.Native.Nat.{◌+◌, ◌-◌, ◌/◌, ◌<◌, ◌≤◌, min, suc, zero, ℕ}
use borrow.Author.Tests.{le-leb, le-ltb, leb-false, leb-true, lt-leb, lt-ltb}
use lib.Dec.{leb}
use lib.ListN.{get_or, length}
use mathlib.Core.Bool.{Bool, false, true}
use mathlib.Core.List.{List, []}
use mathlib.Core.Path.{◌∙◌, ◌≡◌, ap, refl, sym}
use native.Mathlib.Omega.{arith}
use Rattle.causality.specs.Marks.{places, tally}
use Rattle.causality.specs.State.{Mark}
use Rattle.causality.specs.inner.Order.{CausallyOrdered}
use Rattle.causality.proofs.RowLaws.{under_up}
use Rattle.rows.specs.declared.Executed.{Executed}
use Rattle.rows.specs.Executed.{marks_with}
use Rattle.rows.specs.View.{Carried, name_at, names_down, row_at, view, width}
use Rattle.rows.specs.inner.Slots.{Named, row_fn}
use Rattle.rows.proofs.Arrays.{sound_below}
use Rattle.rows.proofs.RowSteps.{named-less}
use Rattle.halving.specs.Halving.{halving, middle, most_asks}
use Rattle.queries.specs.inner.Steps.{AskedOf}
use Rattle.halving.specs.inner.Steps.{SearchedOf, number_precedes}
use Rattle.queries.proofs.Asking.{asked-reaches, asked-told}
use Rattle.causality.proofs.Lists.{tally_few}
use Rattle.queries.proofs.PastRow.{reached_counts}
use Rattle.queries.proofs.Reaching.{reached}
use Rattle.rows.proofs.Down.{down-length}

-- 2 to the n: n turns are enough for fewer numbers.
abbrev pub power : ℕ → ℕ
power zero = 1
power (suc n) = power n + power n

module _ (passes : ℕ → Bool) where
  -- One turn.
  turn-passed : (n low high : ℕ) → low < high → passes (middle low high) ≡ true → length (halving passes (suc n) low high) ≡ suc (length (halving passes n (middle low high) high))
  turn-passed n low high h e = rw (lt-ltb low high h, halving) (rw e refl)

  turn_failed : (n low high : ℕ) → low < high → passes (middle low high) ≡ false → length (halving passes (suc n) low high) ≡ suc (length (halving passes n low (middle low high - 1)))
  turn_failed n low high h e = rw (lt-ltb low high h, halving) (rw e refl)

  no_turn : (n low high : ℕ) → high ≤ low → length (halving passes n low high) ≡ 0
  no_turn zero low high h = refl
  no_turn (suc n) low high h = rw (le-ltb low high h, halving) refl

-- The first k marks, which carry beside their names and stamps what bs says; and what a row reaches at desk d from them.
abbrev pub view_to : Executed → (ℕ → Carried) → ℕ → List Mark
view_to e bs k = view width k e.desks e.numbers bs e.stamps

abbrev pub reached_to : Executed → (ℕ → Carried) → ℕ → List ℕ → ℕ → ℕ
reached_to e bs k row d = reached width e.desks e.numbers bs e.stamps k row d

-- Asks there were, and those that halving still takes in some turns, are as many as it takes in all.
abbrev AsMany : Executed → List ℕ → ℕ → ℕ → ℕ → ℕ → ℕ → ℕ → ℕ → Type 0
AsMany e start p d t asks turns low high = (bs : ℕ → Carried) (passes : ℕ → Bool) → CausallyOrdered (view_to e bs p)
    → ((k : ℕ) → 1 ≤ k → passes k ≡ leb k (reached_to e bs p start d))
    → length (halving passes most_asks (min (row_fn start d) t) t) ≡ asks + length (halving passes turns low high)

-- The search of desk d's first t marks from the row of the mark at place p, after some asks: the row has been followed down to a place; marks up to
-- `low` precede, those above `high` are apart; so many turns are left, and are enough.
pub record Halved (e : Executed) (start : List ℕ) (p d t : ℕ) (row : List ℕ) (at low high asks : ℕ) : Type 0 where
  pub long : length row ≡ width
  pub less : at ≤ p
  pub reaches : (bs : ℕ → Carried) → reached_to e bs at row d ≡ reached_to e bs p start d
  pub sides : (low ≤ high) × (high ≤ t)
  pub precede : (bs : ℕ → Carried) → low ≤ reached_to e bs p start d
  pub apart : (bs : ℕ → Carried) → CausallyOrdered (view_to e bs p) → min t (reached_to e bs p start d) ≤ high
  pub turns : ℕ
  pub all_turns : asks + turns ≡ most_asks
  pub enough : high - low < power turns
  pub asked : AsMany e start p d t asks turns low high

module _ (e : Executed) (start : List ℕ) (p d t : ℕ) where
  pub halved_start : length start ≡ width → p < places → t ≡ tally d (names_down p e.desks e.numbers) → Halved e start p d t start p (min (row_fn start d) t) t 0
  halved_start l h made = record {
    long = l;
    less = omega arith;
    reaches = λ bs. refl;
    sides = (omega arith, omega arith);
    precede = λ bs. let u = under_up (view_to e bs p) (λ d. 0) (row_fn start) d in omega arith;
    apart = λ bs s. omega arith;
    turns = most_asks;
    all_turns = refl;
    enough = omega (arith, tally_few d (names_down p e.desks e.numbers), down-length (name_at e.desks e.numbers) p);
    asked = λ bs passes s f. omega arith;
  }

  module _ (row : List ℕ) (at low high asks : ℕ) (w : Halved e start p d t row at low high asks) where
    pub few_asks : asks ≤ most_asks
    few_asks = let m = w.all_turns in omega arith

    module _ (h : low < high) where
      -- A turn is left.
      record Turn : Type 0 where
        next : ℕ
        all_turns : suc asks + next ≡ most_asks
        enough : high - low < power next + power next
        asked : AsMany e start p d t asks (suc next) low high

      turn : Turn
      turn = go w.turns w.all_turns w.enough w.asked
        where
          go : (n : ℕ) → asks + n ≡ most_asks → high - low < power n → AsMany e start p d t asks n low high → Turn
          go zero m b f = let z : ⊥ = omega arith in absurd z
          go (suc n) m b f = record { next = n; all_turns = omega arith; enough = b; asked = f }

      pub fewer_asks : asks < most_asks
      fewer_asks = let m = turn.all_turns in omega arith

      -- The middle number has been asked about, which is one ask more.
      module _ (f : Named width p e.desks) (lo : 1 ≤ d) (hi : d ≤ width) (more : ℕ) (one : more ≡ suc asks) (after : List ℕ) (made r : ℕ)
          (a : AskedOf e row at (record { desk = d; number = middle low high }) after made r) where
        here : Named width at e.desks
        here = named-less width p e.desks at f w.less

        reached_on : (bs : ℕ → Carried) → reached_to e bs r after d ≡ reached_to e bs p start d
        reached_on bs = asked-reaches e row at (record { desk = d; number = middle low high }) here lo hi after made r a bs ∙ w.reaches bs

        told : (bs : ℕ → Carried) → CausallyOrdered (view_to e bs p) → leb (middle low high) (row_fn after d) ≡ leb (middle low high) (reached_to e bs p start d)
        told bs s = asked-told e row at (record { desk = d; number = middle low high }) here lo hi after made r a bs (sound_below width p e.desks e.numbers bs e.stamps s at w.less)
            ∙ ap (leb (middle low high)) (w.reaches bs)

        -- What stays, where the numbers between x and y are left, at most half of those before.
        halved_on : (x y : ℕ) → (x ≤ y) × (y ≤ t) → y - x ≤ (high - low) / 2 → ((bs : ℕ → Carried) → x ≤ reached_to e bs p start d)
            → ((bs : ℕ → Carried) → CausallyOrdered (view_to e bs p) → min t (reached_to e bs p start d) ≤ y)
            → ((passes : ℕ → Bool) → passes (middle low high) ≡ leb (middle low high) (row_fn after d) → length (halving passes (suc turn.next) low high) ≡ suc (length (halving passes turn.next x y)))
            → Halved e start p d t after r x y more
        halved_on x y o half precede apart one-turn =
            let z = turn in
            let n = z.all_turns in
            let b = z.enough in
            let l = w.less in
            let m = a.less in
            record {
              long = a.long;
              less = omega arith;
              reaches = reached_on;
              sides = o;
              precede = precede;
              apart = apart;
              turns = z.next;
              all_turns = omega arith;
              enough = omega arith;
              asked = λ bs passes s g. let q = one-turn passes (g (middle low high) (omega arith) ∙ sym (told bs s)) in let v = z.asked bs passes s g in omega arith;
            }

        pub halved_low : middle low high ≤ row_fn after d → Halved e start p d t after r (middle low high) high more
        halved_low c = let o = w.sides in halved_on (middle low high) high (omega arith, omega arith) (omega arith)
            (λ bs. let u = under_up (view_to e bs r) (λ d. 0) (row_fn after) d in let n = reached_on bs in omega arith) w.apart
            (λ passes n. turn-passed passes turn.next low high h (n ∙ le-leb (middle low high) (row_fn after d) c))

        pub halved_high : row_fn after d < middle low high → Halved e start p d t after r low (middle low high - 1) more
        halved_high c = let o = w.sides in halved_on low (middle low high - 1) (omega arith, omega arith) (omega arith) w.precede
            (λ bs s. let u = leb-false (middle low high) (reached_to e bs p start d) (sym (told bs s) ∙ lt-leb (middle low high) (row_fn after d) c) in omega arith)
            (λ passes n. turn_failed passes turn.next low high h (n ∙ lt-leb (middle low high) (row_fn after d) c))

    -- No number is left.
    module _ (h : high ≤ low) (f : Named width p e.desks) (lo : 1 ≤ d) (hi : d ≤ width) (er : (j : ℕ) → j < width → get_or start j 0 ≡ get_or (get_or e.stamps p []) j 0) where
      counts : (count : ℕ) (bs : ℕ → Carried) → p < count → CausallyOrdered (marks_with bs count e) → (k : ℕ) → 1 ≤ k
          → number_precedes count e bs p d k ≡ leb k (reached_to e bs p start d)
      counts count bs l s k pos = reached_counts width e.desks e.numbers bs e.stamps count p l f s start er (record { desk = d; number = k }) lo hi pos

      entry : row_fn start d ≡ row_at e.stamps p d
      entry = er (d - 1) (omega arith)

      pub halved_end : SearchedOf e p d t (record { precede = low; asks = asks })
      halved_end = let o = w.sides in record {
        few = omega arith;
        run = λ count bs l s k pos few. counts count bs l s k pos
            ∙ up_to (reached_to e bs p start d) k few (w.precede bs) (w.apart bs (sound_below width count e.desks e.numbers bs e.stamps s p (omega arith)));
        asks = λ count bs l s.
            let v = rw entry at (w.asked bs (number_precedes count e bs p d) (sound_below width count e.desks e.numbers bs e.stamps s p (omega arith)) (counts count bs l s)) in
            let z = no_turn (number_precedes count e bs p d) w.turns low high h in
            omega arith;
      }
        where
          up_to : (R k : ℕ) → k ≤ t → low ≤ R → min t R ≤ high → leb k R ≡ leb k low
          up_to R k few x y = go (leb k low) refl
            where
              go : (b : Bool) → leb k low ≡ b → leb k R ≡ b
              go true n = let u = leb-true k low n in le-leb k R (omega arith)
              go false n = let u = leb-false k low n in lt-leb k R (omega arith)
