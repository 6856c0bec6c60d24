-- One name more in a list. Assumes nothing.
use Prim.Native.Nat.{◌+◌, ◌<◌, ℕ}
use lib.ListN.{set}
use lib.Seq.{get_or-set_other, get_or-set_same}
use mathlib.Core.List.{◌∷◌}
use mathlib.Core.Path.{◌≡◌}
use native.Mathlib.Numerals.{add-one}
use native.Mathlib.Omega.{arith}
use Rattle.causality.specs.Marks.{places}
use Rattle.pairs.specs.Pairs.{Spare}
pub use Rattle.pairs.specs.Pairs.{longer}
use Rattle.pairs.specs.declared.Listed.{Listed}
use Rattle.rows.specs.View.{name_at, names_down}
use Rattle.rows.proofs.Slots.{zero_one}
use Rattle.rows.proofs.Down.{down_cong}

module _ (list : Listed) (spare : Spare list) (d m : ℕ) where
  pub longer_spare : Spare (longer list d m)
  longer_spare = record { desks = zero_one list.desks places list.count d spare.desks; numbers = zero_one list.numbers places list.count m spare.numbers }

  -- Names before it stay.
  pub longer-kept : (i : ℕ) → i < list.count → name_at (set list.desks list.count d) (set list.numbers list.count m) i ≡ name_at list.desks list.numbers i
  longer-kept i h =
      let e = get_or-set_other list.desks list.count i d 0 (λ x. omega arith) in
      let f = get_or-set_other list.numbers list.count i m 0 (λ x. omega arith) in
      λ k. record { desk = e k; number = f k }

  pub longer-new : list.count < places → name_at (set list.desks list.count d) (set list.numbers list.count m) list.count ≡ record { desk = d; number = m }
  longer-new h =
      let x = spare.desks.long in
      let y = spare.numbers.long in
      let e = get_or-set_same list.desks list.count d 0 (omega arith) in
      let f = get_or-set_same list.numbers list.count m 0 (omega arith) in
      λ k. record { desk = e k; number = f k }

  pub longer-names : list.count < places
      → names_down (list.count + 1) (set list.desks list.count d) (set list.numbers list.count m) ≡ record { desk = d; number = m } ∷ names_down list.count list.desks list.numbers
  longer-names h =
      let e = longer-new h in
      let f = down_cong (name_at (set list.desks list.count d) (set list.numbers list.count m)) (name_at list.desks list.numbers) list.count longer-kept in
      rw (add-one list.count) (λ i. e i ∷ f i)
