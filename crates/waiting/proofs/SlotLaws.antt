-- A slot taken out of columns: what moves, what is freed, and the marks that the columns are then. Assumes nothing.
use Prim.Native.Nat.{◌+◌, ◌-◌, ◌<◌, ◌≤◌, suc, ℕ}
use lib.Dec.{ltb, ltb→lt, nltb→le}
use lib.ListN.{get_or, length, length-replicate, length-set, replicate, set}
use lib.Seq.{get_or-set_other, get_or-set_same}
use mathlib.Core.List.{List, []}
use mathlib.Core.Logic.{◌⊎◌, inl, inr, ⊎_elim}
use mathlib.Core.Path.{◌∙◌, ◌≡◌, ap, sym}
use native.Mathlib.Nat.{eq-or-lt_of_le}
use native.Mathlib.Numerals.{add-one}
use native.Mathlib.Omega.{arith}
use Rattle.std.specs.List.{CopiedTo, SameBelow, SameFrom}
use Rattle.frame.specs.declared.MarkBox.{MarkBox}
use Rattle.causality.specs.Marks.{waiting_places}
use Rattle.causality.proofs.Logic.{split}
use Rattle.causality.specs.State.{Mark}
use Rattle.causality.specs.Rows.{entries_of_row}
use Rattle.rows.specs.View.{Unused, ZeroRows, carried_at, mark_at, no_box, past_from, width}
use Rattle.rows.specs.inner.Slots.{row_fn}
use Rattle.rows.proofs.Slots.{zeros}
use Rattle.waiting.specs.declared.Waiting.{Waiting}
use Rattle.waiting.specs.inner.Steps.{Queued, Removed}
use Rattle.waiting.proofs.ListLaws.{view_taken, view_without}

-- ONE COLUMN

-- The value of slot i is gone: those behind it stand one slot lower, and e stands in the slot that is freed.
pub record Gone {A : Type 0} (e : A) (before after : List A) (i last : ℕ) : Type 0 where
  pub long : length after ≡ length before
  pub below : (p : ℕ) (d : A) → p < i → get_or after p d ≡ get_or before p d
  pub moved : (p : ℕ) (d : A) → i ≤ p → p < last → get_or after p d ≡ get_or before (suc p) d
  pub freed : (d : A) → get_or after last d ≡ e
  pub rest : (p : ℕ) (d : A) → last < p → get_or after p d ≡ get_or before p d

module _ {A : Type 0} (e : A) where
  pub gone : (before mid : List A) (i count last : ℕ) → count ≡ last + 1 → i < count → count ≤ length before → length mid ≡ length before
      → CopiedTo before mid (i + 1) i (count - (i + 1)) → SameBelow before mid i → SameFrom before mid (i + (count - (i + 1))) → Gone e before (set mid last e) i last
  gone before mid i count last one h room long copied below from = record {
    long = length-set mid last e ∙ long;
    below = λ p d l. get_or-set_other mid last p e d (λ z. omega arith) ∙ below p d l;
    moved = λ p d a b. let x : i + 1 + (p - i) ≡ suc p = omega arith in
        get_or-set_other mid last p e d (λ z. omega arith) ∙ copied p d a (omega arith) ∙ ap (λ (q : ℕ). get_or before q d) x;
    freed = λ d. get_or-set_same mid last e d (omega arith);
    rest = λ p d l. get_or-set_other mid last p e d (λ z. omega arith) ∙ from p d (omega arith);
  }

  unused_gone : (before after : List A) (n count i last : ℕ) → count ≡ last + 1 → Unused e before n count → Gone e before after i last → Unused e after n last
  unused_gone before after n count i last one u g = record {
    long = g.long ∙ u.long;
    zeros = λ p l. ⊎_elim (λ q. ap (λ (x : ℕ). get_or after x e) (sym q) ∙ g.freed e) (λ q. g.rest p e q ∙ u.zeros p (omega arith)) (eq-or-lt_of_le {n = last} {m = p} l);
  }

rows_gone : (before after : List (List ℕ)) (n count i last : ℕ) → count ≡ last + 1 → count ≤ n → ZeroRows before n count → Gone (replicate width 0) before after i last → ZeroRows after n last
rows_gone before after n count i last one few u g = record {
  long = g.long ∙ u.long;
  wide = λ p h. wide p h (eq-or-lt_of_le {n = p} {m = last});
  zeros = λ p j l. ⊎_elim (λ q. ap (λ (x : ℕ). get_or (get_or after x []) j 0) (sym q) ∙ ap (λ (r : List ℕ). get_or r j 0) (g.freed []) ∙ zeros width j)
      (λ q. ap (λ (r : List ℕ). get_or r j 0) (g.rest p [] q) ∙ u.zeros p j (omega arith)) (eq-or-lt_of_le {n = last} {m = p} l);
}
  where
    same : (p q : ℕ) → q < n → get_or after p [] ≡ get_or before q [] → length (get_or after p []) ≡ width
    same p q h e = ap length e ∙ u.wide q h

    wide : (p : ℕ) → p < n → (p ≤ last → (p ≡ last) ⊎ (p < last)) → length (get_or after p []) ≡ width
    wide p h f = elim (split (ltb last p)) [
      | inl t ↦ same p p h (g.rest p [] (ltb→lt last p t))
      | inr t ↦ ⊎_elim (λ q. ap (λ (x : ℕ). length (get_or after x [])) q ∙ ap length (g.freed []) ∙ length-replicate {A = ℕ} width 0)
          (λ q. elim (split (ltb p i)) [
            | inl v ↦ same p p h (g.below p [] (ltb→lt p i v))
            | inr v ↦ same p (suc p) (omega arith) (g.moved p [] (nltb→le p i v) q)
          ]) (f (nltb→le last p t))
    ]

-- ALL COLUMNS

module _ (q : Waiting) (i last : ℕ) (ds ns : List ℕ) (bs : List MarkBox) (ps : List ℕ) (ss : List (List ℕ)) (one : q.count ≡ last + 1) (u : Queued q)
    (gd : Gone 0 q.desks ds i last) (gn : Gone 0 q.numbers ns i last) (gb : Gone no_box q.boxes bs i last) (gp : Gone 0 q.pasts ps i last)
    (gs : Gone (replicate width 0) q.stamps ss i last) where
  abbrev mark : ℕ → Mark
  mark p = mark_at width ds ns (carried_at bs ps) ss p

  abbrev was : ℕ → Mark
  was p = mark_at width q.desks q.numbers (carried_at q.boxes q.pasts) q.stamps p

  mark_below : (p : ℕ) → p < i → mark p ≡ was p
  mark_below p l =
      let d = gd.below p 0 l in
      let m = gn.below p 0 l in
      let b = gb.below p no_box l in
      let s = gp.below p 0 l in
      let r = gs.below p [] l in
      λ k. record { id = record { desk = d k; number = m k }; extent = b k; stamp = entries_of_row width (row_fn (r k)); past = past_from (s k) }

  mark_moved : (p : ℕ) → i ≤ p → p < last → mark p ≡ was (suc p)
  mark_moved p a l =
      let d = gd.moved p 0 a l in
      let m = gn.moved p 0 a l in
      let b = gb.moved p no_box a l in
      let s = gp.moved p 0 a l in
      let r = gs.moved p [] a l in
      λ k. record { id = record { desk = d k; number = m k }; extent = b k; stamp = entries_of_row width (row_fn (r k)); past = past_from (s k) }

  pub removed : i < q.count → Removed i q (record { count = last; desks = ds; numbers = ns; boxes = bs; pasts = ps; stamps = ss })
  removed l =
      let f = u.few in
      let s = u.slots in
      let b : i ≤ last = omega arith in
      let v = view_taken width i last q.desks q.numbers (carried_at q.boxes q.pasts) q.stamps ds ns (carried_at bs ps) ss b mark_below mark_moved in
      record {
        one = one;
        queued = record {
          few = omega arith;
          slots = record {
            desks = unused_gone 0 q.desks ds waiting_places q.count i last one s.desks gd;
            numbers = unused_gone 0 q.numbers ns waiting_places q.count i last one s.numbers gn;
            boxes = unused_gone no_box q.boxes bs waiting_places q.count i last one s.boxes gb;
            pasts = unused_gone 0 q.pasts ps waiting_places q.count i last one s.pasts gp;
            stamps = rows_gone q.stamps ss waiting_places q.count i last one f s.stamps gs;
          };
        };
        others = rw (one, add-one last) v;
        marks = rw (one, add-one last) (λ d. v ∙ view_without width i last q.desks q.numbers (carried_at q.boxes q.pasts) q.stamps b d);
      }
