-- The kept rows after one more execution. Assumes nothing; no width is computed.
use Prim.Native.Nat.{◌+◌, ◌-◌, ◌<◌, ◌≤◌, suc, ℕ}
use lib.Dec.{T_not, eqb, eqb→eq}
use lib.ListN.{get_or, length, length-set, set}
use lib.Seq.{get_or-set_other, get_or-set_same}
use mathlib.Core.Bool.{Bool, false, true}
use mathlib.Core.List.{List, [], ◌∷◌}
use mathlib.Core.Logic.{inl, inr}
use mathlib.Core.Path.{◌∙◌, ◌≡◌, ap, refl, sym}
use native.Mathlib.Omega.{arith}
use Rattle.frame.specs.Names.{MarkId}
use Rattle.causality.specs.Marks.{places, tally}
use Rattle.causality.specs.State.{Mark, ids}
use Rattle.causality.proofs.Logic.{T→eq, nT→eq, split}
use Rattle.causality.specs.inner.Order.{Strict, CausallyOrdered}
use Rattle.causality.specs.inner.Passes.{row_of}
use Rattle.rows.specs.View.{width}
use Rattle.executed.specs.inner.Rows.{Chained, Rows, last_in, turned}
use Rattle.rows.proofs.Columns.{eq→eqb}
use Rattle.executed.proofs.HeadRow.{head_row-step}

tally-step : (m : Mark) (older : List Mark) → CausallyOrdered (m ∷ older) → (d : ℕ) → tally d (ids (m ∷ older)) ≡ elim (eqb d m.id.desk) [ true ↦ m.id.number | false ↦ tally d (ids older) ]
tally-step m older s d = go (eqb d m.id.desk) refl
  where
    go : (b : Bool) → eqb d m.id.desk ≡ b → ◌≡◌ {A = ℕ} (elim b [ true ↦ suc (tally d (ids older)) | false ↦ tally d (ids older) ]) (elim b [ true ↦ m.id.number | false ↦ tally d (ids older) ])
    go true e = ap (λ (k : ℕ). suc (tally k (ids older))) (eqb→eq d m.id.desk (rw e tt)) ∙ sym s.0.next
    go false e = refl

pub ids-length : (l : List Mark) → length (ids l) ≡ length l
ids-length [] = refl
ids-length (m ∷ l) = ap suc (ids-length l)

-- A row with one desk's count set.
pub set_desk : (n e v : ℕ) (xs : List ℕ) (f : ℕ → ℕ) → length xs ≡ n → 1 ≤ e → e ≤ n → ((j : ℕ) → j < n → get_or xs j 0 ≡ f j)
    → (j : ℕ) → j < n → get_or (set xs (e - 1) v) j 0 ≡ elim (eqb (suc j) e) [ true ↦ v | false ↦ f j ]
set_desk n e v xs f len p q g j l = elim (split (eqb (suc j) e)) [
  | inl t ↦ rw (T→eq (eqb (suc j) e) t)
      (let s : suc j ≡ e = eqb→eq (suc j) e t in let z : j ≡ e - 1 = omega arith in ap (λ (k : ℕ). get_or (set xs (e - 1) v) k 0) z ∙ get_or-set_same xs (e - 1) v 0 (omega arith))
  | inr t ↦ rw (nT→eq (eqb (suc j) e) t) (get_or-set_other xs (e - 1) j v 0 (λ z. let s : suc j ≡ e = omega arith in T_not (eqb (suc j) e) t (eq→eqb (suc j) e s)) ∙ g j l)
]

-- The chain below a place does not see that place.
chained_below : (is : List MarkId) (bf bf' : List ℕ) → ((p : ℕ) → p < length is → get_or bf' p 0 ≡ get_or bf p 0) → Chained is bf → Chained is bf'
chained_below [] bf bf' f c = tt
chained_below (i ∷ is) bf bf' f c = (f (length is) (omega arith) ∙ c.0, chained_below is bf bf' (λ p l. f p (omega arith)) c.1)

module _ (m : Mark) (l : List Mark) (s : CausallyOrdered (m ∷ l)) (strict : Strict m.stamp) (low : 1 ≤ m.id.desk) (high : m.id.desk ≤ width) where
  module _ (row ts hs ls bf hs' : List ℕ) (r : Rows l ts hs ls bf) (room : length (ids l) < places)
      (stamp : (j : ℕ) → j < width → row_of m.stamp (suc j) ≡ get_or row j 0) (long : length hs' ≡ width)
      (turn : (j : ℕ) → j < width → get_or hs' j 0 ≡ turned m.id.desk m.id.number (get_or row j 0) (suc j) (get_or hs j 0)) where
    pub rows_step : Rows (m ∷ l) (set ts (m.id.desk - 1) m.id.number) hs' (set ls (m.id.desk - 1) (length (ids l) + 1)) (set bf (length (ids l)) (get_or ls (m.id.desk - 1) 0))
    rows_step = record {
      long_tally = length-set ts (m.id.desk - 1) m.id.number ∙ r.long_tally;
      long_heads = long;
      long_last = length-set ls (m.id.desk - 1) (length (ids l) + 1) ∙ r.long_last;
      tally = λ j q. set_desk width m.id.desk m.id.number ts (λ k. tally (suc k) (ids l)) r.long_tally low high r.tally j q ∙ sym (tally-step m l s (suc j));
      heads = λ j q. let a = sym (stamp j q) in let b = r.heads j q in turn j q ∙ (λ i. turned m.id.desk m.id.number (a i) (suc j) (b i)) ∙ sym (head_row-step m l s strict (suc j));
      last = λ j q. set_desk width m.id.desk (length (ids l) + 1) ls (λ k. last_in (suc k) (ids l)) r.long_last low high r.last j q ∙ one (eqb (suc j) m.id.desk) (last_in (suc j) (ids l)) (length (ids l));
      before = (
        get_or-set_same bf (length (ids l)) (get_or ls (m.id.desk - 1) 0) 0 (let z = r.unused.long in omega arith) ∙ prior,
        chained_below (ids l) bf (set bf (length (ids l)) (get_or ls (m.id.desk - 1) 0)) (λ p q. get_or-set_other bf (length (ids l)) p (get_or ls (m.id.desk - 1) 0) 0 (λ z. omega arith)) r.before,
      );
      unused = record {
        long = length-set bf (length (ids l)) (get_or ls (m.id.desk - 1) 0) ∙ r.unused.long;
        zeros = λ p q. get_or-set_other bf (length (ids l)) p (get_or ls (m.id.desk - 1) 0) 0 (λ z. omega arith) ∙ r.unused.zeros p (omega arith);
      };
    }
      where
        one : (b : Bool) (x y : ℕ) → ◌≡◌ {A = ℕ} (elim b [ true ↦ y + 1 | false ↦ x ]) (elim b [ true ↦ suc y | false ↦ x ])
        one true x y = omega arith
        one false x y = refl

        prior : get_or ls (m.id.desk - 1) 0 ≡ last_in m.id.desk (ids l)
        prior = let z : suc (m.id.desk - 1) ≡ m.id.desk = omega arith in r.last (m.id.desk - 1) (omega arith) ∙ ap (λ (k : ℕ). last_in k (ids l)) z
