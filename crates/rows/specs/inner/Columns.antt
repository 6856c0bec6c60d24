-- The columns of marks, newest first: what stands at each of n places. That columns are those of their marks is proved. Inner: need not be believed.
use Rattle.std.specs.Prelude.{true, false, List, [], ◌∷◌, ℕ, zero, suc, eqb, length}
use Rattle.frame.specs.Names.{MarkId}
use Rattle.frame.specs.declared.MarkBox.{MarkBox}
use Rattle.frame.specs.declared.Past.{Past}
use Rattle.frame.specs.declared.Past.TheVariants.{Unsaid, Said}
use Rattle.causality.specs.State.{Mark}
use Rattle.causality.specs.inner.Passes.{row_of}
use Rattle.rows.specs.View.{no_box, width}

-- f 0, f 1, ..: n of them.
unfoldable pub tabled : {A : Type 0} → ℕ → (ℕ → A) → List A
tabled zero f = []
tabled (suc n) f = f 0 ∷ tabled n (λ p. f (suc p))

-- What a mark has at its place; d where no mark stands.
abbrev pub slot : {A : Type 0} → A → (Mark → A) → List Mark → ℕ → A
slot d f [] p = d
slot d f (m ∷ older) p = elim (eqb p (length older)) [ true ↦ f m | false ↦ slot d f older p ]

-- The number that stands for a past, and the row of a stamp.
abbrev pub past_code : Past → ℕ
past_code Unsaid = 0
past_code (Said n) = suc n

abbrev pub counts_of : List MarkId → List ℕ
counts_of es = tabled width (λ j. row_of es (suc j))

abbrev pub desks_of : ℕ → List Mark → List ℕ
desks_of n l = tabled n (slot 0 (λ m. m.id.desk) l)

abbrev pub numbers_of : ℕ → List Mark → List ℕ
numbers_of n l = tabled n (slot 0 (λ m. m.id.number) l)

abbrev pub boxes_of : ℕ → List Mark → List MarkBox
boxes_of n l = tabled n (slot no_box (λ m. m.extent) l)

abbrev pub pasts_of : ℕ → List Mark → List ℕ
pasts_of n l = tabled n (slot 0 (λ m. past_code m.past) l)

abbrev pub stamps_of : ℕ → List Mark → List (List ℕ)
stamps_of n l = tabled n (slot (counts_of []) (λ m. counts_of m.stamp) l)
