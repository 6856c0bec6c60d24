-- The rows that a desk keeps beside its executed marks: tally, heads, and the chain of each desk's places. Inner: need not be believed.
use Rattle.std.specs.Prelude.{◌≡◌, true, false, List, [], ◌∷◌, ℕ, suc, ◌≤◌, ◌<◌, T, eqb, length, get_or, Option, None, Some}
use Rattle.frame.specs.Names.{MarkId}
use Rattle.causality.specs.declared.Place.{Place}
use Rattle.causality.specs.Marks.{places, has, same, tally}
use Rattle.causality.specs.State.{Mark, heads, ids}
use Rattle.causality.specs.inner.Order.{Consecutive}
use Rattle.causality.specs.inner.Passes.{row_of}
use Rattle.rows.specs.declared.Executed.{Executed}
use Rattle.rows.specs.View.{ZeroFrom, names_down, width}
use Rattle.rows.specs.inner.Slots.{Named}

-- The place of desk d's last mark, plus 1; 0 if it has none.
abbrev pub last_in : ℕ → List MarkId → ℕ
last_in d [] = 0
last_in d (i ∷ is) = elim (eqb d i.desk) [ true ↦ suc (length is) | false ↦ last_in d is ]

-- For each mark the place of its desk's previous one, plus 1; newest first.
abbrev pub Chained : List MarkId → List ℕ → Type 0
Chained [] bf = Unit {0}
Chained (i ∷ is) bf = (get_or bf (length is) 0 ≡ last_in i.desk is) × Chained is bf

-- What a desk keeps of its executed marks, as functions of them: the tally; the heads as a row; the place of each desk's last mark, plus 1; by
-- place, that of the desk's previous mark, plus 1. Places that are not in use have 0.
pub record Rows (l : List Mark) (ts hs ls bf : List ℕ) : Type 0 where
  pub long_tally : length ts ≡ width
  pub long_heads : length hs ≡ width
  pub long_last : length ls ≡ width
  pub tally : (j : ℕ) → j < width → get_or ts j 0 ≡ tally (suc j) (ids l)
  pub heads : (j : ℕ) → j < width → get_or hs j 0 ≡ row_of (heads l) (suc j)
  pub last : (j : ℕ) → j < width → get_or ls j 0 ≡ last_in (suc j) (ids l)
  pub before : Chained (ids l) bf
  pub unused : ZeroFrom bf places (length (ids l))

-- The place of a name, plus 1; 0 if it is not listed.
abbrev pub place_in : List MarkId → MarkId → ℕ
place_in [] a = 0
place_in (i ∷ is) a = elim (same a i) [ true ↦ suc (length is) | false ↦ place_in is a ]

-- What finding a place rests on: tally and chain of names that are numbered one behind another at each desk.
pub record Chain (is : List MarkId) (ts ls bf : List ℕ) : Type 0 where
  pub counted : Consecutive is
  pub few : length is ≤ places
  pub named : (a : MarkId) → T (has a is) → (1 ≤ a.desk) × (a.desk ≤ width)
  pub tally : (j : ℕ) → j < width → get_or ts j 0 ≡ tally (suc j) is
  pub last : (j : ℕ) → j < width → get_or ls j 0 ≡ last_in (suc j) is
  pub before : Chained is bf

-- r is the place of the name, or none if it is not listed.
abbrev pub PlaceOf : List MarkId → MarkId → Option Place → Type 0
PlaceOf is a (Some p) = (p.0 < places) × (place_in is a ≡ suc p.0)
PlaceOf is a None = has a is ≡ false

-- The chain is that of some names; of all such names r is the place.
pub record HasChain (a : Executed) : Type 0 where
  pub names : List MarkId
  pub chain : Chain names a.tally a.last a.before

abbrev pub Finds : Executed → MarkId → Option Place → Type 0
Finds a i r = (is : List MarkId) → Chain is a.tally a.last a.before → PlaceOf is i r

-- What a query rests on: the first `count` marks, of desks 1 to the width, with their tally and chain.
pub record LentTo (count : ℕ) (a : Executed) : Type 0 where
  pub few : count ≤ places
  pub named : Named width count a.desks
  pub chain : Chain (names_down count a.desks a.numbers) a.tally a.last a.before

-- All the marks.
abbrev pub Lent : Executed → Type 0
Lent a = LentTo a.count a

-- A head h of a desk, after a stamp that names mark x of that desk.
abbrev pub struck : ℕ → ℕ → ℕ
struck x h = elim (eqb x h) [ true ↦ 0 | false ↦ h ]

pub record Struck (row before after : List ℕ) : Type 0 where
  pub long : length after ≡ width
  pub counts : (j : ℕ) → j < width → get_or after j 0 ≡ struck (get_or row j 0) (get_or before j 0)

-- The head h of desk d after a mark e.n whose stamp has x at d.
abbrev pub turned : ℕ → ℕ → ℕ → ℕ → ℕ → ℕ
turned e n x d h = elim (eqb d e) [ true ↦ n | false ↦ struck x h ]
