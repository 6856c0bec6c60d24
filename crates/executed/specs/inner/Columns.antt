-- The struct of executed marks, newest first. That a desk's struct is that of its marks is proved. Inner: need not be believed.
use Rattle.std.specs.Prelude.{true, false, List, [], ◌∷◌, ℕ, suc, eqb, length}
use Rattle.frame.specs.Names.{MarkId}
use Rattle.causality.specs.Marks.{places, tally}
use Rattle.causality.specs.State.{Mark, heads, ids}
use Rattle.rows.specs.inner.Columns.{boxes_of, counts_of, desks_of, numbers_of, pasts_of, stamps_of, tabled}
use Rattle.rows.specs.View.{width}
use Rattle.rows.specs.declared.Executed.{Executed}
use Rattle.executed.specs.inner.Rows.{last_in}

-- By place that of the desk's previous mark, plus 1.
abbrev pub before_at : List MarkId → ℕ → ℕ
before_at [] p = 0
before_at (i ∷ is) p = elim (eqb p (length is)) [ true ↦ last_in i.desk is | false ↦ before_at is p ]

abbrev pub executed_of : List Mark → Executed
executed_of l = record {
  count = length l;
  desks = desks_of places l;
  numbers = numbers_of places l;
  boxes = boxes_of places l;
  pasts = pasts_of places l;
  stamps = stamps_of places l;
  tally = tabled width (λ j. tally (suc j) (ids l));
  heads = counts_of (heads l);
  last = tabled width (λ j. last_in (suc j) (ids l));
  before = tabled places (before_at (ids l));
}
