-- The struct of waiting marks, newest first. That a desk's struct is that of its marks is proved. Inner: need not be believed.
use Rattle.std.specs.Prelude.{List, length}
use Rattle.causality.specs.Marks.{waiting_places}
use Rattle.causality.specs.State.{Mark}
use Rattle.rows.specs.inner.Columns.{boxes_of, desks_of, numbers_of, pasts_of, stamps_of}
use Rattle.waiting.specs.declared.Waiting.{Waiting}

abbrev pub waiting_of : List Mark → Waiting
waiting_of l = record {
  count = length l;
  desks = desks_of waiting_places l;
  numbers = numbers_of waiting_places l;
  boxes = boxes_of waiting_places l;
  pasts = pasts_of waiting_places l;
  stamps = stamps_of waiting_places l;
}
