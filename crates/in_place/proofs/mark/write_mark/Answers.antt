-- `write_mark` meets its contract: the bytes that are lent to the writer spell the entries of the row.
use lib.ListN.{length}
use mathlib.Core.Path.{◌∙◌}
use Rattle.in_place.proofs.MarkLaws.{held_bytes, held_size}
use Rattle.in_place.proofs.mark.write_mark.Goals as goal

pub returns-clause-answer : goal.returns-clause-answer
returns-clause-answer c =
    held_size c.args.h.now _ c.past_from.ensures _ (c.as_slice.ensures ∙ c.entries_of.ensures.1) (length c.args.out.now) _ c.write.ensures.answer

pub returns-clause-bytes : goal.returns-clause-bytes
returns-clause-bytes c =
    held_bytes c.args.h.now _ c.past_from.ensures _ (c.as_slice.ensures ∙ c.entries_of.ensures.1) c.args.out.now _ c.write.ensures.bytes
