-- `first_apart` meets its contract: of the desk's marks before the place, those that precede are the first, so the next one is the lowest apart.
use mathlib.Core.Path.{sym, ◌∙◌}
use native.Mathlib.Omega.{arith}
use Rattle.executed.proofs.Chain.{found_inside}
use Rattle.queries.proofs.Relating.{named_found}
use Rattle.halving.proofs.FirstApart.{first-none, first_no_number, first_number}
use Rattle.halving.proofs.first_apart.Goals as goal

pub returns-in_default-clause-lowest : goal.returns-in_default-clause-lowest
returns-in_default-clause-lowest c count own bs waiting l sound = first-none _ count l own bs waiting _ _ (sym c.is_desk.ensures ∙ c.if-not-is_desk.false) c.in_default.ensures

pub search-found-requires-clause-named : goal.search-found-requires-clause-named
search-found-requires-clause-named c = (named_found _ _ c.requires.marks _ c.in-Some.p c.in-Some.ensures).1

pub search-found-requires-clause-made : goal.search-found-requires-clause-made
search-found-requires-clause-made c =
    let i = found_inside _ _ c.requires.marks _ c.in-Some.p c.in-Some.ensures in
    c.made_before-made.ensures _ c.requires.marks (omega arith)

pub returns-then-found-made-clause-lowest : goal.returns-then-found-made-clause-lowest
returns-then-found-made-clause-lowest c count own bs waiting l sound =
    first_number _ count l own bs waiting _ _ (sym c.is_desk.ensures ∙ c.if-not-is_desk.false) c.in-Some.p c.in-Some.ensures sound
    _ _ c.made_before-made.ensures c.search-found.ensures.found.run c.if-found-made.true

pub returns-else-found-made-clause-lowest : goal.returns-else-found-made-clause-lowest
returns-else-found-made-clause-lowest c count own bs waiting l sound =
    first_no_number _ count l own bs waiting _ _ (sym c.is_desk.ensures ∙ c.if-not-is_desk.false) c.in-Some.p c.in-Some.ensures sound
    _ _ c.made_before-made.ensures c.search-found.ensures.found.run c.if-found-made.false
