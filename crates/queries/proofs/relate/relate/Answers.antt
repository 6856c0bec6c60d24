-- `relate` meets its contract: each case of the code is a case of `relate` by the places of the two marks.
use mathlib.Core.Path.{sym}
use Rattle.std.proofs.Common.{Less, Equal, Greater}
use Rattle.std.proofs.lemmas.Cmp.{ranked}
use Rattle.queries.proofs.Relating.{named_found, relate_back, relate_forward, relate_no_first, relate_no_second, relate-same}
use Rattle.queries.proofs.relate.relate.Goals as goal

pub precedes-requires : goal.precedes-requires
precedes-requires c =
    let l = named_found _ _ c.requires.marks _ c.in-Some-find.q c.in-Some-find.ensures in
    record { order = ranked _ _ Less c.in-Less.ensures; place = l.0; named = l.1 }

pub precedes-requires-in-Greater-1 : goal.precedes-requires-in-Greater-1
precedes-requires-in-Greater-1 c =
    let l = named_found _ _ c.requires.marks _ c.in-Some.p c.in-Some.ensures in
    record { order = ranked _ _ Greater c.in-Greater.ensures; place = l.0; named = l.1 }

pub returns-in_default : goal.returns-in_default
returns-in_default c count own bs waiting l sound = sym (relate_no_first count _ l own bs waiting _ _ c.in_default.ensures)

pub returns-in_default-find : goal.returns-in_default-find
returns-in_default-find c count own bs waiting l sound = sym (relate_no_second count _ l own bs waiting _ _ c.in_default-find.ensures)

pub returns-in-Equal : goal.returns-in-Equal
returns-in-Equal c count own bs waiting l sound =
    sym (relate-same count _ l own bs waiting _ _ _ _ c.in-Some.ensures c.in-Some-find.ensures (ranked _ _ Equal c.in-Equal.ensures))

pub returns-in-Less : goal.returns-in-Less
returns-in-Less c count own bs waiting l sound =
    sym (relate_forward count _ l own bs waiting _ _ _ _ c.in-Some.ensures c.in-Some-find.ensures sound _ _ c.if-precedes.true (ranked _ _ Less c.in-Less.ensures) c.precedes.ensures)

pub returns-in-Greater : goal.returns-in-Greater
returns-in-Greater c count own bs waiting l sound =
    sym (relate_back count _ l own bs waiting _ _ _ _ c.in-Some.ensures c.in-Some-find.ensures sound _ _ c.if-precedes-2.true (ranked _ _ Greater c.in-Greater.ensures) c.precedes-in-Greater-1.ensures)

pub returns-in_default-cmp : goal.returns-in_default-cmp
returns-in_default-cmp c count own bs waiting l sound =
    sym (relate_forward count _ l own bs waiting _ _ _ _ c.in-Some.ensures c.in-Some-find.ensures sound _ _ c.if-precedes.false (ranked _ _ Less c.in-Less.ensures) c.precedes.ensures)

pub returns-in_default-cmp-2 : goal.returns-in_default-cmp-2
returns-in_default-cmp-2 c count own bs waiting l sound =
    sym (relate_back count _ l own bs waiting _ _ _ _ c.in-Some.ensures c.in-Some-find.ensures sound _ _ c.if-precedes-2.false (ranked _ _ Greater c.in-Greater.ensures) c.precedes-in-Greater-1.ensures)
