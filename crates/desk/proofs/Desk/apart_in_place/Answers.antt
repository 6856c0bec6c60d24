-- Apart in the lent pairs: the list fills them, a refusal leaves them.
use Rattle.std.proofs.lemmas.Result.{err_from_is_err_and}
use Rattle.desk.proofs.LentPairs.{lent_pairs, no_pairs}
use Rattle.desk.proofs.Desk.apart_in_place.Goals as goal

pub returns-in_err-list : goal.returns-in_err-list
returns-in_err-list c =
    let p = err_from_is_err_and c.from_residual.result c.from_residual.ensures.1 in
    rw (p.1, p.2) (no_pairs _ c.args.a c.args.out.now _ c.in_err-list.ensures)

pub fill-requires : goal.fill-requires
fill-requires c = let e = c.in_ok-list.ensures in (e.list.few, e.list.few_places)

pub returns : goal.returns
returns c = lent_pairs _ c.args.a c.args.out.now c.in_ok-list.list _ c.in_ok-list.ensures c.fill.ensures.1
