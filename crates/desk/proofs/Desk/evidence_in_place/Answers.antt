-- Evidence in the lent pairs: the chain fills them, a refusal leaves them.
use Rattle.std.proofs.lemmas.Result.{err_from_is_err_and}
use Rattle.desk.proofs.LentPairs.{lent-chain, no-chain}
use Rattle.desk.proofs.Desk.evidence_in_place.Goals as goal

pub returns-in_err-evidence : goal.returns-in_err-evidence
returns-in_err-evidence c =
    let p = err_from_is_err_and c.from_residual.result c.from_residual.ensures.1 in
    rw (p.1, p.2) (no-chain _ c.args.a c.args.out.now c.args.b _ c.in_err-evidence.ensures)

pub fill-requires : goal.fill-requires
fill-requires c = let e = c.in_ok-evidence.ensures in (e.list.few, e.list.few_places)

pub returns : goal.returns
returns c = lent-chain _ c.args.a c.args.out.now c.args.b c.in_ok-evidence.evidence c.in_ok-evidence.list _ c.in_ok-evidence.ensures c.fill.ensures.1
