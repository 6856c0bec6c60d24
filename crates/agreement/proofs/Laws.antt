-- The laws of desks that came from the calls, from those of the crates causality and desk. Assumes nothing.
use Rattle.causality.proofs.Laws as law
use Rattle.desk.proofs.Canonical.{one_desk, refused-mark, refused-receive}
use Rattle.agreement.specs.Laws.{LawsOfDesks}
use Rattle.agreement.specs.Pairs.{PairsAddUp}
use Rattle.agreement.specs.inner.OneDesk.{OneStateOneDesk}
use Rattle.agreement.specs.inner.RowLaws.{LawsByRows}

pub laws_of_desks : LawsOfDesks
laws_of_desks N n st from = record {
  executed_numbers = law.executed-numbers N n from;
  desk_chain = law.desk_chain N n from;
  transitive = law.transitive N n from;
  irreflexive = law.irreflexive N n from;
  apart_is_tail = law.apart-is-tail N n from;
  past_is_first_run = law.past-is-first-run N n from;
  evidence_proves = law.evidence_proves N n from;
  silent_desk_leaves = law.silent_desk_leaves N n from;
  silent_desk_leaves_later = law.silent_desk_leaves_later N n from;
  pairs = law.pairs_of-desks N n from;
  none_ready = law.none-ready N n from;
  few_marks = (law.bounds N n from).0;
  few_waiting = (law.bounds N n from).1;
  direct_causal_vectors = law.direct_causal_vectors N n from;
  new_precedes = law.new-precedes N n from;
  new_direct = law.new_direct N n from;
  executed_reckoned = law.executed-reckoned N n from;
  new_reckoned = law.new-reckoned N n from;
}

pub laws_by_rows : LawsByRows
laws_by_rows N n st from = record {
  head_rows = law.head_rows N n from;
  false_rows = law.false_rows N n from;
  one_ready_each = law.one-ready-each N n from;
  fits = law.fits N n from;
}

pub pairs_add : PairsAddUp
pairs_add N n st from = let p = law.pairs_of-desks N n from in record { of_two = p.all_pairs; none_apart = p.none_apart; of_one = p.own_before }

pub one_state : OneStateOneDesk
one_state = record { one = one_desk; receive = refused-receive; mark = refused-mark }
