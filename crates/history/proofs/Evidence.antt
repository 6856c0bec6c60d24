-- The evidence behind a verdict holds in the history. Assumes nothing.
use Prim.Native.Nat.{◌≤◌, ℕ}
use lib.ListN.{length}
use mathlib.Core.List.{List}
use Rattle.frame.specs.Names.{MarkId}
use Rattle.causality.specs.Evidence.{evidence, evidence_pairs}
use Rattle.causality.specs.State.{State, mark_id}
use Rattle.causality.proofs.EvidenceLaws.{Agrees, in_past_of, proves}
use Rattle.causality.proofs.Lists.{all-names, all_map}
use Rattle.causality.proofs.Past.{precedes-past}
use Rattle.causality.proofs.Reckoning.{Once}
use Rattle.history.specs.Evidence.{EvidenceHolds, ProvedBy, happened_before, of_past}
use Rattle.history.specs.Plain.{MadeMark, last_of_past, lists_at, past_of}
use Rattle.history.specs.Run.{Step, run, state_at}
use Rattle.history.proofs.Sequence.{AtDesks, InvAt, inv_of, plain_of}
use Rattle.history.proofs.Theorem.{at_desk_lem, some_desk}

module _ (N : ℕ) (some_desk : 1 ≤ N) (s : List Step) (at : AtDesks N s) (d : ℕ) where
  abbrev st : State
  st = state_at N (run N s) d

  abbrev made : List MadeMark
  made = (plain_of s).made

  inv : InvAt N some_desk s
  inv = inv_of N some_desk s at

  -- The stamps, the precedence and the counts of the desk are those of the history.
  agrees : Agrees (last_of_past made) (happened_before made) (of_past made) st.executed
  unfolding last_of_past
  agrees = record {
    stamps = all_map (λ m k. k.stamp) st.executed (inv.desks d).ok.ks;
    precedence = precedes-past (past_of made) st.executed (inv.desks d).ok.hist;
    counts = λ e b t. in_past_of (past_of made) st.executed (inv.desks d).ok.hist e b t
        (all-names mark_id (λ i. Once (past_of made i)) st.executed (all_map (λ m k. k.once) st.executed (inv.desks d).ok.ks) b t);
  }

  proved_by : (a b : MarkId) (lent : List MarkId) → ProvedBy made (lists_at (plain_of s) d) a b lent (evidence st a b (length lent)) (evidence_pairs st a b lent)
  proved_by a b lent = rw ((at_desk_lem N some_desk s at d).relates a b) at (proves (last_of_past made) (happened_before made) (of_past made) st (inv.desks d).kept.reach.sound agrees a b lent)

pub evidence_holds : (N : ℕ) → EvidenceHolds N
evidence_holds N s at d t a b lent = proved_by N (some_desk N d t) s at d a b lent
