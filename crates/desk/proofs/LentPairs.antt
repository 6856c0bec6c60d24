-- Apart, Evidence and Pair tables: what each leaves in what is lent. Assumes nothing.
use Prim.Native.Nat.{ℕ}
use lib.ListN.{length, length-map}
use mathlib.Core.List.{List}
use mathlib.Core.Path.{◌≡◌, refl, subst}
use Rattle.std.specs.Prelude.{Err, Ok, Result}
use Rattle.frame.specs.declared.MarkId.{MarkId}
use Rattle.frame.specs.declared.Refusal.{Refusal}
use Rattle.causality.specs.Calls.{apart_pairs}
use Rattle.causality.specs.Evidence.{evidence_pairs}
use Rattle.causality.specs.Meaning.{id_of, proved}
use Rattle.causality.specs.State.{State}
use Rattle.causality.specs.Tables.{pair_tables_counts}
use Rattle.causality.specs.declared.Evidence.{Evidence}
use Rattle.pairs.proofs.Filled.{filled_gives}
use Rattle.pairs.specs.inner.Filled.{filled}
use Rattle.pairs.specs.declared.Listed.{Listed}
use Rattle.concurrent.specs.Found.{ApartFound}
use Rattle.evidence.specs.Found.{EvidenceFound}
use Rattle.rows.specs.View.{carried_at}
use Rattle.tables.specs.inner.Steps.{Filled}
use Rattle.verdict.proofs.Invariant.{kept_sound}
use Rattle.desk.specs.Promises.{ApartPromise, EvidencePromise, PairTablesPromise}
use Rattle.desk.specs.StateOf.{state_of}
use Rattle.desk.specs.declared.Desk.TheInside.{Inside}
use Rattle.desk.specs.inner.IsDesk.{IsDesk}

module _ (st : State) (a : MarkId) (out : List MarkId) where
  pub lent_pairs : (list : Listed) (after : List MarkId) → ApartFound st (id_of a) (length out) (Ok list) → after ≡ filled out list list.count
      → ApartPromise st a out after (Ok list.count)
  unfolding apart_pairs
  lent_pairs list after p f = record { answer = p.answer; pairs = rw (f, length-map, ← p.answer, ← p.list.marks) (filled_gives out list list.count p.list.few) }

  pub no_pairs : (c : Refusal) → ApartFound st (id_of a) (length out) (Err c) → ApartPromise st a out out (Err c)
  unfolding apart_pairs
  no_pairs c p = record { answer = p.answer; pairs = rw (length-map, ← p.answer) refl }

  module _ (b : MarkId) where
    pub lent-chain : (e : Evidence) (list : Listed) (after : List MarkId) → EvidenceFound st (id_of a) (id_of b) (length out) (Ok (e, list))
        → after ≡ filled out list list.count → EvidencePromise st a b out after (Ok e)
    unfolding evidence_pairs
    lent-chain e list after p f = record { answer = p.answer; pairs = rw (f, length-map, ← p.answer, ← p.list.marks) (filled_gives out list (proved e) p.list.few) }

    pub no-chain : (c : Refusal) → EvidenceFound st (id_of a) (id_of b) (length out) (Err c) → EvidencePromise st a b out out (Err c)
    unfolding evidence_pairs
    no-chain c p = record { answer = p.answer; pairs = rw (length-map, ← p.answer) refl }

pub lent_tables : (d : Inside) → IsDesk d → (st : State) → state_of d ≡ st → (out after : List ℕ) (r : Result ℕ Refusal) → Filled d.executed out after r
    → PairTablesPromise st out after r
unfolding pair_tables_counts
lent_tables d k st e out after r f =
    subst (λ (s : State). PairTablesPromise s out after r) e (record { answer = f.answer; counts = f.counts (carried_at d.executed.boxes d.executed.pasts) (kept_sound d.own d.executed d.queue k.kept) })
