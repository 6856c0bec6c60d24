-- The calls agree with the history, from their promises and history's theorem. Assumes nothing.
use Prim.Native.Nat.{ℕ}
use lib.Dec.{T, eqb}
use lib.ListN.{length, length-map}
use mathlib.Core.Bool.{Bool, false, true}
use mathlib.Core.List.{List, [], ◌∷◌, map}
use mathlib.Core.Path.{◌∙◌, ◌≡◌, ap, refl, sym}
use Rattle.std.specs.Prelude.{Result}
use Rattle.frame.specs.declared.Refusal.{Refusal}
use Rattle.frame.specs.Names.{desks}
use Rattle.causality.specs.Calls.{mark, new, receive, relate, to_second_bytes, to_second_size}
use Rattle.causality.specs.Evidence.{evidence, evidence_pairs}
use Rattle.causality.specs.Marks.{All}
use Rattle.causality.specs.Meaning.{id_of}
use Rattle.causality.specs.State.{State}
use Rattle.causality.specs.Tables.{pair_tables_counts}
use Rattle.desk.specs.Demand3.{CallRun, CallsAgree, Demand3Calls, Runs, after_convert, after_mark, after_miss, after_receive, converts1, converts1_misses, converts2, converts2_misses, desk_at, marks, misses, receives, starts, states_of}
use Rattle.desk.specs.Promises.{NewPromise}
use Rattle.history.specs.Demand3.{Agree}
use Rattle.history.specs.Plain.{look, of_mark, of_receive, plain}
use Rattle.history.specs.Run.{Run, Step, at_desk, converted, fed, handing, marking, run, run_step, state_at, to_first, to_second, without_missing, written}
use Rattle.history.proofs.Evidence.{evidence_holds}
use Rattle.history.proofs.Silent.{silent_desk_leaves}
use Rattle.history.proofs.Tables.{tables_of_history}
use Rattle.history.proofs.Theorem.{consequences, demand3}

module _ (fresh : ℕ → State) (answers : ℕ → Result (Unit {0}) Refusal) (news : (d : ℕ) → NewPromise d (fresh d) (answers d)) where
  -- The state of a desk of the run is that of the table of states.
  state_at_lem : (given : List (ℕ × State)) (d : ℕ) → look fresh given d ≡ look (λ e. (new desks e).state) given d
  state_at_lem [] d = (news d).state
  state_at_lem (x ∷ xs) d = go (eqb x.0 d) (state_at_lem xs d)
    where
      go : (b : Bool) → ◌≡◌ {A = State} (look fresh xs d) (look (λ e. (new desks e).state) xs d)
          → ◌≡◌ {A = State} (elim b [ true ↦ x.1 | false ↦ look fresh xs d ]) (elim b [ true ↦ x.1 | false ↦ look (λ e. (new desks e).state) xs d ])
      go true ih = refl
      go false ih = ih

  same-run : {s : List Step} {c : CallRun} → Runs fresh s c → states_of c ≡ run desks s
  same-run starts = refl
  same-run (marks {s = s} {c = c} rs d b lent after bytes r p) = one ∙ ap (λ (x : Run). run_step desks x (marking d b lent)) (same-run rs)
    where
      one : states_of (after_mark c d after bytes r) ≡ run_step desks (states_of c) (marking d b lent)
      one =
          let sa = state_at_lem c.given d in
          let state = p.state ∙ ap (λ (x : State). (mark desks x b lent).state) sa in
          let answer = p.answer ∙ ap (λ (x : State). (mark desks x b lent).answer) sa in
          let bytes = p.bytes ∙ ap (λ (x : State). (mark desks x b lent).bytes) sa in
          λ k. record { states = (d, state k) ∷ c.given; frames = written d (answer k) (bytes k) c.frames; answers = of_mark (answer k) ∷ c.answers; conversions = c.conversions }
  same-run (receives {s = s} {c = c} rs d i n f e after r p) = one ∙ ap (λ (x : Run). run_step desks x (handing d i n)) (same-run rs)
    where
      one : states_of (after_receive c d after r) ≡ run_step desks (states_of c) (handing d i n)
      one =
          let sa = state_at_lem c.given d in
          let state = p.state ∙ ap (λ (x : State). (receive desks x f.bytes).state) sa in
          let answer = p.answer ∙ ap (λ (x : State). (receive desks x f.bytes).answer) sa in
          rw (e, run_step) (λ k. record { states = (d, state k) ∷ c.given; frames = c.frames; answers = of_receive (without_missing (answer k)) ∷ c.answers; conversions = c.conversions })
  same-run (misses {s = s} {c = c} rs d i n e) = one ∙ ap (λ (x : Run). run_step desks x (handing d i n)) (same-run rs)
    where
      one : states_of (after_miss c) ≡ run_step desks (states_of c) (handing d i n)
      one = rw (e, run_step) refl
  same-run (converts2 {s = s} {c = c} rs d i n f e lent after r p) = one ∙ ap (λ (x : Run). run_step desks x (to_second d i n lent)) (same-run rs)
    where
      one : states_of (after_convert c f r after) ≡ run_step desks (states_of c) (to_second d i n lent)
      one =
          let sa = state_at_lem c.given d in
          let answer = p.answer ∙ ap (λ (x : State). to_second_size desks x f.bytes (length lent)) sa in
          let bytes = p.bytes ∙ ap (λ (x : State). to_second_bytes desks x f.bytes lent) sa in
          rw (e, run_step) (λ k. record { states = (states_of c).states; frames = converted f.id (answer k) (bytes k) c.frames; answers = c.answers; conversions = answer k ∷ c.conversions })
  same-run (converts2_misses {s = s} {c = c} rs d i n lent e) = one ∙ ap (λ (x : Run). run_step desks x (to_second d i n lent)) (same-run rs)
    where
      one : states_of c ≡ run_step desks (states_of c) (to_second d i n lent)
      one = rw (e, run_step) refl
  same-run (converts1 {s = s} {c = c} rs i n f e lent after r p) = one ∙ ap (λ (x : Run). run_step desks x (to_first i n lent)) (same-run rs)
    where
      one : states_of (after_convert c f r after) ≡ run_step desks (states_of c) (to_first i n lent)
      one =
          let answer = p.answer in
          let bytes = p.bytes in
          rw (e, run_step) (λ k. record { states = (states_of c).states; frames = converted f.id (answer k) (bytes k) c.frames; answers = c.answers; conversions = answer k ∷ c.conversions })
  same-run (converts1_misses {s = s} {c = c} rs i n lent e) = one ∙ ap (λ (x : Run). run_step desks x (to_first i n lent)) (same-run rs)
    where
      one : states_of c ≡ run_step desks (states_of c) (to_first i n lent)
      one = rw (e, run_step) refl

  calls_agree : (s : List Step) → All (λ t. T (at_desk desks t)) s → (c : CallRun) → Runs fresh s c → CallsAgree fresh s c
  calls_agree s at c rs = record {
    agree = same;
    follows = rw (same-run rs) (consequences desks s at);
    relates = λ d t a b r p. p ∙ ap (λ (x : State). relate x (id_of a) (id_of b)) (state_at_lem c.given d) ∙ (same.desks d t).relates (id_of a) (id_of b);
    proves = λ d t a b out after r p.
        let st = in_run d in
        let answer = p.answer ∙ ap (λ (x : State). evidence x (id_of a) (id_of b) (length out)) st ∙ ap (evidence (state_at desks (run desks s) d) (id_of a) (id_of b)) (sym (length-map out id_of)) in
        let pairs = p.pairs ∙ ap (λ (x : State). evidence_pairs x (id_of a) (id_of b) (map id_of out)) st in
        rw (answer, pairs) (evidence_holds desks s at d t (id_of a) (id_of b) (map id_of out));
    leaves = λ x d t q b lent after bytes r p.
        let answer = p.answer ∙ ap (λ (y : State). (mark desks y b lent).answer) (in_run x) in
        let left = p.bytes ∙ ap (λ (y : State). (mark desks y b lent).bytes) (in_run x) in
        rw (answer, left) (silent_desk_leaves desks s at x d t q b lent);
    tabulates = λ x t out after r p.
        rw p.answer (p.counts ∙ ap (λ (y : State). pair_tables_counts desks y out) (in_run x) ∙ tables_of_history desks s at x t out);
  }
    where
      in_run : (d : ℕ) → desk_at fresh c d ≡ state_at desks (run desks s) d
      in_run d = state_at_lem c.given d ∙ ap (λ (x : Run). state_at desks x d) (same-run rs)

      same : Agree desks (states_of c) (plain (fed s))
      same = rw (same-run rs) (demand3 desks s at)

pub demand3_calls : Demand3Calls
demand3_calls fresh answers news s at c rs = calls_agree fresh answers news s at c rs
