-- The desks agree with the history, and what follows from it. Assumes nothing.
use Prim.Native.Nat.{◌<◌, ◌≤◌, suc, ℕ}
use lib.Dec.{T, eqb, leb, ltb}
use lib.ListN.{length}
use mathlib.Core.Bool.{Bool, ◌&&◌, false, not, true}
use mathlib.Core.List.{List, [], ◌++◌, ◌∷◌, map}
use mathlib.Core.Logic.{inl, inr}
use mathlib.Core.Option.{Option, none, some}
use mathlib.Core.Path.{◌∙◌, ◌≡◌, ap, refl, subst, sym}
use native.Mathlib.Omega.{arith}
use Rattle.frame.specs.declared.MarkBox.{MarkBox}
use Rattle.frame.specs.declared.Past.{Past}
use Rattle.frame.specs.declared.Past.TheVariants.{Said}
use Rattle.frame.specs.Answer.{Answer, gives, refused}
use Rattle.frame.specs.Names.{MarkId, box_rule, desks, is_desk}
use Rattle.causality.specs.Answers.{After, Before, Concurrent, Numbered, Same}
use Rattle.causality.specs.Calls.{fields_of_mark, is_executed, relate}
use Rattle.causality.specs.Kinds.{relate_by}
use Rattle.causality.specs.Marks.{All, find, has, same, tally, waiting_places}
use Rattle.causality.specs.State.{Mark, State, ids, ready, reckoning, same_count}
use Rattle.causality.proofs.Fit.{desk_facts, fit_entries, fit_read}
use Rattle.causality.specs.inner.Fit.{Fit}
use Rattle.causality.proofs.Reach.{sound_reckoned}
use Rattle.causality.proofs.Lists.{all_append, all_intro, all_map}
use Rattle.causality.proofs.Logic.{T→eq, and_yes, eqb_yes, leb_no, leb_yes, split}
use Rattle.causality.proofs.Past.{Standing, precedes-past, ready-past}
use Rattle.history.specs.Demand3.{Agree, AtDesk, Behind, Boxed, Consequences, Consequent, Demand3, ReadsBack, boxed, made_boxed, entries_in, occurs}
use Rattle.history.specs.Plain.{DeskLists, MadeMark, PlainStep, frame_size, hand_over, hand_over_at, last_of_past, leave_out, lists_at, lists_full, made_id, made_ids, making, making_at, making_by, of_mark, of_receive, past_listed, past_of, plain, plain_step_by, relation}
use Rattle.history.specs.Run.{Run, Step, Written, fed, handing, marking, run, run_step, state_at, to_first, to_second}
use Rattle.history.specs.Silent.{listed_at}
use Rattle.history.proofs.Calls.{Recorded, Unlisted, lists_of, made_ids_lem, made_of}
use Rattle.history.proofs.Sequence.{AtDesks, InvAt, inv_of, past_at, plain_of}
use Rattle.history.proofs.Simulation.{framed}

boxed-same : (past : MarkId → List MarkId) (ms : List Mark) → map boxed ms ≡ map made_boxed (map (made_of past) ms)
unfolding made_of
boxed-same past [] = refl
boxed-same past (m ∷ ms) = ap (λ (l : List Boxed). boxed m ∷ l) (boxed-same past ms)

relate-same : (made : List MadeMark) (x : State) (ls : DeskLists) → ls ≡ lists_of (past_of made) x → Standing (past_of made) x.executed
    → (a b : MarkId) → relate x a b ≡ relation made ls a b
unfolding relate_by relation
relate-same made x ls e h a b = go (is_executed x a && is_executed x b) refl ∙ sym (ap (λ (q : DeskLists). relation made q a b) e)
  where
    nm : made_ids (map (made_of (past_of made)) x.executed) ≡ ids x.executed
    nm = made_ids_lem (past_of made) x.executed

    go : (t : Bool) → (is_executed x a && is_executed x b) ≡ t → relate x a b ≡ relation made (lists_of (past_of made) x) a b
    go false q = rw (q, nm, q)
    go true q =
        let t : T (is_executed x a && is_executed x b) = rw q tt in
        let ta = (and_yes (is_executed x a) (is_executed x b) t).0 in
        let tb = (and_yes (is_executed x a) (is_executed x b) t).1 in
        let p₁ = precedes-past (past_of made) x.executed h a b tb in
        let p₂ = precedes-past (past_of made) x.executed h b a ta in
        rw (q, nm, q) (λ i. gives (elim (same a b) [
          | true ↦ Same
          | false ↦ elim (p₁ i) [ true ↦ Before | false ↦ elim (p₂ i) [ true ↦ After | false ↦ Concurrent ] ]
        ]))

-- What a making answers.
pub making_answers : (P : Answer Numbered → Type 0) → P (refused 5) → P (refused 9) → P (refused 13) → (d : ℕ) (ls : DeskLists) (b : MarkBox) (lent : ℕ)
    → P (gives (record { number = suc (tally d (made_ids ls.listed)); size = frame_size ls })) → P (making d ls b lent).answer
unfolding making_by leave_out
making_answers P p₅ p₉ p₁₃ d ls b lent p = go (box_rule b) (lists_full ls) (ltb lent (frame_size ls)) refl refl refl
  where
    go : (x y z : Bool) → box_rule b ≡ x → lists_full ls ≡ y → ltb lent (frame_size ls) ≡ z → P (making d ls b lent).answer
    go false y z ex ey ez = rw (ex, making_by) p₅
    go true true z ex ey ez = rw (ex, making_by) (rw ey p₉)
    go true false true ex ey ez = rw (ex, making_by) (rw ey (rw ez p₁₃))
    go true false false ex ey ez = rw (ex, making_by) (rw ey (rw ez p))

-- The plain machine leaves a step out only for 5, 9, 10 and 13, and drops nothing.
handing_occurs : (ls : DeskLists) (x : MadeMark) → T (occurs (of_receive (hand_over ls x).answer))
unfolding hand_over leave_out
handing_occurs ls x = go (has x.id (made_ids (ls.listed ++ ls.waiting))) (lists_full ls) (past_listed ls.listed x) (eqb (length ls.waiting) waiting_places) refl refl refl refl
  where
    go : (a b c d : Bool) → has x.id (made_ids (ls.listed ++ ls.waiting)) ≡ a → lists_full ls ≡ b → past_listed ls.listed x ≡ c → eqb (length ls.waiting) waiting_places ≡ d
        → T (occurs (of_receive (hand_over ls x).answer))
    go true b c d ea eb ec ed = rw (ea, hand_over) tt
    go false true c d ea eb ec ed = rw (ea, hand_over) (rw eb tt)
    go false false true d ea eb ec ed = rw (ea, hand_over) (rw eb (rw ec tt))
    go false false false true ea eb ec ed = rw (ea, hand_over) (rw eb (rw ec (rw ed tt)))
    go false false false false ea eb ec ed = rw (ea, hand_over) (rw eb (rw ec (rw ed tt)))

plain-occurs : (s : List PlainStep) → All (λ a. T (occurs a)) (plain s).answers
plain-occurs [] = tt
plain-occurs (making_at d b lent ∷ s) = (making_answers (λ a. T (occurs (of_mark a))) tt tt tt d (lists_at (plain s) d) b lent tt, plain-occurs s)
plain-occurs (hand_over_at d i ∷ s) = go (find made_id i (plain s).made) refl (plain-occurs s)
  where
    go : (o : Option MadeMark) → find made_id i (plain s).made ≡ o → All (λ a. T (occurs a)) (plain s).answers → All (λ a. T (occurs a)) (plain (hand_over_at d i ∷ s)).answers
    go none e a = rw (e, plain_step_by) (tt, a)
    go (some x) e a = rw (e, plain_step_by) (handing_occurs (lists_at (plain s) d) x, a)

pub all_both : {A : Type 0} {P Q R : A → Type 0} → ((x : A) → P x → Q x → R x) → (xs : List A) → All P xs → All Q xs → All R xs
all_both f [] a b = tt
all_both f (x ∷ xs) a b = (f x a.0 b.0, all_both f xs a.1 b.1)

module _ (N : ℕ) (some_desk : 1 ≤ N) (s : List Step) (at : AtDesks N s) where
  inv : InvAt N some_desk s
  inv = inv_of N some_desk s at

  pub listed-executed : (d : ℕ) → listed_at s d ≡ ids (state_at N (run N s) d).executed
  listed-executed d = ap (λ (l : DeskLists). made_ids l.listed) (inv.desks d).lists ∙ made_ids_lem (past_at s) (state_at N (run N s) d).executed

  -- Of two that say the same number, both say it.
  says : (m : Mark) (r n : ℕ) → m.past ≡ Said r → T (same_count m.past (Said n)) → m.past ≡ Said n
  says m r n e t = e ∙ ap Said (eqb_yes (subst (λ (p : Past). T (same_count p (Said n))) e t))

  pub at_desk_lem : (d : ℕ) → AtDesk (state_at N (run N s) d) (lists_at (plain_of s) d) (plain_of s).made
  unfolding last_of_past
  at_desk_lem d =
      let st = state_at N (run N s) d in
      let past = past_at s in
      record {
        lists = boxed-same past st.executed ∙ sym (ap (λ (p : DeskLists). map made_boxed p.listed) (inv.desks d).lists);
        waiting = boxed-same past st.waiting ∙ sym (ap (λ (p : DeskLists). map made_boxed p.waiting) (inv.desks d).lists);
        stamps = all_append _ st.executed st.waiting (all_map (λ m k. k.stamp) st.executed (inv.desks d).ok.ks) (all_map (λ m l. l.k.stamp) st.waiting (inv.desks d).ok.lacks);
        reckoned = all_both {P = λ m. m.past ≡ Said (reckoning st.executed m.id)} (λ m e k. says m (reckoning st.executed m.id) (length (past m.id)) e k.honest)
            st.executed (sound_reckoned st.executed (inv.desks d).kept.reach.sound) (inv.desks d).ok.ks;
        counts = all_map (λ m l. l.k.honest) st.waiting (inv.desks d).ok.lacks;
        relates = relate-same (plain_of s).made st (lists_at (plain_of s) d) (inv.desks d).lists (inv.desks d).ok.hist;
      }

  -- What holds of the frame of each mark made, of either edition, holds of each frame.
  pub each-frame : (P : Written → Type 0) → ((m : Mark) → Fit N m → Recorded (past_at s) (plain_of s).made m → P (framed m)) → All P (run N s).frames
  each-frame P g = all_map (λ f x. rw x.spells (g x.mark x.fit x.k)) (run N s).frames inv.frames

  -- Each frame reads back to its mark, and that is the made mark of its name.
  reads_back : (m : Mark) → Fit N m → Recorded (past_at s) (plain_of s).made m → ReadsBack N (plain_of s).made (framed m)
  unfolding made_of fields_of_mark
  reads_back m f x = record { mark = made_of (past_at s) m; past = m.past; found = x.found; fields = fit_read N m f; count = x.honest }

  agree : Agree N (run N s) (plain_of s)
  unfolding last_of_past
  agree = record {
    answers = inv.answers;
    fields = each-frame (ReadsBack N (plain_of s).made) reads_back;
    whole = inv.whole;
    frames = each-frame (λ f. entries_in N f ≡ last_of_past (plain_of s).made f.id) (λ m f x. fit_entries N m f ∙ x.stamp);
    desks = λ d t. at_desk_lem d;
  }

  -- WHAT FOLLOWS

  behind : (made : List MadeMark) (l : List Mark) → Standing (past_of made) l → Behind made l
  behind made [] h = tt
  behind made (m ∷ older) h = (all_intro (λ a. has a (ids older)) (past_of made m.id) h.0.behind, behind made older h.1)

  consequent : Consequent N (run N s) (plain_of s)
  consequent = record {
    behind = λ d t. behind (plain_of s).made (state_at N (run N s) d).executed (inv.desks d).ok.hist;
    lacking = λ d t. let st = state_at N (run N s) d in
        all_both {P = Unlisted _ _ st.executed} {Q = λ m. T (not (ready st.executed m))} (λ m l q. rw (ready-past _ st.executed (inv.desks d).ok.hist m l.k.good) at q) st.waiting (inv.desks d).ok.lacks (inv.desks d).kept.still.quiet;
    direct = each-frame _ (λ m f x a b ta tb u. x.good.last a b (rw (fit_entries N m f) at ta) (x.good.entry b (rw (fit_entries N m f) at tb)) u);
    answers = rw inv.answers (plain-occurs (fed s));
    conversions = inv.conversions;
  }

-- THE THEOREMS

pub some_desk : (N d : ℕ) → T (is_desk N d) → 1 ≤ N
some_desk N d t = let p = desk_facts N d (T→eq (is_desk N d) t) in omega arith

no_desk : (N d : ℕ) → N < 1 → T (is_desk N d) → ⊥
no_desk N d n t = let p = some_desk N d t in omega arith

-- Without a desk nothing happens.
idle : (N : ℕ) → N < 1 → (s : List Step) → AtDesks N s → (run N s ≡ record { states = []; frames = []; answers = []; conversions = [] }) × (fed s ≡ [])
idle N n [] at = (refl, refl)
idle N n (marking d b lent ∷ s) at = absurd (no_desk N d n at.0)
idle N n (handing d i k ∷ s) at = absurd (no_desk N d n at.0)
idle N n (to_second d i k lent ∷ s) at = absurd (no_desk N d n at.0)
idle N n (to_first i k lent ∷ s) at = let q = idle N n s at.1 in (ap (λ (r : Run). run_step N r (to_first i k lent)) q.0, q.1)

both : (N : ℕ) (s : List Step) → AtDesks N s → Agree N (run N s) (plain_of s) × Consequent N (run N s) (plain_of s)
both N s at = elim (split (leb 1 N)) [ inl t ↦ (agree N (leb_yes t) s at, consequent N (leb_yes t) s at) | inr t ↦ no_steps (leb_no t) ]
  where
    no_steps : N < 1 → Agree N (run N s) (plain_of s) × Consequent N (run N s) (plain_of s)
    no_steps n = let q = idle N n s at in rw (q.0, q.1) (
      record { answers = refl; fields = tt; whole = tt; frames = tt; desks = λ d t. absurd (no_desk N d n t) },
      record { behind = λ d t. absurd (no_desk N d n t); lacking = λ d t. absurd (no_desk N d n t); direct = tt; answers = tt; conversions = tt },
    )

pub demand3 : (N : ℕ) → Demand3 N
demand3 N s at = (both N s at).0

pub consequences : (N : ℕ) → Consequences N
consequences N s at = (both N s at).1

-- At our count of desks.
pub demand3_ours : Demand3 desks
demand3_ours = demand3 desks
