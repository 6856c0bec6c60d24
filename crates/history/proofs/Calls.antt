-- The desk and the plain machine, call by call: release, Receive and Mark do what the machine does. Assumes nothing.
use Prim.Native.Nat.{◌*◌, ◌+◌, ◌-◌, ◌≤◌, suc, zero, ℕ}
use lib.Dec.{T, T_not, eqb, eqb_refl, leb, ltb, not_T}
use lib.ListN.{length, length-map}
use mathlib.Core.Bool.{Bool, ◌||◌, cond, false, not, true}
use mathlib.Core.List.{List, [], ◌++◌, ◌∷◌, map}
use mathlib.Core.Option
use mathlib.Core.Option.{Option, none, some}
use mathlib.Core.Path.{◌∙◌, ◌≡◌, ap, refl, subst, sym}
use native.Mathlib.Omega.{arith}
use Rattle.frame.specs.declared.MarkBox.{MarkBox}
use Rattle.frame.specs.declared.Past.{Past}
use Rattle.frame.specs.declared.Past.TheVariants.{Said, Unsaid}
use Rattle.frame.specs.Answer.{Answer, gives, refuse_if, refused}
use Rattle.frame.specs.Frame.{over_if}
use Rattle.frame.specs.Names.{MarkId, box_rule}
use Rattle.causality.specs.Answers.{Executed, Known, Numbered, Reception, Reply, knows}
use Rattle.causality.specs.Calls.{Received, Release, act, admit, execute, frame_of_mark, full, mark, mark_answer, new_mark, receive_mark, release, same_fields, state_if, unmade}
use Rattle.causality.specs.Kinds.{admit_by, executing_by, judge_by, mark_answer_of, mark_of, release_by}
use Rattle.causality.specs.Marks.{All, all, any, find, has, insert, keep, lowest, rising, same, tally, waiting_places, without}
use Rattle.causality.specs.State.{Mark, State, false_stamp, heads, ids, is_head, mark_id, precedes, ready, reckoned, same_count, with_past}
use Rattle.causality.proofs.Fit.{fields-same, fit_size, mark_size}
use Rattle.causality.specs.inner.Fit.{Fit}
use Rattle.causality.proofs.Invariant.{Invariant, new_fit}
use Rattle.causality.proofs.Lists.{Picked, absent-all, all_append, all_map, any_cong, find-all, find-has, has_append, map_append, is_some, lowest-picked, nor_fst, nor_snd, without_all}
use Rattle.causality.proofs.Logic.{eqb_yes, nT→eq, or_inr, same_refl, same→eq}
use Rattle.causality.proofs.Past.{Good, Standing, Stands, precedes-past, ready-past, ready_stands}
use Rattle.causality.proofs.Reckoning.{Once, good_with, not-false_stamp, reckoned-past, stands_with}
use Rattle.causality.proofs.Images.{lowest_image, names_image, without_image}
use Rattle.history.specs.Plain.{DeskLists, MadeMark, Outcome, execute_ready, frame_size, hand_over, is_last, leave_out, lists_full, made_id, made_ids, making, making_by, new_made, past_listed}
use Rattle.history.specs.Run.{without_missing}

-- The marks of a list of names that are in the past of no other of it, by rising desk.
abbrev pub last_among : (MarkId → List MarkId) → List MarkId → List MarkId
last_among past is = rising (keep (λ e. not (any (λ j. has e (past j)) is)) is)

-- Two that say the same number say the same.
agreeing : (p q : Past) (n : ℕ) → T (same_count p (Said n)) → T (same_count q (Said n)) → T (same_count p q)
agreeing Unsaid q n a b = tt
agreeing (Said x) Unsaid n a b = tt
agreeing (Said x) (Said y) n a b = subst (λ (k : ℕ). T (eqb x k)) (eqb_yes a ∙ sym (eqb_yes b)) (eqb_refl x)

-- What is listed stays so.
abbrev pub Grows : List Mark → List Mark → Type 0
Grows l m = (i : MarkId) → T (has i (ids l)) → T (has i (ids m))

pub apart : (i j : MarkId) → T (not (same i j)) → T (not (same j i))
apart i j n = not_T (same j i) (λ t. T_not (same i j) n (rw (same→eq j i t) (same_refl i)))

-- A name that is listed is not one that is not.
pub others : (i j : MarkId) (is : List MarkId) → T (not (has i is)) → T (has j is) → T (not (same i j))
others i j is n t = not_T (same i j) (λ e. T_not (has i is) n (rw (same→eq i j e) t))

pub neither : (i j : MarkId) (is : List MarkId) → T (not (same j i)) → T (not (has i is)) → T (not (has i (j ∷ is)))
neither i j is n m = rw (nT→eq (same i j) (apart j i n)) m

-- past: of each mark made in the whole sequence
module _ (past : MarkId → List MarkId) where
  unfoldable pub made_of : Mark → MadeMark
  made_of m = record { id = m.id; extent = m.extent; past = past m.id }

  pub made-named : (m : Mark) → made_id (made_of m) ≡ mark_id m
  unfolding made_of
  made-named m = refl

  pub made_ids_lem : (ms : List Mark) → made_ids (map made_of ms) ≡ ids ms
  made_ids_lem = names_image mark_id made_id made_of made-named

  listed-ready : (l : List Mark) → Standing past l → (m : Mark) → Good past m → past_listed (map made_of l) (made_of m) ≡ ready l m
  unfolding made_of past_listed
  listed-ready l h m g = ap (λ (ns : List MarkId). all (λ a. has a ns) (past m.id)) (made_ids_lem l) ∙ sym (ready-past past l h m g)

  abbrev pub lists_of : State → DeskLists
  lists_of d = record { listed = map made_of d.executed; waiting = map made_of d.waiting }

  lists_full_lem : (d : State) → lists_full (lists_of d) ≡ full d
  unfolding lists_full full
  lists_full_lem d = rw (length-map d.executed made_of, length-map d.waiting made_of)

  known-has : (d : State) (m : Mark) → has (made_of m).id (made_ids ((lists_of d).listed ++ (lists_of d).waiting)) ≡ is_some (find mark_id m.id (d.executed ++ d.waiting))
  unfolding made_of
  known-has d m = ap (λ (l : List MadeMark). has m.id (made_ids l)) (sym (map_append made_of d.executed d.waiting)) ∙ ap (has m.id) (made_ids_lem (d.executed ++ d.waiting)) ∙ find-has mark_id m.id (d.executed ++ d.waiting)

  -- how many heads
  length-insert : (e : MarkId) (xs : List MarkId) → length (insert e xs) ≡ suc (length xs)
  length-insert e [] = refl
  length-insert e (f ∷ fs) = go2 (leb e.desk f.desk) (length-insert e fs)
    where
      go2 : (b : Bool) → length (insert e fs) ≡ suc (length fs) → length {A = MarkId} (elim b [ true ↦ e ∷ f ∷ fs | false ↦ f ∷ insert e fs ]) ≡ suc (suc (length fs))
      go2 true ih = refl
      go2 false ih = ap suc ih

  length-rising : (xs : List MarkId) → length (rising xs) ≡ length xs
  length-rising [] = refl
  length-rising (x ∷ xs) = length-insert x (rising xs) ∙ ap suc (length-rising xs)

  any_deeds : (i : MarkId) (ms : List Mark) → any (λ y. has i y.past) (map made_of ms) ≡ any (λ k. has i (past k)) (ids ms)
  unfolding made_of
  any_deeds i [] = refl
  any_deeds i (m ∷ ms) = ap (λ (b : Bool). has i (past m.id) || b) (any_deeds i ms)

  head_last : (l : List Mark) → Standing past l → (m : Mark) → is_last (map made_of l) (made_of m) ≡ is_head l m.id
  unfolding made_of is_last is_head
  head_last l h m = ap not (any_deeds m.id l ∙ sym (any_cong (λ k. precedes l m.id k) (λ k. has m.id (past k)) (ids l) (λ k mk. precedes-past past l h m.id k mk)))

  length-keep : (p : MarkId → Bool) (q : MadeMark → Bool) (ms : List Mark) → ((m : Mark) → q (made_of m) ≡ p m.id) → length (keep q (map made_of ms)) ≡ length (keep p (ids ms))
  length-keep p q [] f = refl
  length-keep p q (m ∷ ms) f = rw (f m) (go2 (p m.id) (length-keep p q ms f))
    where
      go2 : (b : Bool) → length (keep q (map made_of ms)) ≡ length (keep p (ids ms)) → length (cond b (made_of m ∷ keep q (map made_of ms)) (keep q (map made_of ms))) ≡ length (cond b (m.id ∷ keep p (ids ms)) (keep p (ids ms)))
      go2 true ih = ap suc ih
      go2 false ih = ih

  -- The frame of a new mark has the size that the plain machine says.
  size_ok : (d : State) (box : MarkBox) → Standing past d.executed → frame_size (lists_of d) ≡ mark_size 0 (new_mark d box)
  unfolding frame_size heads new_mark
  size_ok d box h = ap (λ (n : ℕ). 25 + 3 * n) (length-keep (is_head d.executed) (is_last (map made_of d.executed)) d.executed (head_last d.executed h) ∙ sym (length-rising (keep (is_head d.executed) (ids d.executed))))

  pub data MarkCase (N : ℕ) (d : State) (box : MarkBox) (out : List ℕ) : Type 0 where
    declined : (c : ℕ) → mark N d box out ≡ record { state = d; answer = refused c; bytes = out }
        → making d.own (lists_of d) box (length out) ≡ record { lists = lists_of d; answer = refused c } → MarkCase N d box out
    granted : (n : Numbered) → mark N d box out ≡ record { state = execute (new_mark d box) d; answer = gives n; bytes = over_if (gives n) (frame_of_mark (new_mark d box)) out }
        → making d.own (lists_of d) box (length out) ≡ record { lists = record { listed = new_made d.own (lists_of d) box ∷ map made_of d.executed; waiting = map made_of d.waiting }; answer = gives n }
        → Fit N (new_mark d box) → n ≡ record { number = (new_mark d box).id.number; size = mark_size N (new_mark d box) } → MarkCase N d box out

  -- Mark is the making.
  pub mark_cases : (N : ℕ) (some_desk : 1 ≤ N) (d : State) (box : MarkBox) (out : List ℕ) → Standing past d.executed → Invariant N some_desk d → MarkCase N d box out
  unfolding mark_of mark_answer_of making_by leave_out new_mark
  mark_cases N some_desk d box out h k = go (box_rule box) (full d) (ltb (length out) (mark_size N (new_mark d box))) refl refl refl
    where
      mark-is : (a : Answer Numbered) → mark_answer N d box (length out) ≡ a
          → mark N d box out ≡ record { state = state_if a (execute (new_mark d box) d) d; answer = a; bytes = over_if a (frame_of_mark (new_mark d box)) out }
      mark-is a e = λ i. record { state = state_if (e i) (execute (new_mark d box) d) d; answer = e i; bytes = over_if (e i) (frame_of_mark (new_mark d box)) out }

      go : (a b c : Bool) → box_rule box ≡ a → full d ≡ b → ltb (length out) (mark_size N (new_mark d box)) ≡ c → MarkCase N d box out
      go false b c ea eb ec = declined 5 (mark-is (refused 5) (rw ea)) (rw (ea, making_by))
      go true true c ea eb ec = declined 9 (mark-is (refused 9) (rw (ea, eb))) (rw (ea, making_by) (rw (lists_full_lem d) (rw eb)))
      go true false true ea eb ec =
          let fit = new_fit N some_desk d box k ea eb in
          declined 13 (mark-is (refused 13) (rw (ea, eb, fit_size N (new_mark d box) fit (length out), ec))) (rw (ea, making_by) (rw (lists_full_lem d) (rw eb (rw (size_ok d box h) (rw ec)))))
      go true false false ea eb ec =
          let fit = new_fit N some_desk d box k ea eb in
          let n : Numbered = record { number = suc (tally d.own (ids d.executed)); size = mark_size N (new_mark d box) } in
          granted n (mark-is (gives n) (rw (ea, eb, fit_size N (new_mark d box) fit (length out), ec)))
          (rw (ea, making_by) (rw (lists_full_lem d) (rw eb (rw (size_ok d box h) (rw ec (rw (made_ids_lem d.executed) (rw (size_ok d box h)))))))) fit refl

  pub new_made_lem : (d : State) (box : MarkBox) → past (new_mark d box).id ≡ ids d.executed → new_made d.own (lists_of d) box ≡ made_of (new_mark d box)
  unfolding new_made new_mark made_of
  new_made_lem d box e = let t = made_ids_lem d.executed in let p = t ∙ sym e in λ i. record { id = record { desk = d.own; number = suc (tally d.own (t i)) }; extent = box; past = p i }

  -- m is the made mark of its name, but for a count that it may lack.
  pub record Recorded (made : List MadeMark) (m : Mark) : Type 0 where
    pub good : Good past m
    pub stamp : m.stamp ≡ last_among past (past m.id)
    pub once : Once (past m.id)
    pub honest : T (same_count m.past (Said (length (past m.id))))
    pub found : find made_id m.id made ≡ some (made_of m)
    pub below : (a : MarkId) → T (has a (past m.id)) → T (has a (made_ids made))

  -- made: the marks made
  module _ (made : List MadeMark) where
    pub recorded-with : (m : Mark) (p : Past) → Recorded made m → T (same_count p (Said (length (past m.id)))) → Recorded made (with_past m p)
    unfolding made_of
    recorded-with m p x c = record { good = good_with past m p x.good; stamp = x.stamp; once = x.once; honest = c; found = x.found; below = x.below }

    pub recorded-made : (m : Mark) → Recorded made m → T (has m.id (made_ids made))
    recorded-made m x = rw (find-has made_id m.id made, x.found) tt

    -- One more is made.
    pub recorded_more : (y : MadeMark) → T (not (has y.id (made_ids made))) → (m : Mark) → Recorded made m → Recorded (y ∷ made) m
    recorded_more y n m x = record {
      good = x.good;
      stamp = x.stamp;
      once = x.once;
      honest = x.honest;
      found = rw (nT→eq (same m.id y.id) (apart y.id m.id (others y.id m.id (made_ids made) n (recorded-made m x))), find) x.found;
      below = λ a t. or_inr (same a y.id) (has a (made_ids made)) (x.below a t);
    }

    -- Two of one name have the same fields.
    pub one : (m k : Mark) → Recorded made m → Recorded made k → m.id ≡ k.id → same_fields m k ≡ true
    unfolding made_of
    one m k x y e =
        let p = x.found in
        let q = y.found in
        let z : made_of m ≡ made_of k = cc in
        fields-same m k (ap (λ (v : MadeMark). v.extent) z) (x.stamp ∙ ap (λ (j : MarkId). last_among past (past j)) e ∙ sym y.stamp)
        (agreeing m.past k.past (length (past m.id)) x.honest (subst (λ (j : MarkId). T (same_count k.past (Said (length (past j))))) (sym e) y.honest))

    pub record Unlisted (l : List Mark) (w : Mark) : Type 0 where
      pub fresh : T (not (has w.id (ids l)))
      pub k : Recorded made w

    pub record Consistent (l ws : List Mark) : Type 0 where
      pub hist : Standing past l
      pub ks : All (Recorded made) l
      pub lacks : All (Unlisted l) ws

    pub record Released (turns : ℕ) (l ws : List Mark) (k f : ℕ) (r : Release) : Type 0 where
      pub sim : execute_ready turns (map made_of l) (map made_of ws) ≡ record { listed = map made_of r.executed; waiting = map made_of r.waiting }
      pub growth : r.k + length l ≡ k + length r.executed
      pub none-false : r.f ≡ f
      pub ok : Consistent r.executed r.waiting
      pub grows : Grows l r.executed

    -- A mark that is ready and says the truth has no false stamp, and is one more executed.
    ok_add : {l vs : List Mark} → Consistent l vs → (ws : List Mark) (w : Mark) → Unlisted l w → T (ready l w) → All (λ v. Unlisted l v × T (not (same w.id v.id))) ws
        → (false_stamp l w ≡ false) × Consistent (reckoned l w ∷ l) ws
    ok_add {l} o ws w lw t a = (
      not-false_stamp past l o.hist w stands k.once k.honest listed,
      subst (λ (v : Mark). Consistent (v ∷ l) ws) (sym as_true) (record {
        hist = (stands_with past w (Said (length (past w.id))) l stands, o.hist);
        ks = (recorded-with w (Said (length (past w.id))) k (eqb_refl (length (past w.id))), o.ks);
        lacks = all_map (λ m p. record { fresh = neither m.id w.id (ids l) p.1 p.0.fresh; k = p.0.k }) ws a;
      }),
    )
      where
        k : Recorded made w
        k = lw.k

        listed : T (all (λ a. has a (ids l)) (past w.id))
        listed = rw (ready-past past l o.hist w k.good) at t

        stands : Stands past w l
        stands = ready_stands past l o.hist w k.good lw.fresh listed

        as_true : reckoned l w ≡ with_past w (Said (length (past w.id)))
        as_true = ap (λ (n : ℕ). with_past w (Said n)) (reckoned-past past l o.hist w stands k.once)

    release_ok : (turns : ℕ) (l ws : List Mark) (k f : ℕ) → Consistent l ws → Released turns l ws k f (release turns l ws k f)
    unfolding made_of
    release_ok zero l ws k f o = record { sim = refl; growth = refl; none-false = refl; ok = o; grows = λ i t. t }
    release_ok (suc turns) l ws k f o = go (lowest mark_id (ready l) ws) refl (release_ok turns)
      where
        same-pick : lowest made_id (past_listed (map made_of l)) (map made_of ws) ≡ Option.map made_of (lowest mark_id (ready l) ws)
        same-pick = lowest_image mark_id made_id made_of made-named (ready l) (past_listed (map made_of l)) ws (all_map (λ w x. listed-ready l o.hist w x.k.good) ws o.lacks)

        go : (p : Option Mark) → lowest mark_id (ready l) ws ≡ p
            → ((l ws : List Mark) (k f : ℕ) → Consistent l ws → Released turns l ws k f (release turns l ws k f))
            → Released (suc turns) l ws k f (release (suc turns) l ws k f)
        go none e ih = rw (e, release_by) (record { sim = rw (same-pick ∙ ap (Option.map made_of) e, execute_ready); growth = refl; none-false = refl; ok = o; grows = λ i t. t })
        go (some w) e ih =
            let rest = without mark_id w.id ws in
            let pk : Unlisted l w × T (ready l w) = lowest-picked mark_id (Unlisted l) (ready l) ws o.lacks w e in
            let add = ok_add o rest w pk.0 pk.1 (without_all mark_id (Unlisted l) w.id ws o.lacks) in
            let r = ih (reckoned l w ∷ l) rest (suc k) f add.1 in
            let g = r.growth in
            rw (e, release_by) (rw add.0 (record {
              sim = rw (same-pick ∙ ap (Option.map made_of) e, execute_ready) (rw (without_image mark_id made_id made_of made-named w.id ws) r.sim);
              growth = omega arith;
              none-false = r.none-false;
              ok = r.ok;
              grows = λ i t. r.grows i (or_inr (same i w.id) (has i (ids l)) t);
            }))

    -- A desk's outcome, without the number of missing marks, and the plain machine's are the same, and the desk stays consistent.
    pub record Matches (d : State) (t : Outcome Reception) (o : Received) : Type 0 where
      pub sim : t ≡ record { lists = lists_of o.state; answer = without_missing o.answer }
      pub own : o.state.own ≡ d.own
      pub ok : Consistent o.state.executed o.state.waiting
      pub grows : Grows d.executed o.state.executed

    -- Nothing changes.
    unchanged : (d : State) (a : Answer Reply) → Consistent d.executed d.waiting → Matches d (record { lists = lists_of d; answer = without_missing a }) (record { state = d; answer = a })
    unchanged d a o = record { sim = refl; own = refl; ok = o; grows = λ i t. t }

    -- A mark that is neither executed nor waiting.
    admit_ok : (d : State) (m : Mark) → Consistent d.executed d.waiting → Recorded made m → find mark_id m.id (d.executed ++ d.waiting) ≡ none
        → Matches d (hand_over (lists_of d) (made_of m)) (act d (admit d m))
    unfolding hand_over admit_by executing_by leave_out made_of
    admit_ok d m o km e = go (full d) (ready d.executed m) (eqb (length d.waiting) waiting_places) refl refl refl
      where
        unknown : has (made_of m).id (made_ids ((lists_of d).listed ++ (lists_of d).waiting)) ≡ false
        unknown = known-has d m ∙ ap is_some e

        n : T (not (has m.id (ids d.executed) || has m.id (ids d.waiting)))
        n = rw (← has_append m.id (ids d.executed) (ids d.waiting), ← map_append mark_id d.executed d.waiting, find-has mark_id m.id (d.executed ++ d.waiting), e) tt

        lm : Unlisted d.executed m
        lm = record { fresh = nor_fst (has m.id (ids d.executed)) (has m.id (ids d.waiting)) n; k = km }

        lr : past_listed (map made_of d.executed) (made_of m) ≡ ready d.executed m
        lr = listed-ready d.executed o.hist m km.good

        after : DeskLists
        after = execute_ready (length d.waiting) (made_of m ∷ map made_of d.executed) (map made_of d.waiting)

        same_outcome : {r : Release} → Released (length d.waiting) (reckoned d.executed m ∷ d.executed) d.waiting 1 0 r
            → ◌≡◌ {A = Outcome Reception} (record { lists = after; answer = gives (Executed (length after.listed - length (map made_of d.executed)) 0) })
            (record { lists = record { listed = map made_of r.executed; waiting = map made_of r.waiting }; answer = gives (Executed r.k r.f) })
        same_outcome {r} x =
            let s = x.sim in
            let z = sym x.none-false in
            let g = x.growth in
            let n : length after.listed - length (map made_of d.executed) ≡ r.k = rw (s, length-map d.executed made_of, length-map r.executed made_of) (omega arith) in
            λ i. record { lists = s i; answer = gives (Executed (n i) (z i)) }

        go : (a b c : Bool) → full d ≡ a → ready d.executed m ≡ b → eqb (length d.waiting) waiting_places ≡ c → Matches d (hand_over (lists_of d) (made_of m)) (act d (admit d m))
        go true b c ea eb ec = rw (unknown, hand_over) (rw (lists_full_lem d) (rw ea (unchanged d (refused 9) o)))
        go false false true ea eb ec = rw (unknown, hand_over) (rw (lists_full_lem d) (rw (ea, admit_by) (rw lr (rw eb (rw (length-map d.waiting made_of) (rw ec (unchanged d (refused 10) o)))))))
        go false false false ea eb ec = rw (unknown, hand_over) (rw (lists_full_lem d) (rw (ea, admit_by) (rw lr (rw eb (rw (length-map d.waiting made_of) (rw ec
            (record { sim = refl; own = refl; ok = record { hist = o.hist; ks = o.ks; lacks = (lm, o.lacks) }; grows = λ i t. t })))))))
        go false true c ea eb ec =
            let t : T (ready d.executed m) = rw eb tt in
            let add = ok_add o d.waiting m lm t (absent-all mark_id (Unlisted d.executed) m.id d.waiting (nor_snd (has m.id (ids d.executed)) (has m.id (ids d.waiting)) n) o.lacks) in
            let x = release_ok (length d.waiting) (reckoned d.executed m ∷ d.executed) d.waiting 1 0 add.1 in
            rw (unknown, hand_over) (rw (lists_full_lem d) (rw (ea, admit_by) (rw lr (rw eb (rw (length-map d.waiting made_of) (rw add.0
            (record { sim = same_outcome x; own = refl; ok = x.ok; grows = λ i t. x.grows i (or_inr (same i m.id) (has i (ids d.executed)) t) })))))))

    -- Receive of a made mark's frame is its hand-over.
    pub receive_ok : (d : State) (m : Mark) → Consistent d.executed d.waiting → Recorded made m → (unmade d m.id || any (unmade d) m.stamp) ≡ false
        → Matches d (hand_over (lists_of d) (made_of m)) (receive_mark d m)
    unfolding hand_over judge_by
    receive_ok d m o km known = rw (known, judge_by) (go (find mark_id m.id (d.executed ++ d.waiting)) refl)
      where
        go : (p : Option Mark) → find mark_id m.id (d.executed ++ d.waiting) ≡ p
            → Matches d (hand_over (lists_of d) (made_of m)) (act d (elim (find mark_id m.id (d.executed ++ d.waiting)) [
              | some h ↦ refuse_if (not (same_fields h m)) 8 (gives knows)
              | none ↦ admit d m
            ]))
        go none e = rw e (admit_ok d m o km e)
        go (some h) e =
            let ks = all_append (Recorded made) d.executed d.waiting o.ks (all_map (λ w l. l.k) d.waiting o.lacks) in
            let k = subst (Picked (Recorded made) (λ w. same m.id w.id)) e (find-all mark_id (Recorded made) m.id (d.executed ++ d.waiting) ks) in
            let sm : same_fields h m ≡ true = one h m k.0 km (sym (same→eq m.id h.id k.1)) in
            rw e (rw sm (rw (known-has d m ∙ ap is_some e, hand_over) (unchanged d (gives Known) o)))
