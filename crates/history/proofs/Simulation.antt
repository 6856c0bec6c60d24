-- The simulation: over every sequence the desks and the plain machine go through the same lists, sets and answers. Assumes nothing.
use Prim.Native.Nat.{◌≤◌, ℕ}
use lib.Dec.{T, T_not, eqb, eqb_refl, ltb, ltb→lt, not_T}
use lib.ListN.{length, take}
use mathlib.Core.Bool.{Bool, ◌||◌, false, not, true}
use mathlib.Core.List.{List, [], ◌∷◌, map}
use mathlib.Core.Option.{Option, none, some}
use mathlib.Core.Path.{◌∙◌, ◌≡◌, ap, refl, subst, sym}
use native.Mathlib.Omega.{arith}
use Rattle.frame.specs.declared.MarkBox.{MarkBox}
use Rattle.frame.specs.declared.Past.TheVariants.{Unsaid}
use Rattle.frame.specs.Answer.{Answer, gives, refuse_if, refused}
use Rattle.frame.specs.Names.{MarkId, is_desk}
use Rattle.causality.specs.Calls.{Created, Marked, begun, empty, execute, frame_of_mark, is_said, new_mark, read_mark, receive, receive_mark, to_first_bytes, to_first_size, to_second_bytes, to_second_mark, to_second_size, unmade}
use Rattle.causality.specs.Kinds.{new_of, receive_of}
use Rattle.causality.specs.Marks.{All, any, find, has, rising, same, tally}
use Rattle.causality.specs.State.{Mark, State, heads, ids, is_head, mark_id, with_past}
use Rattle.causality.proofs.Conversions.{first_front, first_read, first-size, second_front, second_gives, second_none, second-read, second-size}
use Rattle.causality.proofs.Fit.{fit_back, fit_front, fit_read, mark_size}
use Rattle.causality.specs.inner.Fit.{Fit}
use Rattle.causality.proofs.Invariant.{Invariant, fit_with, kept, mark-kept, receive_mark-kept}
use Rattle.causality.proofs.Lists.{Picked, all-names, all_map, any_cong, any_find, find-all, find-has, has-self, ids-length, keep_cong}
use Rattle.causality.proofs.Logic.{T→eq, and_yes, eqb_yes, nT→eq, or_inl, or_inr, same_refl, same→eq}
use Rattle.causality.proofs.Past.{Stands, counted, new_stands, precedes-past, prefix_le}
use Rattle.causality.proofs.Reckoning.{Once, counted_once}
use Rattle.history.specs.Demand3.{converts}
use Rattle.history.specs.Plain.{DeskLists, History, MadeMark, StepAnswer, Unmade, hand_over, hand_over_at, lists_at, look, made_id, made_ids, making, making_at, new_made, of_mark, of_receive, plain, plain_step, plain_step_by}
use Rattle.history.specs.Run.{Run, Written, converted, frame_at, handing, marking, run, run_step, state_at, to_first, to_second, without_missing, written_id}
use Rattle.history.proofs.Calls.{Consistent, Grows, MarkCase, Recorded, declined, granted, lists_of, made_ids_lem, made_of, mark_cases, neither, new_made_lem, one, others, receive_ok, recorded-made, recorded_more, recorded-with}
use Rattle.history.proofs.Lookup.{frame_has, fresh, look-both, look-new, picked}

-- A mark's own desk has executed it.
abbrev Within : ℕ → Run → MarkId → Type 0
Within N r i = T (has i (ids (state_at N r i.desk).executed))

abbrev pub framed : Mark → Written
framed m = record { id = m.id; bytes = frame_of_mark m }

abbrev HasFrame : List Written → MadeMark → Type 0
HasFrame fs x = T (any (λ f. same x.id f.id) fs)

-- What a conversion answers.
conv_held : (b c : Bool) (n : ℕ) → T (converts (refuse_if b 14 (refuse_if c 13 (gives n))))
conv_held true c n = tt
conv_held false true n = tt
conv_held false false n = tt

conv_none : (b : Bool) → T (converts (refuse_if b 14 (refused 12)))
conv_none true = tt
conv_none false = tt

-- past: of each name, as it is at the end of the sequence, so that it does not change as the sequence grows.
module _ (N : ℕ) (some_desk : 1 ≤ N) (past : MarkId → List MarkId) where
  -- A frame of the sequence is that of a mark made, of either edition.
  pub record Spelt (made : List MadeMark) (f : Written) : Type 0 where
    pub mark : Mark
    pub spells : f ≡ framed mark
    pub fit : Fit N mark
    pub k : Recorded past made mark

  -- Desk d in state x has the lists ls of the history.
  pub record HasLists (made : List MadeMark) (d : ℕ) (ls : DeskLists) (x : State) : Type 0 where
    pub own : is_desk N d ≡ true → x.own ≡ d
    pub kept : Invariant N some_desk x
    pub ok : Consistent past made x.executed x.waiting
    pub lists : ls ≡ lists_of past x

  pub record Inv (r : Run) (h : History) : Type 0 where
    pub desks : (d : ℕ) → HasLists h.made d (lists_at h d) (state_at N r d)
    pub frames : All (Spelt h.made) r.frames
    pub whole : All (HasFrame r.frames) h.made
    pub reached : All (λ x. Within N r x.id) h.made
    pub answers : r.answers ≡ h.answers
    pub conversions : All (λ a. T (converts a)) r.conversions

  -- A fresh desk is empty, and its own where it is one.
  fresh-is : (P : State → Type 0) (d : ℕ) → ((e : ℕ) → (is_desk N d ≡ true → e ≡ d) → P (empty e)) → P (fresh N d)
  unfolding new_of
  fresh-is P d f = go (is_desk N d) refl
    where
      go : (b : Bool) → is_desk N d ≡ b → P (elim b as (λ x. Created) [ true ↦ record { state = empty d; answer = gives d } | false ↦ record { state = empty 1; answer = refused 1 } ]).state
      go true q = f d (λ t. refl)
      go false q = f 1 (λ t. let z : ◌≡◌ {A = ℕ} 0 1 = cc in let y : ⊥ = omega arith in absurd y)

  pub start : Inv (run N []) (plain [])
  start = record {
    desks = λ d. fresh-is (λ x. Invariant N some_desk x → HasLists [] d (record { listed = []; waiting = [] }) x) d
        (λ e o k. record { own = o; kept = k; ok = record { hist = tt; ks = tt; lacks = tt }; lists = refl }) (kept N some_desk (begun d));
    frames = tt;
    whole = tt;
    reached = tt;
    answers = refl;
    conversions = tt;
  }

  module _ (r : Run) (h : History) (inv : Inv r h) where
    -- NO DESK CHANGES

    still : (fs : List Written) → All (Spelt h.made) fs → All (HasFrame fs) h.made → (as' bs : List StepAnswer) → as' ≡ bs → (cs : List (Answer ℕ)) → All (λ a. T (converts a)) cs
        → Inv (record { states = r.states; frames = fs; answers = as'; conversions = cs }) (record { lists = h.lists; made = h.made; answers = bs })
    still fs sp wh as' bs e cs c = record {
      desks = inv.desks;
      frames = sp;
      whole = wh;
      reached = inv.reached;
      answers = e;
      conversions = c;
    }

    -- A frame more of a mark that has one.
    convert_ok : (i : MarkId) (a : Answer ℕ) (bytes : List ℕ) → T (converts a) → ((n : ℕ) → a ≡ gives n → Spelt h.made (record { id = i; bytes = take n bytes }))
        → Inv (record { states = r.states; frames = converted i a bytes r.frames; answers = r.answers; conversions = a ∷ r.conversions }) h
    convert_ok i (refused c) bytes t f = still r.frames inv.frames inv.whole r.answers h.answers inv.answers (refused c ∷ r.conversions) (t, inv.conversions)
    convert_ok i (gives n) bytes t f = still (record { id = i; bytes = take n bytes } ∷ r.frames) (f n refl, inv.frames)
        (all_map (λ x u. or_inr (same x.id i) (any (λ f. same x.id f.id) r.frames) u) h.made inv.whole)
        r.answers h.answers inv.answers (gives n ∷ r.conversions) (t, inv.conversions)

    first_of : (m : Mark) → Fit N m → Recorded past h.made m → (lent : List ℕ) → let a = to_first_size N (frame_of_mark m) (length lent) in
        Inv (record { states = r.states; frames = converted m.id a (to_first_bytes N (frame_of_mark m) lent) r.frames; answers = r.answers; conversions = a ∷ r.conversions }) h
    first_of m f k lent =
        let g = fit_with N some_desk m Unsaid f refl in
        let q = first_read N m f (length lent) in
        convert_ok m.id (to_first_size N (frame_of_mark m) (length lent)) (to_first_bytes N (frame_of_mark m) lent)
        (rw (q, first-size N m (length lent) g) (conv_held (not (is_said m.past)) (ltb (length lent) (mark_size N (with_past m Unsaid))) (mark_size N (with_past m Unsaid))))
        (λ n e. let b = first_front N m f lent n (sym q ∙ e) in
        record { mark = with_past m Unsaid; spells = λ j. record { id = m.id; bytes = b j }; fit = g; k = recorded-with past h.made m Unsaid k tt })

    pub first_ok : (i : MarkId) (k : ℕ) (lent : List ℕ) → Inv (run_step N r (to_first i k lent)) h
    first_ok i k lent = go (frame_at written_id i k r.frames) refl
      where
        go : (o : Option Written) → frame_at written_id i k r.frames ≡ o → Inv (run_step N r (to_first i k lent)) h
        go none e = rw (e, run_step) inv
        go (some f) e = let y = (picked (Spelt h.made) written_id i k r.frames inv.frames f e).0 in rw (e, run_step) (rw y.spells (first_of y.mark y.fit y.k lent))

    -- There is a frame of each mark made, and of no other.
    made_none : (i : MarkId) (k : ℕ) → frame_at written_id i k r.frames ≡ none → find made_id i h.made ≡ none
    made_none i k e = go (find made_id i h.made) refl
      where
        go : (o : Option MadeMark) → find made_id i h.made ≡ o → o ≡ none
        go none q = refl
        go (some x) q = absurd (rw (← frame_has written_id i k r.frames, e) at
            (all-names made_id (λ j. T (any (λ f. same j f.id) r.frames)) h.made inv.whole i (rw (find-has made_id i h.made, q) tt)))

    module _ (d : ℕ) where
      abbrev st : State
      st = state_at N r d

      now : HasLists h.made d (lists_at h d) st
      now = inv.desks d

      -- DESK d BECOMES x

      module _ (x : State) (fs : List Written) (a : StepAnswer) (g : Grows st.executed x.executed) where
        abbrev after : Run
        after = record { states = (d, x) ∷ r.states; frames = fs; answers = a ∷ r.answers; conversions = r.conversions }

        grow : (i : MarkId) → Within N r i → Within N after i
        grow i k = look-new (λ e y. T (has i (ids (state_at N r e).executed)) → T (has i (ids y.executed))) (fresh N) r.states d x (g i) i.desk (λ t. t) k

        put : (ys : List MadeMark) → ((m : Mark) → Recorded past h.made m → Recorded past ys m) → (l : DeskLists) → HasLists ys d l x
            → All (Spelt ys) fs → All (HasFrame fs) ys → All (λ y. Within N after y.id) ys → Inv after (record { lists = (d, l) ∷ h.lists; made = ys; answers = a ∷ h.answers })
        put ys mono l k sp wh re = record {
          desks = λ e. let u = inv.desks e in look-both (HasLists ys) (λ n. record { listed = []; waiting = [] }) (fresh N) h.lists r.states d l x k e (record {
            own = u.own;
            kept = u.kept;
            ok = record {
              hist = u.ok.hist;
              ks = all_map mono (state_at N r e).executed u.ok.ks;
              lacks = all_map (λ m v. record { fresh = v.fresh; k = mono m v.k }) (state_at N r e).waiting u.ok.lacks;
            };
            lists = u.lists;
          });
          frames = sp;
          whole = wh;
          reached = re;
          answers = ap (λ (l : List StepAnswer). a ∷ l) inv.answers;
          conversions = inv.conversions;
        }

      -- No mark is made.
      keep-made : (x : State) (a : StepAnswer) → Grows st.executed x.executed → (l : DeskLists) → HasLists h.made d l x
          → Inv (record { states = (d, x) ∷ r.states; frames = r.frames; answers = a ∷ r.answers; conversions = r.conversions }) (record { lists = (d, l) ∷ h.lists; made = h.made; answers = a ∷ h.answers })
      keep-made x a g l k = put x r.frames a g h.made (λ m u. u) l k inv.frames inv.whole (all_map (λ y u. grow x r.frames a g y.id u) h.made inv.reached)

      module _ (td : is_desk N d ≡ true) where
        -- A HAND-OVER

        -- The desk has executed what of its own is made, so its numbers are reached.
        own_within : (i : MarkId) → T (has i (made_ids h.made)) → i.desk ≡ st.own → i.number ≤ tally st.own (ids st.executed)
        own_within i t p =
            let l = st.executed in
            let k = subst (λ (n : ℕ). T (has i (ids (state_at N r n).executed))) (p ∙ now.own td) (all-names made_id (Within N r) h.made inv.reached i t) in
            subst (λ (n : ℕ). i.number ≤ tally n (ids l)) p (prefix_le (ids l) (counted past l now.ok.hist) i k).1

        made_no : (i : MarkId) → T (has i (made_ids h.made)) → T (not (unmade st i))
        unfolding unmade
        made_no i t = not_T (unmade st i) (λ u.
            let a : Bool = eqb i.desk st.own in
            let b : Bool = ltb (tally st.own (ids st.executed)) i.number in
            let k = own_within i t (eqb_yes (and_yes a b u).0) in
            let q = ltb→lt (tally st.own (ids st.executed)) i.number (and_yes a b u).1 in
            omega arith)

        none-unmade : (m : Mark) → Recorded past h.made m → (unmade st m.id || any (unmade st) m.stamp) ≡ false
        none-unmade m x = rw (nT→eq (unmade st m.id) (made_no m.id (recorded-made past h.made m x))) (nT→eq (any (unmade st) m.stamp) (not_T (any (unmade st) m.stamp) (λ u.
            let e = any_find (unmade st) m.stamp u in
            T_not (unmade st e.0) (made_no e.0 (x.below e.0 (x.good.entry e.0 e.1))) e.2)))

        -- Receive of a fit mark's frame.
        receive-frame : (m : Mark) → Fit N m → receive N st (frame_of_mark m) ≡ receive_mark st m
        unfolding receive_of read_mark
        receive-frame m f = rw (fit_read N m f, fit_back N m f)

        pub handing_ok : (i : MarkId) (k : ℕ) → Inv (run_step N r (handing d i k)) (plain_step h (hand_over_at d i))
        handing_ok i k = go (frame_at written_id i k r.frames) refl
          where
            go : (o : Option Written) → frame_at written_id i k r.frames ≡ o → Inv (run_step N r (handing d i k)) (plain_step h (hand_over_at d i))
            go none e = rw (e, run_step) (rw (made_none i k e, plain_step_by)
                (still r.frames inv.frames inv.whole (Unmade ∷ r.answers) (Unmade ∷ h.answers) (ap (λ (l : List StepAnswer). Unmade ∷ l) inv.answers) r.conversions inv.conversions))
            go (some f) e =
                let p = picked (Spelt h.made) written_id i k r.frames inv.frames f e in
                let m : Mark = p.0.mark in
                let mm = p.0.k in
                let j : m.id ≡ i = ap written_id (sym p.0.spells) ∙ sym (same→eq i f.id p.1) in
                let found : find made_id i h.made ≡ some (made_of past m) = subst (λ (j : MarkId). find made_id j h.made ≡ some (made_of past m)) j mm.found in
                let c = receive_ok past h.made st m now.ok mm (none-unmade m mm) in
                let q : hand_over (lists_at h d) (made_of past m) ≡ record { lists = lists_of past (receive_mark st m).state; answer = without_missing (receive_mark st m).answer }
                = ap (λ (p : DeskLists). hand_over p (made_of past m)) now.lists ∙ c.sim in
                let b : receive N st f.bytes ≡ receive_mark st m = ap (λ (v : Written). receive N st v.bytes) p.0.spells ∙ receive-frame m p.0.fit in
                rw (e, run_step) (rw (found, plain_step_by) (rw (b, q)
                (keep-made (receive_mark st m).state (of_receive (without_missing (receive_mark st m).answer)) c.grows (lists_of past (receive_mark st m).state)
                (record { own = λ t. c.own ∙ now.own t; kept = receive_mark-kept N some_desk st m p.0.fit now.kept; ok = c.ok; lists = refl }))))

        -- A CONVERSION AT A DESK

        second_of : (m : Mark) → Fit N m → Recorded past h.made m → (lent : List ℕ) → let a = to_second_size N st (frame_of_mark m) (length lent) in
            Inv (record { states = r.states; frames = converted m.id a (to_second_bytes N st (frame_of_mark m) lent) r.frames; answers = r.answers; conversions = a ∷ r.conversions }) h
        second_of m f k lent = convert_ok m.id (to_second_size N st (frame_of_mark m) (length lent)) (to_second_bytes N st (frame_of_mark m) lent)
            (rw read (answered (find mark_id m.id st.executed) refl))
            (λ n e.
            let g = second_gives N st m (length lent) n (sym read ∙ e) in
            let b = second_front N st m f lent n (sym read ∙ e) g.held g.found g.size in
            let y = held g.held g.found in
            let i = y.2 in
            record { mark = g.held; spells = λ j. record { id = i j; bytes = b j }; fit = y.0; k = y.1 })
          where
            read : to_second_size N st (frame_of_mark m) (length lent) ≡ to_second_mark N st m (length lent)
            read = second-read N st m f (length lent)

            held : (v : Mark) → find mark_id m.id st.executed ≡ some v → Fit N v × Recorded past h.made v × m.id ≡ v.id
            held v e =
                let p = subst (Picked (Recorded past h.made) (λ v. same m.id v.id)) e (find-all mark_id (Recorded past h.made) m.id st.executed now.ok.ks) in
                let q = subst (Picked (Fit N) (λ v. same m.id v.id)) e (find-all mark_id (Fit N) m.id st.executed now.kept.executed) in
                (q.0, p.0, same→eq m.id v.id p.1)

            answered : (o : Option Mark) → find mark_id m.id st.executed ≡ o → T (converts (to_second_mark N st m (length lent)))
            answered none e = rw (second_none N st m (length lent) e) (conv_none (is_said m.past))
            answered (some v) e = let y = held v e in
                rw (second-size N st m v (length lent) e (one past h.made v m y.1 k (sym y.2)) y.0) (conv_held (is_said m.past) (ltb (length lent) (mark_size N v)) (mark_size N v))

        pub second_ok : (i : MarkId) (k : ℕ) (lent : List ℕ) → Inv (run_step N r (to_second d i k lent)) h
        second_ok i k lent = go (frame_at written_id i k r.frames) refl
          where
            go : (o : Option Written) → frame_at written_id i k r.frames ≡ o → Inv (run_step N r (to_second d i k lent)) h
            go none e = rw (e, run_step) inv
            go (some f) e = let y = (picked (Spelt h.made) written_id i k r.frames inv.frames f e).0 in rw (e, run_step) (rw y.spells (second_of y.mark y.fit y.k lent))

        -- A MARKING

        module _ (box : MarkBox) where
          abbrev new_at : Mark
          new_at = new_mark st box

          new-id : (new_made d (lists_at h d) box).id ≡ new_at.id
          unfolding new_made new_mark
          new-id = rw (now.lists, made_ids_lem past st.executed, now.own td)

          -- Its name is new.
          absent : T (not (has new_at.id (made_ids h.made)))
          unfolding new_mark
          absent = not_T (has new_at.id (made_ids h.made)) (λ t. let k = own_within new_at.id t refl in omega arith)

          pub new-absent : T (not (has (new_made d (lists_at h d) box).id (made_ids h.made)))
          new-absent = rw new-id absent

          module _ (fit : Fit N new_at) (ep : past new_at.id ≡ ids st.executed) where
            abbrev made' : List MadeMark
            made' = made_of past new_at ∷ h.made

            more : (m : Mark) → Recorded past h.made m → Recorded past made' m
            unfolding made_of
            more = recorded_more past h.made (made_of past new_at) absent

            stands : Stands past new_at st.executed
            stands = new_stands past st box now.ok.hist ep

            -- Its stamp is the heads, and these are the last ones of its past.
            new-recorded : Recorded past made' new_at
            unfolding new_mark made_of heads is_head
            new-recorded = let l = st.executed in record {
              good = stands.good;
              stamp = rw ep (ap rising (keep_cong _ _ (ids l) (λ e me. ap not (any_cong _ _ (ids l) (λ k mk. precedes-past past l now.ok.hist e k mk)))));
              once = subst Once (sym ep) (counted_once (ids l) (counted past l now.ok.hist));
              honest = subst (λ (n : ℕ). T (eqb (length l) n)) (sym (ap length ep ∙ ids-length l)) (eqb_refl (length l));
              found = rw (T→eq (same new_at.id new_at.id) (same_refl new_at.id), find) refl;
              below = λ b t. or_inr (same b new_at.id) (has b (made_ids h.made))
                  (all-names mark_id (λ i. T (has i (made_ids h.made))) l (all_map (recorded-made past h.made) l now.ok.ks) b (rw ep at t));
            }

            new_ok : Consistent past made' (new_at ∷ st.executed) st.waiting
            new_ok = let l = st.executed in record {
              hist = (stands, now.ok.hist);
              ks = (new-recorded, all_map more l now.ok.ks);
              lacks = all_map (λ m x. record {
                fresh = neither m.id new_at.id (ids l) (others new_at.id m.id (made_ids h.made) absent (recorded-made past h.made m x.k)) x.fresh;
                k = more m x.k;
              }) st.waiting now.ok.lacks;
            }

            grows : Grows st.executed (new_at ∷ st.executed)
            grows i t = or_inr (same i new_at.id) (has i (ids st.executed)) t

            granted_ok : (a : StepAnswer) → Invariant N some_desk (execute new_at st) → (f : Written) → f ≡ framed new_at → (y : MadeMark) → y ≡ made_of past new_at
                → (l : DeskLists) → l ≡ lists_of past (execute new_at st)
                → Inv (record { states = (d, execute new_at st) ∷ r.states; frames = f ∷ r.frames; answers = a ∷ r.answers; conversions = r.conversions })
                (record { lists = (d, l) ∷ h.lists; made = y ∷ h.made; answers = a ∷ h.answers })
            unfolding made_of new_mark
            granted_ok a kx f ef y ey l el = rw (ef, ey) (put (execute new_at st) (framed new_at ∷ r.frames) a grows made' more l (record { own = now.own; kept = kx; ok = new_ok; lists = el })
                (record { mark = new_at; spells = refl; fit = fit; k = new-recorded }, all_map (λ f s. record { mark = s.mark; spells = s.spells; fit = s.fit; k = more s.mark s.k }) r.frames inv.frames) (
                  or_inl (same new_at.id new_at.id) (any (λ f. same new_at.id f.id) r.frames) (same_refl new_at.id),
                  all_map (λ x u. or_inr (same x.id new_at.id) (any (λ f. same x.id f.id) r.frames) u) h.made inv.whole,
                )
                (within, all_map (λ y u. grow (execute new_at st) (framed new_at ∷ r.frames) a grows y.id u) h.made inv.reached))
              where
                within : Within N (after (execute new_at st) (framed new_at ∷ r.frames) a grows) new_at.id
                within = subst (λ (n : ℕ). T (has new_at.id (ids (look (fresh N) ((d, execute new_at st) ∷ r.states) n).executed))) (sym (now.own td))
                    (rw (T→eq (eqb d d) (eqb_refl d), look) (has-self new_at.id (ids st.executed)))

        pub marking_ok : (box : MarkBox) (lent : List ℕ) → All (λ y. past y.id ≡ y.past) (plain_step h (making_at d box (length lent))).made
            → Inv (run_step N r (marking d box lent)) (plain_step h (making_at d box (length lent)))
        unfolding new_made new_mark
        marking_ok box lent hp = go (mark_cases past N some_desk st box lent now.ok.hist now.kept)
          where
            own : {A : Type 0} (f : ℕ → DeskLists → A) → f d (lists_at h d) ≡ f st.own (lists_of past st)
            own f = let n = sym (now.own td) in let l = now.lists in λ i. f (n i) (l i)

            makes : making d (lists_at h d) box (length lent) ≡ making st.own (lists_of past st) box (length lent)
            makes = own (λ n l. making n l box (length lent))

            go : MarkCase past N st box lent → Inv (run_step N r (marking d box lent)) (plain_step h (making_at d box (length lent)))
            go (declined c e₁ e₂) = rw (e₁, makes ∙ e₂) (keep-made st (of_mark (refused c)) (λ i t. t) (lists_of past st) (record { own = now.own; kept = now.kept; ok = now.ok; lists = refl }))
            go (granted n e₁ e₂ fit en) =
                let m : Mark = new_mark st box in
                let hp' = rw (makes ∙ e₂) at hp in
                let ep : past m.id ≡ ids st.executed = ap past (sym (new-id box)) ∙ hp'.0 ∙ ap (λ (l : DeskLists). made_ids l.listed) now.lists ∙ made_ids_lem past st.executed in
                let nd : new_made st.own (lists_of past st) box ≡ made_of past m = new_made_lem past st box ep in
                let kx = subst (λ (o : Marked). Invariant N some_desk o.state) e₁ (mark-kept N some_desk st box lent now.kept) in
                let n' = sym (now.own td) in
                let front = fit_front N m _ in
                rw (e₁, makes ∙ e₂) (granted_ok box fit ep (of_mark (gives n)) kx _ (rw en (λ i. record { id = record { desk = n' i; number = m.id.number }; bytes = front i }))
                _ (own (λ n l. new_made n l box) ∙ nd) _ (λ i. record { listed = nd i ∷ map (made_of past) st.executed; waiting = map (made_of past) st.waiting }))
