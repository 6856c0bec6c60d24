-- Any desk from New, Mark and Receive, whatever frames it was lent.
use Prim.Native.Nat.{◌-◌, ◌≤◌, suc, ℕ}
use lib.Dec.{T, T_not, eqb, eqb_refl, leb, ltb, not_T}
use lib.ListN.{length}
use mathlib.Core.Bool.{Bool, ◌&&◌, ◌||◌, false, not, true}
use mathlib.Core.List.{List, [], ◌++◌, ◌∷◌}
use mathlib.Core.Logic.{◌↔◌, ◌⊎◌, inl, inr}
use mathlib.Core.Path.{◌∙◌, ◌≡◌, ap, refl, subst, sym}
use native.Mathlib.Omega.{arith}
use Rattle.frame.specs.declared.MarkBox.{MarkBox}
use Rattle.frame.specs.declared.Past.TheVariants.{Said}
use Rattle.frame.specs.Answer.{Answer, gives, refused}
use Rattle.frame.specs.Names.{MarkId}
use Rattle.frame.proofs.Tests.{or-false}
use Rattle.causality.specs.Answers.{Judgement, Numbered}
use Rattle.causality.specs.Calls.{act, execute, mark, mark_answer, new_mark, receive_mark, release, rules, state_if, unmade}
use Rattle.causality.specs.Kinds.{executing_by, mark_of}
use Rattle.causality.specs.Marks.{All, all, any, has, keep, same, tally}
use Rattle.causality.specs.State.{Mark, State, false_entries, false_stamp, heads, ids, mark_id, precedes, previous, ready, reckoned, reckoning, same_count}
use Rattle.causality.proofs.Cases.{Arrives, JudgeCase, judge_case, to_execute, to_know, to_refuse, to_wait}
use Rattle.causality.proofs.Lists.{absent-all, all-at, all_map, any_cong, any_find, any_of, find-has, has_append, has-keep, has-self, map_append, ids-length, keep-has, lowest-picked, nor_fst, nor_snd, without_all}
use Rattle.causality.proofs.Logic.{T→eq, and_yes, bool_ext, ltb_no, nT→eq, or_inl, or_inr, or_yes, same_refl, same→eq, split, yes_and, yes_ltb}
use Rattle.causality.proofs.Numbers.{ready_next}
use Rattle.causality.proofs.Past.{Good, Standing, fresh_of, has-heads, head_in, head_out, heads-has, no_self, prefix_has, top_exists}
use Rattle.causality.specs.inner.Order.{Consecutive, Follows, CausallyOrdered}
use Rattle.causality.proofs.Reckoning.{among_le, counted_once, keep_once, reckoning_of}
use Rattle.causality.proofs.Releases.{release_keeps, others}

pub sound_counted : (l : List Mark) → CausallyOrdered l → Consecutive (ids l)
sound_counted [] s = tt
sound_counted (m ∷ older) s = (s.0.next, sound_counted older s.1)

-- `precedes` of a longer list
pub precedes-at : (m : Mark) (older : List Mark) (a b : MarkId) → T (same b m.id) → precedes (m ∷ older) a b ≡ any (λ e. same a e || precedes older a e) m.stamp
precedes-at m older a b t = rw (T→eq (same b m.id) t, precedes)

pub precedes_old : (m : Mark) (older : List Mark) (a b : MarkId) → T (not (same b m.id)) → precedes (m ∷ older) a b ≡ precedes older a b
precedes_old m older a b t = rw (nT→eq (same b m.id) t, precedes)

pub not_new : (m : Mark) (older : List Mark) → CausallyOrdered (m ∷ older) → (b : MarkId) → T (has b (ids older)) → T (not (same b m.id))
not_new m older s b t = not_T (same b m.id) (λ u. fresh_of m.id (ids older) (sound_counted (m ∷ older) s) (rw (same→eq b m.id u) at t))

pub precedes-listed : (l : List Mark) → CausallyOrdered l → (a b : MarkId) → T (precedes l a b) → T (has a (ids l)) × T (has b (ids l))
precedes-listed [] s a b t = absurd t
precedes-listed (m ∷ older) s a b t = go (split (same b m.id)) (precedes-listed older s.1 a)
  where
    up : (i : MarkId) → T (has i (ids older)) → T (has i (ids (m ∷ older)))
    up i = or_inr (same i m.id) (has i (ids older))

    go : T (same b m.id) ⊎ T (not (same b m.id)) → ((b : MarkId) → T (precedes older a b) → T (has a (ids older)) × T (has b (ids older))) → T (has a (ids (m ∷ older))) × T (has b (ids (m ∷ older)))
    go (inl u) ih =
        let r = any_find (λ e. same a e || precedes older a e) m.stamp (rw (precedes-at m older a b u) at t) in (
          elim (or_yes (same a r.0) (precedes older a r.0) r.2) [
            | inl e ↦ up a (rw (same→eq a r.0 e) (s.0.listed r.0 r.1))
            | inr n ↦ up a (ih r.0 n).0
          ],
          or_inl (same b m.id) (has b (ids older)) u,
        )
    go (inr u) ih = let r = ih b (rw (precedes_old m older a b u) at t) in (up a r.0, up b r.1)

pub precedes_trans : (l : List Mark) → CausallyOrdered l → (a b c : MarkId) → T (precedes l a b) → T (precedes l b c) → T (precedes l a c)
precedes_trans [] s a b c p q = absurd p
precedes_trans (m ∷ older) s a b c p q = go (split (same c m.id)) (precedes_trans older s.1 a b)
  where
    down : T (has b (ids older)) → T (precedes older a b)
    down t = rw (precedes_old m older a b (not_new m older s b t)) at p

    go : T (same c m.id) ⊎ T (not (same c m.id)) → ((c : MarkId) → T (precedes older a b) → T (precedes older b c) → T (precedes older a c)) → T (precedes (m ∷ older) a c)
    go (inl u) ih =
        let r = any_find (λ e. same b e || precedes older b e) m.stamp (rw (precedes-at m older b c u) at q) in
        let k : T (precedes older a r.0) = elim (or_yes (same b r.0) (precedes older b r.0) r.2) [
          | inl e ↦ rw (same→eq b r.0 e) at (down (rw (same→eq b r.0 e) (s.0.listed r.0 r.1)))
          | inr n ↦ ih r.0 (down (precedes-listed older s.1 b r.0 n).0) n
        ] in
        rw (precedes-at m older a c u) (any_of (λ e. same a e || precedes older a e) m.stamp r.0 r.1 (or_inr (same a r.0) (precedes older a r.0) k))
    go (inr u) ih =
        let n : T (precedes older b c) = rw (precedes_old m older b c u) at q in
        rw (precedes_old m older a c u) (ih c (down (precedes-listed older s.1 b c n).0) n)

-- a sound desk has pasts: the chains themselves
pub sound_hist : (past : MarkId → List MarkId) (l : List Mark) → CausallyOrdered l
    → ((a b : MarkId) → T (has b (ids l)) → has a (past b) ≡ precedes l a b) → Standing past l
sound_hist past [] s ag = tt
sound_hist past (m ∷ older) s ag = (record { good = good; next = f.next; behind = behind }, sound_hist past older s.1 ag')
  where
    f : Follows m older
    f = s.0

    new : (a : MarkId) → has a (past m.id) ≡ any (λ e. same a e || precedes older a e) m.stamp
    new a = ag a m.id (has-self m.id (ids older)) ∙ precedes-at m older a m.id (same_refl m.id)

    ag' : (a b : MarkId) → T (has b (ids older)) → has a (past b) ≡ precedes older a b
    ag' a b t = ag a b (or_inr (same b m.id) (has b (ids older)) t) ∙ precedes_old m older a b (not_new m older s b t)

    behind : (a : MarkId) → T (has a (past m.id)) → T (has a (ids older))
    behind a t =
        let r = any_find (λ e. same a e || precedes older a e) m.stamp (rw (new a) at t) in
        elim (or_yes (same a r.0) (precedes older a r.0) r.2) [
          | inl e ↦ rw (same→eq a r.0 e) (f.listed r.0 r.1)
          | inr n ↦ (precedes-listed older s.1 a r.0 n).0
        ]

    last : (e j : MarkId) → T (has e m.stamp) → T (has j (past m.id)) → T (has e (past j)) → ⊥
    last e j te tj u =
        let r = any_find (λ g. same j g || precedes older j g) m.stamp (rw (new j) at tj) in
        let b : T (precedes older e j) = rw (ag' e j (behind j tj)) at u in
        elim (or_yes (same j r.0) (precedes older j r.0) r.2) [
          | inl q ↦ f.clear e r.0 te r.1 (rw (same→eq j r.0 q) at b)
          | inr n ↦ f.clear e r.0 te r.1 (precedes_trans older s.1 e j r.0 b n)
        ]

    good : Good past m
    good = record {
      entry = λ e t. rw (new e) (any_of (λ g. same e g || precedes older e g) m.stamp e t (or_inl (same e e) (precedes older e e) (same_refl e)));
      cover = λ a t. rw (any_cong (λ e. same a e || has a (past e)) (λ e. same a e || precedes older a e) m.stamp (λ e te. ap (λ (b : Bool). same a e || b) (ag' a e (f.listed e te)))) (rw (new a) at t);
      last = last;
      prev = λ n. rw (new (previous m.id)) (f.prev n);
      down = λ e a te ta.
          let eb : T (precedes (m ∷ older) e m.id) = rw (ag e m.id (has-self m.id (ids older))) at te in
          let oe = behind e te in
          let ab : T (precedes (m ∷ older) a e) = rw (precedes_old m older a e (not_new m older s e oe), ← ag' a e oe) ta in
          rw (ag a m.id (has-self m.id (ids older))) (precedes_trans (m ∷ older) s a e m.id ab eb);
      pos = let n = f.next in omega arith;
    }

-- the chains as pasts
abbrev pub local : List Mark → MarkId → List MarkId
local l b = keep (λ a. precedes l a b) (ids l)

pub local-precedes : (l : List Mark) → CausallyOrdered l → (a b : MarkId) → has a (local l b) ≡ precedes l a b
local-precedes l s a b = bool_ext (has a (local l b)) (precedes l a b) (λ t. (keep-has (λ a. precedes l a b) (ids l) a t).1)
    (λ t. has-keep (λ a. precedes l a b) (ids l) a (precedes-listed l s a b t).0 t)

pub local_hist : (l : List Mark) → CausallyOrdered l → Standing (local l) l
local_hist l s = sound_hist (local l) l s (λ a b t. local-precedes l s a b)

pub precedes-self : (l : List Mark) → CausallyOrdered l → (a : MarkId) → T (precedes l a a) → ⊥
precedes-self l s a t = no_self (local l) l (local_hist l s) a (precedes-listed l s a a t).0 (rw (local-precedes l s a a) t)

-- Fewer marks than are behind it precede a mark, or as many; and it is not reckoned anew as the list grows.
pub reckoning_le : (m : Mark) (older : List Mark) → CausallyOrdered (m ∷ older) → reckoning (m ∷ older) m.id ≤ length older
unfolding reckoning
reckoning_le m older s =
    let c = sound_counted (m ∷ older) s in
    let h = local_hist (m ∷ older) s in
    let q = among_le (local (m ∷ older) m.id) (ids older) (keep_once (λ a. precedes (m ∷ older) a m.id) (ids (m ∷ older)) (counted_once (ids (m ∷ older)) c)) h.0.behind in
    let n = ids-length older in
    omega arith

reckoning_old : (m : Mark) (older : List Mark) → CausallyOrdered (m ∷ older) → (i : MarkId) → T (has i (ids older)) → reckoning (m ∷ older) i ≡ reckoning older i
unfolding reckoning
reckoning_old m older s i t = reckoning_of (m ∷ older) i (local older i) (counted_once (ids (m ∷ older)) c) (keep_once (λ a. precedes older a i) (ids older) (counted_once (ids older) c.1))
    (λ a u. rw (local-precedes older s.1 a i, ← precedes_old m older a i n) u)
    (λ a u. let v = keep-has (λ a. precedes older a i) (ids older) a u in (or_inr (same a m.id) (has a (ids older)) v.0, rw (precedes_old m older a i n) v.1))
  where
    c : Consecutive (ids (m ∷ older))
    c = sound_counted (m ∷ older) s

    n : T (not (same i m.id))
    n = not_new m older s i t

-- what is said of the past of each executed mark is the reckoning
pub sound_reckoned : (l : List Mark) → CausallyOrdered l → All (λ m. m.past ≡ Said (reckoning l m.id)) l
sound_reckoned l s = down l s (λ i t. refl)
  where
    down : (k : List Mark) → CausallyOrdered k → ((i : MarkId) → T (has i (ids k)) → reckoning l i ≡ reckoning k i) → All (λ m. m.past ≡ Said (reckoning l m.id)) k
    down [] s f = tt
    down (m ∷ older) s f = (
      s.0.count ∙ ap Said (sym (f m.id (has-self m.id (ids older)))),
      down older s.1 (λ i t. f i (or_inr (same i m.id) (has i (ids older)) t) ∙ reckoning_old m older s i t),
    )

-- a new mark follows just what its desk had executed
pub new_after : (d : State) (box : MarkBox) → CausallyOrdered d.executed → (a : MarkId) → T (precedes (new_mark d box ∷ d.executed) a (new_mark d box).id) ↔ T (has a (ids d.executed))
unfolding new_mark
new_after d box s a = rw (T→eq (same i i) (same_refl i), precedes) (there, back)
  where
    l : List Mark
    l = d.executed

    i : MarkId
    i = (new_mark d box).id

    h : Standing (local l) l
    h = local_hist l s

    there : T (any (λ e. same a e || precedes l a e) (heads l)) → T (has a (ids l))
    there t =
        let r = any_find (λ e. same a e || precedes l a e) (heads l) t in
        elim (or_yes (same a r.0) (precedes l a r.0) r.2) [
          | inl e ↦ rw (same→eq a r.0 e) (heads-has (local l) l r.0 r.1).0
          | inr n ↦ (precedes-listed l s a r.0 n).0
        ]

    back : T (has a (ids l)) → T (any (λ e. same a e || precedes l a e) (heads l))
    back t =
        let r = top_exists (local l) l h a t in
        any_of (λ e. same a e || precedes l a e) (heads l) r.top (has-heads (local l) l r.top r.listed (head_in (local l) l h r.top r.last))
        (rw (← local-precedes l s a r.top) r.below)

pub new-reckoning : (d : State) (box : MarkBox) → CausallyOrdered d.executed → reckoning (new_mark d box ∷ d.executed) (new_mark d box).id ≡ length d.executed
unfolding new_mark
new-reckoning d box s =
    reckoning_of (new_mark d box ∷ d.executed) (new_mark d box).id (ids d.executed) (counted_once (ids (new_mark d box ∷ d.executed)) (refl, c)) (counted_once (ids d.executed) c)
    (λ a t. (new_after d box s a).0 t)
    (λ a t. (or_inr (same a (new_mark d box).id) (has a (ids d.executed)) t, (new_after d box s a).1 t))
    ∙ ids-length d.executed
  where
    c : Consecutive (ids d.executed)
    c = sound_counted d.executed s

pub mark_sound : (d : State) (box : MarkBox) → CausallyOrdered d.executed → Follows (new_mark d box) d.executed
unfolding new_mark previous
mark_sound d box s = record {
  next = refl;
  listed = λ e t. (heads-has past l e t).0;
  clear = λ e f te tf u. head_out past l h e (heads-has past l e te).1 f (heads-has past l f tf).0 (rw (local-precedes l s e f) u);
  prev = λ n.
      let p : MarkId = record { desk = d.own; number = suc (tally d.own (ids l)) - 1 } in
      let r = top_exists past l h p (prefix_has (ids l) (sound_counted l s) p (omega arith) (omega arith)) in
      any_of (λ e. same p e || precedes l p e) (heads l) r.top (has-heads past l r.top r.listed (head_in past l h r.top r.last))
      (rw (← local-precedes l s p r.top) r.below);
  count = ap Said (sym (new-reckoning d box s));
}
  where
    l : List Mark
    l = d.executed

    past : MarkId → List MarkId
    past = local l

    h : Standing past l
    h = local_hist l s

pub follows_of : (l : List Mark) (m : Mark) → CausallyOrdered l → 1 ≤ m.id.number → T (not (has m.id (ids l))) → T (ready l m) → false_stamp l m ≡ false → Follows (reckoned l m) l
unfolding ready false_stamp false_entries reckoning
follows_of l m s p n t e = record {
  next = ready_next l m (sound_counted l s) p n t;
  listed = all-at (λ e. has e (ids l)) m.stamp (and_yes (all (λ e. has e (ids l)) m.stamp) (leb m.id.number 1 || has (previous m.id) (ids l)) t).0;
  clear = λ a b ta tb u. T_not one (nor_fst one two no_false) (any_of (λ e. any (λ f. precedes l e f) m.stamp) m.stamp a ta (any_of (λ f. precedes l a f) m.stamp b tb u));
  prev = λ q. elim (split pr) [ inl x ↦ x | inr x ↦ absurd (T_not two (nor_snd one two no_false) (yes_and (ltb 1 m.id.number) (not pr) (yes_ltb q) x)) ];
  count = refl;
}
  where
    pr : Bool
    pr = any (λ e. same (previous m.id) e || precedes l (previous m.id) e) m.stamp

    one : Bool
    one = any (λ e. any (λ f. precedes l e f) m.stamp) m.stamp

    two : Bool
    two = ltb 1 m.id.number && not pr

    no_false : T (not (one || two))
    no_false = rw (or-false (one || two) (not (same_count m.past (Said (reckoning (m ∷ l) m.id)))) e).0 tt

-- own: the desk's number. A mark of this desk never waits
module _ (own : ℕ) where
  pub record Wait (l : List Mark) (w : Mark) : Type 0 where
    pub pos : 1 ≤ w.id.number
    pub fresh : T (not (has w.id (ids l)))
    pub away : w.id.desk ≡ own → ⊥
    pub asks : (e : MarkId) → T (has e w.stamp) → e.desk ≡ own → T (has e (ids l))

  -- what every desk is
  pub record Reach (l ws : List Mark) : Type 0 where
    pub sound : CausallyOrdered l
    pub wait : All (Wait l) ws

  grown : (l ws : List Mark) (w : Mark) → Follows w l → CausallyOrdered l → All (λ v. Wait l v × T (not (same w.id v.id))) ws → Reach (w ∷ l) ws
  grown l ws w f s a = record { sound = (f, s); wait = all_map (λ v x. record { pos = x.0.pos; fresh = other v x; away = x.0.away; asks = λ e te q. or_inr (same e w.id) (has e (ids l)) (x.0.asks e te q) }) ws a }
    where
      other : (v : Mark) → Wait l v × T (not (same w.id v.id)) → T (not (has v.id (w.id ∷ ids l)))
      other v x = not_T (has v.id (w.id ∷ ids l)) (λ u. elim (or_yes (same v.id w.id) (has v.id (ids l)) u) [
        | inl e ↦ T_not (same w.id v.id) x.1 (rw (same→eq v.id w.id e) (same_refl w.id))
        | inr n ↦ T_not (has v.id (ids l)) x.0.fresh n
      ])

  pub release_reach : (turns : ℕ) (l ws : List Mark) (k f : ℕ) → Reach l ws → Reach (release turns l ws k f).executed (release turns l ws k f).waiting
  release_reach = release_keeps rules (λ l ws k f. Reach l ws)
      (λ l ws k f w r e. record { sound = r.sound; wait = all_map (λ v x. x.0) (others rules w ws) (without_all mark_id (Wait l) w.id ws r.wait) })
      (λ l ws k f w r e t. let p = lowest-picked mark_id (Wait l) (ready l) ws r.wait w e in
      grown l (others rules w ws) (reckoned l w) (follows_of l w r.sound p.0.pos p.0.fresh p.1 t) r.sound (without_all mark_id (Wait l) w.id ws r.wait))

abbrev pub ReachState : State → Type 0
ReachState d = Reach d.own d.executed d.waiting

pub mark_reach : (N : ℕ) (d : State) (b : MarkBox) (out : List ℕ) → ReachState d → ReachState (mark N d b out).state
unfolding mark_of new_mark
mark_reach N d b out r = go (mark_answer N d b (length out))
  where
    new : Reach d.own (new_mark d b ∷ d.executed) d.waiting
    new = grown d.own d.executed d.waiting (new_mark d b) (mark_sound d b r.sound) r.sound
        (all_map (λ v x. (x, not_T (same (new_mark d b).id v.id) (λ t. x.away (sym (ap (λ (i : MarkId). i.desk) (same→eq (new_mark d b).id v.id t)))))) d.waiting r.wait)

    go : (a : Answer Numbered) → ReachState (state_if a (execute (new_mark d b) d) d)
    go (gives n) = new
    go (refused c) = r

-- A mark that arrived and is ready, with a true stamp, is executed.
absent-both : (d : State) (m : Mark) → Arrives rules d m → T (not (has m.id (ids d.executed) || has m.id (ids d.waiting)))
absent-both d m a = rw (← has_append m.id (ids d.executed) (ids d.waiting), ← map_append mark_id d.executed d.waiting, find-has mark_id m.id (d.executed ++ d.waiting), a.absent) tt

pub execute_reach : (d : State) (m : Mark) → 1 ≤ m.id.number → ReachState d → Arrives rules d m → ready d.executed m ≡ true → false_stamp d.executed m ≡ false → ReachState (execute (reckoned d.executed m) d)
execute_reach d m p r a b c =
    let n = absent-both d m a in
    let here = nor_fst (has m.id (ids d.executed)) (has m.id (ids d.waiting)) n in
    grown d.own d.executed d.waiting (reckoned d.executed m) (follows_of d.executed m r.sound p here (rw b tt) c) r.sound
    (absent-all mark_id (Wait d.own d.executed) m.id d.waiting (nor_snd (has m.id (ids d.executed)) (has m.id (ids d.waiting)) n) r.wait)

pub receive_reach : (d : State) (m : Mark) → 1 ≤ m.id.number → ((e : MarkId) → T (has e m.stamp) → 1 ≤ e.number) → ReachState d
    → ReachState (receive_mark d m).state
unfolding executing_by unmade
receive_reach d m p pe r = go (judge_case rules d m)
  where
    here : T (not (has m.id (ids d.executed) || has m.id (ids d.waiting))) → T (not (has m.id (ids d.executed)))
    here n = nor_fst (has m.id (ids d.executed)) (has m.id (ids d.waiting)) n

    made : (i : MarkId) → 1 ≤ i.number → T (not (unmade d i)) → i.desk ≡ d.own → T (has i (ids d.executed))
    made i pi n q = elim (split (ltb (tally d.own (ids d.executed)) i.number)) [
      | inl x ↦ absurd (T_not (unmade d i) n (yes_and (eqb i.desk d.own) (ltb (tally d.own (ids d.executed)) i.number) (subst (λ (k : ℕ). T (eqb i.desk k)) q (eqb_refl i.desk)) x))
      | inr x ↦ prefix_has (ids d.executed) (sound_counted d.executed r.sound) i pi (subst (λ (k : ℕ). i.number ≤ tally k (ids d.executed)) (sym q) (ltb_no x))
    ]

    wait : Arrives rules d m → Wait d.own d.executed m
    wait a = record {
      pos = p;
      fresh = here (absent-both d m a);
      away = λ q. T_not (has m.id (ids d.executed)) (here (absent-both d m a)) (made m.id p (nor_fst (unmade d m.id) (any (unmade d) m.stamp) (rw a.made tt)) q);
      asks = λ e te q. made e (pe e te) (not_T (unmade d e) (λ u. T_not (any (unmade d) m.stamp) (nor_snd (unmade d m.id) (any (unmade d) m.stamp) (rw a.made tt)) (any_of (unmade d) m.stamp e te u))) q;
    }

    go : {j : Answer (Judgement Mark)} → JudgeCase rules d m j → ReachState (act d j).state
    go (to_refuse c) = r
    go to_know = r
    go (to_wait a b c) = record { sound = r.sound; wait = (wait a, r.wait) }
    go (to_execute a b c) = release_reach d.own (length d.waiting) (reckoned d.executed m ∷ d.executed) d.waiting 1 0 (execute_reach d m p r a b c)
