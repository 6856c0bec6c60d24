-- Causal precedence, vectors, readiness and tracing hold of every sequence as the field has them: from the simulation and the agreement. Assumes nothing.
use Prim.Native.Nat.{◌<◌, ◌≤◌, suc, ℕ}
use lib.Dec.{T, T_not, eqb, eqb_refl, not_T}
use lib.ListN.{length}
use mathlib.Core.Bool.{Bool, ◌&&◌, ◌||◌, false, not, true}
use mathlib.Core.List.{List, [], ◌++◌, ◌∷◌}
use mathlib.Core.Logic.{◌↔◌, ◌⊎◌, inl, inr}
use mathlib.Core.Path.{◌∙◌, ◌≡◌, ap, refl, subst, sym}
use Rattle.frame.specs.declared.MarkBox.{MarkBox}
use Rattle.frame.specs.Answer.{Answer, gives, refused}
use Rattle.frame.specs.Names.{MarkId, desks, is_desk}
use Rattle.causality.specs.Answers.{Numbered}
use Rattle.causality.specs.Calls.{earlier, mark_in}
use Rattle.causality.specs.Marks.{All, any, has, keep, same, tally}
use Rattle.causality.specs.State.{Mark, State, concurrent, ids, mark_id, precedes, ready}
use Rattle.causality.proofs.Fit.{fit_back}
use Rattle.causality.specs.inner.Fit.{Fit}
use Rattle.causality.proofs.Lists.{all-at, all-names, all_intro, all_map, any_find, any_of, has-keep, has-rising, has-self, keep-has}
use Rattle.causality.proofs.Logic.{and_yes, eqb_yes, or_inr, or_yes, same_refl, same→eq, split, yes_and}
use Rattle.causality.specs.inner.Order.{Strict}
use Rattle.causality.proofs.Past.{Good, Standing, behind-all, precedes-past, ready-past, ready_stands}
use Rattle.history.specs.Evidence.{happened_before}
use Rattle.history.specs.Paper.{Apart, Chain, IsReady, IsVector, Links, MadeAt, Paper, PaperAt, Precedes, RisingDesks, Traced, TracedWith, Uninterrupted, executed_before, generated_before, link, onward, through}
use Rattle.history.specs.Plain.{DeskLists, MadeMark, last_of_past, lists_at, made_id, made_ids, making, new_made, past_of, recorded}
use Rattle.history.specs.Run.{Step, at_desk, handing, marking, run, state_at, to_first, to_second}
use Rattle.history.specs.Silent.{listed_at}
use Rattle.history.proofs.Calls.{Recorded, recorded-made}
use Rattle.history.proofs.Sequence.{AtDesks, InvAt, fits, hand_hist, inv_of, past_at, plain_of, recorded-all}
use Rattle.history.proofs.Silent.{all_back}
use Rattle.history.proofs.Theorem.{at_desk_lem, demand3, all_both, each-frame, listed-executed, making_answers, some_desk}

-- The names of the marks made in s.
abbrev made_in : List Step → List MarkId
made_in s = made_ids (plain_of s).made

-- GENERATION: the markings of a sequence and the marks made

-- A making that is not left out gives the new mark's number.
making-number : (d : ℕ) (ls : DeskLists) (b : MarkBox) (lent : ℕ) (n : Numbered) → (making d ls b lent).answer ≡ gives n → n.number ≡ suc (tally d (made_ids ls.listed))
making-number d ls b lent n = making_answers (λ a. a ≡ gives n → n.number ≡ suc (tally d (made_ids ls.listed))) (λ q. cc) (λ q. cc) (λ q. cc) d ls b lent (λ q. cc)

-- What holds of the marks made holds of those made before.
made_back : (P : MadeMark → Type 0) (later s : List Step) → All P (plain_of (later ++ s)).made → All P (plain_of s).made
made_back P [] s a = a
made_back P (marking d b lent ∷ later) s a = made_back P later s (recorded-all P (making d (lists_at (plain_of (later ++ s)) d) b (length lent)).answer (new_made d (lists_at (plain_of (later ++ s)) d) b) (plain_of (later ++ s)).made a)
made_back P (handing d i k ∷ later) s a = made_back P later s (rw (hand_hist (plain_of (later ++ s)) d i) at a)
made_back P (to_second d i k lent ∷ later) s a = made_back P later s a
made_back P (to_first i k lent ∷ later) s a = made_back P later s a

abbrev Moment : List Step → MarkId → Type 0
Moment s b = (moment : List Step) × MadeAt s moment b

moment_on : (t : Step) (s : List Step) (b : MarkId) → Moment s b → Moment (t ∷ s) b
moment_on t s b (moment, g) = (moment, record { later = t ∷ g.later; box = g.box; lent = g.lent; steps = ap (λ (r : List Step). t ∷ r) g.steps; size = g.size; gave = g.gave })

-- Each mark made has a moment.
moment_of : (s : List Step) (b : MarkId) → T (has b (made_in s)) → Moment s b
unfolding new_made
moment_of [] b t = absurd t
moment_of (handing d i k ∷ s) b t = moment_on (handing d i k) s b (moment_of s b (rw (hand_hist (plain_of s) d i) at t))
moment_of (to_second d i k lent ∷ s) b t = moment_on (to_second d i k lent) s b (moment_of s b t)
moment_of (to_first i k lent ∷ s) b t = moment_on (to_first i k lent) s b (moment_of s b t)
moment_of (marking d box lent ∷ s) b t = go (making d ls box (length lent)).answer refl t (moment_of s b)
  where
    ls : DeskLists
    ls = lists_at (plain_of s) d

    here : (n : Numbered) → (making d ls box (length lent)).answer ≡ gives n → Moment (marking d box lent ∷ s) (new_made d ls box).id
    here n e = (
      s,
      record {
        later = [];
        box = box;
        lent = lent;
        steps = refl;
        size = n.size;
        gave = e ∙ ap (λ (k : ℕ). gives (record { number = k; size = n.size })) (making-number d ls box (length lent) n e);
      },
    )

    go : (a : Answer Numbered) → (making d ls box (length lent)).answer ≡ a → T (has b (made_ids (recorded a (new_made d ls box) (plain_of s).made)))
        → (T (has b (made_in s)) → Moment s b) → Moment (marking d box lent ∷ s) b
    go (refused c) e t ih = moment_on (marking d box lent) s b (ih t)
    go (gives n) e t ih = elim (or_yes (same b (new_made d ls box).id) (has b (made_in s)) t) [
      | inl q ↦ subst (Moment (marking d box lent ∷ s)) (sym (same→eq b (new_made d ls box).id q)) (here n e)
      | inr q ↦ moment_on (marking d box lent) s b (ih q)
    ]

-- The mark made at a moment: its name, and what holds of every mark made holds of it.
abbrev mark_at : {s moment : List Step} {b : MarkId} → MadeAt s moment b → MadeMark
mark_at {s} {moment} {b} g = new_made b.desk (lists_at (plain_of moment) b.desk) g.box

made-name : {s moment : List Step} {b : MarkId} (g : MadeAt s moment b) → (mark_at g).id ≡ b
unfolding new_made
made-name {s} {moment} {b} g =
    let e = making-number b.desk (lists_at (plain_of moment) b.desk) g.box (length g.lent) (record { number = b.number; size = g.size }) g.gave in
    λ i. record { desk = b.desk; number = sym e i }

of_moment : (P : MadeMark → Type 0) {s moment : List Step} {b : MarkId} (g : MadeAt s moment b) → All P (plain_of s).made → P (mark_at g)
of_moment P {s} {moment} {b} g a =
    let at : All P (recorded (making b.desk (lists_at (plain_of moment) b.desk) g.box (length g.lent)).answer (mark_at g) (plain_of moment).made)
    = made_back P g.later (marking b.desk g.box g.lent ∷ moment) (subst (λ (r : List Step). All P (plain_of r).made) g.steps a) in
    (rw g.gave at at).0

each-self : (xs : List MadeMark) → All (λ x. T (has x.id (made_ids xs))) xs
each-self [] = tt
each-self (x ∷ xs) = (has-self x.id (made_ids xs), all_map (λ y t. or_inr (same y.id x.id) (has y.id (made_ids xs)) t) xs (each-self xs))

made_at : {s moment : List Step} {b : MarkId} → MadeAt s moment b → T (has b (made_in s))
made_at {s} g = subst (λ (i : MarkId). T (has i (made_in s))) (made-name g) (of_moment (λ x. T (has x.id (made_in s))) g (each-self (plain_of s).made))

-- A mark with a past is made.
past-made : (xs : List MadeMark) (a b : MarkId) → T (has a (past_of xs b)) → T (has b (made_ids xs))
past-made [] a b t = absurd t
past-made (x ∷ xs) a b t = go (same b x.id) t (past-made xs a b)
  where
    go : (q : Bool) → T (has a (elim q [ true ↦ x.past | false ↦ past_of xs b ])) → (T (has a (past_of xs b)) → T (has b (made_ids xs))) → T (q || has b (made_ids xs))
    go true t ih = tt
    go false t ih = ih t

-- The steps before a moment, and its desk, are at desks 1 to N.
module _ (N : ℕ) (s : List Step) (at : AtDesks N s) {moment : List Step} {b : MarkId} (g : MadeAt s moment b) where
  at_moment : T (is_desk N b.desk) × AtDesks N moment
  at_moment = all_back (λ t. T (at_desk N t)) g.later (marking b.desk g.box g.lent ∷ moment) (subst (λ (r : List Step). AtDesks N r) g.steps at)

-- ONE SEQUENCE, with a desk

module _ (N : ℕ) (sd : 1 ≤ N) (s : List Step) (at : AtDesks N s) where
  inv : InvAt N sd s
  inv = inv_of N sd s at

  abbrev executed_at : ℕ → List Mark
  executed_at d = (state_at N (run N s) d).executed

  -- A mark made is executed at its own desk, and an executed one is made.
  own_executed : (b : MarkId) → T (has b (made_in s)) → T (has b (ids (executed_at b.desk)))
  own_executed = all-names made_id (λ i. T (has i (ids (executed_at i.desk)))) (plain_of s).made inv.reached

  -- What holds of each executed mark holds of each made one.
  of_made : (P : MarkId → Type 0) → ((m : Mark) → Recorded (past_at s) (plain_of s).made m → Fit N m → P m.id) → (b : MarkId) → T (has b (made_in s)) → P b
  of_made P f b t =
      let l = executed_at b.desk in
      all-names mark_id P l (all_both {P = Recorded (past_at s) (plain_of s).made} f l (inv.desks b.desk).ok.ks (inv.desks b.desk).kept.executed) b (own_executed b t)

  own_listed : (b : MarkId) → T (has b (made_in s)) → T (has b (listed_at s b.desk))
  own_listed b t = rw (listed-executed N sd s at b.desk) (own_executed b t)

  listed-made : (d : ℕ) (a : MarkId) → T (has a (listed_at s d)) → T (has a (made_in s))
  listed-made d a t = all-names mark_id (λ i. T (has i (made_in s))) (executed_at d) (all_map (recorded-made (past_at s) (plain_of s).made) (executed_at d) (inv.desks d).ok.ks) a (rw (listed-executed N sd s at d) at t)

  -- The past of the mark is its desk's list.
  past_listed_lem : {moment : List Step} {b : MarkId} → MadeAt s moment b → past_at s b ≡ listed_at moment b.desk
  unfolding new_made
  past_listed_lem g = ap (past_at s) (sym (made-name g)) ∙ of_moment (λ x. past_at s x.id ≡ x.past) g (fits N sd s at)

-- What holds of every name of a list holds of each.
all-has : (P : MarkId → Type 0) (xs : List MarkId) → ((x : MarkId) → T (has x xs) → P x) → All P xs
all-has P [] f = tt
all-has P (x ∷ xs) f = (f x (has-self x xs), all-has P xs (λ y t. f y (or_inr (same y x) (has y xs) t)))

strict_rising : (xs : List MarkId) → Strict xs → RisingDesks xs
strict_rising [] h = tt
strict_rising (x ∷ xs) h = (all-has (λ f. x.desk < f.desk) xs h.0, strict_rising xs h.1)

unmade-past : (xs : List MadeMark) (b : MarkId) → T (not (has b (made_ids xs))) → past_of xs b ≡ []
unmade-past xs b t = go (past_of xs b) refl
  where
    go : (is : List MarkId) → past_of xs b ≡ is → is ≡ []
    go [] e = refl
    go (a ∷ is) e = absurd (T_not (has b (made_ids xs)) t (past-made xs a b (rw e (has-self a is))))

-- CAUSAL PRECEDENCE

module _ (N : ℕ) (s : List Step) (at : AtDesks N s) where
  abbrev in_past : MarkId → MarkId → Type 0
  in_past a b = T (happened_before (plain_of s).made a b)

  -- A mark made has a desk.
  desk_of_lem : (b : MarkId) → T (has b (made_in s)) → 1 ≤ N
  desk_of_lem b t = some_desk N b.desk (at_moment N s at (moment_of s b t).1).0

  down : (a x b : MarkId) → in_past a x → in_past x b → in_past a b
  down a x b t u =
      let made = past-made (plain_of s).made x b u in
      of_made N (desk_of_lem b made) s at (λ i. in_past x i → in_past a i) (λ m r f v. r.good.down x a v t) b made u

  in_past_lem : {a b : MarkId} → Precedes s a b → in_past a b
  in_past_lem {a} {b} (generated_before first moment e f g) =
      let d = at_moment N s at g in
      let sd = some_desk N b.desk d.0 in
      rw (past_listed_lem N sd s at g) (subst (λ (n : ℕ). T (has a (listed_at moment n))) e (own_listed N sd moment d.1 a (made_at f)))
  in_past_lem {a} {b} (executed_before moment n t g) = let sd = some_desk N b.desk (at_moment N s at g).0 in rw (past_listed_lem N sd s at g) t
  in_past_lem {a} {b} (through x p q) = down a x b (in_past_lem p) (in_past_lem q)

  preceded : (a b : MarkId) → in_past a b → Precedes s a b
  preceded a b t = go (split (eqb a.desk b.desk))
    where
      m : Moment s b
      m = moment_of s b (past-made (plain_of s).made a b t)

      d : T (is_desk N b.desk) × AtDesks N m.0
      d = at_moment N s at m.1

      sd : 1 ≤ N
      sd = some_desk N b.desk d.0

      listed : T (has a (listed_at m.0 b.desk))
      listed = rw (past_listed_lem N sd s at m.1) at t

      go : T (eqb a.desk b.desk) ⊎ T (not (eqb a.desk b.desk)) → Precedes s a b
      go (inl e) = let f = moment_of m.0 a (listed-made N sd m.0 d.1 b.desk a listed) in
          generated_before f.0 m.0 (eqb_yes e) f.1 m.1
      go (inr n) = executed_before m.0 (λ e. T_not (eqb a.desk b.desk) n (subst (λ (k : ℕ). T (eqb a.desk k)) e (eqb_refl a.desk))) listed m.1

  definition_1 : (a b : MarkId) → Precedes s a b ↔ in_past a b
  definition_1 a b = (in_past_lem, preceded a b)

  -- UNINTERRUPTED SETS

  -- The entries of a mark with a past are its links.
  entry_link : (m : Mark) → Good (past_at s) m → (e : MarkId) → T (has e m.stamp) → Links s e m.id
  entry_link m g e t = record { precede = preceded e m.id (g.entry e t); none_between = λ x p q. g.last e x t (in_past_lem q) (in_past_lem p) }

  module _ (S : MarkId → Type 0) (whole : Uninterrupted s S) where
    chains : (l : List Mark) → Standing (past_at s) l → (b : MarkId) → T (has b (ids l)) → (a : MarkId) → in_past a b → S a → S b → Chain s S a b
    chains [] h b tb a t sa sb = absurd tb
    chains (m ∷ older) h b tb a t sa sb = elim (or_yes (same b m.id) (has b (ids older)) tb) [
      | inl q ↦ subst (λ (i : MarkId). in_past a i → S i → Chain s S a i) (sym (same→eq b m.id q)) (newest (λ e te u se. chains older h.1 e te a u sa se)) t sb
      | inr q ↦ chains older h.1 b q a t sa sb
    ]
      where
        newest : ((e : MarkId) → T (has e (ids older)) → in_past a e → S e → Chain s S a e) → in_past a m.id → S m.id → Chain s S a m.id
        newest ih t sb =
            let g = h.0.good in
            let r = any_find (λ e. same a e || has a (past_at s e)) m.stamp (g.cover a t) in
            let last = entry_link m g r.0 r.1 in
            elim (or_yes (same a r.0) (has a (past_at s r.0)) r.2) [
              | inl q ↦ link (subst (λ (i : MarkId). Links s i m.id) (sym (same→eq a r.0 q)) last)
              | inr q ↦ let se = whole a m.id r.0 sa sb (preceded a m.id t) (preceded a r.0 q) last.precede in
                  onward r.0 (ih r.0 (h.0.behind r.0 (g.entry r.0 r.1)) q se) se last
            ]

    along : {a b : MarkId} → Chain s S a b → Precedes s a b
    along (link l) = l.precede
    along (onward x c t l) = through x (along c) l.precede

    theorem_1 : (a b : MarkId) → S a → S b → Precedes s a b ↔ Chain s S a b
    theorem_1 a b sa sb = (
      λ p.
          let t = in_past_lem p in
          let made = past-made (plain_of s).made a b t in
          let sd = desk_of_lem b made in
          chains (executed_at N sd s at b.desk) ((inv N sd s at).desks b.desk).ok.hist b (own_executed N sd s at b made) a t sa sb,
      along,
    )

  -- VECTORS

  vector_entry : (x b : MarkId) → T (has x (last_of_past (plain_of s).made b)) ↔ Links s x b
  unfolding last_of_past
  vector_entry x b = (there, back)
    where
      p : List MarkId
      p = past_at s b

      out : MarkId → Bool
      out e = not (any (λ j. has e (past_at s j)) p)

      there : T (has x (last_of_past (plain_of s).made b)) → Links s x b
      there t = let k = keep-has out p x (rw (has-rising x (keep out p)) at t) in record {
        precede = preceded x b k.0;
        none_between = λ y u v. T_not (any (λ j. has x (past_at s j)) p) k.1 (any_of (λ j. has x (past_at s j)) p y (in_past_lem v) (in_past_lem u));
      }

      back : Links s x b → T (has x (last_of_past (plain_of s).made b))
      back l = rw (has-rising x (keep out p)) (has-keep out p x (in_past_lem l.precede) (not_T (any (λ j. has x (past_at s j)) p) (λ t.
          let r = any_find (λ j. has x (past_at s j)) p t in
          l.none_between r.0 (preceded x r.0 r.2) (preceded r.0 b r.1))))

  vector : (b : MarkId) → IsVector s b (last_of_past (plain_of s).made b)
  unfolding last_of_past
  vector b = record { entry = λ x. vector_entry x b; rising = go (split (has b (made_in s))) }
    where
      go : T (has b (made_in s)) ⊎ T (not (has b (made_in s))) → RisingDesks (last_of_past (plain_of s).made b)
      go (inl t) = of_made N (desk_of_lem b t) s at (λ i. RisingDesks (last_of_past (plain_of s).made i)) (λ m r f. subst RisingDesks r.stamp (strict_rising m.stamp f.strict)) b t
      go (inr t) = rw (unmade-past (plain_of s).made b t) tt

  -- CAUSALLY READY

  module _ (l : List Mark) (h : Standing (past_at s) l) where
    is-ready : (m : Mark) → Good (past_at s) m → IsReady s l m
    is-ready m g = record {
      by_direct = (
        λ t a k. there t a k.precede,
        λ f. back (λ a ta.
            let r = any_find (λ e. same a e || has a (past_at s e)) m.stamp (g.cover a ta) in
            let k = f r.0 (entry_link m g r.0 r.1) in
            elim (or_yes (same a r.0) (has a (past_at s r.0)) r.2) [
              | inl e ↦ rw (same→eq a r.0 e) k
              | inr n ↦ behind-all (past_at s) l h r.0 k a n
            ]),
      );
      by_all = (there, λ f. back (λ a ta. f a (preceded a m.id ta)));
    }
      where
        there : T (ready l m) → (a : MarkId) → Precedes s a m.id → T (has a (ids l))
        there t a p = all-at (λ a. has a (ids l)) (past_at s m.id) (rw (ready-past (past_at s) l h m g) at t) a (in_past_lem p)

        back : ((a : MarkId) → in_past a m.id → T (has a (ids l))) → T (ready l m)
        back f = rw (ready-past (past_at s) l h m g) (all_intro (λ a. has a (ids l)) (past_at s m.id) f)

    -- TRACING

    traces : (a b : MarkId) → T (has b (ids l)) → T (precedes l a b) ↔ Precedes s a b
    traces a b tb = (λ t. preceded a b (rw (precedes-past (past_at s) l h a b tb) at t), λ p. rw (precedes-past (past_at s) l h a b tb) (in_past_lem p))

    inside : (x b : MarkId) → T (has b (ids l)) → Precedes s x b → T (has x (ids l))
    inside x b tb p = behind-all (past_at s) l h b tb x (in_past_lem p)

    apart : (a b : MarkId) → T (has a (ids l)) → T (has b (ids l)) → T (concurrent l a b) ↔ Apart s a b
    unfolding concurrent
    apart a b ta tb =
        let p = precedes l a b in
        let q = precedes l b a in (
          λ t. let u = (and_yes (not (same a b)) (not p && not q) t).1 in (
            λ e. T_not (same a b) (and_yes (not (same a b)) (not p && not q) t).0 (subst (λ (i : MarkId). T (same a i)) e (same_refl a)),
            λ k. T_not p (and_yes (not p) (not q) u).0 ((traces a b tb).1 k),
            λ k. T_not q (and_yes (not p) (not q) u).1 ((traces b a ta).1 k),
          ),
          λ k. yes_and (not (same a b)) (not p && not q) (not_T (same a b) (λ t. k.0 (same→eq a b t)))
              (yes_and (not p) (not q) (not_T p (λ t. k.1 ((traces a b tb).0 t))) (not_T q (λ t. k.2 ((traces b a ta).0 t)))),
        )

    traced : Traced s l
    traced = record {
      traces = traces;
      direct = λ a b tb. (
        λ k. record {
          precede = (traces a b tb).0 k.precede;
          none_between = λ x p q. k.none_between x ((traces a x (inside x b tb q)).1 p) ((traces x b tb).1 q);
        },
        λ k. record {
          precede = (traces a b tb).1 k.precede;
          none_between = λ x t u. let q = (traces x b tb).0 u in k.none_between x ((traces a x (inside x b tb q)).0 t) q;
        },
      );
      apart = apart;
      uninterrupted = λ a b x ta tb p q r. inside x b tb r;
    }

  -- Causality is preserved.
  preserved : (l : List Mark) → Standing (past_at s) l → (a b : MarkId) → T (has b (ids l)) → in_past a b → T (has a (earlier b (ids l)))
  preserved [] h a b tb t = absurd tb
  preserved (m ∷ older) h a b tb t = go (same b m.id) refl tb (λ u. preserved older h.1 a b u t)
    where
      go : (q : Bool) → same b m.id ≡ q → T (q || has b (ids older)) → (T (has b (ids older)) → T (has a (earlier b (ids older))))
          → T (has a (elim q [ true ↦ ids older | false ↦ earlier b (ids older) ]))
      go true e u ih = h.0.behind a (subst (in_past a) (same→eq b m.id (rw e tt)) t)
      go false e u ih = ih u

-- THE CLAIM

-- One desk.
module _ (N : ℕ) (sd : 1 ≤ N) (s : List Step) (at : AtDesks N s) (d : ℕ) where
  abbrev st : State
  st = state_at N (run N s) d

  h : Standing (past_at s) st.executed
  h = ((inv N sd s at).desks d).ok.hist

  each : (P : Mark → Type 0) → ((m : Mark) → Good (past_at s) m → P m) → All (λ f. P (mark_in N f.bytes)) (run N s).frames
  each P f = each-frame N sd s at (λ f. P (mark_in N f.bytes)) (λ m fit r. rw (fit_back N m fit) (f m r.good))

  paper-at : PaperAt N s st (run N s).frames
  paper-at = record {
    vectors = all_map (λ m e. rw e (vector N s at m.id)) (st.executed ++ st.waiting) (at_desk_lem N sd s at d).stamps;
    preserved = λ a b tb p. preserved N s at st.executed h a b tb (in_past_lem N s at p);
    property_1 = each (IsReady s st.executed) (is-ready N s at st.executed h);
    history = traced N s at st.executed h;
    property_2 = each (TracedWith s st.executed) (λ m g n t.
        traced N s at (m ∷ st.executed) (ready_stands (past_at s) st.executed h m g n (rw (ready-past (past_at s) st.executed h m g) at t), h));
  }

pub paper : (N : ℕ) → Paper N
paper N s at = record {
  definition_1 = definition_1 N s at;
  theorem_1 = theorem_1 N s at;
  definition_4 = vector N s at;
  frames = all_map (λ f e. rw e (vector N s at f.id)) (run N s).frames (demand3 N s at).frames;
  desks = λ d t. paper-at N (some_desk N d t) s at d;
}

-- At our count of desks.
pub paper_ours : Paper desks
paper_ours = paper desks
