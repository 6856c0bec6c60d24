-- The evidence behind a verdict is Relate's verdict, with a chain of entries or with counts below the marks' own numbers. Assumes nothing.
use Prim.Native.Nat.{◌<◌, ◌≤◌, suc, ℕ}
use lib.Dec.{T, T_not, eqb, leb, ltb, ltb→lt, not_T}
use lib.ListN.{length, length-reverse}
use mathlib.Core.Bool.{Bool, ◌&&◌, ◌||◌, cond, false, not, true}
use mathlib.Core.List.{List, [], ◌∷◌, reverse_aux}
use mathlib.Core.Logic.{◌⊎◌, inl, inr}
use mathlib.Core.Option.{Option, none, some}
use mathlib.Core.Path.{◌∙◌, ◌≡◌, ap, refl, subst, sym}
use native.Mathlib.Omega.{arith}
use Rattle.frame.specs.Answer.{Answer, gives, refuse_if, refused}
use Rattle.frame.specs.Names.{MarkId}
use Rattle.causality.specs.Answers.{After, Before, Concurrent, Evidence, Relation, Same, verdict_of}
use Rattle.causality.specs.Calls.{and_then, is_executed, relate}
use Rattle.causality.specs.Kinds.{relate_by}
use Rattle.causality.specs.Evidence.{BesideRelate, ChainOf, Proves, Shows, Taken, behind, chain, chain_for, chain_if, entry_towards, evidence, evidence_chain, evidence_of, evidence_pairs, going_back, in_past, stamp_of, verdict_in}
use Rattle.causality.specs.Marks.{All, any, find, has, keep, same, tally}
use Rattle.causality.specs.State.{Mark, State, ids, mark_id, precedes}
use Rattle.causality.proofs.Lists.{Among, Lowest, absent-all, all_map, any_find, any_of, has-keep, has-self, keep-has, lowest_least}
use Rattle.causality.proofs.Logic.{T→eq, and_yes, bool_ext, eqb_yes, leb_no, leb_yes, nT→eq, or_inl, or_inr, or_yes, same_refl, same→eq, split, yes_leb}
use Rattle.causality.proofs.Past.{Standing, behind-all, counted, fresh_of, precedes-past, prefix_has, prefix_le}
use Rattle.causality.specs.inner.Order.{Consecutive, CausallyOrdered}
use Rattle.causality.proofs.Reach.{local, not_new, precedes-at, precedes-listed, precedes_old, sound_counted}
use Rattle.causality.proofs.Reckoning.{Once, among_le, counted_once, keep_once}
use Rattle.causality.proofs.Shared.{tally-counts}
use Rattle.causality.proofs.Tail.{past-first-run}

-- CHAINS

-- One mark more in front.
chain_on : (Next : MarkId → MarkId → Type 0) (b e a : MarkId) (xs : List MarkId) → Next b e → ChainOf Next e a xs → ChainOf Next b a (b ∷ xs)
chain_on Next b e a [] n c = absurd c
chain_on Next b e a (f ∷ []) n c = (refl, rw c.0 n, (refl, c.1))
chain_on Next b e a (f ∷ g ∷ rest) n c = (refl, rw c.0 n, (refl, c.1, c.2))

-- A chain back from b to a is turned into one from a to b, in front of one that goes on from b.
chain-turned : (Next : MarkId → MarkId → Type 0) (a b z : MarkId) (xs r : List MarkId) → ChainOf (λ f e. Next e f) b a xs → ChainOf Next b z (b ∷ r) → ChainOf Next a z (reverse_aux xs r)
chain-turned Next a b z [] r c d = absurd c
chain-turned Next a b z (f ∷ []) r c d = subst (λ (x : MarkId). ChainOf Next x z (f ∷ r)) c.1 (subst (λ (x : MarkId). ChainOf Next x z (x ∷ r)) (sym c.0) d)
chain-turned Next a b z (f ∷ e ∷ rest) r c d =
    chain-turned Next a e z (e ∷ rest) (f ∷ r) c.2 (refl, c.1, subst (λ (x : MarkId). ChainOf Next x z (x ∷ r)) (sym c.0) d)

among_has : (e : MarkId) (es : List MarkId) → Among e es → T (has e es)
among_has e [] i = i
among_has e (f ∷ fs) (inl q) = or_inl (same e f) (has e fs) (rw q (same_refl f))
among_has e (f ∷ fs) (inr i) = or_inr (same e f) (has e fs) (among_has e fs i)

all-has : (P : MarkId → Type 0) (es : List MarkId) → All P es → (e : MarkId) → T (has e es) → P e
all-has P [] a e t = absurd t
all-has P (f ∷ fs) a e t = elim (or_yes (same e f) (has e fs) t) [ inl q ↦ rw (same→eq e f q) a.0 | inr q ↦ all-has P fs a.1 e q ]

-- entry_towards takes, of the entries that lead on, the one of lowest desk.
entry-lowest : (l : List Mark) (a : MarkId) (es : List MarkId) → Lowest (λ e. e) (λ e. same a e || precedes l a e) es (entry_towards l a es)
entry-lowest l a es = lowest_least (λ e. e) (λ e. same a e || precedes l a e) es

listed_old : (m : Mark) (older : List Mark) (b : MarkId) → T (has b (ids (m ∷ older))) → T (not (same b m.id)) → T (has b (ids older))
listed_old m older b t n = elim (or_yes (same b m.id) (has b (ids older)) t) [ inl u ↦ absurd (T_not (same b m.id) n u) | inr u ↦ u ]

module _ (entries : MarkId → List MarkId) (before : MarkId → MarkId → Bool) where
  abbrev Back : MarkId → MarkId → List MarkId → Type 0
  Back a b xs = ChainOf (λ f e. Taken entries before a e f) b a xs

  -- Where these are the stamps and the precedence of executed marks, the chain back from b ends at a and takes the entry that it must.
  going_back_lem : (l : List Mark) → CausallyOrdered l → All (λ m. m.stamp ≡ entries m.id) l → ((i j : MarkId) → T (has j (ids l)) → precedes l i j ≡ before i j)
      → (a b : MarkId) → T (has b (ids l)) → T (same a b || before a b) → Back a b (going_back l a b)
  going_back_lem [] s es ps a b tb t = absurd tb
  going_back_lem (m ∷ older) s es ps a b tb t = go (split (same b m.id)) (going_back_lem older s.1 es.1 old a)
    where
      old : (i j : MarkId) → T (has j (ids older)) → precedes older i j ≡ before i j
      old i j u = sym (precedes_old m older i j (not_new m older s j u)) ∙ ps i j (or_inr (same j m.id) (has j (ids older)) u)

      way : (e : MarkId) → T (has e m.stamp) → (same a e || precedes older a e) ≡ (same a e || before a e)
      way e u = ap (λ (x : Bool). same a e || x) (old a e (s.0.listed e u))

      -- What precedes b is an entry of its stamp, or precedes one.
      at_b : (i : MarkId) → T (same b m.id) → any (λ e. same i e || precedes older i e) m.stamp ≡ before i b
      at_b i q = sym (precedes-at m older i b q) ∙ ps i b tb

      step : (o : Option MarkId) → Lowest (λ e. e) (λ e. same a e || precedes older a e) m.stamp o → T (same b m.id)
          → ((e : MarkId) → T (has e (ids older)) → T (same a e || before a e) → Back a e (going_back older a e))
          → Back a b (b ∷ elim o [ none ↦ [] | some e ↦ going_back older a e ])
      step none k q ih = (
        refl,
        elim (or_yes (same a b) (before a b) t) [
          | inl u ↦ sym (same→eq a b u)
          | inr u ↦ let r = any_find (λ e. same a e || precedes older a e) m.stamp (rw (at_b a q) u) in absurd (all-has _ m.stamp k r.0 r.1 r.2)
        ],
      )
      step (some e) k q ih =
          let te = among_has e m.stamp k.0 in
          let of_b : m.stamp ≡ entries b = es.0 ∙ ap entries (sym (same→eq b m.id q)) in
          let on : T (same a e || before a e) = rw (way e te) at k.1 in
          chain_on (λ f e. Taken entries before a e f) b e a (going_back older a e) (record {
            entry = rw of_b at te;
            precedes = rw (at_b e q) at (any_of (λ g. same e g || precedes older e g) m.stamp e te (or_inl (same e e) (precedes older e e) (same_refl e)));
            follows = on;
            lowest = λ g tg u. let tm : T (has g m.stamp) = rw of_b tg in all-has _ m.stamp k.2 g tm (rw (way g tm) u);
          }) (ih e (s.0.listed e te) on)

      go : T (same b m.id) ⊎ T (not (same b m.id))
          → ((e : MarkId) → T (has e (ids older)) → T (same a e || before a e) → Back a e (going_back older a e)) → Back a b (going_back (m ∷ older) a b)
      go (inl q) ih = rw (T→eq (same b m.id) q, going_back) (step (entry_towards older a m.stamp) (entry-lowest older a m.stamp) q ih)
      go (inr q) ih = rw (nT→eq (same b m.id) q, going_back) (ih b (listed_old m older b tb q) t)

-- Each mark of it is older than the one before, so it has no more marks than are executed.
back_length : (l : List Mark) (a b : MarkId) → length (going_back l a b) ≤ length l
back_length [] a b = omega arith
back_length (m ∷ older) a b = go (same b m.id) (entry_towards older a m.stamp) (back_length older a)
  where
    go : (t : Bool) (o : Option MarkId) → ((e : MarkId) → length (going_back older a e) ≤ length older)
        → length {A = MarkId} (elim t [ true ↦ b ∷ elim o [ none ↦ [] | some e ↦ going_back older a e ] | false ↦ going_back older a b ]) ≤ suc (length older)
    go true none ih = omega arith
    go true (some e) ih = let q = ih e in omega arith
    go false o ih = let q = ih b in omega arith

chain_length : (l : List Mark) (a b : MarkId) → length (chain l a b) ≤ length l
unfolding chain
chain_length l a b = let q = back_length l a b in let e = length-reverse (going_back l a b) in omega arith

-- No entry of a is a or follows it.
back_same : (l : List Mark) → CausallyOrdered l → (a : MarkId) → T (has a (ids l)) → going_back l a a ≡ a ∷ []
back_same [] s a t = absurd t
back_same (m ∷ older) s a t = go (split (same a m.id)) (back_same older s.1 a)
  where
    last : (o : Option MarkId) → Lowest (λ e. e) (λ e. same a e || precedes older a e) m.stamp o → T (same a m.id)
        → ◌≡◌ {A = List MarkId} (a ∷ elim o [ none ↦ [] | some e ↦ going_back older a e ]) (a ∷ [])
    last none k q = refl
    last (some e) k q =
        let h = s.0.listed e (among_has e m.stamp k.0) in
        let old : T (has a (ids older)) = elim (or_yes (same a e) (precedes older a e) k.1) [
          | inl u ↦ rw (same→eq a e u) h
          | inr u ↦ (precedes-listed older s.1 a e u).0
        ] in
        absurd (T_not (same a m.id) (not_new m older s a old) q)

    go : T (same a m.id) ⊎ T (not (same a m.id)) → (T (has a (ids older)) → going_back older a a ≡ a ∷ []) → going_back (m ∷ older) a a ≡ a ∷ []
    go (inl q) ih = rw (T→eq (same a m.id) q, going_back) (last (entry_towards older a m.stamp) (entry-lowest older a m.stamp) q)
    go (inr q) ih = rw (nT→eq (same a m.id) q, going_back) (ih (listed_old m older a t q))

chain_same : (l : List Mark) → CausallyOrdered l → (a : MarkId) → T (has a (ids l)) → chain l a a ≡ a ∷ []
unfolding chain
chain_same l s a t = rw (back_same l s a t)

-- BESIDE RELATE

never : (n : ℕ) → ltb n 0 ≡ false
never n = nT→eq (ltb n 0) (not_T (ltb n 0) (λ t. let q = ltb→lt n 0 t in omega arith))

pub beside_relate : (st : State) (a b : MarkId) (lent : ℕ) → BesideRelate st a b lent
unfolding evidence evidence_chain
beside_relate st a b lent = record { verdict = go (relate st a b); concurrent = λ e. rw (e, never lent); enough = few (relate st a b) }
  where
    l : List Mark
    l = st.executed

    by : (t : Bool) (r : Relation) → verdict_in (refuse_if t 13 (gives (behind l a b r))) ≡ refuse_if t 13 (gives r)
    by true r = refl
    by false Same = refl
    by false Before = refl
    by false After = refl
    by false Concurrent = refl

    go : (o : Answer Relation) → verdict_in (and_then o (λ r. refuse_if (ltb lent (length (chain_for l a b r))) 13 (gives (behind l a b r))))
        ≡ and_then o (λ r. refuse_if (ltb lent (length (chain_if l a b o))) 13 (gives r))
    go (gives r) = by (ltb lent (length (chain_for l a b r))) r
    go (refused c) = refl

    few : (o : Answer Relation) → length (chain_if l a b o) ≤ length l
    few (gives Same) = chain_length l _ _
    few (gives Before) = chain_length l _ _
    few (gives After) = chain_length l _ _
    few (gives Concurrent) = omega arith
    few (refused c) = omega arith

-- The verdict is Relate's.
pub evidence-verdict : (st : State) (a b : MarkId) (lent : ℕ) (e : Evidence) → evidence st a b lent ≡ gives e → relate st a b ≡ gives (verdict_of e)
evidence-verdict st a b lent e q = go (relate st a b) (ltb lent (length (evidence_chain st a b))) (sym (beside_relate st a b lent).verdict ∙ ap verdict_in q)
  where
    go : (o : Answer Relation) (t : Bool) → and_then o (λ r. refuse_if t 13 (gives r)) ≡ gives (verdict_of e) → o ≡ gives (verdict_of e)
    go (gives r) false p = p
    go (gives r) true p = let z : ◌≡◌ {A = ℕ} 0 1 = cc in let y : ⊥ = omega arith in absurd y
    go (refused c) t p = let z : ◌≡◌ {A = ℕ} 0 1 = cc in let y : ⊥ = omega arith in absurd y

-- What a verdict means.
abbrev Means : List Mark → MarkId → MarkId → Relation → Type 0
Means l a b Same = a ≡ b
Means l a b Before = T (precedes l a b)
Means l a b After = T (precedes l b a)
Means l a b Concurrent = T (not (precedes l a b)) × T (not (precedes l b a))

abbrev Case : List Mark → MarkId → MarkId → Answer Relation → Type 0
Case l a b (gives r) = T (has a (ids l)) × T (has b (ids l)) × Means l a b r
Case l a b (refused c) = Unit {0}

relate_case : (st : State) (a b : MarkId) → Case st.executed a b (relate st a b)
unfolding relate_by
relate_case st a b = go (is_executed st a && is_executed st b) refl (same a b) refl (precedes l a b) refl (precedes l b a) refl
  where
    l : List Mark
    l = st.executed

    both : T (is_executed st a && is_executed st b) → (r : Relation) → Means l a b r → Case l a b (gives r)
    both t r m = ((and_yes (is_executed st a) (is_executed st b) t).0, (and_yes (is_executed st a) (is_executed st b) t).1, m)

    go : (t : Bool) → (is_executed st a && is_executed st b) ≡ t → (s : Bool) → same a b ≡ s → (p : Bool) → precedes l a b ≡ p → (q : Bool) → precedes l b a ≡ q
        → Case l a b (refuse_if (not t) 12 (gives (elim s [ true ↦ Same | false ↦ elim p [ true ↦ Before | false ↦ elim q [ true ↦ After | false ↦ Concurrent ] ] ])))
    go false et s es p ep q eq = tt
    go true et true es p ep q eq = both (rw et tt) Same (same→eq a b (rw es tt))
    go true et false es true ep q eq = both (rw et tt) Before (rw ep tt)
    go true et false es false ep true eq = both (rw et tt) After (rw eq tt)
    go true et false es false ep false eq = both (rw et tt) Concurrent (rw ep tt, rw eq tt)

-- COUNTS

pub tally-keep : (d : ℕ) (p : MarkId → Bool) (is : List MarkId) → ((i : MarkId) → T (has i is) → d ≡ i.desk → T (p i)) → tally d (keep p is) ≡ tally d is
tally-keep d p [] f = refl
tally-keep d p (i ∷ is) f =
    go (eqb d i.desk) (p i) refl (λ t. f i (has-self i is) (eqb_yes t)) (tally-keep d p is (λ j t. f j (or_inr (same j i) (has j is) t)))
  where
    go : (t c : Bool) → eqb d i.desk ≡ t → (T t → T c) → tally d (keep p is) ≡ tally d is
        → tally d (cond c (i ∷ keep p is) (keep p is)) ≡ elim t [ true ↦ suc (tally d is) | false ↦ tally d is ]
    go true true e g ih = rw (e, tally) (ap suc ih)
    go true false e g ih = absurd (g tt)
    go false true e g ih = rw (e, tally) ih
    go false false e g ih = ih

-- What is kept of counted names, with a name all lower ones of its desk, is counted.
keep-counted : (p : MarkId → Bool) (is : List MarkId) → Consecutive is
    → ((i j : MarkId) → i.desk ≡ j.desk → 1 ≤ i.number → i.number < j.number → T (p j) → T (p i)) → Consecutive (keep p is)
keep-counted p [] c f = tt
keep-counted p (x ∷ xs) c f = go (p x) refl (keep-counted p xs c.1 f)
  where
    lower : T (p x) → (i : MarkId) → T (has i xs) → x.desk ≡ i.desk → T (p i)
    lower t i h e = let q = prefix_le xs c.1 i h in let n : x.number ≡ suc (tally i.desk xs) = rw (← e) c.0 in f i x (sym e) q.0 (omega arith) t

    go : (b : Bool) → p x ≡ b → Consecutive (keep p xs) → Consecutive (cond b (x ∷ keep p xs) (keep p xs))
    go true e ih = (c.0 ∙ ap suc (sym (tally-keep x.desk p xs (lower (rw e tt)))), ih)
    go false e ih = ih

-- Of a desk's marks, those up to the count precede.
pub told_by_count : (l : List Mark) → CausallyOrdered l → (i b : MarkId) → T (has i (ids l)) → precedes l i b ≡ leb i.number (in_past l i.desk b)
unfolding in_past
told_by_count l s i b t = bool_ext (precedes l i b) (leb i.number (in_past l i.desk b))
    (λ u. yes_leb (prefix_le (keep p (ids l)) k i (has-keep p (ids l) i t u)).1)
    (λ u. (keep-has p (ids l) i (prefix_has (keep p (ids l)) k i (prefix_le (ids l) c i t).0 (leb_yes u))).1)
  where
    p : MarkId → Bool
    p i = precedes l i b

    c : Consecutive (ids l)
    c = sound_counted l s

    k : Consecutive (keep p (ids l))
    k = keep-counted p (ids l) c (past-first-run l s b)

-- Each count is below the number of the mark whose desk it is of.
in_past_below : (l : List Mark) → CausallyOrdered l → (a b : MarkId) → T (has a (ids l)) → T (not (precedes l a b)) → in_past l a.desk b < a.number
in_past_below l s a b t n = leb_no (rw (told_by_count l s a b t) at n)

-- Of two concurrent marks both counts.
pub counts_below : (st : State) → CausallyOrdered st.executed → (a b : MarkId) → relate st a b ≡ gives Concurrent
    → (in_past st.executed a.desk b < a.number) × (in_past st.executed b.desk a < b.number)
counts_below st s a b e =
    let c : Case st.executed a b (gives Concurrent) = rw e at (relate_case st a b) in
    (in_past_below st.executed s a b c.0 c.2.0, in_past_below st.executed s b a c.1 c.2.1)

-- Names that stand once, all among others, are of no desk more than these.
tally_le_once : (d : ℕ) (xs ys : List MarkId) → Once xs → ((i : MarkId) → T (has i xs) → T (has i ys)) → tally d xs ≤ tally d ys
tally_le_once d xs ys o f =
    let q = among_le (keep of xs) (keep of ys) (keep_once of xs o) (λ i t. let r = keep-has of xs i t in has-keep of ys i (f i r.0) r.1) in
    omega (arith, tally-counts d xs, tally-counts d ys)
  where
    of : MarkId → Bool
    of i = eqb d i.desk

-- Where marks have pasts, it counts the past.
pub in_past_of : (past : MarkId → List MarkId) (l : List Mark) → Standing past l → (d : ℕ) (b : MarkId) → T (has b (ids l)) → Once (past b) → in_past l d b ≡ tally d (past b)
unfolding in_past
in_past_of past l h d b t o =
    let p = tally_le_once d (local l b) (past b) (keep_once (λ i. precedes l i b) (ids l) (counted_once (ids l) (counted past l h)))
    (λ i u. rw (precedes-past past l h i b t) at (keep-has (λ i. precedes l i b) (ids l) i u).1) in
    let q = tally_le_once d (past b) (local l b) o
    (λ i u. has-keep (λ i. precedes l i b) (ids l) i (behind-all past l h b t i u) (rw (precedes-past past l h i b t) u)) in
    omega arith

-- WHAT IT SHOWS

module _ (entries : MarkId → List MarkId) (before : MarkId → MarkId → Bool) (count : ℕ → MarkId → ℕ) where
  -- The entries, the precedence and the counts are those of executed marks.
  pub record Agrees (l : List Mark) : Type 0 where
    pub stamps : All (λ m. m.stamp ≡ entries m.id) l
    pub precedence : (a b : MarkId) → T (has b (ids l)) → precedes l a b ≡ before a b
    pub counts : (d : ℕ) (b : MarkId) → T (has b (ids l)) → in_past l d b ≡ count d b

  module _ (l : List Mark) (s : CausallyOrdered l) (g : Agrees l) where
    chain_holds : (a b : MarkId) → T (has b (ids l)) → T (precedes l a b) → ChainOf (Taken entries before a) a b (chain l a b)
    unfolding chain
    chain_holds a b tb t = chain-turned (Taken entries before a) a b b (going_back l a b) []
        (going_back_lem entries before l s g.stamps g.precedence a b tb (or_inr (same a b) (before a b) (rw (g.precedence a b tb) at t))) (refl, refl)

    shows_of : (a b : MarkId) (r : Relation) → Case l a b (gives r) → Shows entries before count a b (chain_for l a b r) r
    shows_of a b Same c = (c.2, rw (← c.2) (chain_same l s a c.0))
    shows_of a b Before c = chain_holds a b c.1 c.2
    shows_of a b After c = chain_holds b a c.0 c.2
    shows_of a b Concurrent c = (
      refl,
      rw (← g.counts a.desk b c.1) (in_past_below l s a b c.0 c.2.0),
      rw (← g.counts b.desk a c.0) (in_past_below l s b a c.1 c.2.1),
    )

    behind_of : (a b : MarkId) (r : Relation) → Case l a b (gives r) → behind l a b r ≡ evidence_of count a b (chain_for l a b r) r
    behind_of a b Same c = refl
    behind_of a b Before c = refl
    behind_of a b After c = refl
    behind_of a b Concurrent c = rw (g.counts a.desk b c.1, g.counts b.desk a c.0)

  pub proves : (st : State) → CausallyOrdered st.executed → Agrees st.executed → (a b : MarkId) (lent : List MarkId)
      → Proves entries before count (relate st a b) a b lent (evidence st a b (length lent)) (evidence_pairs st a b lent)
  unfolding evidence evidence_chain evidence_pairs
  proves st s g a b lent = record {
    marks = evidence_chain st a b;
    shows = λ r e. rw e (shows_of l s g a b r (rw e at (relate_case st a b)));
    answers = go (relate st a b) (relate_case st a b);
    writes = refl;
  }
    where
      l : List Mark
      l = st.executed

      go : (o : Answer Relation) → Case l a b o
          → and_then o (λ r. refuse_if (ltb (length lent) (length (chain_for l a b r))) 13 (gives (behind l a b r)))
          ≡ and_then o (λ r. refuse_if (ltb (length lent) (length (chain_if l a b o))) 13 (gives (evidence_of count a b (chain_if l a b o) r)))
      go (gives r) c = rw (behind_of l s g a b r c)
      go (refused n) c = refl

-- AT A DESK

-- Each executed mark is the one of its name.
stamps_of : (l : List Mark) → CausallyOrdered l → All (λ m. m.stamp ≡ stamp_of l m.id) l
stamps_of [] s = tt
stamps_of (m ∷ older) s = (
  rw (T→eq (same m.id m.id) (same_refl m.id), stamp_of, find) refl,
  all_map old older (absent-all mark_id (λ w. w.stamp ≡ stamp_of older w.id) m.id older (not_T (has m.id (ids older)) (fresh_of m.id (ids older) (sound_counted (m ∷ older) s))) (stamps_of older s.1)),
)
  where
    old : (w : Mark) → (w.stamp ≡ stamp_of older w.id) × T (not (same m.id w.id)) → w.stamp ≡ stamp_of (m ∷ older) w.id
    old w x =
        let n = not_T (same w.id m.id) (λ t. T_not (same m.id w.id) x.1 (rw (same→eq w.id m.id t) (same_refl m.id))) in
        rw (nT→eq (same w.id m.id) n, stamp_of, find) x.0

pub desk_agrees : (l : List Mark) → CausallyOrdered l → Agrees (stamp_of l) (precedes l) (in_past l) l
desk_agrees l s = record { stamps = stamps_of l s; precedence = λ a b t. refl; counts = λ d b t. refl }
