-- Evidence by its ways out: a mark is at no place, the marks are apart, the lent pairs are too few, or the chain is listed. Assumes nothing.
use Prim.Native.Nat.{◌+◌, ◌-◌, ◌<◌, ◌≤◌, max, min, suc, ℕ}
use borrow.Author.Tests.{le-ltb, lt-ltb, ne_eqb}
use lib.Dec.{T, leb, ltb, ltb→lt, nltb→le}
use lib.ListN.{get_or, length, length-reverse}
use mathlib.Core.Bool.{Bool, ◌&&◌, ◌||◌, false, true}
use mathlib.Core.List.{List, reverse, reverse-reverse}
use mathlib.Core.Logic.{◌⊎◌, inl, inr}
use mathlib.Core.Path.{◌∙◌, ◌≡◌, ap, refl, subst, sym}
use native.Mathlib.Omega.{arith}
use Rattle.std.specs.Prelude.{Err, None, Ok, Some}
use Rattle.frame.specs.Answer.{Answer, gives, refuse_if, refused}
use Rattle.frame.specs.Names.{MarkId}
use Rattle.frame.specs.declared.Refusal.TheVariants.{NotExecuted, OutputShort}
use Rattle.causality.specs.Answers.{Evidence, Relation, Same, Before, After, Concurrent}
use Rattle.causality.specs.Calls.{and_then, relate}
use Rattle.causality.specs.Evidence.{behind, chain, chain_for, chain_if, evidence, evidence_chain, going_back, in_past}
use Rattle.causality.specs.Marks.{places, same}
use Rattle.causality.specs.Meaning.{proved}
use Rattle.causality.specs.State.{Mark, State, precedes}
use Rattle.causality.specs.declared.Evidence.{Evidence as Found}
use Rattle.causality.specs.declared.Place.{Place}
use Rattle.causality.proofs.EvidenceLaws.{counts_below}
use Rattle.causality.proofs.Logic.{or_inl, same_refl, split}
use Rattle.causality.specs.inner.Order.{CausallyOrdered}
use Rattle.executed.specs.inner.Rows.{Finds, LentTo}
use Rattle.executed.proofs.Chain.{found_inside, found-place}
use Rattle.pairs.specs.Pairs.{Spare, marks_of}
use Rattle.pairs.specs.declared.Listed.{Listed}
use Rattle.pairs.proofs.Filled.{length-marks_of}
use Rattle.queries.specs.inner.Lent.{queried_state}
use Rattle.queries.specs.inner.Steps.{PrecedesAt}
use Rattle.queries.proofs.MadeBefore.{counted-less}
use Rattle.queries.proofs.Relating.{relate_back, relate_forward, relate_no_first, relate_no_second, relate-same}
use Rattle.rows.specs.declared.Executed.{Executed}
use Rattle.rows.specs.Executed.{marks_with}
use Rattle.rows.specs.View.{Carried, names_down, width}
use Rattle.rows.proofs.Places.{found_some, has-at, ids-names}
use Rattle.rows.proofs.RowSteps.{named-less}
use Rattle.concurrent.specs.inner.Steps.{Tells, is_or_follows}
use Rattle.concurrent.proofs.ByPlaces.{same_place}
use Rattle.evidence.specs.Found.{EvidenceFound}
use Rattle.evidence.specs.inner.Steps.{CountsOf, GoneBack, HasMark, Reversed, counted_before, name, verdict_at}
use Rattle.evidence.proofs.Verdicts.{verdict_after, verdict_before, verdict-same}

-- BY THE VERDICT

module _ (st : State) (a b : MarkId) (room : ℕ) where
  abbrev after : Answer Relation → Answer Evidence
  after x = and_then x (λ r. refuse_if (ltb room (length (chain_for st.executed a b r))) 13 (gives (behind st.executed a b r)))

  answer_as : (x : Answer Relation) → relate st a b ≡ x → evidence st a b room ≡ after x
  unfolding evidence
  answer_as x e = ap after e

  chain_as : (x : Answer Relation) → relate st a b ≡ x → evidence_chain st a b ≡ chain_if st.executed a b x
  unfolding evidence_chain
  chain_as x e = ap (chain_if st.executed a b) e

  pub not-executed : relate st a b ≡ refused 12 → EvidenceFound st a b room (Err NotExecuted)
  not-executed e = record { answer = sym (answer_as (refused 12) e); list = tt }

  module _ (v : Relation) (e : relate st a b ≡ gives v) where
    by_room : (t : Bool) → ltb room (length (chain_for st.executed a b v)) ≡ t → evidence st a b room ≡ refuse_if t 13 (gives (behind st.executed a b v))
    by_room t u = answer_as (gives v) e ∙ ap (λ (t : Bool). refuse_if t 13 (gives (behind st.executed a b v))) u

    pub too_short : room < length (chain_for st.executed a b v) → EvidenceFound st a b room (Err OutputShort)
    too_short h = record { answer = sym (by_room true (lt-ltb room (length (chain_for st.executed a b v)) h)); list = tt }

    pub shown : (r : Found) (list : Listed) → proved r ≡ behind st.executed a b v → marks_of list ≡ chain_for st.executed a b v
        → list.count ≤ room → list.count ≤ places → Spare list → EvidenceFound st a b room (Ok (r, list))
    shown r list h names few few_places spare =
        let n = sym (length-marks_of list) ∙ ap length names in
        record {
          answer = ap gives h ∙ sym (by_room false (le-ltb room (length (chain_for st.executed a b v)) (omega arith)));
          list = record { few = few; few_places = few_places; marks = names ∙ sym (chain_as (gives v) e); spare = spare };
        }

-- BY PLACES

-- A chain that was gone back, of a mark at q that is that at p or follows it.
module _ (executed : Executed) (p q : ℕ) (list : Listed) (g : GoneBack executed p q list) (count : ℕ) (h : q < count) (bs : ℕ → Carried) (s : CausallyOrdered (marks_with bs count executed))
    (t : T (is_or_follows (marks_with bs count executed) (name executed p) (name executed q))) where
  abbrev back : List MarkId
  back = going_back (marks_with bs count executed) (name executed p) (name executed q)

  -- In the other order its marks are the chain.
  names_back : (r : Listed) → Reversed list r → marks_of r ≡ chain (marks_with bs count executed) (name executed p) (name executed q)
  unfolding marks_of chain
  names_back r v = ap reverse (v.names ∙ ap reverse (g.names count h bs s t) ∙ reverse-reverse back)

  long_back : list.count ≡ length (chain (marks_with bs count executed) (name executed p) (name executed q))
  unfolding marks_of chain
  long_back = sym (length-marks_of list) ∙ ap (λ (x : List MarkId). length (reverse x)) (g.names count h bs s t) ∙ length-reverse (reverse back)

-- r says whether the mark at place q is that at place p or follows it, however many marks there are.
abbrev pub FollowsAt : Executed → ℕ → ℕ → Bool → Type 0
FollowsAt executed p q r = (count : ℕ) → q < count → (bs : ℕ → Carried) → CausallyOrdered (marks_with bs count executed)
    → r ≡ is_or_follows (marks_with bs count executed) (name executed p) (name executed q)

module _ (executed : Executed) (p q : ℕ) where
  -- By the row that tells of it and of the marks before it.
  pub follows-told : p ≤ q → (first : List ℕ) → Tells executed p (q + 1) first → FollowsAt executed p q (ltb 0 (get_or first (get_or executed.desks q 0 - 1) 0) && leb (get_or first (get_or executed.desks q 0 - 1) 0) (get_or executed.numbers q 0))
  follows-told o first w count h bs s =
      sym (w.tells count (omega arith) (omega arith) bs s (name executed q) (rw (← ids-names width executed.desks executed.numbers bs executed.stamps (q + 1)) (has-at width executed.desks executed.numbers bs executed.stamps (q + 1) q (omega arith))))

  -- At two places are two marks.
  precedes-at-places : p < q → (r : Bool) → FollowsAt executed p q r → PrecedesAt executed p q r
  precedes-at-places o r f count h bs s =
      f count h bs s ∙ ap (λ (b : Bool). b || precedes (marks_with bs count executed) (name executed p) (name executed q)) (sym (same_place width executed.desks executed.numbers bs executed.stamps count p q s (omega arith) h) ∙ ne_eqb p q (λ e. omega arith))

-- EXECUTED MARKS THAT ARE LENT

pub has-mark : (count : ℕ) (executed : Executed) → LentTo count executed → (p : ℕ) → p < count → HasMark executed p
has-mark count executed l p h =
    let f = l.few in
    let e = (counted-less executed.desks executed.numbers count (suc p) (omega arith) l.chain.counted).0 in
    record { within = omega arith; named = named-less width count executed.desks (suc p) l.named (omega arith); made = omega arith }

module _ (count : ℕ) (executed : Executed) (l : LentTo count executed) (own : ℕ) (bs : ℕ → Carried) (waiting : List Mark) (a b : MarkId) (room : ℕ) where
  abbrev state : State
  state = queried_state executed count own bs waiting

  pub evidence_no_first : Finds executed a None → EvidenceFound (queried_state executed count own bs waiting) a b room (Err NotExecuted)
  evidence_no_first f = not-executed state a b room (relate_no_first count executed l own bs waiting a b f)

  pub evidence_no_second : Finds executed b None → EvidenceFound (queried_state executed count own bs waiting) a b room (Err NotExecuted)
  evidence_no_second f = not-executed state a b room (relate_no_second count executed l own bs waiting a b f)

  module _ (p q : Place) (fa : Finds executed a (Some p)) (fb : Finds executed b (Some q)) (s : CausallyOrdered (marks_with bs count executed)) where
    abbrev marks : List Mark
    marks = marks_with bs count executed

    first_in : p.0 < count
    first_in = found_inside count executed l a p fa

    second_in : q.0 < count
    second_in = found_inside count executed l b q fb

    -- The mark found has the name that it was found by.
    named : (i : MarkId) (r : Place) → Finds executed i (Some r) → name executed r.0 ≡ i
    named i r f =
        (found_some width executed.desks executed.numbers bs executed.stamps count r.0 i (found_inside count executed l i r f) (found-place count executed l i r f bs executed.stamps)).1

    first-name : name executed p.0 ≡ a
    first-name = named a p fa

    second-name : name executed q.0 ≡ b
    second-name = named b q fb

    -- Which of the two places is the lower.
    order : (p.0 ≡ q.0) ⊎ ((p.0 < q.0) ⊎ (q.0 < p.0))
    order = elim (split (ltb p.0 q.0)) [
      | inl t ↦ inr (inl (ltb→lt p.0 q.0 t))
      | inr t ↦ let u = nltb→le p.0 q.0 t in elim (split (ltb q.0 p.0)) [ inl v ↦ inr (inr (ltb→lt q.0 p.0 v)) | inr v ↦ let x = nltb→le q.0 p.0 v in inl (omega arith) ]
    ]

    -- There is a chain: in the other order it is that of the verdict that comes with it.
    record Chained (list : Listed) : Type 0 where
      verdict : Relation
      related : relate (queried_state executed count own bs waiting) a b ≡ gives verdict
      names : (r : Listed) → Reversed list r → marks_of r ≡ chain_for (marks_with bs count executed) a b verdict
      long : list.count ≡ length (chain_for (marks_with bs count executed) a b verdict)
      answer : proved (verdict_at p.0 q.0 list.count) ≡ behind (marks_with bs count executed) a b verdict

    -- The chain from place i to place j, of these names.
    module _ (i j : ℕ) (jc : j < count) (list : Listed) (g : GoneBack executed i j list) (t : T (is_or_follows (marks_with bs count executed) (name executed i) (name executed j)))
        (x y : MarkId) (ex : name executed i ≡ x) (ey : name executed j ≡ y) where
      names_as : (r : Listed) → Reversed list r → marks_of r ≡ chain (marks_with bs count executed) x y
      names_as r v = names_back executed i j list g count jc bs s t r v ∙ (λ k. chain marks (ex k) (ey k))

      long_as : list.count ≡ length (chain (marks_with bs count executed) x y)
      long_as = long_back executed i j list g count jc bs s t ∙ (λ k. length (chain marks (ex k) (ey k)))

    follows : (i j : ℕ) → j < count → FollowsAt executed i j true → T (is_or_follows (marks_with bs count executed) (name executed i) (name executed j))
    follows i j jc f = rw (← f count jc bs s) tt

    module _ (from to : ℕ) (ef : from ≡ min p.0 q.0) (et : to ≡ max p.0 q.0) where
      chained : FollowsAt executed from to true → (list : Listed) → GoneBack executed from to list → Chained list
      chained c list g = go order
        where
          at : (i j : ℕ) → from ≡ i → to ≡ j → GoneBack executed i j list × FollowsAt executed i j true
          at i j e f =
              subst (λ (x : ℕ). GoneBack executed x j list × FollowsAt executed x j true) e (subst (λ (y : ℕ). GoneBack executed from y list × FollowsAt executed from y true) f (g, c))

          go : (p.0 ≡ q.0) ⊎ ((p.0 < q.0) ⊎ (q.0 < p.0)) → Chained list
          go (inl e) =
              let w = at p.0 q.0 (omega arith) (omega arith) in
              let t = follows p.0 q.0 second_in w.1 in
              let long = long_as p.0 q.0 second_in list w.0 t a b first-name second-name in
              record {
                verdict = Same;
                related = relate-same count executed l own bs waiting a b p q fa fb e;
                names = names_as p.0 q.0 second_in list w.0 t a b first-name second-name;
                long = long;
                answer = rw (verdict-same p.0 q.0 list.count e) (ap Same long);
              }
          go (inr (inl e)) =
              let w = at p.0 q.0 (omega arith) (omega arith) in
              let t = follows p.0 q.0 second_in w.1 in
              let long = long_as p.0 q.0 second_in list w.0 t a b first-name second-name in
              record {
                verdict = Before;
                related = relate_forward count executed l own bs waiting a b p q fa fb s true true refl e (precedes-at-places executed p.0 q.0 e true w.1);
                names = names_as p.0 q.0 second_in list w.0 t a b first-name second-name;
                long = long;
                answer = rw (verdict_before p.0 q.0 list.count (λ z. omega arith) e) (ap Before long);
              }
          go (inr (inr e)) =
              let w = at q.0 p.0 (omega arith) (omega arith) in
              let t = follows q.0 p.0 first_in w.1 in
              let long = long_as q.0 p.0 first_in list w.0 t b a second-name first-name in
              record {
                verdict = After;
                related = relate_back count executed l own bs waiting a b p q fa fb s true true refl e (precedes-at-places executed q.0 p.0 e true w.1);
                names = names_as q.0 p.0 first_in list w.0 t b a second-name first-name;
                long = long;
                answer = rw (verdict_after p.0 q.0 list.count (λ z. omega arith) (omega arith)) (ap After long);
              }

      pub evidence_too_short : FollowsAt executed from to true → (list : Listed) → GoneBack executed from to list → room < list.count
          → EvidenceFound (queried_state executed count own bs waiting) a b room (Err OutputShort)
      evidence_too_short j list g short = let c = chained j list g in let n = c.long in too_short state a b room c.verdict c.related (omega arith)

      pub evidence-shown : FollowsAt executed from to true → (list : Listed) → GoneBack executed from to list → list.count ≤ room
          → (r : Listed) → Reversed list r → EvidenceFound (queried_state executed count own bs waiting) a b room (Ok (verdict_at p.0 q.0 list.count, r))
      evidence-shown j list g enough r v =
          let c = chained j list g in
          let n = v.count in
          let f = g.few in
          let x = first_in in
          let y = second_in in
          let z = l.few in
          shown state a b room c.verdict c.related (verdict_at p.0 q.0 list.count) r c.answer (c.names r v) (omega arith) (omega arith) v.spare

      -- There is no chain: the marks are concurrent, with these counts, and none is listed.
      pub evidence-concurrent : FollowsAt executed from to false → (r : Found) → CountsOf executed p.0 q.0 r → (list : Listed) → list.count ≡ 0 → Spare list
          → EvidenceFound (queried_state executed count own bs waiting) a b room (Ok (r, list))
      unfolding marks_of
      evidence-concurrent apart r v list n =
          shown state a b room Concurrent (go order) r list (ap proved (v count first_in second_in bs s) ∙ (λ i. Concurrent (first i) (second i)))
          (ap (λ (c : ℕ). reverse (names_down c list.desks list.numbers)) n) (omega arith) (omega arith)
        where
          at : (i j : ℕ) → from ≡ i → to ≡ j → FollowsAt executed i j false
          at i j e f = subst (λ (x : ℕ). FollowsAt executed x j false) e (subst (λ (y : ℕ). FollowsAt executed from y false) f apart)

          go : (p.0 ≡ q.0) ⊎ ((p.0 < q.0) ⊎ (q.0 < p.0)) → relate (queried_state executed count own bs waiting) a b ≡ gives Concurrent
          go (inl z) = absurd (subst T (sym (at p.0 p.0 (omega arith) (omega arith) count first_in bs s)) (or_inl (same (name executed p.0) (name executed p.0)) (precedes marks (name executed p.0) (name executed p.0)) (same_refl (name executed p.0))))
          go (inr (inl z)) = relate_forward count executed l own bs waiting a b p q fa fb s false false refl z (precedes-at-places executed p.0 q.0 z false (at p.0 q.0 (omega arith) (omega arith)))
          go (inr (inr z)) = relate_back count executed l own bs waiting a b p q fa fb s false false refl z (precedes-at-places executed q.0 p.0 z false (at q.0 p.0 (omega arith) (omega arith)))

          first : counted_before (marks_with bs count executed) executed p.0 q.0 ≡ in_past (marks_with bs count executed) a.desk b
          first = (λ i. min ((first-name i).number - 1) (in_past marks (first-name i).desk (second-name i))) ∙ (let x = (counts_below state s a b (go order)).0 in omega arith)

          second : counted_before (marks_with bs count executed) executed q.0 p.0 ≡ in_past (marks_with bs count executed) b.desk a
          second = (λ i. min ((second-name i).number - 1) (in_past marks (second-name i).desk (first-name i))) ∙ (let x = (counts_below state s a b (go order)).1 in omega arith)
