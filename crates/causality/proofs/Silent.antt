-- Silent desks, at one desk, whatever bytes it was lent: what is executed stays, with its past, so a mark that follows all of a desk goes on doing so. Assumes nothing.
use Prim.Native.Nat.{◌≤◌, ℕ}
use lib.Dec.{T, T_not, eqb, not_T}
use lib.ListN.{length}
use mathlib.Core.Bool.{not}
use mathlib.Core.List.{List, ◌∷◌}
use mathlib.Core.Path.{◌∙◌, ◌≡◌, refl}
use Rattle.frame.specs.declared.MarkBox.{MarkBox}
use Rattle.frame.specs.Answer.{Answer, gives, refused}
use Rattle.frame.specs.Names.{MarkId}
use Rattle.causality.specs.Answers.{Judgement, Numbered}
use Rattle.causality.specs.Calls.{FromCalls, Later, act, begun, execute, mark, mark_answer, mark_in, marked, new_mark, received, release, rules, state_if}
use Rattle.causality.specs.Kinds.{executing_by, mark_of, receive_of}
use Rattle.causality.specs.Marks.{any, has, same}
use Rattle.causality.specs.Silent.{SilentLeaves, SilentLeavesLater, names}
use Rattle.causality.specs.State.{Mark, State, heads, ids, is_head, precedes, reckoned}
use Rattle.causality.proofs.Cases.{JudgeCase, received_case, to_execute, to_know, to_refuse, to_wait}
use Rattle.causality.proofs.Invariant.{kept}
use Rattle.causality.proofs.Lists.{any_find, any_of}
use Rattle.causality.proofs.Logic.{eqb_yes, or_inr}
use Rattle.causality.proofs.Past.{heads-has}
use Rattle.causality.proofs.Reach.{local, not_new, precedes_old}
use Rattle.causality.specs.inner.Order.{CausallyOrdered}
use Rattle.causality.proofs.Releases.{release_keeps}

-- AS IT STANDS

pub silent_leaves : (st : State) → SilentLeaves st
unfolding new_mark is_head
silent_leaves st d m f = record { head = none_of; stamp = λ b. none_of }
  where
    l : List Mark
    l = st.executed

    none_of : T (not (names d (heads l)))
    none_of = not_T (names d (heads l)) (λ t.
        let r = any_find (λ e. eqb e.desk d) (heads l) t in
        let h = heads-has (local l) l r.0 r.1 in
        T_not (any (λ k. precedes l r.0 k) (ids l)) h.1 (any_of (λ k. precedes l r.0 k) (ids l) m f.listed (f.every r.0 h.0 (eqb_yes r.2))))

-- WHAT IS EXECUTED STAYS

-- A list with newer marks before it.
data Newer (l : List Mark) : List Mark → Type 0 where
  none_newer : Newer l l
  one_newer : {k : List Mark} (m : Mark) → Newer l k → Newer l (m ∷ k)

newer_all : {l k j : List Mark} → Newer l k → Newer k j → Newer l j
newer_all a none_newer = a
newer_all a (one_newer m b) = one_newer m (newer_all a b)

release_newer : (turns : ℕ) (l ws : List Mark) (k f : ℕ) → Newer l (release turns l ws k f).executed
release_newer turns l ws k f = release_keeps rules (λ l' ws' k' f'. Newer l l') (λ l' ws' k' f' w n e. n) (λ l' ws' k' f' w n e t. one_newer (reckoned l' w) n) turns l ws k f none_newer

receive_newer : (st : State) (m : Mark) (j : Answer (Judgement Mark)) → JudgeCase rules st m j → Newer st.executed (act st j).state.executed
unfolding executing_by
receive_newer st m j (to_refuse c) = none_newer
receive_newer st m j to_know = none_newer
receive_newer st m j (to_wait a b c) = none_newer
receive_newer st m j (to_execute a b c) = newer_all (one_newer (reckoned st.executed m) none_newer) (release_newer (length st.waiting) (reckoned st.executed m ∷ st.executed) st.waiting 1 0)

mark_newer : (N : ℕ) (st : State) (b : MarkBox) (out : List ℕ) → Newer st.executed (mark N st b out).state.executed
unfolding mark_of
mark_newer N st b out = go (mark_answer N st b (length out))
  where
    go : (a : Answer Numbered) → Newer st.executed (state_if a (execute (new_mark st b) st) st).executed
    go (gives n) = one_newer (new_mark st b) none_newer
    go (refused c) = none_newer

later_newer : (N : ℕ) {st later : State} → Later N st later → Newer st.executed later.executed
unfolding receive_of
later_newer N (begun u) = none_newer
later_newer N (marked {st = x} p b out) = newer_all (later_newer N p) (mark_newer N x b out)
later_newer N (received {st = x} p s) = newer_all (later_newer N p) (receive_newer x (mark_in N s) _ (received_case N x s))

-- Marks stay, and so do their pasts.
newer_has : {l k : List Mark} → Newer l k → (a : MarkId) → T (has a (ids l)) → T (has a (ids k))
newer_has none_newer a t = t
newer_has (one_newer {k} m n) a t = or_inr (same a m.id) (has a (ids k)) (newer_has n a t)

newer_precedes : {l k : List Mark} → Newer l k → CausallyOrdered k → (a b : MarkId) → T (has b (ids l)) → precedes k a b ≡ precedes l a b
newer_precedes none_newer s a b t = refl
newer_precedes (one_newer {k} m n) s a b t = precedes_old m k a b (not_new m k s b (newer_has n b t)) ∙ newer_precedes n s.1 a b t

-- AFTERWARDS

pub from-later : (N : ℕ) {st later : State} → FromCalls N st → Later N st later → FromCalls N later
from-later N c (begun u) = c
from-later N c (marked p b out) = marked (from-later N c p) b out
from-later N c (received p s) = received (from-later N c p) s

pub silent_leaves_later : (N : ℕ) → 1 ≤ N → {st : State} → FromCalls N st → SilentLeavesLater N st
silent_leaves_later N some_desk {st} from d m f later p u =
    let n = later_newer N p in
    let s : CausallyOrdered later.executed = (kept N some_desk (from-later N from p)).reach.sound in
    silent_leaves later d m (record {
      listed = newer_has n m f.listed;
      other = f.other;
      every = λ a t q. rw (newer_precedes n s a m f.listed) (f.every a (u.silent a t q) q);
    })
