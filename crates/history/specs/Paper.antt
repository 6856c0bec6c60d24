-- Causal precedence as the field defines it (docs/SPECIFICATION.md, Laws: over sequences), of every sequence of steps at desks 1 to N. Its sites are
-- desks, its operations marks: a mark is generated when it is made. Its history buffer at a site is the marks that the desk has executed.
use Rattle.std.specs.Prelude.{◌<◌, ℕ, T, length, not, List, [], ◌++◌, ◌∷◌, ◌↔◌, ◌≡◌}
use Rattle.frame.specs.Answer.{gives}
use Rattle.frame.specs.Names.{MarkId, is_desk}
use Rattle.frame.specs.declared.MarkBox.{MarkBox}
use Rattle.causality.specs.Calls.{earlier, mark_in}
use Rattle.causality.specs.Marks.{All, has}
use Rattle.causality.specs.State.{Directly, Mark, PrecedesDirectly, State, concurrent, ids, precedes, ready}
use Rattle.history.specs.Demand3.{entries_in}
use Rattle.history.specs.Evidence.{happened_before}
use Rattle.history.specs.Plain.{last_of_past, lists_at, making, plain}
use Rattle.history.specs.Run.{Step, Written, at_desk, fed, marking, run, state_at}
use Rattle.history.specs.Silent.{listed_at}

-- A moment of the sequence s is the steps before it. The generation of b at that moment: the next step is a marking at b's desk, and its answer is
-- b's number.
pub record MadeAt (s moment : List Step) (b : MarkId) : Type 0 where
  pub later : List Step
  pub box : MarkBox
  pub lent : List ℕ
  pub steps : s ≡ later ++ (marking b.desk box lent ∷ moment)
  pub size : ℕ
  pub gave : (making b.desk (lists_at (plain (fed moment)) b.desk) box (length lent)).answer ≡ gives (record { number = b.number; size = size })

-- Causal precedence, of marks made at two desks i and j or at one: the smallest relation
-- with these three clauses. The marks executed at desk j at a moment are its list after the steps before it. No stamp is read here; as they agree with the machine,
-- the desks answer and list so themselves.
pub data Precedes (s : List Step) : MarkId → MarkId → Type 0 where
  -- Both were made at one desk, a before b.
  generated_before : {a b : MarkId} (first moment : List Step) → a.desk ≡ b.desk → MadeAt moment first a → MadeAt s moment b → Precedes s a b
  -- They are of different desks, and b's desk executed a before it made b.
  executed_before : {a b : MarkId} (moment : List Step) → ¬ (a.desk ≡ b.desk) → T (has a (listed_at moment b.desk)) → MadeAt s moment b → Precedes s a b
  -- A third mark lies between.
  through : {a b : MarkId} (x : MarkId) → Precedes s a x → Precedes s x b → Precedes s a b

-- Marks are apart if they are different and neither precedes the other.
abbrev pub Apart : List Step → MarkId → MarkId → Type 0
Apart s a b = ¬ (a ≡ b) × ¬ Precedes s a b × ¬ Precedes s b a

-- Direct precedence, the links: a precedes b, and no mark of the sequence
-- lies between.
abbrev pub Links : List Step → MarkId → MarkId → Type 0
Links s = Directly (Precedes s)

-- An uninterrupted set of marks: of two of them of which one precedes the other,
-- each mark that lies between is one of them too.
abbrev pub Uninterrupted : List Step → (MarkId → Type 0) → Type 0
Uninterrupted s S = (a b x : MarkId) → S a → S b → Precedes s a b → Precedes s a x → Precedes s x b → S x

-- A chain of links from a to b: one link,
-- or several, whose marks between a and b are all of S.
pub data Chain (s : List Step) (S : MarkId → Type 0) : MarkId → MarkId → Type 0 where
  link : {a b : MarkId} → Links s a b → Chain s S a b
  onward : {a b : MarkId} (x : MarkId) → Chain s S a x → S x → Links s x b → Chain s S a b

-- The direct causal vector: its entries are just the marks that link to b. By rising
-- desk, so each once.
abbrev pub RisingDesks : List MarkId → Type 0
RisingDesks [] = Unit {0}
RisingDesks (e ∷ es) = All (λ f. e.desk < f.desk) es × RisingDesks es

pub record IsVector (s : List Step) (b : MarkId) (entries : List MarkId) : Type 0 where
  pub entry : (x : MarkId) → T (has x entries) ↔ Links s x b
  pub rising : RisingDesks entries

-- Causally ready: the marks before this one having come in their order, it is ready just if all that link to it are
-- executed, and just if all that precede it are. A desk's test, which asks for the mark before it of its own desk too, is both.
pub record IsReady (s : List Step) (executed : List Mark) (m : Mark) : Type 0 where
  pub by_direct : T (ready executed m) ↔ ((a : MarkId) → Links s a m.id → T (has a (ids executed)))
  pub by_all : T (ready executed m) ↔ ((a : MarkId) → Precedes s a m.id → T (has a (ids executed)))

-- Tracing: to know of causal precedence it is enough to go from marks to their entries. Over the marks
-- l the entries of stamps are traced, and the links that they are at a desk are those of the sequence.
pub record Traced (s : List Step) (l : List Mark) : Type 0 where
  pub traces : (a b : MarkId) → T (has b (ids l)) → T (precedes l a b) ↔ Precedes s a b
  pub direct : (a b : MarkId) → T (has b (ids l)) → PrecedesDirectly l a b ↔ Links s a b
  pub apart : (a b : MarkId) → T (has a (ids l)) → T (has b (ids l)) → T (concurrent l a b) ↔ Apart s a b
  -- These marks are an uninterrupted set.
  pub uninterrupted : Uninterrupted s (λ i. T (has i (ids l)))

-- A mark m that is not executed and is ready, beside those that are executed.
abbrev pub TracedWith : List Step → List Mark → Mark → Type 0
TracedWith s executed m = T (not (has m.id (ids executed))) → T (ready executed m) → Traced s (m ∷ executed)

-- One desk of the sequence, and the marks that frames of the sequence spell.
pub record PaperAt (N : ℕ) (s : List Step) (st : State) (frames : List Written) : Type 0 where
  pub vectors : All (λ m. IsVector s m.id m.stamp) (st.executed ++ st.waiting)
  -- What readiness supposes (Laws: over sequences, order is kept): what precedes b is executed before b at each desk. `earlier`: the names behind b.
  pub preserved : (a b : MarkId) → T (has b (ids st.executed)) → Precedes s a b → T (has a (earlier b (ids st.executed)))
  pub property_1 : All (λ f. IsReady s st.executed (mark_in N f.bytes)) frames
  -- Tracing, of any two executed marks.
  pub history : Traced s st.executed
  pub property_2 : All (λ f. TracedWith s st.executed (mark_in N f.bytes)) frames

pub record PaperOver (N : ℕ) (s : List Step) : Type 1 where
  -- Causal precedence is what the history says: a happened before b if a is in the past of b.
  pub definition_1 : (a b : MarkId) → Precedes s a b ↔ T (happened_before (plain (fed s)).made a b)
  -- In an uninterrupted set with a and b in it, a precedes b just if a chain of links within it goes from a to b.
  pub theorem_1 : (S : MarkId → Type 0) → Uninterrupted s S → (a b : MarkId) → S a → S b → Precedes s a b ↔ Chain s S a b
  -- The vector of a mark, which the comparison with the history takes for stamps; and that of each frame's entries.
  pub definition_4 : (b : MarkId) → IsVector s b (last_of_past (plain (fed s)).made b)
  pub frames : All (λ f. IsVector s f.id (entries_in N f)) (run N s).frames
  pub desks : (d : ℕ) → T (is_desk N d) → PaperAt N s (state_at N (run N s) d) (run N s).frames

-- The claim, for a count of desks.
abbrev pub Paper : ℕ → Type 1
Paper N = (s : List Step) → All (λ t. T (at_desk N t)) s → PaperOver N s
