-- Both round trips, for both editions at once and an open count of desks. Assumes nothing.
use Prim.Native.Nat.{◌%◌, ◌*◌, ◌+◌, ◌-◌, ◌/◌, ◌<◌, ◌≤◌, ℕ}
use borrow.Author.Tests.{eq-eqb, eqb-true, ltb-false, ne_eqb, not-false}
use lib.ListN.{drop, get_or, length, length-append, length-drop, take}
use lib.Seq.{drop_at, take_at}
use lib.Dec.{eqb}
use mathlib.Core.Bool.{Bool, ◌||◌, false, not, true}
use mathlib.Core.List.{List, [], ◌++◌, ◌∷◌}
use mathlib.Core.Path.{◌∙◌, ◌≡◌, ap, refl, sym}
use native.Mathlib.Omega.{arith}
use Rattle.frame.specs.declared.Edition.{Edition as CodeEdition}
use Rattle.frame.specs.declared.Edition.TheVariants.{First, Second}
use Rattle.frame.specs.declared.Fields.{Fields}
use Rattle.frame.specs.declared.Past.{Past}
use Rattle.frame.specs.declared.Past.TheVariants.{Said, Unsaid}
use Rattle.frame.specs.Answer.{gives}
use Rattle.frame.specs.Frame.{at2, at4, bytes2, bytes4, count_bad, count_in, edition_of, entries_bad, entries_of, fields_bad, fields_of, frame_of, head_of, length_bad, output_short, part_bad, past_bytes, past_in, read_entries, read_fields, rules, version_bad, write_bytes, write_size}
use Rattle.frame.specs.RoundTrip.{AreBytes, ReadBack, WriteBack}
use Rattle.frame.proofs.Bytes.{cells-drop}
use Rattle.frame.proofs.Tests.{or-false, passes, tests}

-- THE EDITIONS

-- The head is 23 bytes and those of the past.
pub head_size_lem : (p : Past) → (edition_of p).head ≡ 23 + length (past_bytes p)
unfolding bytes2
head_size_lem Unsaid = refl
head_size_lem (Said n) = refl

pub head_bounds : (p : Past) → (23 ≤ (edition_of p).head) × ((edition_of p).head ≤ 25)
head_bounds Unsaid = omega arith
head_bounds (Said n) = omega arith

-- The past that is read, by the version byte.
pub second_in : (s : List ℕ) → get_or s 2 0 ≡ 2 → past_in s ≡ Said (at2 s 23)
unfolding past_in
second_in s e = rw (eq-eqb (get_or s 2 0) 2 e, past_in) refl

pub first_in : (s : List ℕ) → ¬ (get_or s 2 0 ≡ 2) → past_in s ≡ Unsaid
unfolding past_in
first_in s n = rw (ne_eqb (get_or s 2 0) 2 n, past_in) refl

-- The edition of a version byte is the one that is read.
pub edition_read : (s : List ℕ) (e : CodeEdition) → (rules e).version ≡ get_or s 2 0 → rules e ≡ edition_of (past_in s)
edition_read s First v = rw (first_in s (λ q. omega arith)) refl
edition_read s Second v = rw (second_in s (sym v)) refl

pub version_read : (s : List ℕ) (e : CodeEdition) → (rules e).version ≡ get_or s 2 0 → version_bad s ≡ false
unfolding version_bad
version_read s First v = rw (← v) refl
version_read s Second v = rw (← v) refl

pub version_wrong : (s : List ℕ) → not (eqb (get_or s 2 0) 1 || eqb (get_or s 2 0) 2) ≡ true → version_bad s ≡ true
unfolding version_bad
version_wrong s h = h

-- The version read is that of the edition read.
version_is : (s : List ℕ) → version_bad s ≡ false → get_or s 2 0 ≡ (edition_of (past_in s)).version
unfolding version_bad past_in
version_is s h = go (eqb (get_or s 2 0) 2) refl
  where
    one : (a b : Bool) → not (a || b) ≡ false → b ≡ false → a ≡ true
    one true b h e = refl
    one false true h e = sym e
    one false false h e = sym h

    go : (b : Bool) → eqb (get_or s 2 0) 2 ≡ b → get_or s 2 0 ≡ (edition_of (elim b [ true ↦ Said (at2 s 23) | false ↦ Unsaid ])).version
    go true e = eqb-true _ _ e
    go false e = eqb-true _ _ (one (eqb (get_or s 2 0) 1) (eqb (get_or s 2 0) 2) h e)

version_passes : (s : List ℕ) → get_or s 2 0 ≡ (edition_of (past_in s)).version → version_bad s ≡ false
unfolding version_bad past_in
version_passes s = go (eqb (get_or s 2 0) 2) refl
  where
    two : (a b : Bool) → b ≡ true → not (a || b) ≡ false
    two true b e = refl
    two false b e = ap not e

    go : (b : Bool) → eqb (get_or s 2 0) 2 ≡ b → get_or s 2 0 ≡ (edition_of (elim b [ true ↦ Said (at2 s 23) | false ↦ Unsaid ])).version
        → not (eqb (get_or s 2 0) 1 || eqb (get_or s 2 0) 2) ≡ false
    go true e v = two (eqb (get_or s 2 0) 1) (eqb (get_or s 2 0) 2) e
    go false e v = rw (eq-eqb (get_or s 2 0) 1 v) refl

-- THE CONDITIONS AS FACTS

-- 5 and 6 pass.
pub record PartsPass (N : ℕ) (f : Fields) (es : List ℕ) : Type 0 where
  pub fields : fields_bad N f ≡ false
  pub entries : entries_bad N f.desk f.number.0 0 (entries_of es) ≡ false

pub record Accepted (N : ℕ) (s : List ℕ) : Type 0 where
  pub long : 23 ≤ length s
  pub field : at2 s 0 ≡ length s - 2
  pub version : get_or s 2 0 ≡ (edition_of (past_in s)).version
  pub count : count_in s ≤ N
  pub size : length s ≡ (edition_of (past_in s)).head + 3 * count_in s
  pub parts : PartsPass N (fields_of s) (drop (edition_of (past_in s)).head s)

pub accepted : (N : ℕ) (s : List ℕ) (f : Fields) → read_fields N s ≡ gives f → Accepted N s × (fields_of s ≡ f)
unfolding read_fields length_bad count_bad
accepted N s f h =
    let p2 = passes _ _ _ _ h in
    let p3 = passes _ _ _ _ p2.1 in
    let p4 = passes _ _ _ _ p3.1 in
    let p5 = passes _ _ _ _ p4.1 in
    let p6 = passes _ _ _ _ p5.1 in
    let l = or-false _ _ p2.0 in
    let c = or-false _ _ p4.0 in (
      record {
        long = ltb-false _ _ l.0;
        field = eqb-true _ _ (not-false _ l.1);
        version = version_is s p3.0;
        count = ltb-false _ _ c.0;
        size = eqb-true _ _ (not-false _ c.1);
        parts = record { fields = p5.0; entries = p6.0 };
      },
      cc,
    )

-- The fields that are read tell the edition of the bytes.
pub own_edition : (N : ℕ) (s : List ℕ) (f : Fields) → read_fields N s ≡ gives f → edition_of f.past ≡ edition_of (past_in s)
unfolding fields_of
own_edition N s f h = ap (λ (f : Fields). edition_of f.past) (sym (accepted N s f h).1)

pub accept : (N : ℕ) (s : List ℕ) → Accepted N s → read_fields N s ≡ gives (fields_of s)
unfolding read_fields length_bad count_bad
accept N s a = rw (version_passes s a.version, a.parts.fields, a.parts.entries) (search (tests, a))

pub record Writable (N : ℕ) (f : Fields) (es : List ℕ) (lent : ℕ) : Type 0 where
  pub whole : length es % 3 ≡ 0
  pub few : length es / 3 ≤ N
  pub parts : PartsPass N f es
  pub fits : (edition_of f.past).head + length es ≤ lent

pub writable : (N : ℕ) (f : Fields) (es : List ℕ) (lent n : ℕ) → write_size N f es lent ≡ gives n
    → Writable N f es lent × ((edition_of f.past).head + length es ≡ n)
unfolding write_size part_bad output_short
writable N f es lent n h =
    let p4 = passes _ _ _ _ h in
    let p5 = passes _ _ _ _ p4.1 in
    let p6 = passes _ _ _ _ p5.1 in
    let p13 = passes _ _ _ _ p6.1 in
    let l = or-false _ _ p4.0 in (
      record {
        whole = eqb-true _ _ (not-false _ l.0);
        few = ltb-false _ _ l.1;
        parts = record { fields = p5.0; entries = p6.0 };
        fits = ltb-false _ _ p13.0;
      },
      cc,
    )

pub write_ok : (N : ℕ) (f : Fields) (es : List ℕ) (lent : ℕ) → Writable N f es lent → write_size N f es lent ≡ gives ((edition_of f.past).head + length es)
unfolding write_size part_bad output_short
write_ok N f es lent w = rw (w.parts.fields, w.parts.entries) (search (tests, w))

-- WHAT IS WRITTEN IS READ BACK

-- A number's bytes spell it.
two : (n : ℕ) → n / 256 * 256 + n % 256 ≡ n
two n = omega arith

past_back : (f : Fields) (es : List ℕ) (p : Past) → f.past ≡ p → past_in (frame_of f es) ≡ p
unfolding past_in frame_of head_of at2 bytes2 bytes4
past_back f es Unsaid e = rw e refl
past_back f es (Said n) e = rw e (ap Said (two n))

pub fields_back : (f : Fields) (es : List ℕ) → fields_of (frame_of f es) ≡ f
unfolding fields_of frame_of head_of at2 at4 bytes2 bytes4
fields_back f es = λ i. record {
  desk = f.desk;
  number = record { 0 = two f.number.0 i };
  extent = record { start = four f.extent.start i; end = four f.extent.end i; low = four f.extent.low i; high = four f.extent.high i };
  past = past_back f es f.past refl i;
}
  where
    four : (n : ℕ) → (n / 65536 / 256 * 256 + n / 65536 % 256) * 65536 + (n % 65536 / 256 * 256 + n % 65536 % 256) ≡ n
    four n = omega arith

pub head_length : (f : Fields) (c : ℕ) → length (head_of f c) ≡ (edition_of f.past).head
unfolding head_of bytes2 bytes4
head_length f c = let h = head_size_lem f.past in omega arith

pub frame-length : (f : Fields) (es : List ℕ) → length (frame_of f es) ≡ (edition_of f.past).head + length es
unfolding frame_of
frame-length f es = rw (length-append, head_length)

-- What is read of a frame tells the edition of its fields.
past-read : (f : Fields) (es : List ℕ) → past_in (frame_of f es) ≡ f.past
past-read f es = past_back f es f.past refl

behind : (f : Fields) (es : List ℕ) → drop (edition_of f.past).head (frame_of f es) ≡ es
unfolding frame_of
behind f es = drop_at (head_of f (length es / 3)) es (edition_of f.past).head (head_length f (length es / 3))

behind_head : (f : Fields) (es : List ℕ) → drop (edition_of (past_in (frame_of f es))).head (frame_of f es) ≡ es
behind_head f es = rw past-read (behind f es)

module _ (N : ℕ) where
  frame-accepted : (f : Fields) (es : List ℕ) (lent : ℕ) → Writable N f es lent → Accepted N (frame_of f es)
  unfolding frame_of head_of bytes2 bytes4 at2
  frame-accepted f es lent w = let h = head_size_lem f.past in record {
    long = rw frame-length (omega arith);
    field = rw frame-length (omega arith);
    version = rw past-read refl;
    count = w.few;
    size = rw (frame-length, past-read) (omega arith);
    parts = rw (fields_back, behind_head) w.parts;
  }

  -- What the writer leaves begins with the frame.
  front : (f : Fields) (es out : List ℕ) (n : ℕ) → write_size N f es (length out) ≡ gives n → (edition_of f.past).head + length es ≡ n
      → take n (write_bytes N f es out) ≡ frame_of f es
  unfolding write_bytes
  front f es out n h size = rw h (take_at (frame_of f es) _ n (frame-length f es ∙ size))

  pub frame-read : (f : Fields) (es : List ℕ) (lent : ℕ) → Writable N f es lent → (read_fields N (frame_of f es) ≡ gives f) × (read_entries N (frame_of f es) ≡ es)
  unfolding read_entries
  frame-read f es lent w =
      let a : read_fields N (frame_of f es) ≡ gives (fields_of (frame_of f es)) = accept N (frame_of f es) (frame-accepted f es lent w) in
      rw (a, fields_back) (refl, behind_head f es)

  pub read_back : ReadBack N
  read_back f es out n h =
      let w = writable N f es (length out) n h in
      rw (front f es out n h w.1) (frame-read f es (length out) w.0)

-- WHAT IS ACCEPTED IS WRITTEN BACK

module _ (s : List ℕ) (b : AreBytes s) where
  two_back : (i : ℕ) → bytes2 (at2 s i) ≡ get_or s i 0 ∷ get_or s (i + 1) 0 ∷ []
  unfolding bytes2 at2
  two_back i =
      let x : (get_or s i 0 * 256 + get_or s (i + 1) 0) / 256 ≡ get_or s i 0 = omega (arith, b (i + 1)) in
      let y : (get_or s i 0 * 256 + get_or s (i + 1) 0) % 256 ≡ get_or s (i + 1) 0 = omega (arith, b (i + 1)) in
      rw (x, y)

  two_small : (i : ℕ) → at2 s i < 65536
  unfolding at2
  two_small i = omega (arith, b i, b (i + 1))

  four_back : (i : ℕ) → bytes4 (at4 s i) ≡ get_or s i 0 ∷ get_or s (i + 1) 0 ∷ get_or s (i + 2) 0 ∷ get_or s (i + 2 + 1) 0 ∷ []
  unfolding bytes4 at4
  four_back i =
      let x : (at2 s i * 65536 + at2 s (i + 2)) / 65536 ≡ at2 s i = omega (arith, two_small (i + 2)) in
      let y : (at2 s i * 65536 + at2 s (i + 2)) % 65536 ≡ at2 s (i + 2) = omega (arith, two_small (i + 2)) in
      rw (x, y, two_back i, two_back (i + 2))

  -- The bytes of the past stand between the first 23 and the entries.
  past-cells : (edition_of (past_in s)).head ≤ length s → past_bytes (past_in s) ++ drop (edition_of (past_in s)).head s ≡ drop 23 s
  unfolding past_in
  past-cells = go (eqb (get_or s 2 0) 2)
    where
      go : (v : Bool) → (edition_of (elim v [ true ↦ Said (at2 s 23) | false ↦ Unsaid ])).head ≤ length s
          → past_bytes (elim v [ true ↦ Said (at2 s 23) | false ↦ Unsaid ]) ++ drop (edition_of (elim v [ true ↦ Said (at2 s 23) | false ↦ Unsaid ])).head s ≡ drop 23 s
      go true long = rw (two_back 23) (sym (cells-drop 2 23 s long))
      go false long = refl

  pub frame_back : (N : ℕ) → Accepted N s → frame_of (fields_of s) (drop (edition_of (past_in s)).head s) ≡ s
  unfolding frame_of head_of fields_of
  frame_back N a =
      let h = head_size_lem (past_in s) in
      let count : length (drop (edition_of (past_in s)).head s) / 3 ≡ count_in s = rw length-drop (omega arith) in
      let field : (edition_of (past_in s)).head - 2 + 3 * count_in s ≡ at2 s 0 = omega arith in
      let long : 0 + 23 ≤ length s = omega arith in
      let fits : (edition_of (past_in s)).head ≤ length s = omega arith in
      rw (count, field, two_back 0, two_back 4, four_back 6, four_back 10, four_back 14, four_back 18, past-cells fits)
      (rw a.version at (sym (cells-drop 23 0 s long)))

pub write_back : (N : ℕ) → WriteBack N
unfolding read_entries write_bytes fields_of
write_back N s out f b h room =
    let p = accepted N s f h in
    let size : (edition_of (past_in s)).head + length (drop (edition_of (past_in s)).head s) ≡ length s = rw length-drop (omega arith) in
    let w : write_size N (fields_of s) (drop (edition_of (past_in s)).head s) (length out) ≡ gives ((edition_of (past_in s)).head + length (drop (edition_of (past_in s)).head s)) = write_ok N (fields_of s) (drop (edition_of (past_in s)).head s) (length out)
    (record { whole = rw length-drop (omega arith); few = rw length-drop (omega arith); parts = p.0.parts; fits = rw size room }) in
    rw (h, ← p.1, w, size, frame_back s b N p.0) (refl, refl)
