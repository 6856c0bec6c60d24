-- Marks that a frame can carry: what conditions 4 to 6 ask of a mark, as facts, and that such a mark is written and read back. Assumes nothing.
use Prim.Native.Nat.{◌%◌, ◌*◌, ◌+◌, ◌/◌, ◌<◌, ◌≤◌, ℕ}
use borrow.Author.Tests.{eq-eqb, eqb-true, le-ltb, leb-false, leb-true, lt-leb, not-false}
use lib.Dec.{T, eqb, leb, ltb}
use lib.ListN.{drop, length, length-drop, take}
use lib.Seq.{get_or-drop, take_at}
use mathlib.Core.Bool.{Bool, ◌&&◌, ◌||◌, false, not, true}
use mathlib.Core.List.{List, [], ◌++◌, ◌∷◌}
use mathlib.Core.Logic.{inl, inr}
use mathlib.Core.Path.{◌∙◌, ◌≡◌, ap, refl, sym}
use native.Mathlib.Omega.{arith}
use Rattle.frame.specs.declared.Fields.{Fields}
use Rattle.frame.specs.declared.MarkBox.{MarkBox}
use Rattle.frame.specs.Answer.{gives, refuse_if}
use Rattle.frame.specs.Frame.{edition_of, entries_bad, entries_of, entry_bad, entry_bytes, fields_bad, fields_of, output_short, part_bad, past_bad, past_in, read_entries, read_fields, write_size}
use Rattle.frame.specs.Names.{MarkId, box_rule, is_desk, is_number, numbers}
use Rattle.frame.specs.RoundTrip.{AreBytes}
use Rattle.frame.proofs.Entries.{entries_back, entry_bytes_back, entry_bytes-length}
use Rattle.frame.proofs.RoundTrip.{PartsPass, Writable, accepted, frame_back, frame-length, frame-read}
use Rattle.frame.proofs.Tests.{or-false, tests}
use Rattle.causality.specs.Calls.{fields_of_mark, frame_of_mark, mark_in, same_box, same_entries, same_fields, size_of_mark}
use Rattle.causality.specs.Marks.{has, same}
use Rattle.causality.specs.State.{Mark, same_count}
use Rattle.causality.proofs.Lists.{has-self}
use Rattle.causality.proofs.Logic.{T→eq, and-true, and_yes, eqb_yes, or_inr, or_yes, same_refl, same→eq}
use Rattle.causality.specs.inner.Order.{Strict}
use Rattle.causality.specs.inner.Fit.{Fit, Range}

module _ (N : ℕ) where
  -- Strictly rising desks from 1 to N are at most N.
  pub strict_count : (lo : ℕ) (xs : List MarkId) → lo ≤ N → Strict xs → ((e : MarkId) → T (has e xs) → lo < e.desk) → ((e : MarkId) → T (has e xs) → e.desk ≤ N) → length xs + lo ≤ N
  strict_count lo [] p s f g = omega arith
  strict_count lo (x ∷ xs) p s f g =
      let a = f x (has-self x xs) in
      let r = strict_count x.desk xs (g x (has-self x xs)) s.1 s.0 (λ e t. g e (or_inr (same e x) (has e xs) t)) in
      omega arith

  -- THE TESTS AS FACTS

  pub desk_facts : (d : ℕ) → is_desk N d ≡ true → (1 ≤ d) × (d ≤ N)
  unfolding is_desk
  desk_facts d h = let p = and-true (leb 1 d) (leb d N) h in (leb-true _ _ p.0, leb-true _ _ p.1)

  pub desk_test : (d : ℕ) → 1 ≤ d → d ≤ N → is_desk N d ≡ true
  unfolding is_desk
  desk_test d p q = search tests

  number_facts : (n : ℕ) → is_number n ≡ true → (1 ≤ n) × (n ≤ numbers)
  unfolding is_number
  number_facts n h = let p = and-true (leb 1 n) (leb n numbers) h in (leb-true _ _ p.0, leb-true _ _ p.1)

  number_test : (n : ℕ) → 1 ≤ n → n ≤ numbers → is_number n ≡ true
  unfolding is_number
  number_test n p q = search tests

  range_of : (i : MarkId) → is_desk N i.desk ≡ true → is_number i.number ≡ true → Range N i
  range_of i d n = let p = desk_facts i.desk d in let q = number_facts i.number n in record { low = p.0; high = p.1; first = q.0; last = q.1 }

  -- What condition 6 asks of entries behind one of the desk `last`, in a frame of mark desk.number.
  record EntriesGood (desk number last : ℕ) (es : List MarkId) : Type 0 where
    strict : Strict es
    above : (e : MarkId) → T (has e es) → last < e.desk
    range : (e : MarkId) → T (has e es) → Range N e
    earlier : (e : MarkId) → T (has e es) → e.desk ≡ desk → e.number < number

  entries_facts : (desk number last : ℕ) (es : List MarkId) → entries_bad N desk number last es ≡ false → EntriesGood desk number last es
  unfolding entries_bad entry_bad
  entries_facts desk number last [] h = record { strict = tt; above = λ e t. absurd t; range = λ e t. absurd t; earlier = λ e t. absurd t }
  entries_facts desk number last (x ∷ xs) h = go (entries_facts desk number x.desk xs p.1)
    where
      p : (entry_bad N desk number last x.desk x.number ≡ false) × (entries_bad N desk number x.desk xs ≡ false)
      p = or-false (entry_bad N desk number last x.desk x.number) (entries_bad N desk number x.desk xs) h

      own : Bool
      own = eqb x.desk desk && leb number x.number

      p1 : (not (is_desk N x.desk) ≡ false) × ((not (is_number x.number) || (leb x.desk last || own)) ≡ false)
      p1 = or-false (not (is_desk N x.desk)) (not (is_number x.number) || (leb x.desk last || own)) p.0

      p2 : (not (is_number x.number) ≡ false) × ((leb x.desk last || own) ≡ false)
      p2 = or-false (not (is_number x.number)) (leb x.desk last || own) p1.1

      p3 : (leb x.desk last ≡ false) × (own ≡ false)
      p3 = or-false (leb x.desk last) own p2.1

      up : last < x.desk
      up = leb-false _ _ p3.0

      mine : x.desk ≡ desk → x.number < number
      mine q = leb-false number x.number (rw (eq-eqb x.desk desk q) at p3.1)

      go : EntriesGood desk number x.desk xs → EntriesGood desk number last (x ∷ xs)
      go r = record {
        strict = (r.above, r.strict);
        above = λ e t. elim (or_yes (same e x) (has e xs) t) [ inl q ↦ rw (same→eq e x q) up | inr q ↦ let a = r.above e q in let b = up in omega arith ];
        range = λ e t. elim (or_yes (same e x) (has e xs) t) [ inl q ↦ rw (same→eq e x q) (range_of x (not-false _ p1.0) (not-false _ p2.0)) | inr q ↦ r.range e q ];
        earlier = λ e t. elim (or_yes (same e x) (has e xs) t) [ inl q ↦ rw (same→eq e x q) mine | inr q ↦ r.earlier e q ];
      }

  entries_test : (desk number last : ℕ) (es : List MarkId) → EntriesGood desk number last es → entries_bad N desk number last es ≡ false
  unfolding entries_bad entry_bad
  entries_test desk number last [] g = refl
  entries_test desk number last (x ∷ xs) g =
      rw (desk_test x.desk r.low r.high, number_test x.number r.first r.last, lt-leb _ _ (g.above x (has-self x xs)), own)
      (entries_test desk number x.desk xs (record {
        strict = g.strict.1;
        above = g.strict.0;
        range = λ e t. g.range e (or_inr (same e x) (has e xs) t);
        earlier = λ e t. g.earlier e (or_inr (same e x) (has e xs) t);
      }))
    where
      r : Range N x
      r = g.range x (has-self x xs)

      own : (eqb x.desk desk && leb number x.number) ≡ false
      own = go (eqb x.desk desk) refl
        where
          go : (b : Bool) → eqb x.desk desk ≡ b → (b && leb number x.number) ≡ false
          go false q = refl
          go true q = lt-leb _ _ (g.earlier x (has-self x xs) (eqb-true _ _ q))

  -- FRAMES

  -- A frame that passes the reader carries such a mark.
  pub frame_fit : (s : List ℕ) (f : Fields) → read_fields N s ≡ gives f → Fit N (mark_in N s)
  unfolding mark_in read_entries fields_bad
  frame_fit s f h =
      let a = (accepted N s f h).0 in
      let g = fields_of s in
      let p = or-false (not (is_desk N g.desk)) (not (is_number g.number.0) || (not (box_rule g.extent) || past_bad g.past)) a.parts.fields in
      let q = or-false (not (is_number g.number.0)) (not (box_rule g.extent) || past_bad g.past) p.1 in
      let r = or-false (not (box_rule g.extent)) (past_bad g.past) q.1 in
      let es = entries_facts g.desk g.number.0 0 (entries_of (drop (edition_of (past_in s)).head s)) a.parts.entries in
      let c = strict_count 0 (entries_of (drop (edition_of (past_in s)).head s)) (omega arith) es.strict (λ e t. (es.range e t).low) (λ e t. (es.range e t).high) in
      rw h (record {
        range = range_of _ (not-false _ p.0) (not-false _ q.0);
        rule = not-false _ r.0;
        strict = es.strict;
        entries = es.range;
        earlier = es.earlier;
        count = omega arith;
        past = r.1;
      })

  fit_parts : (m : Mark) → Fit N m → PartsPass N (fields_of_mark m) (entry_bytes m.stamp)
  unfolding fields_of_mark fields_bad
  fit_parts m f = let r = f.range in record {
    fields = rw (desk_test m.id.desk r.low r.high, number_test m.id.number r.first r.last, f.rule, f.past);
    entries = rw (entries_back m.stamp) (entries_test m.id.desk m.id.number 0 m.stamp
        (record { strict = f.strict; above = λ e t. (f.entries e t).low; range = f.entries; earlier = f.earlier }));
  }

  -- The size of its frame, in the edition that its past tells.
  abbrev pub mark_size : Mark → ℕ
  mark_size m = (edition_of m.past).head + 3 * length m.stamp

  fit_writable : (m : Mark) → Fit N m → (lent : ℕ) → mark_size m ≤ lent → Writable N (fields_of_mark m) (entry_bytes m.stamp) lent
  unfolding fields_of_mark
  fit_writable m f lent h = let n = entry_bytes-length m.stamp in let c = f.count in record {
    whole = omega arith;
    few = omega arith;
    parts = fit_parts m f;
    fits = omega arith;
  }

  -- The writer refuses such a mark only for want of room.
  pub fit_size : (m : Mark) → Fit N m → (lent : ℕ) → size_of_mark N m lent ≡ refuse_if (ltb lent (mark_size m)) 13 (gives (mark_size m))
  unfolding size_of_mark write_size part_bad output_short fields_of_mark
  fit_size m f lent =
      let p = fit_parts m f in
      let c = f.count in
      let w : 3 * length m.stamp % 3 ≡ 0 = omega arith in
      let d : 3 * length m.stamp / 3 ≡ length m.stamp = omega arith in
      rw (p.fields, p.entries, entry_bytes-length m.stamp, w, d, le-ltb N (length m.stamp) c)

  pub fit_frame-length : (m : Mark) → length (frame_of_mark m) ≡ mark_size m
  unfolding frame_of_mark fields_of_mark
  fit_frame-length m = frame-length (fields_of_mark m) (entry_bytes m.stamp) ∙ ap (λ (n : ℕ). (edition_of m.past).head + n) (entry_bytes-length m.stamp)

  -- Bytes that begin with its frame.
  pub fit_front : (m : Mark) (rest : List ℕ) → take (mark_size m) (frame_of_mark m ++ rest) ≡ frame_of_mark m
  fit_front m rest = take_at (frame_of_mark m) rest (mark_size m) (fit_frame-length m)

  pub fit_read : (m : Mark) → Fit N m → read_fields N (frame_of_mark m) ≡ gives (fields_of_mark m)
  unfolding frame_of_mark
  fit_read m f = (frame-read N (fields_of_mark m) (entry_bytes m.stamp) (mark_size m) (fit_writable m f (mark_size m) (omega arith))).0

  pub fit_entries : (m : Mark) → Fit N m → entries_of (read_entries N (frame_of_mark m)) ≡ m.stamp
  unfolding frame_of_mark
  fit_entries m f = ap entries_of (frame-read N (fields_of_mark m) (entry_bytes m.stamp) (mark_size m) (fit_writable m f (mark_size m) (omega arith))).1 ∙ entries_back m.stamp

  -- Its frame spells it.
  pub fit_back : (m : Mark) → Fit N m → mark_in N (frame_of_mark m) ≡ m
  unfolding mark_in fields_of_mark
  fit_back m f =
      let g : fields_of (frame_of_mark m) ≡ fields_of_mark m = (accepted N (frame_of_mark m) (fields_of_mark m) (fit_read m f)).1 in
      let e = fit_entries m f in
      λ i. record { id = record { desk = (g i).desk; number = (g i).number.0 }; extent = (g i).extent; stamp = e i; past = (g i).past }

  -- Equal bytes are equal marks, and the mark that accepted bytes spell has these bytes.
  pub equal-bytes : (h : Mark) (s : List ℕ) → Fit N h → frame_of_mark h ≡ s → h ≡ mark_in N s
  equal-bytes h s f e = sym (fit_back h f) ∙ ap (mark_in N) e

  pub accepted-bytes : (s : List ℕ) (f : Fields) → AreBytes s → read_fields N s ≡ gives f → frame_of_mark (mark_in N s) ≡ s
  unfolding frame_of_mark mark_in fields_of_mark read_entries
  accepted-bytes s f b h =
      let a = (accepted N s f h).0 in
      let n = (edition_of (past_in s)).head in
      let w : length (drop n s) % 3 ≡ 0 = rw length-drop (omega arith) in
      rw (h, entry_bytes_back (drop n s) (λ i. rw (get_or-drop) (b (n + i))) w) (frame_back s b N a)

-- FIELDS THAT AGREE

same_box_lem : (a b : MarkBox) → T (same_box a b) → a ≡ b
same_box_lem a b t =
    let s : Bool = eqb a.start b.start in
    let e : Bool = eqb a.end b.end in
    let l : Bool = eqb a.low b.low in
    let h : Bool = eqb a.high b.high in
    let p : a.start ≡ b.start = eqb_yes (and_yes s (e && (l && h)) t).0 in
    let q : a.end ≡ b.end = eqb_yes (and_yes e (l && h) (and_yes s (e && (l && h)) t).1).0 in
    let u : a.low ≡ b.low = eqb_yes (and_yes l h (and_yes e (l && h) (and_yes s (e && (l && h)) t).1).1).0 in
    let v : a.high ≡ b.high = eqb_yes (and_yes l h (and_yes e (l && h) (and_yes s (e && (l && h)) t).1).1).1 in
    λ i. record { start = p i; end = q i; low = u i; high = v i }

box-same : (a : MarkBox) → same_box a a ≡ true
box-same a = rw (eq-eqb a.start a.start refl, eq-eqb a.end a.end refl, eq-eqb a.low a.low refl, eq-eqb a.high a.high refl)

pub same_entries→eq : (es fs : List MarkId) → T (same_entries es fs) → es ≡ fs
same_entries→eq [] [] t = refl
same_entries→eq [] (f ∷ fs) t = absurd t
same_entries→eq (e ∷ es) [] t = absurd t
same_entries→eq (e ∷ es) (f ∷ fs) t =
    let p : e ≡ f = same→eq e f (and_yes (same e f) (same_entries es fs) t).0 in
    let q : es ≡ fs = same_entries→eq es fs (and_yes (same e f) (same_entries es fs) t).1 in
    λ i. p i ∷ q i

pub entries-same : (es : List MarkId) → same_entries es es ≡ true
entries-same [] = refl
entries-same (e ∷ es) = rw (T→eq (same e e) (same_refl e)) (entries-same es)

-- Refusals: same fields.
pub same_fields_lem : (h m : Mark) → T (same_fields h m) → (h.extent ≡ m.extent) × (h.stamp ≡ m.stamp) × T (same_count h.past m.past)
unfolding same_fields
same_fields_lem h m t =
    let a : Bool = same_box h.extent m.extent in
    let b : Bool = same_entries h.stamp m.stamp in
    let c : Bool = same_count h.past m.past in (
      same_box_lem h.extent m.extent (and_yes a (b && c) t).0,
      same_entries→eq h.stamp m.stamp (and_yes b c (and_yes a (b && c) t).1).0,
      (and_yes b c (and_yes a (b && c) t).1).1,
    )

pub fields-same : (h m : Mark) → h.extent ≡ m.extent → h.stamp ≡ m.stamp → T (same_count h.past m.past) → same_fields h m ≡ true
unfolding same_fields
fields-same h m e s c = rw (e, s, box-same m.extent, entries-same m.stamp) (T→eq (same_count h.past m.past) c)
