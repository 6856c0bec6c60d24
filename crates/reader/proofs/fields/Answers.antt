-- The conditions in their order: the version is good where the edition was found, and the entries are the part behind its head.
use Rattle.std.proofs.Common.{refl}
use Rattle.frame.specs.Frame.{read_fields}
use Rattle.frame.proofs.Bytes.{tail_part}
use Rattle.frame.proofs.RoundTrip.{edition_read, version_read}
use Rattle.reader.proofs.fields.Goals as goal

pub returns-then-count_bad : goal.returns-then-count_bad
unfolding read_fields
returns-then-count_bad c =
    rw (← c.length_bad.ensures.bad, c.if-length_bad.false, version_read _ _ c.in_ok-edition.ensures, ← c.count_bad.ensures.bad, c.if-count_bad.true) refl

pub returns-then-fields_bad : goal.returns-then-fields_bad
unfolding read_fields
returns-then-fields_bad c =
    rw (
      ← c.length_bad.ensures.bad,
      c.if-length_bad.false,
      version_read _ _ c.in_ok-edition.ensures,
      ← c.count_bad.ensures.bad,
      c.if-count_bad.false,
      ← c.fields_of-f.ensures,
      ← c.fields_bad.ensures,
      c.if-fields_bad.true,
    ) refl

pub returns-then-entries_bad : goal.returns-then-entries_bad
unfolding read_fields
returns-then-entries_bad c =
    let e = rw (c.head.ensures, edition_read c.args.frame.now c.in_ok-edition.edition c.in_ok-edition.ensures, tail_part) at c.entries_bad.ensures in
    rw (
      ← c.length_bad.ensures.bad,
      c.if-length_bad.false,
      version_read _ _ c.in_ok-edition.ensures,
      ← c.count_bad.ensures.bad,
      c.if-count_bad.false,
      ← c.fields_of-f.ensures,
      ← c.fields_bad.ensures,
      c.if-fields_bad.false,
      ← e,
      c.if-entries_bad.true,
    ) refl

pub returns : goal.returns
unfolding read_fields
returns c =
    let e = rw (c.head.ensures, edition_read c.args.frame.now c.in_ok-edition.edition c.in_ok-edition.ensures, tail_part) at c.entries_bad.ensures in
    rw (
      ← c.length_bad.ensures.bad,
      c.if-length_bad.false,
      version_read _ _ c.in_ok-edition.ensures,
      ← c.count_bad.ensures.bad,
      c.if-count_bad.false,
      ← c.fields_of-f.ensures,
      ← c.fields_bad.ensures,
      c.if-fields_bad.false,
      ← e,
      c.if-entries_bad.false,
    ) refl
