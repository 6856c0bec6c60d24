-- Each number's bytes are those of the definition.
use Rattle.std.proofs.Common.{◌∙◌, arith, ap, refl}
use Rattle.frame.specs.Frame.{Edition, bytes2, bytes4, head_of}
use Rattle.frame.proofs.Bytes.{be2, be4}
use Rattle.frame.proofs.RoundTrip.{head_bounds}
use Rattle.frame.proofs.Written.{head_of_lem}
use Rattle.writer.proofs.head_of.Goals as goal

pub returns : goal.returns
unfolding head_of bytes2 bytes4
returns c =
    let head = c.head.ensures ∙ ap (λ (e : Edition). e.head) c.edition-edition.ensures in
    let low = (head_bounds c.args.f.past).1 in
    rw (
      c.to_be_bytes.ensures ∙ be2 _ (omega arith),
      c.to_be_bytes-2.ensures ∙ be2 _ (omega arith),
      c.to_be_bytes-3.ensures ∙ be4 _ (omega arith),
      c.to_be_bytes-4.ensures ∙ be4 _ (omega arith),
      c.to_be_bytes-5.ensures ∙ be4 _ (omega arith),
      c.to_be_bytes-6.ensures ∙ be4 _ (omega arith),
      c.to_be_bytes-7.ensures ∙ be2 _ (omega arith),
      c.version-version.ensures,
      c.head.ensures,
      c.from.ensures,
      c.edition-edition.ensures,
    )
    (head_of_lem c.args.f.past _ _ refl c.past_count.ensures)
