-- The head and then the entries are copied; what refuses is found without help.
use Rattle.std.proofs.Common.{◌≡◌, ℕ, ◌+◌, ◌-◌, ◌/◌, ◌≤◌, List, ◌++◌, length, take, drop, sym, ap, ◌∙◌, arith}
use Rattle.std.proofs.Math.Seq.{drop-drop, drop_at, take_at}
use Rattle.std.proofs.lemmas.List.{append_assoc, length-append}
use borrow.Rule.Slice.PartMut.{post_of}
use Rattle.frame.specs.Answer.{gives}
use Rattle.frame.specs.Names.{desks}
use Rattle.frame.specs.Frame.{Edition, frame_of, head_of, output_short, write_size}
use Rattle.frame.proofs.RoundTrip.{head_length}
use Rattle.frame.proofs.Tests.{tests}
use Rattle.frame.proofs.Written.{wrote}
use Rattle.writer.proofs.write.Goals as goal

-- Two copies, the second into the part behind the first.
copies : (head es out l m : List ℕ) (n : ℕ) → length head ≡ n → n + length es ≤ length out → l ≡ head → m ≡ es
    → take n (l ++ drop n out) ++ (m ++ post_of n (n + length es - n) (l ++ drop n out)) ≡ (head ++ es) ++ drop (length (head ++ es)) out
copies head es out l m n h fits first second =
    let t : take n (head ++ drop n out) ≡ head = take_at head (drop n out) n h in
    let d : drop n (head ++ drop n out) ≡ drop n out = drop_at head (drop n out) n h in
    let k : n + length es - n ≡ length es = omega arith in
    rw (first, second, t, d, k, drop-drop, append_assoc, length-append, h)

pub returns-clause-bytes : goal.returns-clause-bytes
unfolding write_size output_short frame_of
returns-clause-bytes c =
    let head = head_of c.args.f (length c.args.entries.now / 3) in
    let start = c.head-start.ensures ∙ ap (λ (e : Edition). e.head) c.edition.ensures in
    let first : c.copy_from_slice.new.self ≡ head = c.copy_from_slice.ensures.after ∙ (ap (λ (n : ℕ). take n c.head_of-head.result) start ∙ c.head_of-head.ensures) in
    let size : write_size desks c.args.f c.args.entries.now (length c.args.out.now) ≡ gives (c.head-start.result + length c.args.entries.now) =
    rw (← c.part_bad.ensures.bad, c.if-part_bad.false, ← c.fields_bad.ensures, c.if-fields_bad.false, ← c.entries_bad.ensures, c.if-entries_bad.false, ← start) (search tests) in
    let both = copies head c.args.entries.now c.args.out.now _ _ _ (head_length c.args.f _ ∙ sym start) (omega arith) first c.copy_from_slice-2.ensures.after in
    (wrote desks c.args.f c.args.entries.now c.args.out.now _ _ size both).1
