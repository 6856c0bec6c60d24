-- The round trips of frames of both editions (docs/SPECIFICATION.md, Laws: round trips), for any count N of desks, in the words of the reader's and the writer's contracts.
use Rattle.std.specs.Prelude.{◌≡◌, List, ◌++◌, ℕ, ◌≤◌, length, take, drop}
use Rattle.frame.specs.Answer.{gives}
use Rattle.frame.specs.Frame.{read_entries, read_fields, write_bytes, write_size}
use Rattle.frame.specs.RoundTrip.{AreBytes}
use Rattle.frame.specs.declared.Fields.{Fields}

pub record FramesReadBack : Type 0 where
  -- Where the writer returns a size, the reader finds the same fields and entries in as many first bytes.
  pub written : (N : ℕ) (f : Fields) (es out : List ℕ) (n : ℕ) → write_size N f es (length out) ≡ gives n
      → (read_fields N (take n (write_bytes N f es out)) ≡ gives f) × (read_entries N (take n (write_bytes N f es out)) ≡ es)
  -- Where the reader finds fields in bytes, the writer makes the same bytes of them and of the entries found, and leaves the later ones.
  pub accepted : (N : ℕ) (s out : List ℕ) (f : Fields) → AreBytes s → read_fields N s ≡ gives f → length s ≤ length out
      → (write_size N f (read_entries N s) (length out) ≡ gives (length s))
      × (write_bytes N f (read_entries N s) out ≡ s ++ drop (length s) out)
