-- The round trips of frames, from those of the crate frame. Assumes nothing.
use Rattle.frame.proofs.RoundTrip.{read_back, write_back}
use Rattle.agreement.specs.Frames.{FramesReadBack}

pub frames : FramesReadBack
frames = record { written = read_back; accepted = write_back }
