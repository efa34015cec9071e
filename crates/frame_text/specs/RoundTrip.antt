-- A text passes question 11 where it is the text of a frame that has one (`Writable`), and no longer than the limit, and only there; and what is read
-- of it is that frame.
--
-- Main results (the laws among them are in proofs/Theorems/RoundTrip.antt)
--   read_written                 the text of a frame passes, and reading gives the frame back
--   written_read                 a text that passes is the text of the frame that is read of it
--   frame_texts                  so the texts that pass are those of frames, within the limit
use Rattle.std.specs.Prelude.{◌≡◌, ℕ, ◌≤◌, List, length}
use Rattle.integers.specs.Units.{text_limit}
use Rattle.frame_text.specs.Frames.{Frame, Writable, frame_text}

-- what it is to be the text of a frame
pub record TextOfFrame (t : List ℕ) : Type 0 where
  pub of : Frame
  pub writable : Writable of
  pub is : frame_text of ≡ t
  pub short : length t ≤ text_limit
