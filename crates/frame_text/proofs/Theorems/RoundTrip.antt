-- Laws of what specs/RoundTrip.antt defines. The head of that file lists the main results.
use Rattle.std.specs.Prelude.{◌≡◌, ℕ, ◌≤◌, true, ◌↔◌, List, length}
use Rattle.std.proofs.Common.{sym, subst}
use Rattle.integers.specs.Units.{text_limit}
use Rattle.frame_text.specs.Frames.{Frame, Writable, frame_text}
use Rattle.frame_text.specs.Reading.{is_frame, frame_of}
use Rattle.frame_text.proofs.Laws.Reading.{framed}
use Rattle.frame_text.proofs.Laws.ReadWritten.{written_is_frame, written_frame}
use Rattle.frame_text.proofs.Laws.WrittenRead.{read_writable, read_text}
use Rattle.frame_text.specs.RoundTrip.{TextOfFrame}

pub read_written : (f : Frame) → Writable f → length (frame_text f) ≤ text_limit → (is_frame (frame_text f) ≡ true) × (frame_of (frame_text f) ≡ f)
read_written f w h = (written_is_frame f w h, written_frame f w)

pub written_read : (t : List ℕ) → is_frame t ≡ true → Writable (frame_of t) × (frame_text (frame_of t) ≡ t) × (length t ≤ text_limit)
written_read t e = (read_writable t e, read_text t e, (framed t e).short)

pub frame_texts : (t : List ℕ) → (is_frame t ≡ true) ↔ TextOfFrame t
frame_texts t = (
  λ e. let w = written_read t e in record { of = frame_of t; writable = w.0; is = w.1; short = w.2 },
  λ x. subst (λ s. is_frame s ≡ true) x.is (read_written x.of x.writable (subst (λ s. length s ≤ text_limit) (sym x.is) x.short)).0,
)
