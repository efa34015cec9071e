-- What is printed of a text that is drawn, and of the same frame with its contours' points in the reverse order.
use Rattle.std.specs.Prelude.{◌≡◌, List, ℕ, neg_ℤ}
use Rattle.std.proofs.Common.{sym, ◌∙◌, ap, subst}
use Rattle.accuracy.proofs.Laws.Reversal.{EdgesReversed}
use Rattle.tile.specs.Outcomes.{edges_of}
use Rattle.tile.proofs.Theorems.ReversedOutline.{edges_of_reversed}
use Rattle.frame_text.specs.Frames.{Frame}
use Rattle.frame_text.specs.Reading.{frame_of}
use Rattle.frame.specs.Output.{frame_refusal, output_text}
use Rattle.frame.proofs.Theorems.EitherWay.{area_of, printed_with, reversed_text, is_frame_lem, long, read_reversed, number_reversed, printed_either_way}

pub printed_reversed : (t : List ℕ) → frame_refusal t ≡ 0
    → (output_text t ≡ printed_with (frame_of t) (area_of (frame_of t))) × (output_text (reversed_text t) ≡ printed_with (frame_of t) (neg_ℤ (area_of (frame_of t))))
printed_reversed t done =
    let is = is_frame_lem t done in
    let read = (read_reversed t is).1 in
    printed_either_way t (reversed_text t) done (number_reversed t is ∙ done) (ap (λ g. g.side) read) (ap (λ g. g.level) read)
    (subst (λ (g : Frame). EdgesReversed (edges_of (frame_of t).points (frame_of t).counts) (edges_of g.points g.counts)) (sym read)
    (edges_of_reversed (frame_of t).points (frame_of t).counts (long t is)))
