-- A frame traced the other way round (02, P4). Of two frames' texts, of one side and level, let the edges of one outline be those of the other, each walked
-- backwards, in whatever order. Where the one is drawn, so is the other, if its counts pass question 4; the same edge count is printed for both, opposite
-- signed areas and the same greys.
--
-- Of a text that is a frame's, and so not answered 11, the text with the points of each contour in the reverse order is such a text, and is refused where the
-- text is, by the same number.
--
-- Definitions
--   area_of f                     the signed area of a frame's outline
--   printed_with f area           what is printed of a frame, with a given area for its own
--   reversed_frame f              the frame with each contour's points in the reverse order
--   reversed_text t               the text of the frame that t says, so reversed
-- Main results
--   drawn_either_way              where one such text is drawn, so is the other, whose counts pass question 4
--   printed_either_way            what is printed of them differs in the area alone, which is opposite
--   read_reversed                 of a text that is a frame's, the reversed text is that of the reversed frame
--   number_reversed               both are drawn, or both refused by the same number
--   printed_reversed              where they are drawn, what is printed of them so differs
use Rattle.std.specs.Prelude.{◌≡◌, refl, Bool, true, ◌&&◌, List, [], ◌∷◌, ◌++◌, map, ◌↔◌, ℕ, ◌+◌, ◌*◌, ◌^◌, ◌≤◌, leb, ltb, length, get_or, take, drop, ℤ, pos, neg_ℤ, nat_abs}
use Rattle.std.proofs.Common.{sym, ◌∙◌, ap, ap₂, subst, arith, length-append, length-drop, length-take-le}
use Rattle.std.proofs.lemmas.List.{length-map}
use Rattle.std.specs.Int.Signed.{le_z}
use Rattle.integers.specs.Units.{steps_per_pixel, most_edges, text_limit}
use Rattle.integers.specs.ListSum.{tally}
use Rattle.integers.specs.Tests.{between}
use Rattle.integers.proofs.Theorems.Tests.{and_means, every_means, le_z_means, ltb_means}
use Rattle.haar.specs.Greys.{grey_of}
use Rattle.haar.specs.Plane.{dimensions, picture_in}
use Rattle.haar.proofs.Laws.Opposite.{entry_opposite, greys_opposite}
use Rattle.haar.proofs.Laws.Entries.{entries-root}
use Rattle.accuracy.specs.Outline.{edge_count, signed_area}
use Rattle.accuracy.specs.OutlineTable.{outline_table}
use Rattle.accuracy.proofs.Laws.Reversal.{EdgesReversed}
use Rattle.tile.specs.Questions.{Yes, depth_of, first_no, question1, question4, question5, question6, question7}
use Rattle.tile.specs.Outcomes.{edges_of}
use Rattle.tile.specs.EitherWay.{opposite}
use Rattle.tile.proofs.Theorems.EitherWay.{reversed_edges_table, either_way_count, either_way_every}
use Rattle.tile.specs.ReversedOutline.{reversed}
use Rattle.tile.proofs.Theorems.ReversedOutline.{reversed-length, reversed-every}
use Rattle.tile.proofs.Laws.IfDone.{if_done_lem}
use Rattle.frame_text.specs.Lines.{line_text}
use Rattle.frame_text.specs.Frames.{Frame, frame, head_width, coordinate_width, contour_text, frame_text, Sayable, Writable}
use Rattle.frame_text.specs.Reading.{is_frame, frame_of}
use Rattle.frame_text.specs.OutputLines.{rows_text, summary_text}
use Rattle.frame_text.proofs.Theorems.RoundTrip.{read_written, written_read}
use Rattle.frame_text.proofs.Laws.Printing.{line_text_length}
use Rattle.frame.specs.Output.{outline_questions, question11, frame_refusal, frame_table, frame_greys, drawn_text, output_text}
use Rattle.frame.proofs.Theorems.Refusals.{frame_refusals}

abbrev pub area_of : Frame → ℤ
area_of f = signed_area (edges_of f.points f.counts)

abbrev pub printed_with : Frame → ℤ → List ℕ
printed_with f area = summary_text (edge_count f.counts) area ++ rows_text (2 ^ f.level) (2 ^ f.level) (frame_greys f)

abbrev pub reversed_frame : Frame → Frame
reversed_frame f = frame f.side f.level (reversed f.points f.counts) f.counts

abbrev pub reversed_text : List ℕ → List ℕ
reversed_text t = frame_text (reversed_frame (frame_of t))

-- ---- two frames of one side and level, whose points are as many as their counts say
root : (f : Frame) → get_or (frame_table f) 0 (pos 0) ≡ area_of f
root f = entries-root dimensions (depth_of f.side) (outline_table (depth_of f.side) (edges_of f.points f.counts))

module _ (side level : ℕ) (points points' : List ℤ) (counts counts' : List ℕ) (long : length points ≡ 2 * edge_count counts)
    (long' : length points' ≡ 2 * edge_count counts') (back : EdgesReversed (edges_of points counts) (edges_of points' counts')) where
  drawn-back : drawn_text (frame side level points' counts') ≡ printed_with (frame side level points counts) (neg_ℤ (area_of (frame side level points counts)))
  drawn-back =
      let f = frame side level points counts in
      let g = frame side level points' counts' in
      let table : frame_table g ≡ opposite (frame_table f) = reversed_edges_table side (edges_of points counts) back in
      let area : get_or (frame_table g) 0 (pos 0) ≡ neg_ℤ (area_of f) =
      ap (λ l. get_or l 0 (pos 0)) table ∙ entry_opposite (frame_table f) 0 ∙ ap neg_ℤ (root f) in
      let greys : frame_greys g ≡ frame_greys f =
      ap (λ l. picture_in (grey_of side) l level) table ∙ greys_opposite dimensions (frame_table f) side level in
      ap₂ ◌++◌ (ap₂ summary_text (either_way_count points counts points' counts' long long' back) area) (ap (rows_text (2 ^ level) (2 ^ level)) greys)

-- ---- a text is as long as its counts say
contour_text_length : (counts : List ℕ) (points : List ℤ) → length points ≡ 2 * edge_count counts
    → length (contour_text counts points) ≡ tally (λ n. 2 * n * coordinate_width + 1) counts
unfolding contour_text tally
contour_text_length [] points e = refl
contour_text_length (n ∷ counts) points e =
    let line = line_text coordinate_width (map nat_abs (take (2 * n) points)) in
    let first : length line ≡ 2 * n * coordinate_width + 1 =
    line_text_length coordinate_width (map nat_abs (take (2 * n) points))
    ∙ ap (λ k. k * coordinate_width + 1) (length-map (take (2 * n) points) nat_abs ∙ length-take-le (2 * n) points (omega arith)) in
    length-append line (contour_text counts (drop (2 * n) points))
    ∙ ap₂ ◌+◌ first (contour_text_length counts (drop (2 * n) points) (omega (arith, length-drop (2 * n) points)))

-- ---- that four digits can say each coordinate is a test of every one
sayable_means : (z : ℤ) → ((le_z (pos 0) z && ltb (nat_abs z) (16 ^ coordinate_width)) ≡ true) ↔ Sayable z
sayable_means z =
    let m = and_means (le_z (pos 0) z) (ltb (nat_abs z) (16 ^ coordinate_width)) (le_z_means (pos 0) z) (ltb_means (nat_abs z) (16 ^ coordinate_width)) in
    (λ e. record { not_negative = (m.0 e).0; four-digits = (m.0 e).1 }, λ s. m.1 (s.not_negative, s.four-digits))

-- ---- a text that is a frame's
module _ (t : List ℕ) (is : is_frame t ≡ true) where
  abbrev f : Frame
  f = frame_of t

  written : Writable f × (frame_text f ≡ t) × (length t ≤ text_limit)
  written = written_read t is

  pub long : length f.points ≡ 2 * edge_count f.counts
  long = written.0.all_points

  -- the same reversed
  writable : Writable (reversed_frame f)
  writable =
      let test : ℤ → Bool = λ z. le_z (pos 0) z && ltb (nat_abs z) (16 ^ coordinate_width) in
      record {
        side_fits = written.0.side_fits;
        level_fits = written.0.level_fits;
        points_fit = (every_means test sayable_means (reversed f.points f.counts)).0
            (reversed-every f.points f.counts long test ∙ (every_means test sayable_means f.points).1 written.0.points_fit);
        some_points = written.0.some_points;
        all_points = reversed-length f.points f.counts long;
      }

  same_length : length (reversed_text t) ≡ length t
  same_length =
      let head = line_text head_width (f.side ∷ f.level ∷ []) in
      length-append head (contour_text f.counts (reversed f.points f.counts))
      ∙ ap (λ n. length head + n)
      (contour_text_length f.counts (reversed f.points f.counts) (reversed-length f.points f.counts long)
      ∙ sym (contour_text_length f.counts f.points long))
      ∙ sym (length-append head (contour_text f.counts f.points))
      ∙ ap length written.1

  pub read_reversed : (is_frame (reversed_text t) ≡ true) × (frame_of (reversed_text t) ≡ reversed_frame f)
  read_reversed = read_written (reversed_frame f) writable (subst (λ n. n ≤ text_limit) (sym same_length) written.2)

  pub number_reversed : frame_refusal (reversed_text t) ≡ frame_refusal t
  number_reversed =
      let on_tile = between (pos 0) (pos (steps_per_pixel * f.side)) in
      let number : Bool → ℕ = λ inside.
      first_no
      (question11 t ∷ question1 f.side ∷ question4 f.counts ∷ question5 f.counts ∷ record { number = 6; answer = inside } ∷ question7 f.side f.level
      ∷ []) in
      ap₂ (λ b g. first_no (record { number = 11; answer = b } ∷ outline_questions g)) (read_reversed.0 ∙ sym is) read_reversed.1
      ∙ ap number (reversed-every f.points f.counts long on_tile)

-- ---- texts that are drawn
pub is_frame_lem : (t : List ℕ) → frame_refusal t ≡ 0 → is_frame t ≡ true
is_frame_lem t done = ((frame_refusals t).accepted.0 done).0

drawn_is : (t : List ℕ) → frame_refusal t ≡ 0 → output_text t ≡ printed_with (frame_of t) (area_of (frame_of t))
drawn_is t done = if_done_lem _ _ done ∙ ap (printed_with (frame_of t)) (root (frame_of t))

pub drawn_either_way : (t u : List ℕ) → frame_refusal t ≡ 0 → is_frame u ≡ true → (frame_of u).side ≡ (frame_of t).side → (frame_of u).level ≡ (frame_of t).level
    → EdgesReversed (edges_of (frame_of t).points (frame_of t).counts) (edges_of (frame_of u).points (frame_of u).counts) → Yes (question4 (frame_of u).counts)
    → frame_refusal u ≡ 0
drawn_either_way t u done is side level back four =
    let f = frame_of t in
    let g = frame_of u in
    let yes = (frame_refusals t).accepted.0 done in
    let enough = long t (is_frame_lem t done) in
    let few = ap (λ n. leb n most_edges) (either_way_count f.points f.counts g.points g.counts enough (long u is) back) in
    let inside = either_way_every f.points f.counts g.points g.counts enough (long u is) back (between (pos 0) (pos (steps_per_pixel * f.side))) in
    (frame_refusals u).accepted.1 (
      is,
      (
        ap (λ s. (question1 s).answer) side ∙ yes.1.0,
        (
          four,
          (
            few ∙ yes.1.1.1.0,
            (
              ap (λ s. (question6 s g.points).answer) side ∙ inside ∙ yes.1.1.1.1.0,
              (ap₂ (λ s l. (question7 s l).answer) side level ∙ yes.1.1.1.1.1.0, tt),
            ),
          ),
        ),
      ),
    )

pub printed_either_way : (t u : List ℕ) → frame_refusal t ≡ 0 → frame_refusal u ≡ 0 → (frame_of u).side ≡ (frame_of t).side → (frame_of u).level ≡ (frame_of t).level
    → EdgesReversed (edges_of (frame_of t).points (frame_of t).counts) (edges_of (frame_of u).points (frame_of u).counts)
    → (output_text t ≡ printed_with (frame_of t) (area_of (frame_of t))) × (output_text u ≡ printed_with (frame_of t) (neg_ℤ (area_of (frame_of t))))
printed_either_way t u done done' side level back =
    let g = frame_of u in (
      drawn_is t done,
      if_done_lem _ _ done' ∙ ap₂ (λ s l. drawn_text (frame s l g.points g.counts)) side level
          ∙ drawn-back (frame_of t).side (frame_of t).level (frame_of t).points g.points (frame_of t).counts g.counts
          (long t (is_frame_lem t done)) (long u (is_frame_lem u done')) back,
    )
