-- A slanted walk in a cell and in its quarters, by slope and piece.
--
-- Main results
--   slants_sound, slants_even        what working out the details and the parts asks for
--   slants_details                   the details of the walk's edge
--   way_below                        a quarter on the way is one of the four
--   slants_quarter                   a part of the piece is the piece in the quarter on the way
--   slants_outside                   no part of the edge lies inside a square whose piece is empty
use Rattle.std.specs.Prelude.{◌≡◌, ℕ, suc, ◌/◌, ◌%◌, ◌<◌, ◌≤ℤ◌, ◌<ℤ◌, [], ◌∷◌}
use Rattle.std.proofs.Common.{sym, ◌∙◌, ap, ap₂, subst, arith}
use Rattle.std.proofs.Math.Path.{subst⁻¹}
use Rattle.integers.proofs.Theorems.Linear.{le, lt, ◌&◌, linear, lin⊥}
use Rattle.edge.specs.declared.Cell.{Cell as Square}
use Rattle.edge.specs.Inside.{Inside}
use Rattle.edge.specs.Room.{Even}
use Rattle.edge.specs.Rounded.{details}
use Rattle.edge.specs.Nested.{quarter}
use Rattle.edge.specs.WalkOf.{Course}
use Rattle.edge.proofs.Laws.WalkInside.{span_of_inside}
use Rattle.slanted.specs.declared.Slope.{Slope}
use Rattle.slanted.specs.declared.Piece.{Piece}
use Rattle.slanted.specs.Pieces.{slope_of, piece_of, rounded_details, Sound}
use Rattle.slanted.specs.Parts.{half_on, IsPart}
use Rattle.slanted.proofs.Laws.PieceSound.{piece_sound, piece_even}
use Rattle.slanted.proofs.Laws.PieceDetails.{piece-details}
use Rattle.slanted.proofs.Laws.PieceParts.{half_on_below, piece_part}
use Rattle.rasterize.specs.declared.Spot.{Spot}
use Rattle.rasterize.specs.Nodes.{quarters, half_width, quarter_node}
use Rattle.rasterize.specs.Ready.{OnSheet}
use Rattle.rasterize.specs.Slanted.{node_on, Slants, quarter_on_way}
use Rattle.rasterize.proofs.Laws.OnSheet.{half≥0, twice, on_sheet_room, quarter_on_sheet}

-- ---- a quarter
pub way_below : (l : Slope) (q : ℕ) → q < quarters → quarter_on_way l q < quarters
way_below l q h = omega (arith, half_on_below l.x {k = q % 2} (omega arith), half_on_below l.y {k = q / 2} (omega arith))

-- ---- in a cell
module _ {w : Course} {s : Square} {l : Slope} {k : Piece} (h : Slants w s l k) where
  inside_is : k.first <ℤ k.last → (piece_of w s (half_width s)).first <ℤ (piece_of w s (half_width s)).last
  inside_is i = subst (λ (z : Piece). z.first <ℤ z.last) h.is_piece i

  module _ {left : ℕ} (o : OnSheet w.edge (suc left) s) (i : k.first <ℤ k.last) where
    pub slants_sound : Sound l k
    slants_sound =
        subst⁻¹ (λ l. Sound l k) h.is_slope (subst⁻¹ (Sound (slope_of w)) h.is_piece
        (piece_sound h.is_walk h.x_moves h.y_moves s (half_width s) (on_sheet_room o) (twice o) (half≥0 o) (inside_is i)))

    pub slants_details : rounded_details l k ≡ details w.edge s
    slants_details =
        ap₂ rounded_details h.is_slope h.is_piece ∙ piece-details h.is_walk h.x_moves h.y_moves s (half_width s) (twice o) (half≥0 o) (inside_is i)

  pub slants_outside : k.last ≤ℤ k.first → Inside w.edge s → ⊥
  slants_outside e i =
      let f : k.first <ℤ k.last = subst⁻¹ (λ (z : Piece). z.first <ℤ z.last) h.is_piece (span_of_inside h.is_walk s i) in
      lin⊥ (k.first ∷ k.last ∷ []) (le e & lt f) (search linear depth 40) tt

  -- ---- in a quarter
  module _ {left : ℕ} (o : OnSheet w.edge (suc (suc left)) s) where
    -- a quarter can be halved once more
    below : OnSheet w.edge (suc left) (quarter_node (record { level = 0; x = 0; y = 0; square = s }) 0).square
    below = quarter_on_sheet (record { level = 0; x = 0; y = 0; square = s }) 0 (omega arith) o

    pub slants_even : Even k.half_x × Even k.half_y
    slants_even =
        subst⁻¹ (λ (z : Piece). Even z.half_x × Even z.half_y) h.is_piece (piece_even h.is_walk s _ (twice below) (half≥0 below))

    pub slants_quarter : (p : Spot) (q : ℕ) → q < quarters → {r : Piece} → IsPart k q r → Slants w (quarter_node (node_on p s) (quarter_on_way l q)).square l r
    slants_quarter p q b {r} t = record {
      is_walk = h.is_walk;
      x_moves = h.x_moves;
      y_moves = h.y_moves;
      is_slope = h.is_slope;
      is_piece = piece_part h.is_walk h.x_moves h.y_moves s (half_width s) _ (twice o) (twice below) (half≥0 below) q b
          (subst (λ z. IsPart z q r) h.is_piece t)
          ∙ ap₂ (λ i j. piece_of w (quarter s (half_width s) i j) (half_width (quarter s (half_width s) 0 0))) column row;
    }
      where
        across : half_on l.x (q % 2) < 2
        across = half_on_below l.x {k = q % 2} (omega arith)

        down : half_on l.y (q / 2) < 2
        down = half_on_below l.y {k = q / 2} (omega arith)

        column : half_on w.x.sign (q % 2) ≡ quarter_on_way l q % 2
        column =
            let a : half_on l.x (q % 2) ≡ quarter_on_way l q % 2 = omega (arith, across, down) in
            ap (λ (z : Slope). half_on z.x (q % 2)) (sym h.is_slope) ∙ a

        row : half_on w.y.sign (q / 2) ≡ quarter_on_way l q / 2
        row =
            let a : half_on l.y (q / 2) ≡ quarter_on_way l q / 2 = omega (arith, across, down) in
            ap (λ (z : Slope). half_on z.y (q / 2)) (sym h.is_slope) ∙ a
