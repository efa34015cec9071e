-- A slanted walk down the quadtree. The recursion is handed no walk and no square: it knows the cell by its level and numbers, and the walk in it by what
-- crate `slanted` tells of both, a slope and a piece. It asks that they are some walk's in some square, and promises what it adds for every such walk and
-- square.
--
-- Definitions
--   slope, piece, spot                           by their numbers
--   node_on p s                                  the cell at place p of the quadtree, with a square
--   Slants w s l k                               slope l and piece k are those of the slanted walk w in square s
--   quarter_on_way l q                           the quarter that the walk is in: q % 2 is 0 before the middle of x is crossed and 1 after it, q / 2 likewise of y
--   quarter_spot p q                             the place of quarter q of a cell
--   SlantedReady t l p k left                    such a walk and such a square that the recursion is ready for, with `left` levels from the cell's on
--   SlantedAdds before after l p k left          what the walk's edge adds there has been added, for every such walk: `SlantedReady` says that there is one
use Rattle.std.specs.Prelude.{◌≡◌, List, ℕ, suc, ◌+◌, ◌*◌, ◌/◌, ◌%◌, ℤ, ◌<ℤ◌}
use Rattle.edge.specs.declared.Cell.{Cell as Square}
use Rattle.edge.specs.WalkOf.{Course, IsWalk}
use Rattle.slanted.specs.declared.Slope.{Slope}
use Rattle.slanted.specs.declared.Piece.{Piece}
use Rattle.slanted.specs.Pieces.{Moving, slope_of, piece_of}
use Rattle.slanted.specs.Parts.{half_on}
use Rattle.rasterize.specs.declared.Node.{Node}
use Rattle.rasterize.specs.declared.Spot.{Spot}
use Rattle.rasterize.specs.Added.{added}
use Rattle.rasterize.specs.Nodes.{half_width}
use Rattle.rasterize.specs.Contribution.{contribution}
use Rattle.rasterize.specs.Ready.{OnSheet, Ready}

-- ---- by their numbers
abbrev pub slope : ℤ → ℤ → ℤ → Slope
slope divisor x y = record { divisor = divisor; x = x; y = y }

abbrev pub piece : ℤ → ℤ → ℤ → ℤ → ℤ → ℤ → Piece
piece first last middle_x middle_y half_x half_y = record {
  first = first;
  last = last;
  middle_x = middle_x;
  middle_y = middle_y;
  half_x = half_x;
  half_y = half_y;
}

abbrev pub spot : ℕ → ℕ → ℕ → Spot
spot level x y = record { level = level; x = x; y = y }

-- ---- a walk in a cell
abbrev pub node_on : Spot → Square → Node
node_on p s = record { level = p.level; x = p.x; y = p.y; square = s }

pub record Slants (w : Course) (s : Square) (l : Slope) (k : Piece) : Type 0 where
  pub is_walk : IsWalk w
  pub x_moves : Moving w.x
  pub y_moves : Moving w.y
  pub is_slope : l ≡ slope_of w
  pub is_piece : k ≡ piece_of w s (half_width s)

abbrev pub quarter_on_way : Slope → ℕ → ℕ
quarter_on_way l q = half_on l.x (q % 2) + 2 * half_on l.y (q / 2)

-- quarter q of a cell, as `quarter_node` has it
abbrev pub quarter_spot : Spot → ℕ → Spot
quarter_spot p q = record { level = suc p.level; x = 2 * p.x + q % 2; y = 2 * p.y + q / 2 }

pub record SlantedReady (t : List ℤ) (l : Slope) (p : Spot) (k : Piece) (left : ℕ) : Type 0 where
  pub walk : Course
  pub square : Square
  pub slants : Slants walk square l k
  pub inside : k.first <ℤ k.last
  pub ready : Ready t walk.edge left (node_on p square)

pub record SlantedAdds (before after : List ℤ) (l : Slope) (p : Spot) (k : Piece) (left : ℕ) : Type 0 where
  pub adds : {w : Course} {s : Square} → Slants w s l k → OnSheet w.edge left s
      → after ≡ added before (contribution w.edge left (node_on p s))
