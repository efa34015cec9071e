-- A run of edges that lie in one cell, each beginning where the one before ended: to the cells above that cell it adds what its chord adds, the edge
-- from its first point to its last, and an area in the signs of the quarter that it lies in.
--
-- Definitions
--   ancestor depth K x y j                 the cell of level j that cell (x, y) of level K lies in
--   half_at K n j                          the half of it, in one direction, that number n of level K lies in
--   with_area w a i j                      details w, with the area a of something in quarter (i, j)
--   part_in e a c u v i                    what edge e and area a, in quarter (u, v) of cell c, add to entry i in that cell
--   level_part e a depth K x y j i         the same in the cell of level j above cell (x, y) of level K, in which e and a lie
--   above e a depth K x y i                and in all the cells above it
--   run_levels, widest_run, longest_run    how many levels a run's cell is above a pixel, how wide it is, in steps; how many edges a run may have
--   triangle_limit                         what one more edge adds to a run's area at most
--   run_square c, run_node depth c         the cell of a run: its square, and with its level
--   square_at c w, parent_spot c           a cell's square by its width, and the cell above it
--   triangle s m t                         the area between the edges from s to m and from m to t and the edge from s to t
--   from_half i side w p q                 how far p and q, in half i of a range, lie from that half's side of the range, added up
--   details_in e s i j                     the details of an edge in quarter (i, j) of a square
--   AboveReady t e a depth c               what adding a chord and an area in the cells above a run's cell asks for
--   RunReady t points depth k c            what a run from edge k on asks for
--   NextReady view t points depth k        what adding edge k, and edges after it, asks for
--   HasRuns b view sign depth              b is yes only where edges may be added in runs
--   Along depth points k c before t r      a run has come so far: once its chord and its area are added above its cell, its edges are added
use Rattle.std.specs.Prelude.{◌≡◌, Bool, true, cond, List, ℕ, zero, suc, ◌+◌, ◌*◌, ◌-◌, ◌/◌, ◌%◌, ◌^◌, ◌<◌, ◌≤◌, ltb, length, ℤ, pos, neg_ℤ, ◌+ℤ◌, ◌-ℤ◌, ◌*ℤ◌}
use Rattle.integers.specs.Units.{steps_per_pixel, greatest_depth, detail_limit}
use Rattle.integers.specs.Within.{Within}
use Rattle.integers.specs.ListSum.{All}
use Rattle.integers.specs.HalfSign.{half_sign}
use Rattle.integers.specs.RangeSum.{Σ<}
use Rattle.edge.specs.declared.Edge.{Edge}
use Rattle.edge.specs.declared.Cell.{Cell as Square}
use Rattle.edge.specs.declared.Details.{Details}
use Rattle.edge.specs.Walk.{dx, dy}
use Rattle.edge.specs.Rounded.{details, root_term}
use Rattle.edge.specs.Code.{turned}
use Rattle.edge.specs.Nested.{OnCell}
use Rattle.haar.specs.Cells.{children}
use Rattle.haar.specs.Plane.{dimensions}
use Rattle.accuracy.specs.Outline.{Point, points_of, point_at, edge_between, contour_edges}
use Rattle.rasterize.specs.declared.Node.{Node}
use Rattle.rasterize.specs.declared.Spot.{Spot}
use Rattle.rasterize.specs.Nodes.{node_at}
use Rattle.rasterize.specs.declared.View.{View}
use Rattle.rasterize.specs.declared.View.TheVariants.{Alone}
use Rattle.rasterize.specs.Added.{added}
use Rattle.rasterize.specs.Contribution.{first_detail, own_part}
use Rattle.rasterize.specs.Ready.{visits, Spare, Fits}
use Rattle.rasterize.specs.Views.{InView}
use Rattle.contours.specs.declared.Run.{Run}
use Rattle.contours.specs.Contour.{edge_of, edges_from}

-- ---- the cells above a cell
-- Each level up halves a cell's numbers.
abbrev pub ancestor : (depth K x y j : ℕ) → Node
ancestor depth K x y j = node_at depth j (x / 2 ^ (K - j)) (y / 2 ^ (K - j))

-- 0 for the first half and 1 for the second: the last bit of the number one level below
abbrev pub half_at : (K n j : ℕ) → ℕ
half_at K n j = n / 2 ^ (K - suc j) % 2

-- ---- what a run adds there
-- "h plus on the left, v plus above, d plus in the upper left and lower right"
abbrev pub with_area : Details → ℤ → ℕ → ℕ → Details
with_area w a i j = record { h = w.h +ℤ half_sign i *ℤ a; v = w.v +ℤ half_sign j *ℤ a; d = w.d +ℤ half_sign i *ℤ half_sign j *ℤ a }

-- the cell's three details, at their places in the table
abbrev pub part_in : Edge → ℤ → Node → (u v i : ℕ) → ℤ
part_in e a c u v i = own_part (with_area (details e c.square) a u v) (first_detail c) i

-- the quarter is the one that cell (x, y) of level K lies in
abbrev pub level_part : Edge → ℤ → (depth K x y j i : ℕ) → ℤ
level_part e a depth K x y j i = part_in e a (ancestor depth K x y j) (half_at K x j) (half_at K y j) i

-- all levels above level K
abbrev pub above : Edge → ℤ → (depth K x y i : ℕ) → ℤ
above e a depth K x y i = Σ< K (λ j. level_part e a depth K x y j i)

-- four pixels: in a wider cell runs would be longer, but each of their edges would add on more levels
abbrev pub run_levels : ℕ
run_levels = 2

abbrev pub widest_run : ℕ
widest_run = 4 * steps_per_pixel

-- 64 times `triangle_limit`, 2^27, and with a chord's detail that is within `detail_limit`, 2^28
abbrev pub longest_run : ℕ
longest_run = 64

-- in units, the area of the whole cell: more than any triangle in it
abbrev pub triangle_limit : ℕ
triangle_limit = 2 * (widest_run * widest_run)

abbrev pub run_square : Spot → Square
run_square c = record { left = pos (c.x * widest_run); top = pos (c.y * widest_run); width = pos widest_run }

-- cell c, of cells that are w wide
abbrev pub square_at : Spot → ℤ → Square
square_at c w = record { left = pos c.x *ℤ w; top = pos c.y *ℤ w; width = w }

abbrev pub parent_spot : Spot → Spot
parent_spot c = record { level = c.level - 1; x = c.x / 2; y = c.y / 2 }

abbrev pub run_node : ℕ → Spot → Node
run_node depth c = node_at depth c.level c.x c.y

-- what a run's area gains when the edge from m to t comes after the chord from s to m
abbrev pub triangle : Point → Point → Point → ℤ
triangle s m t = root_term (edge_between s m) +ℤ root_term (edge_between m t) -ℤ root_term (edge_between s t)

-- ---- by numbers
-- from the near side of a range w wide, from `side` on
abbrev pub from_half : ℕ → ℤ → ℤ → ℤ → ℤ → ℤ
from_half zero side w p q = (p +ℤ q) -ℤ (side +ℤ side)
from_half (suc i) side w p q = ((side +ℤ w) +ℤ (side +ℤ w)) -ℤ (p +ℤ q)

-- "as h, with the sign turned in the lower half"
abbrev pub details_in : Edge → Square → ℕ → ℕ → Details
details_in e s i j = record {
  h = from_half i s.left s.width e.x0 e.x1 *ℤ dy e;
  v = neg_ℤ (from_half j s.top s.width e.y0 e.y1 *ℤ dx e);
  d = turned j (from_half i s.left s.width e.x0 e.x1 *ℤ dy e);
}

-- ---- what the functions ask for, and what they promise
pub record AboveReady (t : List ℤ) (e : Edge) (a : ℤ) (depth : ℕ) (c : Spot) : Type 0 where
  pub shallow : depth ≤ greatest_depth
  pub exact : length t ≡ children dimensions ^ depth
  pub level : c.level + run_levels ≡ depth
  pub x_below : c.x < 2 ^ c.level
  pub y_below : c.y < 2 ^ c.level
  pub on : OnCell (run_square c) e
  pub small : Within (pos (longest_run * triangle_limit)) a
  pub spare : Spare t greatest_depth

pub record RunReady (t points : List ℤ) (depth k : ℕ) (c : Spot) : Type 0 where
  pub shallow : depth ≤ greatest_depth
  pub exact : length t ≡ children dimensions ^ depth
  pub level : c.level + run_levels ≡ depth
  pub x_below : c.x < 2 ^ c.level
  pub y_below : c.y < 2 ^ c.level
  pub from : k < length points / 2
  pub in_view : All (InView Alone depth) (contour_edges (points_of points))
  pub on : OnCell (run_square c) (edge_of points (length points / 2) k)
  pub spare : Spare t (visits greatest_depth)

pub record NextReady (view : View) (t points : List ℤ) (depth k : ℕ) : Type 0 where
  pub from : k < length points / 2
  pub fits : Fits t depth (length points / 2 - k)
  pub in_view : All (InView view depth) (contour_edges (points_of points))

pub record HasRuns (b : Bool) (view : View) (sign : ℤ) (depth : ℕ) : Type 0 where
  pub alone : b ≡ true → view ≡ Alone
  pub adds : b ≡ true → sign ≡ pos 1
  pub deep : b ≡ true → run_levels ≤ depth

-- the point at which the edges before edge k end: after the last edge, the first point
abbrev pub reached : List ℤ → ℕ → Point
reached points k = point_at points (cond (ltb k (length points / 2)) k 0)

abbrev pub chord_of : List ℤ → ℕ → Run → Edge
chord_of points k r = edge_between (point_at points k) (record { x = r.x; y = r.y })

-- `before` is the table before the run's first edge
pub record Along (depth : ℕ) (points : List ℤ) (k : ℕ) (c : Spot) (before table : List ℤ) (r : Run) : Type 0 where
  pub from : k ≤ r.next
  pub to : r.next ≤ length points / 2
  pub short : r.next ≤ k + longest_run
  pub at_end : record { x = r.x; y = r.y } ≡ reached points r.next
  pub on : OnCell (run_square c) (chord_of points k r)
  pub sums : Within (pos ((r.next - k) * detail_limit)) r.sum
  pub small : Within (pos ((r.next - k) * triangle_limit)) (r.sum -ℤ root_term (chord_of points k r))
  pub spare : Spare table (visits greatest_depth - (1 + visits run_levels) * (r.next - k))
  pub rest : added table (above (chord_of points k r) (r.sum -ℤ root_term (chord_of points k r)) depth c.level c.x c.y)
      ≡ added before (edges_from Alone depth points k (r.next - k))
