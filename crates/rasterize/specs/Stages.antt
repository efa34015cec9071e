-- A cell on the way down, as the loop has it: where its square lies is left out; how many cells its level has across, and how far the edge's ends lie
-- before its middles, is in.
--
-- Definitions
--   stage_at e c                 cell c, for an edge
--   quarter_stage p              the quarter that the edge lies in
--   stage_node p                 the cell, with its square
--   StageRoom p                  its numbers are small
--   StageOf e depth p c          stage p is that of cell c of the tile, and the edge lies on the cell
use Rattle.std.specs.Prelude.{◌≡◌, ℕ, suc, ◌+◌, ◌*◌, ◌/◌, ◌^◌, ◌<◌, ◌≤◌, pos, nat_abs, ◌*ℤ◌}
use Rattle.integers.specs.Units.{greatest_depth}
use Rattle.integers.specs.Within.{Within}
use Rattle.edge.specs.declared.Edge.{Edge}
use Rattle.edge.specs.Room.{coordinate_limit, extent_limit}
use Rattle.edge.specs.Nested.{OnCell}
use Rattle.edge.specs.Code.{before_middle, half_with, before_half}
use Rattle.rasterize.specs.declared.Node.{Node}
use Rattle.rasterize.specs.declared.stages.Stage.{Stage}
use Rattle.rasterize.specs.Nodes.{node_at}

abbrev pub stage_at : Edge → Node → Stage
stage_at e c = record {
  level = c.level;
  across = 2 ^ c.level;
  x = c.x;
  y = c.y;
  width = nat_abs c.square.width;
  left = before_middle c.square.left c.square.width e.x0 e.x1;
  above = before_middle c.square.top c.square.width e.y0 e.y1;
}

abbrev pub quarter_stage : Stage → Stage
quarter_stage p = record {
  level = suc p.level;
  across = 2 * p.across;
  x = 2 * p.x + half_with p.left;
  y = 2 * p.y + half_with p.above;
  width = p.width / 2;
  left = before_half p.left (pos (p.width / 2));
  above = before_half p.above (pos (p.width / 2));
}

-- "Level j has 2^j by 2^j cells", x widths from the left side and y from the top
abbrev pub stage_node : Stage → Node
stage_node p = record {
  level = p.level;
  x = p.x;
  y = p.y;
  square = record { left = pos p.x *ℤ pos p.width; top = pos p.y *ℤ pos p.width; width = pos p.width };
}

pub record StageRoom (p : Stage) : Type 0 where
  pub shallow : p.level ≤ greatest_depth
  pub across : p.across ≡ 2 ^ p.level
  pub x_below : p.x < 2 ^ p.level
  pub y_below : p.y < 2 ^ p.level
  pub wide : p.width ≤ coordinate_limit
  pub left : Within (pos extent_limit) p.left
  pub above : Within (pos extent_limit) p.above

pub record StageOf (e : Edge) (depth : ℕ) (p : Stage) (c : Node) : Type 0 where
  pub of_tile : c ≡ node_at depth c.level c.x c.y
  pub is : p ≡ stage_at e c
  pub on : OnCell c.square e
