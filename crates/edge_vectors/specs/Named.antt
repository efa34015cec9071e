-- Which edge and which cell the numbers of a line name.
--
-- Definitions
--   Named numbers c           c is the case that a line's seven numbers name: an edge, and a cell by its left and top side and half its width
use Rattle.std.specs.Prelude.{◌≡◌, ℤ, pos, ◌+ℤ◌, List, get_or}
use Rattle.edge_vectors.specs.declared.Case.{Case}

pub record Named (numbers : List ℤ) (c : Case) : Type 0 where
  pub x0 : c.edge.x0 ≡ get_or numbers 0 (pos 0)
  pub y0 : c.edge.y0 ≡ get_or numbers 1 (pos 0)
  pub x1 : c.edge.x1 ≡ get_or numbers 2 (pos 0)
  pub y1 : c.edge.y1 ≡ get_or numbers 3 (pos 0)
  pub left : c.cell.left ≡ get_or numbers 4 (pos 0)
  pub top : c.cell.top ≡ get_or numbers 5 (pos 0)
  pub width : c.cell.width ≡ get_or numbers 6 (pos 0) +ℤ get_or numbers 6 (pos 0)
