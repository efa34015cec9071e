-- Laws of what specs/Tile.antt defines. The head of that file lists the main results.
use Rattle.std.specs.Prelude.{◌≡◌, ℕ, ◌*◌, ◌-◌, ◌^◌}
use Rattle.std.proofs.Common.{◌∙◌, ap, arith}
use Rattle.haar.specs.Greys.{full}
use Rattle.accuracy.specs.Tile.{cell_width}

-- A check: the tile's area in units, two to a square step, is the figure of a tile that is all ink, by which greys are measured.
full-tile : (depth : ℕ) → full (2 ^ depth) ≡ 2 * (cell_width depth 0 * cell_width depth 0)
full-tile depth =
    let whole : depth ≡ depth - 0 = omega arith in
    ap (λ k. full (2 ^ k)) whole ∙ omega arith
