-- Nor is a tile that was not refused.
use Rattle.tile.proofs.Laws.Answers.{tile_shallow}
use Rattle.tile.proofs.pyramid_refusal.Goals as goal

pub is_pyramid-requires : goal.is_pyramid-requires
is_pyramid-requires c = tile_shallow c.args.side c.args.table.now c.in_ok-tile_refusal.ensures.value
