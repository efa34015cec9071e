-- The list has room for the cells of the level, and the picture is as many of its places.
use Rattle.std.proofs.Common.{sym, ◌∙◌}
use Rattle.haar_vectors.proofs.Tables.{first_places, level_fits}
use Rattle.haar_vectors.proofs.read.show_greys.Goals as goal

pub slice_bounds-room-end : goal.slice_bounds-room-end
slice_bounds-room-end g c = level_fits c.args.table.now.drawable c.requires c.cells.ensures

pub slice_bounds-picture-end : goal.slice_bounds-picture-end
slice_bounds-picture-end g c = sym (first_places 4096 0 (level_fits c.args.table.now.drawable c.requires c.cells.ensures))

pub greys-requires : goal.greys-requires
greys-requires g c = (c.requires, first_places 4096 0 (level_fits c.args.table.now.drawable c.requires c.cells.ensures) ∙ c.cells.ensures)
