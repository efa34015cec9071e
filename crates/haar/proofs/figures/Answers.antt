-- A picture with a place for each cell of the level and its figures in them is the level's.
use Rattle.std.proofs.Common.{◌∙◌}
use Rattle.haar.proofs.NextLevel.{drawn_picture}
use Rattle.haar.proofs.figures.Goals as goal

pub returns : goal.returns
returns c = drawn_picture c.figures_to.ensures.0 (c.figures_to.ensures.1 ∙ c.requires.exact)
