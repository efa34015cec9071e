-- The level above is drawn in figures, and this one in greys.
use Rattle.std.proofs.Common.{◌∙◌}
use Rattle.haar.proofs.NextLevel.{drawn_picture}
use Rattle.haar.proofs.greys_in.Goals as goal

pub returns : goal.returns
returns g c = drawn_picture c.draw_below.ensures.drawn (c.draw_below.ensures.same_length ∙ c.requires.drawable.0.exact)
