-- One level less at each call.
use Rattle.haar.proofs.+figure_at.Given as goal

abbrev pub decreases-figure_at : goal.decreases-figure_at
decreases-figure_at l = l.level
