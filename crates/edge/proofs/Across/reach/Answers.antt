-- The width, `scale` times over.
use Rattle.std.proofs.Common.{rules, SFits, w64}
use Rattle.integers.proofs.Theorems.Held.{held_fits}
use Rattle.edge.proofs.AxisNumbers.{width_held, width_is}
use Rattle.edge.proofs.Across.reach.Goals as goal
use Rattle.edge.proofs.Across.reach.Goals.{Start}

width_fits : (c : Start) → SFits w64 c.args.self.width
width_fits c = search rules

pub overflow_mul-result : goal.overflow_mul-result
overflow_mul-result c = held_fits tt (width_held c.args.self.room (width_fits (goal.at.overflow_mul-result c).Start))

pub returns : goal.returns
returns c = width_is c.args.self.room (width_fits (goal.at.returns c).Start)
