-- The step at which a direction crosses the middle between its sides.
use Rattle.integers.proofs.Theorems.Held.{held-mul, held_fits, held_back}
use Rattle.edge.specs.Code.{AxisRoom}
use Rattle.edge.proofs.WalkRoom.{narrower_room}
use Rattle.edge.proofs.AxisNumbers.{sign-held, side_held, sum-held}
use Rattle.edge.proofs.Across.middle.Goals as goal
use Rattle.edge.proofs.Across.middle.Goals.{Start}

room : (c : Start) → AxisRoom c.args.self.axis c.args.self.side c.args.half
room c = narrower_room c.requires.0 c.requires.1 c.args.self.room

pub overflow_mul-result : goal.overflow_mul-result
overflow_mul-result c = held_fits tt (side_held c.args.self.room)

pub overflow_add-result : goal.overflow_add-result
overflow_add-result c = held_fits tt (sum-held (room (goal.at.overflow_add-result c).Start) c.ranges.half)

pub overflow_mul-result-3 : goal.overflow_mul-result-3
overflow_mul-result-3 c =
    held_fits tt (held-mul (sign-held c.args.self.room) (held_back tt (sum-held (room (goal.at.overflow_mul-result-3 c).Start) c.ranges.half)))

pub returns : goal.returns
returns c = (held_back tt (held-mul (sign-held c.args.self.room) (held_back tt (sum-held (room (goal.at.returns c).Start) c.ranges.half)))).is
