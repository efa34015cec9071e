-- Where all the tests say yes, the case is the one that the numbers name, and there is room.
use Rattle.std.proofs.Common.{rules}
use Rattle.edge_vectors.proofs.Case.of.Goals as goal

pub returns-then-has_room-2 : goal.returns-then-has_room-2
returns-then-has_room-2 c = (
  record {
    x0 = search rules;
    y0 = search rules;
    x1 = search rules;
    y1 = search rules;
    left = search rules;
    top = search rules;
    width = search rules;
  },
  record {
    edge = record { x0 = search rules; y0 = search rules; x1 = search rules; y1 = search rules };
    left = search rules;
    top = search rules;
    even = search rules;
    wide = search rules;
    tall = search rules;
  },
)
