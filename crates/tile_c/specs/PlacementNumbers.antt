-- A placement as C hands it over, a list of floats: "none, a shift by two numbers, a scale by one number, or a turn by six numbers". How many there are
-- says which. A list of another length is no placement; 02 has no word for it, and ours is 12, in that question's place.
--
-- Definitions
--   refused_placement                     a placement that question 12 refuses, whatever the points
--   placement_of numbers                  the placement
-- Main results (the laws among them are in proofs/Theorems/PlacementNumbers.antt)
--   of_none, of_scale, of_shift, of_turn  the placement of as many numbers
--   other_length                          a list of another length is refused by question 12, whatever the points
use Rattle.std.specs.Prelude.{false, cond, List, eqb, length, get_or, pos, Float}
use Rattle.std.specs.Float.{nan, fin}
use Rattle.placement.specs.declared.Placement.{Placement}
use Rattle.placement.specs.declared.Placement.TheVariants.{None, Shift, Scale, Turn}

-- a scale by 4, which is past every factor's limit
abbrev pub refused_placement : Placement
refused_placement = Scale (fin false 1 (pos 2))

-- a turn by the numbers a, b, c, d, e, f of a list that has them
abbrev turn_of : List Float → Placement
turn_of numbers =
    Turn
    (record {
      a = get_or numbers 0 nan;
      b = get_or numbers 1 nan;
      c = get_or numbers 2 nan;
      d = get_or numbers 3 nan;
      e = get_or numbers 4 nan;
      f = get_or numbers 5 nan;
    })

abbrev pub placement_of : List Float → Placement
placement_of numbers =
    cond (eqb (length numbers) 0) None
    (cond (eqb (length numbers) 1) (Scale (get_or numbers 0 nan))
    (cond (eqb (length numbers) 2) (Shift (get_or numbers 0 nan) (get_or numbers 1 nan))
    (cond (eqb (length numbers) 6) (turn_of numbers) refused_placement)))
