-- A slanted walk in a cell: both of its directions move at every step. What it adds is told by six numbers, all in steps, and by what its cells share.
--
-- Definitions
--   Moving                    a direction that does not stand still
--   slope_of, piece_of        a walk, and a walk in a cell whose width is half + half
--   signed_by                 three numbers, with the signs of a slope
--   rounded_details           h, v and d, each rounded on its own
--   Sound                     what `details_of` asks
--   Ranged                    what `part_of` asks, besides that there are halves
use Rattle.std.specs.Prelude.{◌≡◌, ℤ, pos, negsuc, neg_ℤ, nat_abs, ◌*ℤ◌, ◌≤ℤ◌, ◌<ℤ◌}
use Rattle.integers.specs.Units.{width_times_extent_limit}
use Rattle.integers.specs.Within.{Within}
use Rattle.integers.specs.Rounding.{round_half_away}
use Rattle.edge.specs.declared.Axis.{Axis}
use Rattle.edge.specs.declared.Cell.{Cell}
use Rattle.edge.specs.declared.Details.{Details}
use Rattle.edge.specs.Cuts.{span, to_middle}
use Rattle.edge.specs.Room.{crossing_limit}
use Rattle.edge.specs.WalkOf.{Course}
use Rattle.slanted.specs.declared.Slope.{Slope}
use Rattle.slanted.specs.declared.Piece.{Piece}
use Rattle.slanted.specs.Under.{under, turned, far_limit, Arch}

pub data Moving (a : Axis) : Type 0 where
  onward : a.sign ≡ pos 1 → Moving a
  back : a.sign ≡ negsuc 0 → Moving a

abbrev pub slope_of : Course → Slope
slope_of w = record { divisor = w.divisor; x = w.x.sign; y = w.y.sign }

-- the steps inside, those at which the middles are crossed, and half of the width in the steps of each direction
abbrev pub piece_of : Course → Cell → ℤ → Piece
piece_of w c half = record {
  first = (span w.x w.y c w.steps).first;
  last = (span w.x w.y c w.steps).last;
  middle_x = to_middle w.x c.left half;
  middle_y = to_middle w.y c.top half;
  half_x = w.x.scale *ℤ half;
  half_y = w.y.scale *ℤ half;
}

abbrev pub signed_by : Slope → ℤ → ℤ → ℤ → Details
signed_by l h v d = record { h = l.y *ℤ h; v = neg_ℤ (l.x *ℤ v); d = d }

-- h is what lies under the tent of x, with the sign of y; v is minus the same with x and y exchanged; d is as h, turned where the middle row is crossed
unfoldable pub rounded_details : Slope → Piece → Details
rounded_details l k =
    signed_by l (round_half_away (under k.half_x k.middle_x k.first k.last) (nat_abs l.divisor))
    (round_half_away (under k.half_y k.middle_y k.first k.last) (nat_abs l.divisor))
    (round_half_away (turned k.half_x k.middle_x k.first k.last k.middle_y) (nat_abs l.divisor))

pub record Sound (l : Slope) (k : Piece) : Type 0 where
  pub above : pos 0 <ℤ l.divisor
  pub limit : l.divisor ≤ℤ pos crossing_limit
  pub x : Within (pos 1) l.x
  pub y : Within (pos 1) l.y
  pub arch_x : Arch k.half_x k.middle_x k.first k.last
  pub arch_y : Arch k.half_y k.middle_y k.first k.last

pub record Ranged (k : Piece) : Type 0 where
  pub half_x_lem : Within (pos width_times_extent_limit) k.half_x
  pub half_y_lem : Within (pos width_times_extent_limit) k.half_y
  pub middle_x_lem : Within (pos far_limit) k.middle_x
  pub middle_y_lem : Within (pos far_limit) k.middle_y
