-- The slanted edge of 01's letter G, (255,0) to (259,1) on the tile of side 2, which it enters left of the middle and leaves right of it: what the laws ask
-- holds of it, and what they say is what is known of it.
--
-- Main results
--   g-span            it lies on the tile, and so all its steps do
--   g-piece           its six numbers in the tile, by computing
--   g_sound           they are sound
--   g-details         and give its details, "rounded to 510"
--   g_part            and those in the upper right quarter
use Rattle.std.specs.Prelude.{◌≡◌, refl, [], pos, negsuc, ◌<ℤ◌}
use Rattle.std.proofs.Common.{sym, arith}
use Rattle.std.specs.Int.Signed.{lt_z_yes}
use Rattle.integers.proofs.Theorems.Order.{nonneg}
use Rattle.integers.proofs.Theorems.Linear.{eq, none!, linear, lin≤, lin⊥}
use Rattle.integers.proofs.Theorems.Within.{within_le, within_self}
use Rattle.integers.specs.MinMax.{min, max}
use Rattle.integers.specs.Clamp.{clamp}
use Rattle.integers.specs.Magnitude.{abs}
use Rattle.integers.specs.Rounding.{round_half_away, nearestℕ}
use Rattle.edge.specs.declared.Cell.{Cell}
use Rattle.edge.specs.Walk.{extent, sign}
use Rattle.edge.specs.Cuts.{all_steps, strip, span}
use Rattle.edge.specs.Room.{Room}
use Rattle.edge.specs.Rounded.{details}
use Rattle.edge.specs.Octilinear.{Octilinear, level, upright, diagonal}
use Rattle.edge.specs.WalkOf.{Course, IsWalk, fine, fine_walk}
use Rattle.edge.specs.Nested.{quarter, OnCell}
use Rattle.edge.proofs.Laws.Letters.{g}
use Rattle.slanted.specs.declared.Piece.{Piece}
use Rattle.slanted.specs.Under.{under, turned}
use Rattle.slanted.specs.Pieces.{Moving, onward, slope_of, piece_of, rounded_details, Sound}
use Rattle.slanted.specs.Parts.{half_on, since, until, shifted, IsPart}
use Rattle.slanted.proofs.Laws.WholeSpan.{span_whole}
use Rattle.slanted.proofs.Laws.PieceDetails.{piece-details}
use Rattle.slanted.proofs.Laws.PieceSound.{piece_sound}
use Rattle.slanted.proofs.Laws.PieceParts.{piece_part}

abbrev tile : Cell
tile = record { left = pos 0; top = pos 0; width = pos 512 }

abbrev w : Course
w = fine_walk g

walk : IsWalk w
unfolding extent
walk = fine slanted refl
  where
    slanted : Octilinear g → ⊥
    slanted (level e) = lin⊥ [] (eq e) (search linear depth 40) tt
    slanted (upright e) = lin⊥ [] (eq e) (search linear depth 40) tt
    slanted (diagonal e) = omega (arith, e)

moves_x : Moving w.x
unfolding sign
moves_x = onward refl

moves_y : Moving w.y
unfolding sign
moves_y = onward refl

room : Room g tile
unfolding extent
room = record {
  edge = record {
    x0 = within_le (lin≤ [] none! (search linear depth 40) tt) (within_self (nonneg 255));
    y0 = within_le (lin≤ [] none! (search linear depth 40) tt) (within_self (nonneg 0));
    x1 = within_le (lin≤ [] none! (search linear depth 40) tt) (within_self (nonneg 259));
    y1 = within_le (lin≤ [] none! (search linear depth 40) tt) (within_self (nonneg 1));
  };
  left = within_le (lin≤ [] none! (search linear depth 40) tt) (within_self (nonneg 0));
  top = within_le (lin≤ [] none! (search linear depth 40) tt) (within_self (nonneg 0));
  even = record { half = pos 256; half≥0 = nonneg 256; twice = refl };
  wide = lin≤ [] none! (search linear depth 40) tt;
  tall = lin≤ [] none! (search linear depth 40) tt;
}

on_tile : OnCell tile g
on_tile = record {
  x0 = record { low = lin≤ [] none! (search linear depth 40) tt; high = lin≤ [] none! (search linear depth 40) tt };
  y0 = record { low = lin≤ [] none! (search linear depth 40) tt; high = lin≤ [] none! (search linear depth 40) tt };
  x1 = record { low = lin≤ [] none! (search linear depth 40) tt; high = lin≤ [] none! (search linear depth 40) tt };
  y1 = record { low = lin≤ [] none! (search linear depth 40) tt; high = lin≤ [] none! (search linear depth 40) tt };
}

pub g-span : span w.x w.y tile w.steps ≡ all_steps w.steps
g-span = span_whole walk moves_x moves_y tile on_tile

-- four steps; x crosses its middle after one, and y would after 1,024
pub g-piece : piece_of w tile (pos 256) ≡ record { first = pos 0; last = pos 4; middle_x = pos 1; middle_y = pos 1024; half_x = pos 256; half_y = pos 1024 }
unfolding strip sign extent min max
g-piece = refl

inside : (piece_of w tile (pos 256)).first <ℤ (piece_of w tile (pos 256)).last
unfolding strip sign extent min max
inside = lt_z_yes tt

pub g_sound : Sound (slope_of w) (piece_of w tile (pos 256))
g_sound = piece_sound walk moves_x moves_y tile (pos 256) room refl (nonneg 256) inside

pub g-details : details g tile ≡ record { h = pos 510; v = negsuc 3; d = pos 510 }
unfolding rounded_details under turned strip sign extent min max clamp abs round_half_away nearestℕ
g-details = sym (piece-details walk moves_x moves_y tile (pos 256) refl (nonneg 256) inside)

-- after the crossing of x, and before that of y
abbrev right : Piece
right = record { first = pos 1; last = pos 4; middle_x = pos 129; middle_y = pos 512; half_x = pos 128; half_y = pos 512 }

is_right : IsPart (piece_of w tile (pos 256)) 1 right
unfolding since until shifted strip sign extent min max
is_right = record { half_x_lem = refl; half_y_lem = refl; middle_x_lem = refl; middle_y_lem = refl; first = refl; last = refl }

pub g_part : right ≡ piece_of w (quarter tile (pos 256) 1 0) (pos 128)
unfolding sign half_on
g_part = piece_part walk moves_x moves_y tile (pos 256) (pos 128) refl refl (nonneg 128) 1 (omega arith) is_right
