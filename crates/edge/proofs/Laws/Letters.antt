-- The slanted edges of 01's letters F and G, on the tile of side 2: their h by the closed form, and rounded.
--
-- Main results
--   g, f                         these edges
--   g-steps, g_h, g-details      G: h is 2,038 / 4 = 509 1/2, "rounded to 510"
--   g-reversed                   H, "G reversed": the opposite
--   f-steps, f_h, f-details      F: "Exact h is 298 2/3", 114,688 / 384, which rounds to 299
use Rattle.std.specs.Prelude.{◌≡◌, refl, pos, negsuc}
use Rattle.std.proofs.Common.{◌∙◌, ap}
use Rattle.std.specs.Int.Signed.{lt_z_yes}
use Rattle.integers.proofs.Theorems.Order.{nonneg}
use Rattle.integers.specs.MinMax.{min, max}
use Rattle.integers.specs.Clamp.{clamp}
use Rattle.integers.specs.Tent.{tent}
use Rattle.edge.specs.declared.Edge.{Edge}
use Rattle.edge.specs.declared.Cell.{Cell}
use Rattle.edge.specs.Walk.{extent, sign, steps}
use Rattle.edge.specs.Integrals.{h_num}
use Rattle.edge.specs.Rounded.{details}
use Rattle.edge.specs.Cuts.{strip}
use Rattle.edge.proofs.Laws.ClosedForm.{h_closed}
use Rattle.edge.proofs.Laws.ClosedDetails.{closed_details, details-closed}
use Rattle.edge.proofs.Laws.Reversal.{reverse, opposite, details-reverse}

abbrev tile : Cell
tile = record { left = pos 0; top = pos 0; width = pos 512 }

-- "G. Side 2, (255,0) (259,1) (255,1)"
abbrev pub g : Edge
g = record { x0 = pos 255; y0 = pos 0; x1 = pos 259; y1 = pos 1 }

pub g-steps : steps g ≡ 4
unfolding extent
g-steps = refl

pub g_h : h_num g tile ≡ pos 2038
unfolding strip sign extent min max clamp tent
g_h = h_closed g tile (pos 256) refl (nonneg 256) (lt_z_yes tt)

pub g-details : details g tile ≡ record { h = pos 510; v = negsuc 3; d = pos 510 }
unfolding closed_details
g-details = details-closed g tile (pos 256) refl (nonneg 256)

-- "H. G reversed"
pub g-reversed : details (reverse g) tile ≡ record { h = negsuc 509; v = pos 4; d = negsuc 509 }
g-reversed = details-reverse g tile ∙ ap opposite g-details

-- "F. Side 2, (0,0) (384,1) (0,1)"
abbrev pub f : Edge
f = record { x0 = pos 0; y0 = pos 0; x1 = pos 384; y1 = pos 1 }

pub f-steps : steps f ≡ 384
unfolding extent
f-steps = refl

pub f_h : h_num f tile ≡ pos 114688
unfolding strip sign extent min max clamp tent
f_h = h_closed f tile (pos 256) refl (nonneg 256) (lt_z_yes tt)

pub f-details : details f tile ≡ record { h = pos 299; v = negsuc 383; d = pos 299 }
unfolding closed_details
f-details = details-closed f tile (pos 256) refl (nonneg 256)
