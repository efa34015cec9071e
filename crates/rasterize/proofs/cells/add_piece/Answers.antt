-- The recursion over the numbers of the piece, where there are steps inside.
use Rattle.std.proofs.Common.{◌≡◌, refl, sym, ◌∙◌, ap, subst, List, ℕ, suc, ◌<◌, ◌^◌, ℤ, pos, ◌+ℤ◌, ◌≤ℤ◌, ◌<ℤ◌, SFits, w64, rules}
use Rattle.std.proofs.Math.Path.{subst⁻¹, subst₂}
use Rattle.std.specs.Int.Signed.{mag}
use Rattle.integers.proofs.Theorems.Machine.{tests}
use Rattle.integers.proofs.Theorems.Order.{≤ℤ_of_<ℤ}
use Rattle.integers.proofs.Theorems.Within.{within_le, within_self}
use Rattle.integers.specs.Bits.{back}
use Rattle.integers.proofs.Theorems.Bits.{back_is, result_is}
use Rattle.edge.specs.declared.Cell.{Cell as Square}
use Rattle.edge.specs.declared.Edge.{Edge}
use Rattle.edge.specs.declared.Span.{Span}
use Rattle.edge.specs.Cuts.{span as span_of}
use Rattle.edge.specs.Room.{Even}
use Rattle.edge.specs.CourseOf.{course}
use Rattle.edge.specs.WalkOf.{Course, IsWalk}
use Rattle.edge.proofs.Laws.WalkKnown.{is_walk}
use Rattle.slanted.specs.declared.Slope.{Slope}
use Rattle.slanted.specs.declared.Piece.{Piece}
use Rattle.slanted.specs.Pieces.{Moving, slope_of, piece_of, Sound}
use Rattle.rasterize.specs.declared.Node.{Node}
use Rattle.rasterize.specs.Contribution.{contribution}
use Rattle.rasterize.specs.Ready.{Ready}
use Rattle.rasterize.specs.Slanted.{slope, piece, Slants}
use Rattle.rasterize.proofs.Laws.Adding.{added_none}
use Rattle.rasterize.proofs.Laws.Contributions.{contribution_outside}
use Rattle.rasterize.proofs.Laws.Nodes.{half_width_is}
use Rattle.rasterize.proofs.Laws.OnSheet.{on_sheet_room, on_sheet_width}
use Rattle.rasterize.proofs.Laws.ReadyCells.{ready-suc, ready-splits}
use Rattle.rasterize.proofs.Laws.SlantedCells.{slants_sound}
use Rattle.rasterize.proofs.QuarterLoop.{not-inside_of_span}
use Rattle.rasterize.proofs.SlantedBits.{slope-eq, piece_eq}
use Rattle.rasterize.proofs.cells.add_piece.Goals as goal

width_is : {t : List ℤ} {e : Edge} {left : ℕ} {c : Node} → Ready t e (suc left) c → back c.square.width ≡ c.square.width
width_is r = back_is tt (within_le (ready-splits r).wide (within_self (on_sheet_width r.on_sheet)))

-- half of the width
module _ (s : Square) {h : ℤ} (same : back s.width ≡ s.width) (fits : mag h < 2 ^ 63) (two : (back s.width ≡ h +ℤ h) × (pos 0 ≤ℤ h)) where
  even : s.width ≡ back h +ℤ back h
  even = sym same ∙ two.0 ∙ ap (λ z. z +ℤ z) (sym (result_is fits refl))

  half≥0 : pos 0 ≤ℤ back h
  half≥0 = subst⁻¹ (λ z. pos 0 ≤ℤ z) (result_is fits refl) two.1

-- the walk and the piece, handed on number by number
abbrev held_slope : Course → Slope
held_slope w = slope (back w.divisor) (back w.x.sign) (back w.y.sign)

abbrev held_piece : Piece → Piece
held_piece k = piece (back k.first) (back k.last) (back k.middle_x) (back k.middle_y) (back k.half_x) (back k.half_y)

record Handed (w : Course) (s : Square) (k : Piece) : Type 0 where
  slants : Slants w s (held_slope w) (held_piece k)
  inside : (held_piece k).first <ℤ (held_piece k).last

module _ {t : List ℤ} {w : Course} {c : Node} {left : ℕ} {p : Span} (r : Ready t w.edge (suc left) c) (is : IsWalk w) (of : p ≡ span_of w.x w.y c.square w.steps)
    (x_moves : Moving w.x) (y_moves : Moving w.y) (some : p.first <ℤ p.last) {h : ℤ} (fits : mag h < 2 ^ 63)
    (two : (back c.square.width ≡ h +ℤ h) × (pos 0 ≤ℤ h)) where
  handed : {k : Piece} → k ≡ piece_of w c.square (back h) → Handed w c.square k
  handed {k} e = record {
    slants = subst₂ (Slants w c.square) (sym slope-is) (sym piece_is) slants;
    inside = subst⁻¹ (λ (n : Piece). n.first <ℤ n.last) piece_is inside;
  }
    where
      slants : Slants w c.square (slope_of w) k
      slants = record {
        is_walk = is;
        x_moves = x_moves;
        y_moves = y_moves;
        is_slope = refl;
        is_piece = e ∙ ap (piece_of w c.square) (half_width_is c.square (back h) (even c.square (width_is r) fits two) (half≥0 c.square (width_is r) fits two));
      }

      inside : k.first <ℤ k.last
      inside = subst⁻¹ (λ (z : Piece). z.first <ℤ z.last) e (subst (λ (z : Span). z.first <ℤ z.last) of some)

      sound : Sound (slope_of w) k
      sound = slants_sound slants r.on_sheet inside

      slope-is : held_slope w ≡ slope_of w
      slope-is = slope-eq (back_is tt (within_le sound.limit (within_self (≤ℤ_of_<ℤ sound.above)))) (back_is tt sound.x) (back_is tt sound.y)

      piece_is : held_piece k ≡ k
      piece_is =
          let x = sound.arch_x in
          let y = sound.arch_y in
          piece_eq (back_is tt x.from) (back_is tt x.to) (back_is tt x.middle) (back_is tt y.middle) (back_is tt x.peak) (back_is tt y.peak)

pub half_of-half-requires : goal.half_of-half-requires
half_of-half-requires c =
    let r = ready-suc c.requires.0 c.requires.1 in
    subst⁻¹ Even (width_is r) (on_sheet_room r.on_sheet).even

pub piece_of-k-requires : goal.piece_of-k-requires
piece_of-k-requires c =
    let r = ready-suc c.requires.0 c.requires.1 in
    let h = c.half_of-half in
    (on_sheet_room r.on_sheet, even c.args.c.square (width_is r) h.type_inv h.ensures, half≥0 c.args.c.square (width_is r) h.type_inv h.ensures, c.requires.2)

pub add_slanted-requires : goal.add_slanted-requires
add_slanted-requires c =
    let q = c.requires in
    let s = c.args.span in
    let f : SFits w64 s.first = search rules in
    let g : SFits w64 s.last = search rules in
    let i : s.first <ℤ s.last = search tests in
    let a = handed (ready-suc q.0 q.1) (is_walk c.args.walk) q.2 q.3 q.4 i c.half_of-half.type_inv c.half_of-half.ensures c.piece_of-k.ensures in
    (q.0, record { walk = course c.args.walk; square = c.args.c.square; slants = a.slants; inside = a.inside; ready = q.1 })

pub returns-then-span : goal.returns-then-span
returns-then-span c =
    let q = c.requires in
    let s = c.args.span in
    let f : SFits w64 s.first = search rules in
    let g : SFits w64 s.last = search rules in
    let i : s.first <ℤ s.last = search tests in
    let a = handed (ready-suc q.0 q.1) (is_walk c.args.walk) q.2 q.3 q.4 i c.half_of-half.type_inv c.half_of-half.ensures c.piece_of-k.ensures in
    c.add_slanted.ensures.adds a.slants q.1.on_sheet

-- no part of the edge lies inside the cell
pub returns-else-span : goal.returns-else-span
returns-else-span c =
    let a = c.args in
    let f : SFits w64 a.span.first = search rules in
    let h : SFits w64 a.span.last = search rules in
    let l : a.span.last ≤ℤ a.span.first = search tests in
    sym (added_none a.table.now (contribution a.walk.edge a.left a.c)
    (contribution_outside a.left a.c c.requires.1.on_sheet (not-inside_of_span _ (is_walk a.walk) c.requires.2 l)))
