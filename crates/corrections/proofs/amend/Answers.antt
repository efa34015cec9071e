-- A refused call leaves everything as it was, also where the table was changed: that is undone. Else the change stays, and the record with it.
use Rattle.std.proofs.Common.{◌≡◌, Bool, true, false, ◌&&◌, cond, List, [], ◌∷◌, ℕ, ◌≤◌, ◌<◌, length, get_or, ℤ, pos, ◌-ℤ◌, ◌*ℤ◌, sym, ◌∙◌, ap, ap₂, arith, w64, to_z, of_z, to_z-of_z, FitsSigned}
use mir.Facts.{sfits_lit}
use mathlib.Core.Path.{subst⁻¹}
use borrow.Author.Tests.{le-leb, lt-leb}
use Rattle.integers.specs.Within.{Within}
use Rattle.integers.specs.ListSum.{All}
use Rattle.edge.specs.declared.Edge.{Edge}
use Rattle.rasterize.specs.declared.View.{View}
use Rattle.rasterize.specs.Added.{added}
use Rattle.rasterize.specs.Ready.{Fits}
use Rattle.rasterize.specs.Views.{InView}
use Rattle.rasterize.proofs.Laws.Adding.{added_same, added_undone}
use Rattle.rasterize.specs.Laws.Sums.{edges_part}
use Rattle.chords.specs.Sides.{numbers, MarkedContour}
use Rattle.chords.specs.Chords.{contour_chords}
use Rattle.tile.specs.Questions.{Yes, depth_of, first_no, question9}
use Rattle.tile.specs.declared.refusal.Refusal.TheVariants.{Range}
use Rattle.tile.proofs.Laws.IfDone.{if_done_lem, refused_keeps}
use Rattle.sheet.specs.declared.Site.{Site}
use Rattle.sheet.specs.Sites.{tile_side, view_at, entries_at}
use Rattle.sheet.proofs.Laws.SiteEdges.{site_entries}
use Rattle.corrections.specs.declared.Change.{Change}
use Rattle.corrections.specs.declared.Change.TheVariants.{Put, Take}
use Rattle.corrections.specs.Corrections.{Tile, tile_of, sign_of, question13, question9_twice, taken_out, edges_after}
use Rattle.corrections.specs.Amending.{Amendable, left_by, amend_refusal, amended}
use Rattle.corrections.proofs.Laws.AskedContour.{sign_within}
use Rattle.corrections.proofs.Correcting.{on_sheet, in_view, fits_contour, fits_again, opposite-fits, back_within}
use Rattle.corrections.proofs.amend.Goals as goal

-- ---- a contour's edges, and the tile that the call was given
module _ (site : Site) (change : Change) (es : List Edge) (n : ℕ) (t : Tile) where
  abbrev left-table : List ℤ
  left-table = left_by site change es t.table

  abbrev number : ℕ
  number = amend_refusal site change es n t

  thirteen : {b : Bool} → (question13 (taken_out change n) t.edges).answer ≡ b → number ≡ cond b (first_no (question9_twice t.table left-table ∷ [])) 13
  thirteen e = ap (λ b. cond b (first_no (question9_twice t.table left-table ∷ [])) 13) e

  too_many : {m : ℕ} → m ≡ taken_out change n → t.edges < m → 13 ≡ number
  too_many e h = sym (thirteen (lt-leb (taken_out change n) t.edges (omega (arith, e, h))))

  -- the record counts as many
  module _ {m : ℕ} (counted : m ≡ taken_out change n) (h : m ≤ t.edges) where
    nine : {b : Bool} → (question9_twice t.table left-table).answer ≡ b → number ≡ cond b 0 9
    nine e = thirteen (le-leb (taken_out change n) t.edges (omega (arith, counted, h))) ∙ ap (λ b. cond b 0 9) e

    out_before : {b : Bool} → b ≡ (question9 t.table).answer → b ≡ false → 9 ≡ number
    out_before e f = sym (nine (ap (λ b. b && (question9 left-table).answer) (sym e ∙ f)))

    -- the table was in range: the one that is left decides
    left_decides : {left : List ℤ} {b : Bool} → Yes (question9 t.table) → left ≡ left-table → (question9 left).answer ≡ b → number ≡ cond b 0 9
    left_decides y l e = nine (ap₂ ◌&&◌ y (sym (ap (λ l. (question9 l).answer) l) ∙ e))

-- ---- what an addition leaves, by the tile's depth, its view and the sign as the code has them
module _ (site : Site) (es : List Edge) {v : View} {k : ℕ} (view-is : v ≡ view_at site) (depth-is : k ≡ depth_of (tile_side site)) where
  seen : All (InView (view_at site) (depth_of (tile_side site))) es → All (InView v k) es
  seen y = subst⁻¹ (λ w. All (InView w k) es) view-is (subst⁻¹ (λ m. All (InView (view_at site) m) es) depth-is y)

  as_said : (t : List ℤ) {z y : ℤ} → z ≡ y → added t (edges_part v k z es) ≡ added t (edges_part (view_at site) (depth_of (tile_side site)) y es)
  as_said t {z} e =
      ap₂ (λ (w : View) m. added t (edges_part w m z es)) view-is depth-is
      ∙ ap (λ z. added t (edges_part (view_at site) (depth_of (tile_side site)) z es)) e

  -- the contour's values are what its edges add
  values : (t : List ℤ) {z y : ℤ} → z ≡ y → added t (edges_part v k z es) ≡ added t (λ i. y *ℤ get_or (entries_at site es) i (pos 0))
  values t {y = y} e =
      as_said t e
      ∙ added_same t (edges_part (view_at site) (depth_of (tile_side site)) y es) (λ i. y *ℤ get_or (entries_at site es) i (pos 0))
      (λ i h. ap (λ (l : List ℤ). y *ℤ get_or l i (pos 0)) (site_entries site es))

-- ---- the sign, as the code has it, and its opposite
sign_fits : (x : Change) → FitsSigned w64 (sign_of x)
sign_fits Put = sfits_lit tt
sign_fits Take = sfits_lit tt

module _ (x : Change) {z : ℤ} (e : z ≡ sign_of x) where
  sign-is : to_z w64 (of_z w64 z) ≡ sign_of x
  sign-is = ap (λ y. to_z w64 (of_z w64 y)) e ∙ to_z-of_z (sign_fits x)

  back-is : to_z w64 (of_z w64 (pos 0 -ℤ to_z w64 (of_z w64 (to_z w64 (of_z w64 z))))) ≡ pos 0 -ℤ sign_of x
  back-is =
      ap (λ y. to_z w64 (of_z w64 (pos 0 -ℤ to_z w64 (of_z w64 y)))) sign-is
      ∙ ap (λ y. to_z w64 (of_z w64 (pos 0 -ℤ y))) (to_z-of_z (sign_fits x))
      ∙ to_z-of_z (opposite-fits x)

-- ---- the change is made
module _ {site : Site} {change : Change} {contour : MarkedContour} {n : ℕ} {t : Tile} (a : Amendable site change contour n t)
    (as_many : length contour.coordinates ≡ numbers contour.marks) {v : View} {side k : ℕ} {z : ℤ}
    (view-is : v ≡ view_at site) (side-is : side ≡ tile_side site) (depth-is : k ≡ depth_of side) (e : z ≡ sign_of change) where
  abbrev es : List Edge
  es = contour_chords contour

  depth_at : k ≡ depth_of (tile_side site)
  depth_at = depth-is ∙ ap depth_of side-is

  edges_seen : All (InView v k) es
  edges_seen = seen site es view-is depth_at (in_view a as_many)

  module _ (yes9 : Yes (question9 t.table)) where
    room : Fits t.table k (length es)
    room = subst⁻¹ (λ k. Fits t.table k (length es)) depth_at (fits_contour a yes9)

    -- the edges are added
    module _ {left : List ℤ} (after : left ≡ added t.table (edges_part v k (to_z w64 (of_z w64 z)) es)) where
      room_again : Fits left k (length es)
      room_again =
          subst⁻¹ (λ k. Fits left k (length es)) depth_at
          (subst⁻¹ (λ l. Fits l (depth_of (tile_side site)) (length es)) (after ∙ as_said site es view-is depth_at t.table (sign-is change e)) (fits_again a yes9 as_many))

      left_is : left ≡ left_by site change es t.table
      left_is = after ∙ values site es view-is depth_at t.table (sign-is change e)

      -- and taken from what they left
      undone : {again : List ℤ} → again ≡ added left (edges_part v k (to_z w64 (of_z w64 (pos 0 -ℤ to_z w64 (of_z w64 (to_z w64 (of_z w64 z)))))) es) → again ≡ t.table
      undone b =
          let minus = pos 0 -ℤ sign_of change in
          b ∙ values site es view-is depth_at left (back-is change e)
          ∙ ap (λ l. added l (λ i. minus *ℤ get_or (entries_at site es) i (pos 0))) left_is
          ∙ added_undone t.table (sign_of change) (λ i. get_or (entries_at site es) i (pos 0))

      module _ {m : ℕ} (counted : m ≡ taken_out change n) (h : m ≤ t.edges) {b : Bool} (asked : b ≡ (question9 left).answer) where
        refused_there : b ≡ false → 9 ≡ amend_refusal site change es n t
        refused_there f = sym (left_decides site change es n t counted h yes9 left_is (sym asked ∙ f))

        accepted_there : b ≡ true → 0 ≡ amend_refusal site change es n t
        accepted_there f = sym (left_decides site change es n t counted h yes9 left_is (sym asked ∙ f))

        put_back : {again : List ℤ} → again ≡ added left (edges_part v k (to_z w64 (of_z w64 (pos 0 -ℤ to_z w64 (of_z w64 (to_z w64 (of_z w64 z)))))) es) → b ≡ false
            → tile_of again t.edges ≡ amended site change es n t
        put_back u f = ap (λ l. tile_of l t.edges) (undone u) ∙ refused_keeps _ t Range (refused_there f)

        stays : {edges : ℕ} → edges ≡ edges_after change n t.edges → b ≡ true → tile_of left edges ≡ amended site change es n t
        stays counts f = ap₂ tile_of left_is counts ∙ sym (if_done_lem _ t (sym (accepted_there f)))

pub invariant_of-pass : goal.invariant_of-pass
invariant_of-pass c = record { sign_within = subst⁻¹ (Within (pos 1)) (sign-is c.args.change c.sign.ensures) (sign_within c.args.change) }

pub invariant_of-back : goal.invariant_of-back
invariant_of-back c = record { sign_within = subst⁻¹ (Within (pos 1)) (back-is c.args.change c.sign.ensures) (back_within c.args.change) }

pub add_contour-requires : goal.add_contour-requires
add_contour-requires c =
    let a = c.requires in
    let m = c.args.contour.now.as_many in
    let v = c.view_of.ensures in
    let yes9 = sym c.is_in_range-before.ensures ∙ c.if-not-before.false in (
      room a m v c.tile_side.ensures c.depth_of.ensures c.sign.ensures yes9,
      edges_seen a m v c.tile_side.ensures c.depth_of.ensures c.sign.ensures,
      on_sheet a,
    )

pub add_contour-requires-then-not-left : goal.add_contour-requires-then-not-left
add_contour-requires-then-not-left c =
    let a = c.requires in
    let m = c.args.contour.now.as_many in
    let v = c.view_of.ensures in
    let yes9 = sym c.is_in_range-before.ensures ∙ c.if-not-before.false in (
      room_again a m v c.tile_side.ensures c.depth_of.ensures c.sign.ensures yes9 c.add_contour.ensures,
      edges_seen a m v c.tile_side.ensures c.depth_of.ensures c.sign.ensures,
      on_sheet a,
    )

pub returns-then-not-left-clause-value : goal.returns-then-not-left-clause-value
returns-then-not-left-clause-value c =
    refused_there c.requires c.args.contour.now.as_many c.view_of.ensures c.tile_side.ensures c.depth_of.ensures c.sign.ensures
    (sym c.is_in_range-before.ensures ∙ c.if-not-before.false) c.add_contour.ensures c.taken_out.ensures c.if-taken_out-recorded.false c.is_in_range-left.ensures
    c.if-not-left.true

pub returns-then-not-left-clause-edges_after : goal.returns-then-not-left-clause-edges_after
returns-then-not-left-clause-edges_after c =
    put_back c.requires c.args.contour.now.as_many c.view_of.ensures c.tile_side.ensures c.depth_of.ensures c.sign.ensures
    (sym c.is_in_range-before.ensures ∙ c.if-not-before.false) c.add_contour.ensures c.taken_out.ensures c.if-taken_out-recorded.false c.is_in_range-left.ensures
    c.add_contour-then-not-left.ensures c.if-not-left.true

pub returns-clause-value : goal.returns-clause-value
returns-clause-value c =
    accepted_there c.requires c.args.contour.now.as_many c.view_of.ensures c.tile_side.ensures c.depth_of.ensures c.sign.ensures
    (sym c.is_in_range-before.ensures ∙ c.if-not-before.false) c.add_contour.ensures c.taken_out.ensures c.if-taken_out-recorded.false c.is_in_range-left.ensures
    c.if-not-left.false

pub returns-clause-edges_after : goal.returns-clause-edges_after
returns-clause-edges_after c =
    stays c.requires c.args.contour.now.as_many c.view_of.ensures c.tile_side.ensures c.depth_of.ensures c.sign.ensures
    (sym c.is_in_range-before.ensures ∙ c.if-not-before.false) c.add_contour.ensures c.taken_out.ensures c.if-taken_out-recorded.false c.is_in_range-left.ensures
    c.edges_after.ensures c.if-not-left.false
