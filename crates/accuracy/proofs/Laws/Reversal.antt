-- Reversed edges, in whatever order, have the opposite table, and opposite exact areas. The edges of an outline with each contour's points backwards are
-- such edges; and of one contour, those of one that is walked the other way from any of its points.
--
-- Definitions
--   EdgesReversed es fs           the edges fs are the edges es, each walked backwards, in whatever order
-- Main results
--   table_from-reversed           edges that are reversed, in whatever order, have the opposite table, where the root is opposite
--   outline_table-reversed        so it is with the signed area
--   length-reversed               they are as many
--   denominator-reversed,
--   exact_area_reversed           and have opposite exact areas, over the same denominator
--   tile_root-reversed,
--   tile_table-reversed           the root of a tile of a sheet is opposite too, and so is its table
--   from_tile-reversed            as they are seen from such a tile, the edges are reversed too
--   contour_edges_rotate          a contour that begins at another of its points has the same edges, in another order
--   contour_edges-back            a contour walked the other way from its first point: its edges reversed, in another order
--   contour_edges-reverse         the same of its points backwards, so that the first comes last
--   outline_edges-reverse         each contour of an outline backwards
--   outline_reversed              so an outline with the points of each contour backwards has the opposite table
use Rattle.std.specs.Prelude.{◌≡◌, refl, ℕ, length, ℤ, negsuc, neg_ℤ, ◌*ℤ◌}
use Rattle.std.proofs.Common.{sym, ◌∙◌, ap, ap₂, subst, subst₂}
use Rattle.std.proofs.Math.Path.{fun_ext}
use mathlib.Core.List.{List, [], ◌∷◌, ◌++◌, map, map-append, map-map, append_assoc, append-nil, reverse as backwards, reverse-cons}
use mathlib.Core.List.Perm
use mathlib.Core.List.{Perm}
use Rattle.std.proofs.lemmas.List.{length-map}
use Rattle.integers.proofs.Theorems.Ring.{read, ring}
use Rattle.integers.specs.Fraction.{common, numer}
use Rattle.integers.proofs.Theorems.Fraction.{common_perm, common-map, numer_scale, numer_perm, numer-map}
use Rattle.integers.proofs.Theorems.ListSum.{all_of, length_perm, total_cong, total-neg, total_perm, total-map}
use Rattle.integers.specs.ListSum.{total}
use Rattle.edge.specs.declared.Edge.{Edge}
use Rattle.edge.specs.declared.Cell.{Cell as Square}
use Rattle.edge.specs.Walk.{steps}
use Rattle.edge.specs.Integrals.{area_num}
use Rattle.edge.specs.Rounded.{details, root_term, rounded_area}
use Rattle.edge.specs.Nested.{seen_from}
use Rattle.edge.proofs.Laws.Reversal.{reverse, steps-reverse, area_reverse, details-reverse, rounded_area-reverse, root-reverse}
use Rattle.haar.specs.Cells.{Cell}
use Rattle.haar.specs.Table.{negated}
use Rattle.haar.specs.Plane.{dimensions}
use Rattle.accuracy.specs.Outline.{Point, edge_between, through, contour_edges, outline_edges, signed_area}
use Rattle.accuracy.specs.Tile.{square, tile}
use Rattle.accuracy.specs.ExactArea.{denominator, exact_area_num}
use Rattle.accuracy.specs.ExactDetails.{numbered}
use Rattle.accuracy.specs.OutlineTable.{edge_table, outline_table, table_from, tile_root, tile_table}
use Rattle.accuracy.specs.Sheet.{corner, from_tile}
use Rattle.accuracy.proofs.Laws.Numbered.{numbered_each}

abbrev pub EdgesReversed : List Edge → List Edge → Type 0
EdgesReversed es fs = Perm fs (map reverse es)

-- ---- every edge reversed
numbered-reverse : (e : Edge) (s : Square) (k : ℕ) → numbered (details (reverse e) s) k ≡ neg_ℤ (numbered (details e s) k)
numbered-reverse e s k = ap (λ w. numbered w k) (details-reverse e s) ∙ numbered_each neg_ℤ refl (details e s) k

total-reversed : (f : Edge → ℤ) → ((e : Edge) → f (reverse e) ≡ neg_ℤ (f e)) → (es : List Edge) {fs : List Edge} → EdgesReversed es fs
    → total f fs ≡ neg_ℤ (total f es)
total-reversed f h es p =
    total_perm f p ∙ total-map f reverse es ∙ total_cong (λ e. f (reverse e)) (λ e. neg_ℤ (f e)) es (all_of h es) ∙ total-neg f es

pub table_from-reversed : (root : ℤ) (depth : ℕ) (es : List Edge) {fs : List Edge} → EdgesReversed es fs
    → table_from (neg_ℤ root) depth fs ≡ negated (table_from root depth es)
table_from-reversed root depth es p =
    ap (λ d. record { root = neg_ℤ root; detail = d })
    (fun_ext λ j. fun_ext λ cell. fun_ext λ k. total-reversed (λ e. (edge_table depth e).detail j cell k) (λ e. numbered-reverse e (square depth j cell) k) es p)

pub outline_table-reversed : (depth : ℕ) (es : List Edge) {fs : List Edge} → EdgesReversed es fs → outline_table depth fs ≡ negated (outline_table depth es)
outline_table-reversed depth es {fs} p =
    ap (λ r. table_from r depth fs) (total-reversed root_term root-reverse es p) ∙ table_from-reversed (signed_area es) depth es p

module _ (es : List Edge) {fs : List Edge} (p : EdgesReversed es fs) where
  pub length-reversed : length fs ≡ length es
  length-reversed = length_perm p ∙ length-map es reverse

  pub denominator-reversed : denominator fs ≡ denominator es
  denominator-reversed = common_perm steps p ∙ common-map steps reverse es ∙ ap (λ N. common N es) (fun_ext steps-reverse)

  pub exact_area_reversed : (depth level : ℕ) (cell : Cell dimensions) → exact_area_num depth fs level cell ≡ neg_ℤ (exact_area_num depth es level cell)
  exact_area_reversed depth level cell =
      let part : Edge → ℤ = λ e. area_num e (square depth level cell) in
      let back : (e : Edge) → part (reverse e) ≡ negsuc 0 *ℤ part e =
      λ e. area_reverse e (square depth level cell) ∙ ring (part e ∷ []) (search read depth 40) tt in
      numer_perm steps part p ∙ numer-map steps reverse part es
      ∙ ap₂ (λ N f. numer N f es) (fun_ext steps-reverse) (fun_ext back)
      ∙ numer_scale steps (negsuc 0) part es
      ∙ ring (exact_area_num depth es level cell ∷ []) (search read depth 40) tt

-- ---- on a tile of a sheet
pub tile_root-reversed : (depth : ℕ) (es : List Edge) {fs : List Edge} → EdgesReversed es fs → tile_root depth fs ≡ neg_ℤ (tile_root depth es)
tile_root-reversed depth es p = total-reversed (λ e. rounded_area e (tile depth)) (λ e. rounded_area-reverse e (tile depth)) es p

pub tile_table-reversed : (depth : ℕ) (es : List Edge) {fs : List Edge} → EdgesReversed es fs → tile_table depth fs ≡ negated (tile_table depth es)
tile_table-reversed depth es {fs} p =
    ap (λ r. table_from r depth fs) (tile_root-reversed depth es p) ∙ table_from-reversed (tile_root depth es) depth es p

pub from_tile-reversed : (depth tx ty : ℕ) (es : List Edge) {fs : List Edge} → EdgesReversed es fs
    → EdgesReversed (from_tile depth tx ty es) (from_tile depth tx ty fs)
from_tile-reversed depth tx ty es {fs} p =
    let see : Edge → Edge = seen_from (corner depth tx) (corner depth ty) in
    subst (λ (l : List Edge). Perm (map see fs) l) (map-map see reverse es ∙ sym (map-map reverse see es)) (Perm.map see p)

-- ---- every contour walked the other way
-- the last of the points between comes by itself: an edge leads on from it, and the others lead to it
through_last : (p : Point) (qs : List Point) (q last : Point) → Perm (through p (qs ++ (q ∷ [])) last) (edge_between q last ∷ through p qs q)
unfolding through
through_last p [] q last = Perm.swap (edge_between q last) (edge_between p q) []
through_last p (r ∷ qs) q last =
    Perm.trans (Perm.cons (edge_between p r) (through_last r qs q last)) (Perm.swap (edge_between q last) (edge_between p r) (through r qs q))

through-reverse : (p : Point) (qs : List Point) (last : Point) → Perm (through last (backwards qs) p) (map reverse (through p qs last))
unfolding through
through-reverse p [] last = Perm.refl (edge_between last p ∷ [])
through-reverse p (q ∷ qs) last =
    rw (reverse-cons q qs) (Perm.trans (through_last last (backwards qs) q p) (Perm.cons (edge_between q p) (through-reverse q qs last)))

-- a contour has the same edges if it begins at its last point
contour_edges_last : (qs : List Point) (p : Point) → Perm (contour_edges (qs ++ (p ∷ []))) (contour_edges (p ∷ qs))
unfolding contour_edges through
contour_edges_last [] p = Perm.refl (through p [] p)
contour_edges_last (q ∷ qs) p = through_last q qs p q

pub contour_edges-back : (p : Point) (ps : List Point) → EdgesReversed (contour_edges (p ∷ ps)) (contour_edges (p ∷ backwards ps))
unfolding contour_edges
contour_edges-back p ps = through-reverse p ps p

pub contour_edges-reverse : (ps : List Point) → EdgesReversed (contour_edges ps) (contour_edges (backwards ps))
unfolding contour_edges
contour_edges-reverse [] = Perm.nil
contour_edges-reverse (p ∷ ps) = rw (reverse-cons p ps) (Perm.trans (contour_edges_last (backwards ps) p) (contour_edges-back p ps))

-- point by point, the first becomes the last
pub contour_edges_rotate : (ps qs : List Point) → Perm (contour_edges (ps ++ qs)) (contour_edges (qs ++ ps))
contour_edges_rotate [] qs = rw (append-nil qs) (Perm.refl (contour_edges qs))
contour_edges_rotate (p ∷ ps) qs =
    Perm.trans (Perm.symm (contour_edges_last (ps ++ qs) p))
    (subst₂ (λ k l. Perm (contour_edges k) (contour_edges l)) (sym (append_assoc ps qs (p ∷ []))) (append_assoc qs (p ∷ []) ps)
    (contour_edges_rotate ps (qs ++ (p ∷ []))))

pub outline_edges-reverse : (cs : List (List Point)) → EdgesReversed (outline_edges cs) (outline_edges (map backwards cs))
unfolding outline_edges
outline_edges-reverse [] = Perm.nil
outline_edges-reverse (c ∷ cs) =
    rw (map-append reverse (contour_edges c) (outline_edges cs)) (Perm.append (contour_edges-reverse c) (outline_edges-reverse cs))

pub outline_reversed : (depth : ℕ) (cs : List (List Point))
    → outline_table depth (outline_edges (map backwards cs)) ≡ negated (outline_table depth (outline_edges cs))
outline_reversed depth cs = outline_table-reversed depth (outline_edges cs) (outline_edges-reverse cs)
