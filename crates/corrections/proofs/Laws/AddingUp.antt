-- Contours whose values add up to a table, whatever kind of contours they are: all that is known of one is a number for each entry, `part c i`, and how
-- many edges it has, `size c`. So this does not depend on how edges are made of a contour, or on where the tile lies.
--
-- Main results
--   AddsUp                       the tile's table is the sum of the contours' values, and its record the sum of their edges
--   adds_up_none                 of no contour, a table of zeros and 0
--   adds_up_put, adds_up_taken   a contour put in; one taken out
--   adds_up_perm                 the order does not matter
use Rattle.std.specs.Prelude.{◌≡◌, ℕ, ◌+◌, ◌-◌, replicate, ℤ, ◌+ℤ◌, ◌*ℤ◌}
use Rattle.std.proofs.Math.Path.{refl}
use Rattle.std.proofs.Common.{◌∙◌, ap, arith}
use mathlib.Core.List.{List, [], ◌∷◌, Perm}
use Rattle.std.proofs.Math.IntN.{pos, negsuc}
use Rattle.integers.proofs.Theorems.Ring.{read, ring}
use Rattle.integers.specs.ListSum.{total, tally}
use Rattle.integers.proofs.Theorems.ListSum.{total_perm, tally_perm}
use Rattle.rasterize.specs.Added.{added}
use Rattle.rasterize.proofs.Laws.Adding.{added-added, added_same, added_unique}
use Rattle.corrections.specs.Corrections.{Tile, tile_of}

pub record AddsUp {C : Type 0} (cells : ℕ) (part : C → ℕ → ℤ) (size : C → ℕ) (cs : List C) (t : Tile) : Type 0 where
  pub table_is : t.table ≡ added (replicate cells (pos 0)) (λ i. total (λ c. part c i) cs)
  pub edges_is : t.edges ≡ tally size cs

module _ {C : Type 0} (cells : ℕ) (part : C → ℕ → ℤ) (size : C → ℕ) where
  abbrev zeros : List ℤ
  zeros = replicate cells (pos 0)

  abbrev sum : List C → ℕ → ℤ
  sum cs i = total (λ c. part c i) cs

  pub adds_up_none : AddsUp cells part size [] (tile_of zeros 0)
  unfolding total tally
  adds_up_none = record { table_is = added_unique zeros zeros (λ i. pos 0) refl (λ i h. plain _); edges_is = refl }
    where
      plain : (x : ℤ) → x ≡ x +ℤ pos 0
      plain x = ring (x ∷ []) (search read depth 40) tt

  -- what is added to a sum makes another
  table_next : (cs : List C) {table : List ℤ} (more after : ℕ → ℤ) → table ≡ added zeros (sum cs) → ((i : ℕ) → sum cs i +ℤ more i ≡ after i)
      → added table more ≡ added zeros after
  table_next cs more after e f =
      ap (λ l. added l more) e ∙ added-added zeros (sum cs) more ∙ added_same zeros (λ i. sum cs i +ℤ more i) after (λ i h. f i)

  pub adds_up_put : {cs : List C} {t : Tile} (c : C) → AddsUp cells part size cs t
      → AddsUp cells part size (c ∷ cs) (tile_of (added t.table (λ i. pos 1 *ℤ part c i)) (t.edges + size c))
  unfolding total tally
  adds_up_put {cs} c a = record {
    table_is = table_next cs (λ i. pos 1 *ℤ part c i) (sum (c ∷ cs)) a.table_is (λ i. swap (sum cs i) (part c i));
    edges_is = omega (arith, a.edges_is);
  }
    where
      swap : (x y : ℤ) → x +ℤ pos 1 *ℤ y ≡ y +ℤ x
      swap x y = ring (x ∷ y ∷ []) (search read depth 40) tt

  pub adds_up_taken : {others : List C} {t : Tile} (c : C) → AddsUp cells part size (c ∷ others) t
      → AddsUp cells part size others (tile_of (added t.table (λ i. negsuc 0 *ℤ part c i)) (t.edges - size c))
  unfolding total tally
  adds_up_taken {others} c a = record {
    table_is = table_next (c ∷ others) (λ i. negsuc 0 *ℤ part c i) (sum others) a.table_is (λ i. without (part c i) (sum others i));
    edges_is = omega (arith, a.edges_is);
  }
    where
      without : (x y : ℤ) → x +ℤ y +ℤ negsuc 0 *ℤ x ≡ y
      without x y = ring (x ∷ y ∷ []) (search read depth 40) tt

  pub adds_up_perm : {cs ds : List C} {t : Tile} → Perm cs ds → AddsUp cells part size cs t → AddsUp cells part size ds t
  adds_up_perm {cs} {ds} p a = record {
    table_is = a.table_is ∙ added_same zeros (sum cs) (sum ds) (λ i h. total_perm (λ c. part c i) p);
    edges_is = a.edges_is ∙ tally_perm size p;
  }
