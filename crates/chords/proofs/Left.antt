-- Edges that are left to add to a table: they go down to none, and the table that they come to stays.
--
-- Main results
--   Left                         edges es are left to add to a table, which then is `end`
--   left_start, left_none        all of them; none
--   left-fits, left_in           what the first of them ask for: room, and that they are in view
--   left_next                    the others are left once these are added
--   one_edge                     what adding one edge leaves
use mathlib.Core.Path.{◌≡◌, refl, sym, ◌∙◌, ap, subst}
use mathlib.Core.List.{List, [], ◌∷◌, ◌++◌}
use Prim.Native.Nat.{ℕ}
use native.Mathlib.Omega.{arith}
use lib.ListN.{length, length-append}
use lib.IntN.{ℤ, pos, ◌+ℤ◌, ◌*ℤ◌}
use Rattle.integers.proofs.Theorems.Ring.{read, ring}
use Rattle.integers.specs.Within.{Within}
use Rattle.integers.specs.ListSum.{All, total}
use Rattle.integers.proofs.Theorems.ListSum.{all_front, all_back}
use Rattle.edge.specs.declared.Edge.{Edge}
use Rattle.rasterize.specs.declared.View.{View}
use Rattle.rasterize.specs.Added.{added, entry_of}
use Rattle.rasterize.specs.Ready.{Fits}
use Rattle.rasterize.specs.Views.{part_table, InView}
use Rattle.rasterize.proofs.Laws.Adding.{added_same}
use Rattle.rasterize.specs.Laws.Sums.{edges_part}
use Rattle.rasterize.proofs.Laws.Sums.{entry_of-total, added_append, added_no_edges}
use Rattle.rasterize.proofs.Laws.Fitting.{fits_le, fits_edges}

pub record Left (view : View) (depth : ℕ) (sign : ℤ) (end table : List ℤ) (es : List Edge) : Type 0 where
  pub ends : end ≡ added table (edges_part view depth sign es)
  pub fits : Fits table depth (length es)
  pub in_view : All (InView view depth) es

module _ {view : View} {depth : ℕ} {sign : ℤ} where
  pub left_start : {table : List ℤ} {es : List Edge} → Fits table depth (length es) → All (InView view depth) es
      → Left view depth sign (added table (edges_part view depth sign es)) table es
  left_start f v = record { ends = refl; fits = f; in_view = v }

  pub left_none : {end table : List ℤ} → Left view depth sign end table [] → table ≡ end
  left_none {end} {table} l = sym (l.ends ∙ added_no_edges view depth sign table)

  module _ {end table : List ℤ} (es fs : List Edge) (l : Left view depth sign end table (es ++ fs)) where
    pub left-fits : Fits table depth (length es)
    left-fits = fits_le (omega (arith, length-append es fs)) l.fits

    pub left_in : All (InView view depth) es
    left_in = all_front (InView view depth) es fs l.in_view

    pub left_next : {after : List ℤ} → Within (pos 1) sign → after ≡ added table (edges_part view depth sign es) → Left view depth sign end after fs
    left_next {after} s e = record {
      ends = l.ends ∙ added_append view depth sign table es fs ∙ ap (λ t. added t (edges_part view depth sign fs)) (sym e);
      fits = subst (λ t. Fits t depth (length fs)) (sym e)
          (fits_edges s view es (length fs) left_in (subst (λ n. Fits table depth n) (length-append es fs) l.fits));
      in_view = all_back (InView view depth) es fs l.in_view;
    }

pub one_edge : (view : View) (depth : ℕ) (sign : ℤ) (t : List ℤ) (e : Edge)
    → added t (λ i. sign *ℤ entry_of depth (part_table view depth e) i) ≡ added t (edges_part view depth sign (e ∷ []))
unfolding total
one_edge view depth sign t e =
    added_same t (λ i. sign *ℤ entry_of depth (part_table view depth e) i) (edges_part view depth sign (e ∷ []))
    (λ i h. ap (λ z. sign *ℤ z) (plain (entry_of depth (part_table view depth e) i) ∙ sym (entry_of-total view depth (e ∷ []) i)))
  where
    plain : (x : ℤ) → x ≡ x +ℤ pos 0
    plain x = ring (x ∷ []) (search read depth 40) tt
