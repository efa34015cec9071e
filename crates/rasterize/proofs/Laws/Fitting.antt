-- Room for edges: what `Fits` counts down, one for each edge that is added or taken out.
--
-- Main results
--   fits_le                      room for more edges is room for fewer
--   fits-added                   what is left of it after additions of m edges' size
--   fits-edge, fits_edges        what is left of it after one edge, and after all edges of a list
use Rattle.std.proofs.Common.{◌∙◌, subst, arith}
use Rattle.std.specs.Prelude.{List, ℕ, ◌+◌, ◌*◌, ◌≤◌, length, ℤ, pos, ◌*ℤ◌}
use Rattle.integers.specs.Units.{greatest_depth, detail_limit}
use Rattle.integers.specs.Within.{Within}
use Rattle.integers.specs.ListSum.{All}
use Rattle.edge.specs.declared.Edge.{Edge}
use Rattle.rasterize.specs.declared.View.{View}
use Rattle.rasterize.specs.Added.{added, entry_of}
use Rattle.rasterize.specs.Views.{part_table, InView}
use Rattle.rasterize.specs.Ready.{visits, Spare, Fits}
use Rattle.rasterize.proofs.Laws.Adding.{added-length}
use Rattle.rasterize.proofs.Laws.Spare.{spare_le, spare_added, signed_within}
use Rattle.rasterize.specs.Laws.Sums.{edges_part}
use Rattle.rasterize.proofs.Laws.Sums.{edge_entry_within, outline_entry_within}

pub fits_le : {t : List ℤ} {depth m n : ℕ} → n ≤ m → Fits t depth m → Fits t depth n
fits_le h f = record { shallow = f.shallow; exact = f.exact; spare = spare_le (omega arith) f.spare }

pub fits-added : {t : List ℤ} {depth : ℕ} (m n : ℕ) (g : ℕ → ℤ) → ((i : ℕ) → Within (pos (m * detail_limit)) (g i)) → Fits t depth (m + n)
    → Fits (added t g) depth n
fits-added {t} m n g w f = record {
  shallow = f.shallow;
  exact = added-length t g ∙ f.exact;
  spare = spare_added m (n + visits greatest_depth) g (λ i h. w i) (subst (Spare t) (omega arith) f.spare);
}

module _ {t : List ℤ} {depth : ℕ} {sign : ℤ} (s : Within (pos 1) sign) where
  pub fits-edge : {view : View} {e : Edge} (n : ℕ) → InView view depth e → Fits t depth (1 + n) → Fits (added t (λ i. sign *ℤ entry_of depth (part_table view depth e) i)) depth n
  fits-edge {view} {e} n v f = fits-added 1 n (λ i. sign *ℤ entry_of depth (part_table view depth e) i) (λ i. signed_within s (edge_entry_within v i)) f

  pub fits_edges : (view : View) (es : List Edge) (n : ℕ) → All (InView view depth) es → Fits t depth (length es + n) → Fits (added t (edges_part view depth sign es)) depth n
  fits_edges view es n on f = fits-added (length es) n (edges_part view depth sign es) (λ i. signed_within s (outline_entry_within view depth es on i)) f
