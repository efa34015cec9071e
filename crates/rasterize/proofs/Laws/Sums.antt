-- Laws of what specs/Laws/Sums.antt defines. The head of that file lists the main results.
use Rattle.std.specs.Prelude.{◌≡◌, refl, List, [], ◌∷◌, ◌++◌, ℕ, zero, suc, ◌*◌, ◌^◌, ◌<◌, ◌≤◌, length, get_or, ℤ, pos, ◌+ℤ◌}
use Rattle.std.proofs.Common.{sym, ◌∙◌, ap, ap₂, arith}
use Rattle.std.proofs.Math.Decide.{dec_lt}
use Rattle.std.proofs.Math.ListN.{get_or-eq_default}
use Rattle.integers.specs.Units.{detail_limit}
use Rattle.integers.proofs.Theorems.Ring.{read, ring}
use Rattle.integers.specs.Within.{Within}
use Rattle.integers.proofs.Theorems.Within.{within_is}
use Rattle.integers.specs.ListSum.{All, total}
use Rattle.integers.proofs.Theorems.ListSum.{all_of, all_map, total_cong, total_const, total_append, total_bounded}
use Rattle.edge.specs.declared.Edge.{Edge}
use Rattle.haar.specs.Cells.{children}
use Rattle.haar.specs.Table.{Coefficients}
use Rattle.haar.specs.Entries.{entries}
use Rattle.haar.specs.Plane.{dimensions}
use Rattle.haar.proofs.Laws.Layout.{index-onto}
use Rattle.haar.proofs.Laws.Entries.{entries-length, entries-root, entries_detail, entries_within}
use Rattle.rasterize.specs.declared.View.{View}
use Rattle.rasterize.specs.Added.{added, entry_of}
use Rattle.rasterize.specs.Views.{part_table, view_table, InView}
use Rattle.rasterize.proofs.Laws.Adding.{added-signed, added_nothing}
use Rattle.rasterize.specs.Laws.Sums.{edges_part}

-- ---- sums
-- Entry i is the root, a detail, or past the end, of whatever table; and of an outline's table each of these is a sum over the edges.
pub entry_of-total : (view : View) (depth : ℕ) (es : List Edge) (i : ℕ) → entry_of depth (view_table view depth es) i ≡ total (λ e. entry_of depth (part_table view depth e) i) es
entry_of-total view depth es i = elim (dec_lt i (children dimensions ^ depth)) [ yes h ↦ inside i h | no h ↦ past (omega arith) ]
  where
    each : (i : ℕ) (pick : Coefficients dimensions → ℤ) → ((t : Coefficients dimensions) → entry_of depth t i ≡ pick t)
        → pick (view_table view depth es) ≡ total (λ e. pick (part_table view depth e)) es
        → entry_of depth (view_table view depth es) i ≡ total (λ e. entry_of depth (part_table view depth e) i) es
    each i pick entry sum =
        entry (view_table view depth es) ∙ sum
        ∙ total_cong (λ e. pick (part_table view depth e)) (λ e. entry_of depth (part_table view depth e) i) es (all_of (λ e. sym (entry (part_table view depth e))) es)

    past : children dimensions ^ depth ≤ i → entry_of depth (view_table view depth es) i ≡ total (λ e. entry_of depth (part_table view depth e) i) es
    past h =
        each i (λ t. pos 0) (λ t. get_or-eq_default (entries dimensions depth t) (pos 0) {n = i} (omega (arith, entries-length dimensions depth t)))
        (sym (total_const (pos 0) es ∙ ring (pos (length es) ∷ []) (search read depth 40) tt))

    inside : (i : ℕ) → i < children dimensions ^ depth
        → entry_of depth (view_table view depth es) i ≡ total (λ e. entry_of depth (part_table view depth e) i) es
    inside zero h = each 0 (λ t. t.root) (entries-root dimensions depth) refl
    inside (suc i) h =
        let d = index-onto dimensions depth (suc i) (omega arith) h in
        each (suc i) (λ t. t.detail d.level d.cell d.number)
        (λ t. ap (λ p. get_or (entries dimensions depth t) p (pos 0)) d.at ∙ entries_detail t d.below d.is_detail) refl

pub entry_of_append : (view : View) (depth : ℕ) (es fs : List Edge) (i : ℕ)
    → entry_of depth (view_table view depth (es ++ fs)) i ≡ entry_of depth (view_table view depth es) i +ℤ entry_of depth (view_table view depth fs) i
entry_of_append view depth es fs i =
    entry_of-total view depth (es ++ fs) i ∙ total_append (λ e. entry_of depth (part_table view depth e) i) es fs
    ∙ sym (ap₂ ◌+ℤ◌ (entry_of-total view depth es i) (entry_of-total view depth fs i))

module _ (view : View) (depth : ℕ) (sign : ℤ) (t : List ℤ) where
  pub added_append : (es fs : List Edge) → added t (edges_part view depth sign (es ++ fs)) ≡ added (added t (edges_part view depth sign es)) (edges_part view depth sign fs)
  added_append es fs =
      sym (added-signed t sign (entry_of depth (view_table view depth es)) (entry_of depth (view_table view depth fs)) (entry_of depth (view_table view depth (es ++ fs)))
      (λ i h. sym (entry_of_append view depth es fs i)))

  pub added_no_edges : added t (edges_part view depth sign []) ≡ t
  unfolding total
  added_no_edges = added_nothing t sign (entry_of depth (view_table view depth [])) (entry_of-total view depth [])

-- ---- sizes
pub edge_entry_within : {view : View} {depth : ℕ} {e : Edge} → InView view depth e → (i : ℕ) → Within (pos detail_limit) (entry_of depth (part_table view depth e) i)
edge_entry_within {view} {depth} {e} v i = entries_within dimensions depth detail_limit (part_table view depth e) v.small i

pub outline_entry_within : (view : View) (depth : ℕ) (es : List Edge) → All (InView view depth) es → (i : ℕ)
    → Within (pos (length es * detail_limit)) (entry_of depth (view_table view depth es) i)
outline_entry_within view depth es on i =
    within_is refl (sym (entry_of-total view depth es i))
    (total_bounded detail_limit (λ e. entry_of depth (part_table view depth e) i) es (all_map (λ e v. edge_entry_within v i) es on))
