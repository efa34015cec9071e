-- The way back along an edge adds the opposite to every entry: so to take an edge out is to add the way back.
--
-- Main results
--   seen_in_view                 an edge in view is one that the functions may be given, as the tile has it
--   turned_seen                  and so is the way back along it
--   turned_entry                 what is added is the edge's part, with the sign
use Rattle.std.specs.Prelude.{◌≡◌, refl, [], ◌∷◌, ℕ, zero, suc, ◌^◌, ◌<◌, ◌≤◌, get_or, ℤ, pos, negsuc, neg_ℤ, ◌*ℤ◌}
use Rattle.std.proofs.Common.{sym, ◌∙◌, ap, arith}
use Rattle.std.proofs.Math.Decide.{dec_lt}
use Rattle.std.proofs.Math.ListN.{get_or-eq_default}
use Rattle.integers.proofs.Theorems.Ring.{read, ring}
use Rattle.integers.proofs.Theorems.Order.{nonneg}
use Rattle.integers.proofs.Theorems.Linear.{le, ◌&◌, linear, lin⊥}
use Rattle.integers.specs.Within.{Within}
use Rattle.integers.proofs.Theorems.Within.{within_is, within_neg}
use Rattle.edge.specs.declared.Edge.{Edge}
use Rattle.edge.specs.declared.Details.{Details}
use Rattle.edge.specs.declared.Cell.{Cell as Square}
use Rattle.edge.specs.Rounded.{details}
use Rattle.edge.specs.Nested.{OnCell}
use Rattle.edge.proofs.Laws.Reversal.{reverse, opposite, details-reverse, rounded_area-reverse, root-reverse}
use Rattle.haar.specs.Cells.{Cell, children}
use Rattle.haar.specs.Table.{Coefficients}
use Rattle.haar.specs.Entries.{entries}
use Rattle.haar.specs.Plane.{dimensions}
use Rattle.haar.proofs.Laws.Layout.{index-onto}
use Rattle.haar.proofs.Laws.Entries.{entries-length, entries-root, entries_detail}
use Rattle.accuracy.specs.ExactDetails.{numbered}
use Rattle.accuracy.specs.Tile.{square, tile}
use Rattle.rasterize.specs.declared.View.{View}
use Rattle.rasterize.specs.declared.View.TheVariants.{Alone, From}
use Rattle.rasterize.specs.Added.{entry_of}
use Rattle.rasterize.specs.Ready.{OnSheet}
use Rattle.rasterize.specs.Views.{seen_by, root_part, InView, Seen, seen_table, turned_by}

pub seen_in_view : {view : View} {depth : ℕ} {e : Edge} → InView view depth e → Seen view depth (seen_by view e)
seen_in_view v = record { on_sheet = v.on_sheet; small = v.small }

-- ---- the way back
-- its part of the root, and its details in every cell
root-back : (view : View) (depth : ℕ) (e : Edge) → root_part view depth (reverse e) ≡ neg_ℤ (root_part view depth e)
root-back Alone depth e = root-reverse e
root-back (From corner) depth e = rounded_area-reverse e (tile depth)

numbered-opposite : (w : Details) (k : ℕ) → numbered (opposite w) k ≡ neg_ℤ (numbered w k)
unfolding numbered
numbered-opposite w zero = refl
numbered-opposite w (suc zero) = refl
numbered-opposite w (suc (suc zero)) = refl
numbered-opposite w (suc (suc (suc zero))) = refl
numbered-opposite w (suc (suc (suc (suc k)))) = refl

detail_back : (view : View) (depth : ℕ) (e : Edge) (j : ℕ) (cell : Cell dimensions) (k : ℕ) → (seen_table view depth (reverse e)).detail j cell k ≡ neg_ℤ ((seen_table view depth e).detail j cell k)
detail_back view depth e j cell k = ap (λ w. numbered w k) (details-reverse e (square depth j cell)) ∙ numbered-opposite (details e (square depth j cell)) k

-- entry i is the root, a detail, or past the end
entry_back : (view : View) (depth : ℕ) (e : Edge) (i : ℕ) → entry_of depth (seen_table view depth (reverse e)) i ≡ neg_ℤ (entry_of depth (seen_table view depth e) i)
entry_back view depth e i = elim (dec_lt i (children dimensions ^ depth)) [ yes h ↦ inside i h | no h ↦ past (omega arith) ]
  where
    each : (i : ℕ) (pick : Coefficients dimensions → ℤ) → ((t : Coefficients dimensions) → entry_of depth t i ≡ pick t)
        → pick (seen_table view depth (reverse e)) ≡ neg_ℤ (pick (seen_table view depth e))
        → entry_of depth (seen_table view depth (reverse e)) i ≡ neg_ℤ (entry_of depth (seen_table view depth e) i)
    each i pick entry back = entry (seen_table view depth (reverse e)) ∙ back ∙ ap neg_ℤ (sym (entry (seen_table view depth e)))

    past : children dimensions ^ depth ≤ i → entry_of depth (seen_table view depth (reverse e)) i ≡ neg_ℤ (entry_of depth (seen_table view depth e) i)
    past h = each i (λ t. pos 0) (λ t. get_or-eq_default (entries dimensions depth t) (pos 0) {n = i} (omega (arith, entries-length dimensions depth t))) refl

    inside : (i : ℕ) → i < children dimensions ^ depth → entry_of depth (seen_table view depth (reverse e)) i ≡ neg_ℤ (entry_of depth (seen_table view depth e) i)
    inside zero h = each 0 (λ t. t.root) (entries-root dimensions depth) (root-back view depth e)
    inside (suc i) h =
        let d = index-onto dimensions depth (suc i) (omega arith) h in
        each (suc i) (λ t. t.detail d.level d.cell d.number)
        (λ t. ap (λ p. get_or (entries dimensions depth t) p (pos 0)) d.at ∙ entries_detail t d.below d.is_detail)
        (detail_back view depth e d.level d.cell d.number)

-- ---- with a sign
reverse_on : {s : Square} {e : Edge} → OnCell s e → OnCell s (reverse e)
reverse_on o = record { x0 = o.x1; y0 = o.y1; x1 = o.x0; y1 = o.y0 }

reverse_on_sheet : {left : ℕ} {s : Square} {e : Edge} → OnSheet e left s → OnSheet (reverse e) left s
reverse_on_sheet p = record {
  sheet = p.sheet;
  is_sheet = p.is_sheet;
  edge_on = reverse_on p.edge_on;
  square_on = p.square_on;
  narrow = p.narrow;
  finest = p.finest;
  halves = p.halves;
}

pub turned_seen : {view : View} {depth : ℕ} {e : Edge} (sign : ℤ) → Seen view depth e → Seen view depth (turned_by sign e)
turned_seen (pos n) v = v
turned_seen {view} {depth} {e} (negsuc n) v = record {
  on_sheet = reverse_on_sheet v.on_sheet;
  small = record {
    root_within = within_is refl (sym (root-back view depth e)) (within_neg v.small.root_within);
    detail_within = λ j h cell b k f l. within_is refl (sym (detail_back view depth e j cell k)) (within_neg (v.small.detail_within j h cell b k f l));
  };
}

pub turned_entry : (view : View) (depth : ℕ) (e : Edge) (sign : ℤ) → Within (pos 1) sign → (sign ≡ pos 0 → ⊥) → (i : ℕ)
    → entry_of depth (seen_table view depth (turned_by sign e)) i ≡ sign *ℤ entry_of depth (seen_table view depth e) i
turned_entry view depth e (pos zero) w n i = absurd (n refl)
turned_entry view depth e (pos (suc zero)) w n i = ring (entry_of depth (seen_table view depth e) i ∷ []) (search read depth 40) tt
turned_entry view depth e (pos (suc (suc k))) w n i = absurd (lin⊥ (pos k ∷ []) (le w.high & le (nonneg k)) (search linear depth 40) tt)
turned_entry view depth e (negsuc zero) w n i = entry_back view depth e i ∙ ring (entry_of depth (seen_table view depth e) i ∷ []) (search read depth 40) tt
turned_entry view depth e (negsuc (suc k)) w n i = absurd (lin⊥ (pos k ∷ []) (le w.low & le (nonneg k)) (search linear depth 40) tt)
