-- A table with every entry of the opposite sign, as that of a letter traced the other way round: its figures are opposite, and its greys the same.
--
-- Main results
--   entry_opposite               each entry is opposite
--   figure-opposite              each figure is opposite
--   figures_opposite             a picture of figures is opposite
--   greys_opposite               a picture of greys is the same
--   entries-opposite             opposite coefficients have opposite entries
use Rattle.std.specs.Prelude.{◌≡◌, List, [], ◌∷◌, map, ℕ, ◌^◌, get_or, ℤ, pos, negsuc, neg_ℤ, ◌+ℤ◌, ◌*ℤ◌}
use Rattle.std.proofs.Common.{sym, ◌∙◌, ap, ap₂}
use Rattle.std.proofs.Math.Path.{fun_ext}
use Rattle.std.proofs.lemmas.List.{length-map}
use Rattle.std.proofs.Math.ListN.{get_or-map}
use Rattle.integers.proofs.Theorems.Ring.{read, ring}
use Rattle.haar.specs.Cells.{children, Cell, cell_at}
use Rattle.haar.specs.Table.{Coefficients, index, stored, negated}
use Rattle.haar.specs.Figures.{figure}
use Rattle.haar.specs.Pictures.{tabulate, picture}
use Rattle.haar.specs.Greys.{grey_of}
use Rattle.haar.specs.Entries.{entries}
use Rattle.haar.proofs.Laws.FigureLinear.{combine, figure_linear}
use Rattle.haar.proofs.Laws.Entries.{entries-length, entries-root, entries_detail, entries_unique}
use Rattle.haar.proofs.Laws.Pictures.{tabulate-map}
use Rattle.haar.proofs.Laws.Greys.{grey-neg}

pub entry_opposite : (l : List ℤ) (i : ℕ) → get_or (map neg_ℤ l) i (pos 0) ≡ neg_ℤ (get_or l i (pos 0))
entry_opposite l i = get_or-map neg_ℤ l i (pos 0)

module _ (n : ℕ) (l : List ℤ) where
  -- it is −1 times the table, and nothing added
  as_combined : stored n (map neg_ℤ l) ≡ combine (negsuc 0) (stored n l) (pos 0) (stored n l)
  as_combined =
      ap₂ (λ r d. record { root = r; detail = d }) (at 0) (fun_ext λ j. fun_ext λ cell. fun_ext λ e. at (index n j cell e))
    where
      at : (i : ℕ) → get_or (map neg_ℤ l) i (pos 0) ≡ negsuc 0 *ℤ get_or l i (pos 0) +ℤ pos 0 *ℤ get_or l i (pos 0)
      at i = entry_opposite l i ∙ ring (get_or l i (pos 0) ∷ []) (search read depth 40) tt

  pub figure-opposite : (level : ℕ) (cell : Cell n) → figure n (stored n (map neg_ℤ l)) level cell ≡ neg_ℤ (figure n (stored n l) level cell)
  figure-opposite level cell =
      ap (λ t. figure n t level cell) as_combined ∙ figure_linear n (negsuc 0) (stored n l) (pos 0) (stored n l) level cell
      ∙ ring (figure n (stored n l) level cell ∷ []) (search read depth 40) tt

  -- whatever a picture is made of, figures or greys, it is made of the opposite figures
  picture-opposite : {A : Type 0} (g : ℤ → A) (level : ℕ) → picture n g (stored n (map neg_ℤ l)) level ≡ picture n (λ f. g (neg_ℤ f)) (stored n l) level
  picture-opposite g level = ap (tabulate (children n ^ level)) (fun_ext λ i. ap g (figure-opposite level (cell_at n (2 ^ level) i)))

  pub figures_opposite : (level : ℕ) → picture n (λ f. f) (stored n (map neg_ℤ l)) level ≡ map neg_ℤ (picture n (λ f. f) (stored n l) level)
  figures_opposite level = picture-opposite (λ f. f) level ∙ sym (tabulate-map neg_ℤ (children n ^ level) (λ i. figure n (stored n l) level (cell_at n (2 ^ level) i)))

  pub greys_opposite : (side level : ℕ) → picture n (grey_of side) (stored n (map neg_ℤ l)) level ≡ picture n (grey_of side) (stored n l) level
  greys_opposite side level = picture-opposite (grey_of side) level ∙ ap (λ g. picture n g (stored n l) level) (fun_ext λ f. grey-neg side f 1)

pub entries-opposite : (n depth : ℕ) (t : Coefficients n)
    → entries n depth (negated t) ≡ map neg_ℤ (entries n depth t)
entries-opposite n depth t =
    let l = entries n depth t in
    sym (entries_unique n depth (negated t) (map neg_ℤ l) (length-map l neg_ℤ ∙ entries-length n depth t) (record {
      same_root = entry_opposite l 0 ∙ ap neg_ℤ (entries-root n depth t);
      same_detail = λ j h cell b e f g.
          entry_opposite l (index n j cell e) ∙ ap neg_ℤ (entries_detail t h (record { inside = b; first = f; last = g }));
    }))
