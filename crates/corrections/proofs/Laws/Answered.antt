-- What the answers of a call say, at either kind of site: where the number is 0 every question is answered yes, and these are the same questions but for the
-- first one or two.
--
-- Main results
--   AskedYes, asked_yes          the questions about the contour are answered yes
--   AcceptedCall, call_accepted  and those about the tile: the call is not refused
--   contour_zero                 the first "no" of those about the contour
use Rattle.std.specs.Prelude.{◌≡◌, List, [], ◌∷◌, ◌↔◌, ℕ, ℤ}
use Rattle.integers.specs.ListSum.{All}
use Rattle.integers.proofs.Theorems.ListSum.{all_append, all_front, all_back}
use Rattle.placement.specs.declared.Placement.{Placement}
use Rattle.placement.specs.Placed.{placed}
use Rattle.tile.specs.Questions.{Question, Yes, first_no, question2, question3, question4, question5_beside, question6, question12, outline_questions}
use Rattle.tile.proofs.Laws.FirstNo.{first_no-zero}
use Rattle.sheet.specs.declared.Site.{Site}
use Rattle.sheet.specs.declared.Site.TheVariants.{Alone, OnSheet}
use Rattle.sheet.specs.Sites.{tile_side, reach, SiteYes, site_questions}
use Rattle.sheet.proofs.Laws.SiteEdges.{site_answers}
use Rattle.corrections.specs.declared.Change.{Change}
use Rattle.corrections.specs.Corrections.{Tile, Call, call_of, question13, question9_twice, already_in, taken_out, would_leave, contour_questions, tile_questions, correcting_questions, correct_refusal}

pub record AskedYes (k : Call) (t : Tile) : Type 0 where
  pub site : SiteYes k.site
  pub yes2 : Yes (question2 (tile_side k.site) t.table)
  pub yes4 : Yes (question4 (k.count ∷ []))
  pub yes5 : Yes (question5_beside (already_in k.change t.edges) (k.count ∷ []))
  pub yes3 : Yes (question3 k.points (k.count ∷ []))
  pub yes12 : Yes (question12 k.placement k.points)
  pub yes6 : Yes (question6 (reach k.site) (placed k.placement k.points))

pub record AcceptedCall (k : Call) (t : Tile) : Type 0 where
  pub about : AskedYes k t
  pub yes13 : Yes (question13 (taken_out k.change k.count) t.edges)
  pub yes9 : Yes (question9_twice t.table (would_leave k t))

-- ---- by cases of the site: no two numbers of a list are the same
contour_zero_at : (change : Change) (site : Site) (points : List ℤ) (count : ℕ) (placement : Placement) (t : Tile)
    → (first_no (contour_questions (call_of change site points count placement) t) ≡ 0) ↔ All Yes (contour_questions (call_of change site points count placement) t)
contour_zero_at change (Alone side) points count placement t = first_no-zero (contour_questions (call_of change (Alone side) points count placement) t) tt
contour_zero_at change (OnSheet place) points count placement t = first_no-zero (contour_questions (call_of change (OnSheet place) points count placement) t) tt

correct_zero_at : (change : Change) (site : Site) (points : List ℤ) (count : ℕ) (placement : Placement) (t : Tile)
    → (correct_refusal (call_of change site points count placement) t ≡ 0) ↔ All Yes (correcting_questions (call_of change site points count placement) t)
correct_zero_at change (Alone side) points count placement t = first_no-zero (correcting_questions (call_of change (Alone side) points count placement) t) tt
correct_zero_at change (OnSheet place) points count placement t = first_no-zero (correcting_questions (call_of change (OnSheet place) points count placement) t) tt

-- ---- of a call
module _ (k : Call) (t : Tile) where
  abbrev outline : List Question
  outline = outline_questions (reach k.site) k.points (k.count ∷ []) k.placement (already_in k.change t.edges)

  pub asked_yes : All Yes (contour_questions k t) ↔ AskedYes k t
  asked_yes = (
    λ y. (let site = (site_answers k.site t.table).0 (all_front Yes (site_questions k.site t.table) outline y) in
        let o = all_back Yes (site_questions k.site t.table) outline y in
        record { site = site.0; yes2 = site.1; yes4 = o.0; yes5 = o.1.0; yes3 = o.1.1.0; yes12 = o.1.1.1.0; yes6 = o.1.1.1.1.0 }),
    λ h. all_append Yes (site_questions k.site t.table) outline ((site_answers k.site t.table).1 (h.site, h.yes2))
        (h.yes4, (h.yes5, (h.yes3, (h.yes12, (h.yes6, tt))))),
  )

  pub contour_zero : (first_no (contour_questions k t) ≡ 0) ↔ AskedYes k t
  contour_zero =
      let zero = contour_zero_at k.change k.site k.points k.count k.placement t in
      (λ e. asked_yes.0 (zero.0 e), λ h. zero.1 (asked_yes.1 h))

  pub call_accepted : (correct_refusal k t ≡ 0) ↔ AcceptedCall k t
  call_accepted =
      let zero = correct_zero_at k.change k.site k.points k.count k.placement t in (
        λ e. (let y = zero.0 e in
            let later = all_back Yes (contour_questions k t) (tile_questions k t) y in
            record { about = asked_yes.0 (all_front Yes (contour_questions k t) (tile_questions k t) y); yes13 = later.0; yes9 = later.1.0 }),
        λ a. zero.1 (all_append Yes (contour_questions k t) (tile_questions k t) (asked_yes.1 a.about) (a.yes13, (a.yes9, tt))),
      )
