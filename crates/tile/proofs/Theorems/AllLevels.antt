-- Laws of what specs/AllLevels.antt defines. The head of that file lists the main results.
use Rattle.std.specs.Prelude.{◌≡◌, List, ℕ, suc, ◌^◌, length, ℤ}
use Rattle.std.proofs.Common.{sym, ◌∙◌, ap, arith}
use Rattle.haar.specs.Greys.{grey_of}
use Rattle.haar.specs.Pyramid.{places, pyramid_in}
use Rattle.haar.proofs.Laws.Pyramid.{pyramid_level}
use Rattle.tile.specs.Questions.{depth_of}
use Rattle.tile.specs.Outcomes.{draw_refusal, pyramid_refusal, pyramid_pictures, level_part}
use Rattle.tile.proofs.Theorems.Refusals.{drawing_refusals, pyramid_refusals, question7_means, question8_all_means}
use Rattle.tile.proofs.Theorems.DrawnFigures.{greys_drawn_lem}
use Rattle.tile.proofs.Laws.IfDone.{if_done_lem}
use Rattle.tile.proofs.Laws.DrawnTable.{drawn-accepted}
use Rattle.tile.specs.AllLevels.{LevelByLevel}

pub pyramid_drawn : (side : ℕ) (table : List ℤ) (pictures : List ℕ) → pyramid_refusal side table (length pictures) ≡ 0
    → pyramid_pictures side table pictures ≡ pyramid_in (grey_of side) table (suc (depth_of side))
pyramid_drawn side table pictures done = if_done_lem (pyramid_in (grey_of side) table (suc (depth_of side))) pictures done

pub level_by_level : (side : ℕ) (table : List ℤ) (before after : List ℕ) → after ≡ pyramid_pictures side table before → LevelByLevel side table before after
level_by_level side table before after e = record {
  same = λ done level h picture room.
      let yes = (pyramid_refusals side table (length before)).accepted.0 done in
      let accepted = drawn-accepted {side = side} {level = level} {table = table}
      (record { yes1 = yes.0; yes2 = yes.1.0; yes7 = (question7_means side level).1 h; yes9 = yes.1.1.1.0 }) (length picture) room in (
        accepted,
        ap (level_part level) (e ∙ pyramid_drawn side table before done) ∙ pyramid_level (grey_of side) table level (suc (depth_of side)) (omega arith)
            ∙ sym (greys_drawn_lem side level table picture accepted),
      );
}

-- "None of these is refused", of all levels in one buffer: `Drawn` says of every level, and so of the deepest, that its picture is not.
pub pyramid_not_refused : (side : ℕ) (table : List ℤ) (size : ℕ) → draw_refusal side (depth_of side) table (4 ^ depth_of side) ≡ 0 → size ≡ places (suc (depth_of side))
    → pyramid_refusal side table size ≡ 0
pyramid_not_refused side table size done room =
    let yes = (drawing_refusals side (depth_of side) table (4 ^ depth_of side)).accepted.0 done in
    (pyramid_refusals side table size).accepted.1 (yes.0, (yes.1.0, ((question8_all_means side size).1 room, (yes.1.1.1.1.0, tt))))
