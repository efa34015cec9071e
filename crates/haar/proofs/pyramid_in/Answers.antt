-- Where each level stands in the list, and what it is drawn from.
use Rattle.std.proofs.Common.{◌≡◌, refl, ◌∙◌, ap, subst, List, ℕ, suc, ◌+◌, ◌-◌, ◌^◌, ◌<◌, ◌≤◌, length, take, drop, length-drop, arith}
use Rattle.std.proofs.Math.Nat.{one-le-pow, pow-le-pow_right}
use Rattle.std.proofs.Math.Seq.{length-take-le}
use Rattle.haar.specs.Cells.{children}
use Rattle.haar.specs.Plane.{dimensions}
use Rattle.haar.specs.Levels.{HasFigures}
use Rattle.haar.specs.Pyramid.{places}
use Rattle.haar.proofs.Laws.Pyramid.{places_next, places-mono}
use Rattle.haar.proofs.Above.{shallower}
use Rattle.haar.proofs.NextLevel.{drawn_picture}
use Rattle.haar.proofs.Stacking.{stacked_root, stacked_step}
use Rattle.haar.proofs.pyramid_in.Goals as goal

pub grey_root-requires : goal.grey_root-requires
grey_root-requires g c =
    let d = c.requires.drawable in
    (shallower d.drawable (omega arith), omega (arith, d.exact, places_next c.args.depth, one-le-pow c.args.depth 4 (omega arith)), d.drawable.shallow)

pub figures_to-requires : goal.figures_to-requires
figures_to-requires g c = (shallower c.requires.drawable.drawable (omega arith), omega (arith, c.requires.places.0, one-le-pow (c.args.depth - 1) 4 (omega arith)))

pub loop-level-init : goal.loop-level-init
loop-level-init g c =
    let d = c.requires.drawable in
    let e = c.figures_to.ensures in
    record {
      stacked =
          stacked_root 0 c.args.pictures.now (omega (arith, d.exact, places_next c.args.depth, one-le-pow c.args.depth 4 (omega arith))) d.exact refl c.grey_root.ensures;
      parents = record { same_length = refl; enough = omega (arith, e.1, c.requires.places.0); figures = λ h. e.0 };
      within = omega arith;
    }

-- the next level, from `start` to `end`
module _ {level depth start end : ℕ} (s : start ≡ places (suc level)) (e : end ≡ places (suc (level + 1))) (h : level < depth) where
  ends : end ≡ places (suc (suc level))
  ends = e ∙ ap (λ k. places (suc k)) {y = suc level} (omega arith)

  size : end ≡ start + children dimensions ^ suc level
  size = omega (arith, ends, places_next (suc level))

  enough : places (suc (suc level)) ≤ places (suc depth)
  enough = places-mono (let k : suc (suc level) ≤ suc depth = omega arith in k)

  part-length : (l : List ℕ) → length l ≡ places (suc depth) → length (take (end - start) (drop start l)) ≡ children dimensions ^ suc level
  part-length l r = length-take-le (end - start) (drop start l) (omega (arith, length-drop start l, ends, enough, r)) ∙ omega (arith, size)

pub slice_bounds-draw_below-count : goal.slice_bounds-draw_below-count
slice_bounds-draw_below-count g c = omega (arith, size c.places_to-start.ensures c.places_to-end.ensures c.loop-level-test.true)

pub slice_bounds-draw_below-start : goal.slice_bounds-draw_below-start
slice_bounds-draw_below-start g c =
    let k : c.places_to-start.result ≤ c.places_to-end.result = omega (arith, size c.places_to-start.ensures c.places_to-end.ensures c.loop-level-test.true) in
    k

pub slice_bounds-draw_below-end : goal.slice_bounds-draw_below-end
slice_bounds-draw_below-end g c =
    let s = c.places_to-start.ensures in
    let e = c.places_to-end.ensures in
    let t = c.loop-level-test.true in
    let k : c.places_to-end.result ≤ length c.loop-level.pictures = omega (arith, ends s e t, enough s e t, c.loop-level.invariant.stacked.same_length) in
    k

pub invariant_of-cut : goal.invariant_of-cut
invariant_of-cut g c = record { drawable = shallower c.requires.drawable.drawable c.loop-level-test.true }

pub draw_below-requires : goal.draw_below-requires
draw_below-requires g c =
    let s = c.places_to-start.ensures in
    let e = c.places_to-end.ensures in
    let t = c.loop-level-test.true in
    let v = c.loop-level.invariant in
    let k : c.loop-level.level ≤ c.args.depth - 1 = omega arith in
    record {
      room = omega (arith, part-length s e t c.loop-level.pictures v.stacked.same_length);
      parents = record {
        enough = omega (arith, v.parents.same_length, v.parents.enough, pow-le-pow_right {n = children dimensions} (omega arith) k);
        figures = v.parents.figures t;
      };
    }

pub loop-level-preserved : goal.loop-level-preserved
loop-level-preserved g c =
    let s = c.places_to-start.ensures in
    let e = c.places_to-end.ensures in
    let t = c.loop-level-test.true in
    let v = c.loop-level.invariant in
    let r = c.refine_parents.ensures in
    record {
      stacked = stacked_step s (ends s e t) (enough s e t) v.stacked (drawn_picture c.draw_below.ensures.drawn (c.draw_below.ensures.same_length ∙ part-length s e t c.loop-level.pictures v.stacked.same_length)) (omega arith);
      parents = record {
        same_length = r.same_length ∙ v.parents.same_length;
        enough = v.parents.enough;
        figures = subst (λ k. k < c.args.depth → HasFigures c.args.table.now k c.refine_parents.new.figures) {x = suc c.loop-level.level} (omega arith) r.figures;
      };
      within = omega arith;
    }
