-- Pictures one after the other in one list, level 0 first.
--
-- Main results
--   root-picture                              the picture of level 0
--   Stacked                                   so many levels are drawn
--   stacked_root, stacked_step                level 0, one level more
use mathlib.Core.Path.{◌≡◌, sym, ◌∙◌, ap, ap₂, subst⁻¹}
use mathlib.Core.List.{List, ◌++◌, append_assoc}
use Prim.Native.Nat.{ℕ, suc, ◌+◌, ◌*◌, ◌-◌, ◌^◌, ◌<◌, ◌≤◌}
use native.Mathlib.Omega.{arith}
use native.Mathlib.Nat.{pow-zero}
use borrow.Rule.Slice.PartMut.{put_mid, post_of, same_len_mid}
use lib.ListN.{length, get_or, set, take, drop, length-set, length-append, length-drop}
use lib.Seq.{length-take-le, get_or-take, get_or-set_same, take_at}
use lib.IntN.{ℤ}
use Rattle.haar.specs.Cells.{children}
use Rattle.haar.specs.Table.{stored}
use Rattle.haar.specs.Plane.{dimensions, figure_in, picture_in}
use Rattle.haar.specs.Pyramid.{places, pyramid_in}
use Rattle.haar.proofs.Laws.Pictures.{picture_of_entries, picture-length}
use Rattle.haar.proofs.Laws.Pyramid.{places_one, places_next, pyramid_one, pyramid_next}

pub root-picture : {A : Type 0} (o : A) (g : ℤ → A) (entries : List ℤ) (l : List A) {v : A} → 0 < length l → v ≡ g (figure_in entries 0 0 0)
    → take 1 (set l 0 v) ≡ picture_in g entries 0
root-picture o g entries l {v} h e =
    picture_of_entries o g (stored dimensions entries) 0 (take 1 (set l 0 v))
    (length-take-le 1 (set l 0 v) (omega (arith, length-set l 0 v)) ∙ sym (pow-zero 4))
    (λ cx cy p q.
    let z = pow-zero 2 in
    let x : cx ≡ 0 = omega arith in
    let y : cy ≡ 0 = omega arith in
    ap (λ i. get_or (take 1 (set l 0 v)) i o) {y = 0} (ap₂ (λ (u v : ℕ). u * 2 ^ 0 + v) y x ∙ omega arith)
    ∙ get_or-take 1 (set l 0 v) 0 o (omega arith) ∙ get_or-set_same l 0 v o h ∙ e
    ∙ ap₂ (λ u v. g (figure_in entries 0 u v)) (sym x) (sym y))

module _ {A : Type 0} (g : ℤ → A) (entries : List ℤ) (room : ℕ) where
  pub record Stacked (l : List A) (levels : ℕ) : Type 0 where
    pub same_length : length l ≡ room
    pub drawn : take (places levels) l ≡ pyramid_in g entries levels

module _ {A : Type 0} {g : ℤ → A} {entries : List ℤ} {room : ℕ} where
  pub stacked_root : (o : A) (l : List A) {m : List A} {v : A} → 0 < length l → length l ≡ room → v ≡ g (figure_in entries 0 0 0) → m ≡ set l 0 v
      → Stacked g entries room m 1
  stacked_root o l {m} {v} h e f r = subst⁻¹ (λ m. Stacked g entries room m 1) r (record {
    same_length = length-set l 0 v ∙ e;
    drawn = ap (λ k. take k (set l 0 v)) places_one ∙ root-picture o g entries l h f ∙ sym (pyramid_one g entries);
  })

  pub stacked_step : {l part : List A} {levels start end more : ℕ} → start ≡ places levels → end ≡ places (suc levels) → places (suc levels) ≤ room
      → Stacked g entries room l levels → part ≡ picture_in g entries levels → more ≡ suc levels → Stacked g entries room (put_mid start (end - start) l part) more
  stacked_step {l} {part} {levels} {start} {end} s e h t p m = subst⁻¹ (Stacked g entries room (put_mid start (end - start) l part)) m (record {
    same_length = same_len_mid start (end - start) l part (part_length ∙ sym mid_length) ∙ t.same_length;
    drawn =
        ap (take (places (suc levels))) (sym (append_assoc (take start l) part (post_of start (end - start) l)))
        ∙ take_at (take start l ++ part) (post_of start (end - start) l) (places (suc levels)) both
        ∙ ap₂ ◌++◌ (ap (λ k. take k l) s ∙ t.drawn) p ∙ sym (pyramid_next g entries levels);
  })
    where
      size : places (suc levels) ≡ places levels + children dimensions ^ levels
      size = places_next levels

      part_length : length part ≡ end - start
      part_length = ap length p ∙ picture-length dimensions g (stored dimensions entries) levels ∙ omega (arith, size)

      mid_length : length (take (end - start) (drop start l)) ≡ end - start
      mid_length = length-take-le (end - start) (drop start l) (omega (arith, size, length-drop start l, t.same_length))

      both : length (take start l ++ part) ≡ places (suc levels)
      both = length-append (take start l) part ∙ omega (arith, size, part_length, length-take-le start l (let b : start ≤ length l = omega (arith, size, t.same_length) in b))
