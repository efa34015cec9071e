-- What the answers to questions 14 and 15 say of a sheet, its tiles and a place.
--
-- Main results
--   sheet_side_is, tile_side_is  the sides of a sheet and of its tile, by question 1's
--   sheet_power, sheet_le        a sheet's side is a power of two, and no greater than the greatest
--   sheet_tile_side,
--   sheet_tile-depth,
--   sheet_tile_wide              its tile's side is one of a tile's, its depth no more than the greatest of a sheet's tile, and the side above 0
--   sheet_covers                 whole tiles cover the sheet
--   place_fits                   a tile at a place on the sheet ends on the sheet
--   place_few                    so its column and its row are small
use Rattle.std.specs.Prelude.{◌≡◌, Bool, true, false, not, ◌&&◌, ◌||◌, List, [], ◌∷◌, ◌++◌, ℕ, ◌+◌, ◌*◌, ◌/◌, ◌^◌, ◌<◌, ◌≤◌}
use Rattle.std.proofs.Math.Path.{refl}
use Rattle.std.proofs.Common.{◌∙◌, ap, subst, inl, inr, arith, mul-le-mul_left, mul-le-mul_right, le-leb}
use Rattle.std.specs.Int.Count.{count_trailing_zeros}
use Rattle.std.proofs.Math.Dec.{eqb, leb}
use Rattle.integers.specs.Units.{greatest_sheet_side, greatest_tile_depth, greatest_tile_side}
use Rattle.integers.specs.Tests.{every, one_of, OneOf}
use Rattle.integers.proofs.Theorems.Tests.{and_true_means, eqb_means, leb_means, one_of_means, same_means}
use Rattle.tile.specs.Questions.{Yes, depth_of, question1}
use Rattle.sheet.specs.declared.SheetTile.{SheetTile}
use Rattle.sheet.specs.SheetQuestions.{sheet_sides, tile_sides, question14}
use Rattle.sheet.proofs.Theorems.SheetRefusals.{question14_means}

-- a test of every number of a list holds of each
one_has : (test : ℕ → Bool) (l : List ℕ) → every test l ≡ true → (n : ℕ) → OneOf n l → test n ≡ true
one_has test [] t n h = absurd h
one_has test (m ∷ l) t n (inl e) = ap test e ∙ ((and_true_means (test m) (every test l)).0 t).0
one_has test (m ∷ l) t n (inr h) = one_has test l ((and_true_means (test m) (every test l)).0 t).1 n h

-- ---- the sides, as they are tested
-- one more number, at the end of a list
one_of_last : (n m : ℕ) (l : List ℕ) → one_of n (l ++ (m ∷ [])) ≡ (eqb n m || one_of n l)
one_of_last n m [] = refl
one_of_last n m (k ∷ l) = ap (λ b. eqb n k || b) (one_of_last n m l) ∙ exchanged (eqb n k) (eqb n m) (one_of n l)
  where
    exchanged : (a b c : Bool) → (a || (b || c)) ≡ (b || (a || c))
    exchanged true true c = refl
    exchanged true false c = refl
    exchanged false b c = refl

pub sheet_side_is : (n : ℕ) → one_of n sheet_sides ≡ (eqb n greatest_sheet_side || (question1 n).answer)
sheet_side_is n = one_of_last n greatest_sheet_side (1 ∷ 2 ∷ 4 ∷ 8 ∷ 16 ∷ 32 ∷ 64 ∷ [])

pub tile_side_is : (n : ℕ) → one_of n tile_sides ≡ (leb n greatest_tile_side && (question1 n).answer)
tile_side_is n =
    same_means (one_of n tile_sides) (leb n greatest_tile_side && (question1 n).answer) (one_of_means n tile_sides) (
      λ y. (let h = (and_true_means (leb n greatest_tile_side) (question1 n).answer).0 y in
          let tested = one_has (λ m. not (leb m greatest_tile_side) || one_of m tile_sides) (1 ∷ 2 ∷ 4 ∷ 8 ∷ 16 ∷ 32 ∷ 64 ∷ []) refl n
          ((one_of_means n (1 ∷ 2 ∷ 4 ∷ 8 ∷ 16 ∷ 32 ∷ 64 ∷ [])).0 h.1) in
          (one_of_means n tile_sides).0 (subst (λ (b : Bool). (not b || one_of n tile_sides) ≡ true) h.0 tested)),
      λ o. (and_true_means (leb n greatest_tile_side) (question1 n).answer).1
          (one_has (λ m. leb m greatest_tile_side) tile_sides refl n o, one_has (λ m. (question1 m).answer) tile_sides refl n o),
    )

-- ---- a sheet and its tile
module _ (sheet side : ℕ) (yes : Yes (question14 sheet side)) where
  abbrev sides : OneOf sheet sheet_sides × OneOf side tile_sides × (side ≤ sheet)
  sides = (question14_means sheet side).0 yes

  pub sheet_power : sheet ≡ 2 ^ depth_of sheet
  unfolding count_trailing_zeros
  sheet_power = (eqb_means sheet (2 ^ depth_of sheet)).0 (one_has (λ n. eqb n (2 ^ depth_of n)) sheet_sides refl sheet sides.0)

  pub sheet_le : sheet ≤ greatest_sheet_side
  sheet_le = (leb_means sheet greatest_sheet_side).0 (one_has (λ n. leb n greatest_sheet_side) sheet_sides refl sheet sides.0)

  pub sheet_tile_side : Yes (question1 side)
  sheet_tile_side = one_has (λ n. (question1 n).answer) tile_sides refl side sides.1

  pub sheet_tile-depth : depth_of side ≤ greatest_tile_depth
  unfolding count_trailing_zeros
  sheet_tile-depth = (leb_means (depth_of side) greatest_tile_depth).0 (one_has (λ n. leb (depth_of n) greatest_tile_depth) tile_sides refl side sides.1)

  pub sheet_tile_wide : 1 ≤ side
  sheet_tile_wide = (leb_means 1 side).0 (one_has (λ n. leb 1 n) tile_sides refl side sides.1)

  -- a computed test of every pair of sides
  pub sheet_covers : sheet ≡ sheet / side * side
  sheet_covers =
      let pair : (n m : ℕ) → Bool = λ n m. not (leb m n) || eqb n (n / m * m) in
      let of_sheet = one_has (λ n. every (pair n) tile_sides) sheet_sides refl sheet sides.0 in
      let of_both : pair sheet side ≡ true = one_has (pair sheet) tile_sides of_sheet side sides.1 in
      (eqb_means sheet (sheet / side * side)).0
      (subst (λ (b : Bool). (not b || eqb sheet (sheet / side * side)) ≡ true) (le-leb side sheet sides.2) of_both)

-- ---- a place
module _ (place : SheetTile) (yes14 : Yes (question14 place.sheet place.side)) where
  abbrev tiles : ℕ
  tiles = place.sheet / place.side

  pub place_fits : (t : ℕ) → t < tiles → (t + 1) * place.side ≤ place.sheet
  place_fits t h =
      let last : t + 1 ≤ tiles = omega arith in
      let all = sheet_covers place.sheet place.side yes14 in
      omega (arith, mul-le-mul_right place.side last, all)

  pub place_few : (t : ℕ) → t < tiles → t < greatest_sheet_side
  place_few t h =
      let one : 1 ≤ place.side = sheet_tile_wide place.sheet place.side yes14 in
      omega (arith, place_fits t h, mul-le-mul_left (t + 1) one, sheet_le place.sheet place.side yes14)
