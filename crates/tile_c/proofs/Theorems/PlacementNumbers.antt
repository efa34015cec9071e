-- Laws of what specs/PlacementNumbers.antt defines. The head of that file lists the main results.
use Rattle.std.specs.Prelude.{◌≡◌, refl, List, [], ◌∷◌, ◌≢◌, length, ℤ, Float}
use Rattle.std.proofs.Common.{◌∙◌, ap, ne_eqb}
use Rattle.placement.specs.declared.Placement.TheVariants.{None, Shift, Scale, Turn}
use Rattle.placement.specs.Parts.{is_multiple}
use Rattle.tile.specs.Questions.{No, question12}
use Rattle.tile_c.specs.PlacementNumbers.{placement_of, refused_placement}

pub of_none : placement_of [] ≡ None
of_none = refl

pub of_scale : (s : Float) → placement_of (s ∷ []) ≡ Scale s
of_scale s = refl

pub of_shift : (u v : Float) → placement_of (u ∷ v ∷ []) ≡ Shift u v
of_shift u v = refl

pub of_turn : (a b c d e f : Float) → placement_of (a ∷ b ∷ c ∷ d ∷ e ∷ f ∷ []) ≡ Turn (record { a = a; b = b; c = c; d = d; e = e; f = f })
of_turn a b c d e f = refl

refused_placement_lem : (points : List ℤ) → No (question12 refused_placement points)
unfolding is_multiple
refused_placement_lem points = refl

pub other_length : (numbers : List Float) (points : List ℤ) → length numbers ≢ 0 → length numbers ≢ 1 → length numbers ≢ 2 → length numbers ≢ 6
    → No (question12 (placement_of numbers) points)
other_length numbers points none scale shift turn =
    let other : placement_of numbers ≡ refused_placement = simp (ne_eqb _ _ none, ne_eqb _ _ scale, ne_eqb _ _ shift, ne_eqb _ _ turn) in
    ap (λ p. (question12 p points).answer) other ∙ refused_placement_lem points
