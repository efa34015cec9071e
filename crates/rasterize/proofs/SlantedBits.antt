-- A slope and a piece that are handed on number by number: each number is what its bits say, and so is the whole.
use mathlib.Core.Path.{◌≡◌, ◌∙◌, ap, ap₂}
use lib.IntN.{ℤ}
use Rattle.rasterize.specs.Slanted.{slope, piece}

pub slope-eq : {a a' b b' c c' : ℤ} → a ≡ a' → b ≡ b' → c ≡ c' → slope a b c ≡ slope a' b' c'
slope-eq {a} {a'} {b} {b'} {c} {c'} i j k = ap₂ (λ x y. slope x y c) i j ∙ ap (slope a' b') k

pub piece_eq : {a a' b b' c c' d d' e e' f f' : ℤ} → a ≡ a' → b ≡ b' → c ≡ c' → d ≡ d' → e ≡ e' → f ≡ f' → piece a b c d e f ≡ piece a' b' c' d' e' f'
piece_eq {a} {a'} {b} {b'} {c} {c'} {d} {d'} {e} {e'} {f} {f'} i j k l m n =
    ap₂ (λ x y. piece x y c d e f) i j ∙ ap₂ (λ x y. piece a' b' x y e f) k l ∙ ap₂ (λ x y. piece a' b' c' d' x y) m n
