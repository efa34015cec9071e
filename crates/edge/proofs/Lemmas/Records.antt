-- Records with equal fields are equal, and so are the spans and cuts that come of equal numbers.
--
-- Main results
--   span-eq, axis_eq, details-eq, samples_eq
--   strip_of_eq, meet-eq, cuts_at_eq
use Rattle.std.specs.Prelude.{◌≡◌, ℤ}
use Rattle.std.proofs.Common.{◌∙◌, ap, ap₂}
use Rattle.edge.specs.declared.Axis.{Axis}
use Rattle.edge.specs.declared.Details.{Details}
use Rattle.edge.specs.declared.Samples.{Samples}
use Rattle.edge.specs.declared.Span.{Span}
use Rattle.edge.specs.Cuts.{strip_of, meet, cuts_at}

pub span-eq : {a a' b b' : ℤ} → a ≡ a' → b ≡ b' → ◌≡◌ {A = Span} (record { first = a; last = b }) (record { first = a'; last = b' })
span-eq p q = ap₂ (λ x y. record { first = x; last = y }) p q

pub axis_eq : {a a' b b' c c' : ℤ} → a ≡ a' → b ≡ b' → c ≡ c' → ◌≡◌ {A = Axis} (record { scale = a; start = b; sign = c }) (record { scale = a'; start = b'; sign = c' })
axis_eq {a} {a'} {b} {b'} {c} {c'} p q r = ap₂ (λ x y. record { scale = x; start = y; sign = c }) p q ∙ ap (λ z. record { scale = a'; start = b'; sign = z }) r

pub details-eq : {a a' b b' c c' : ℤ} → a ≡ a' → b ≡ b' → c ≡ c' → ◌≡◌ {A = Details} (record { h = a; v = b; d = c }) (record { h = a'; v = b'; d = c' })
details-eq {a} {a'} {b} {b'} {c} {c'} p q r = ap₂ (λ x y. record { h = x; v = y; d = c }) p q ∙ ap (λ z. record { h = a'; v = b'; d = z }) r

pub samples_eq : {a a' b b' c c' d d' : ℤ} → a ≡ a' → b ≡ b' → c ≡ c' → d ≡ d'
    → ◌≡◌ {A = Samples} (record { first = a; second = b; third = c; fourth = d }) (record { first = a'; second = b'; third = c'; fourth = d' })
samples_eq {a} {a'} {b} {b'} {c} {c'} {d} {d'} p q r s =
    ap₂ (λ x y. record { first = x; second = y; third = c; fourth = d }) p q ∙ ap₂ (λ x y. record { first = a'; second = b'; third = x; fourth = y }) r s

-- ---- spans and cuts
pub strip_of_eq : (a : Axis) {p p' w w' n n' : ℤ} → p ≡ p' → w ≡ w' → n ≡ n' → strip_of a p w n ≡ strip_of a p' w' n'
strip_of_eq a {p} {p'} {w} {w'} {n} {n'} i j k = ap₂ (λ x y. strip_of a x y n) i j ∙ ap (strip_of a p' w') k

pub meet-eq : {r r' s s' : Span} {n n' : ℤ} → r ≡ r' → s ≡ s' → n ≡ n' → meet r s n ≡ meet r' s' n'
meet-eq {r} {r'} {s} {s'} {n} {n'} i j k = ap₂ (λ x y. meet x y n) i j ∙ ap (meet r' s') k

pub cuts_at_eq : {s s' : Span} {x x' y y' : ℤ} → s ≡ s' → x ≡ x' → y ≡ y' → cuts_at s.first s.last x y ≡ cuts_at s'.first s'.last x' y'
cuts_at_eq {s} {s'} {x} {x'} {y} {y'} p q r = ap (λ (z : Span). cuts_at z.first z.last x y) p ∙ ap₂ (cuts_at s'.first s'.last) q r
