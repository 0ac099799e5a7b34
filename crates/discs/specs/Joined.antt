-- The spots of all pieces of a zone, end to end and flat.
-- Rests on the laws of marks as coordinates.
use Rattle.std.specs.Prelude.{◌≡◌, ◌*◌, List, [], ◌∷◌, ◌++◌, length, refl, Float}
use Rattle.std.proofs.Common.{ap, arith, length-append}
use mathlib.Core.List.{flatten}
use Rattle.glyphs.specs.Spots.{flat, length_flat}
use Rattle.glyphs.specs.declared.rect.Point.{Point}
use Rattle.discs.specs.Region.{placed_in}

pub flat_append : (ps qs : List Point) → flat (ps ++ qs) ≡ flat ps ++ flat qs
unfolding flat
flat_append [] qs = refl
flat_append (p ∷ ps) qs = ap (λ (t : List Float). p.x ∷ p.y ∷ t) (flat_append ps qs)

pub length_joined : (placed : List (List Point)) → length (flat (flatten placed)) ≡ placed_in placed * 2
unfolding placed_in flatten flat
length_joined [] = refl
length_joined (spots ∷ rest) = rw flat_append (simp length-append (omega (arith, length_flat spots, length_joined rest)))
