-- `on_one_side_of_all` meets its contract, place by place.
-- Rests on nothing but the definitions.
use mathlib.Core.Path.{◌≡◌}
use mathlib.Core.Bool.{Bool, true, ◌&&◌, beq}
use lib.Dec.{T}
use lib.Ieee.{Float}
use lib.Ieee.Fits.{and_l, and_r}
use Rattle.laws.specs.Truth.{yes, same_answer}
use Rattle.float.specs.Ops.{◌>ᶠ◌}
use Rattle.glyphs.specs.declared.rect.Point.{Point}
use Rattle.regions.specs.declared.four.Four.{Four}
use Rattle.regions.specs.Four.{Which, first, second, third, fourth, at}
use Rattle.regions.proofs.four.on_one_side_of_all.Goals as goal

each : (a b c d : Bool) → T (a && b && c && d) → T a × T b × T c × T d
each a b c d t =
    let abc = and_l (a && b && c) d t in
    let ab = and_l (a && b) c abc in
    (and_l a b ab, and_r a b ab, and_r (a && b) c abc, and_r (a && b && c) d t)

module _ (places : Four Point) (yi yj : Float) where
  abbrev level : Float → Bool
  level y = beq (yi >ᶠ y) (yj >ᶠ y)

  module _ (h : level places.a.y && level places.b.y && level places.c.y && level places.d.y ≡ true) where
    levels : T (level places.a.y) × T (level places.b.y) × T (level places.c.y) × T (level places.d.y)
    levels = each (level places.a.y) (level places.b.y) (level places.c.y) (level places.d.y) (yes h)

    for-all : (k : Which) → yi >ᶠ (at k places).y ≡ yj >ᶠ (at k places).y
    unfolding at
    for-all first = same_answer (yi >ᶠ places.a.y) (yj >ᶠ places.a.y) levels.0
    for-all second = same_answer (yi >ᶠ places.b.y) (yj >ᶠ places.b.y) levels.1
    for-all third = same_answer (yi >ᶠ places.c.y) (yj >ᶠ places.c.y) levels.2
    for-all fourth = same_answer (yi >ᶠ places.d.y) (yj >ᶠ places.d.y) levels.3

pub returns : goal.returns
returns c h = let s = c.args in for-all s.places s.vi.y s.vj.y h
