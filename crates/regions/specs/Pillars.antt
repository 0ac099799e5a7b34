-- The distance to an obstacle by its square: a definition for the code, and the law that its root is the distance.
use Rattle.std.specs.Prelude.{◌≡◌, refl, Float}
use Rattle.float.specs.Ops.{◌+ᶠ◌, ◌-ᶠ◌, ◌*ᶠ◌, 0ᶠ, ½ᶠ}
use Rattle.float.specs.Order.{abs, max, sqrt, hypot}
use Rattle.glyphs.specs.declared.rect.Rectangle.{Rectangle}
use Rattle.glyphs.specs.Rect.{dist_to_rect}

-- how far a coordinate is beyond the sides `length` apart around `center`; 0 between them
unfoldable pub beyond : Float → Float → Float → Float
beyond p center length = max (abs (p -ᶠ center) -ᶠ ½ᶠ *ᶠ length) 0ᶠ

unfoldable pub rect_square : Float → Float → Rectangle → Float
rect_square px py rect =
    let dx = beyond px rect.center.x rect.width in
    let dy = beyond py rect.center.y rect.height in
    dx *ᶠ dx +ᶠ dy *ᶠ dy

pub rect_root : (px py : Float) (rect : Rectangle) → dist_to_rect px py rect ≡ sqrt (rect_square px py rect)
unfolding dist_to_rect hypot rect_square beyond
rect_root px py rect = refl
