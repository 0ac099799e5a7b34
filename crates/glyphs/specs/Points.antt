-- The vertices of a ring: the list of its points. Definitions only.
use Rattle.std.specs.Prelude.{ℕ, List, length, slice_index_or, Float}
use Rattle.std.specs.Float.{nan}
use Rattle.glyphs.specs.declared.rect.Point.{Point}

abbrev pub Ring : Type 0
Ring = List Point

-- what a ring is read as past its end
abbrev pub nowhere : Point
nowhere = record { x = nan; y = nan }

-- v.len(), v[i], v[i].x() and v[i].y()
abbrev pub vertices : Ring → ℕ
vertices ring = length ring

abbrev pub vertex_at : Ring → ℕ → Point
vertex_at ring i = slice_index_or ring i nowhere

abbrev pub x_at : Ring → ℕ → Float
x_at ring i = (vertex_at ring i).x

abbrev pub y_at : Ring → ℕ → Float
y_at ring i = (vertex_at ring i).y
