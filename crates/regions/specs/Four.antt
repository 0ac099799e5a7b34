-- Which of four places is meant, and what it has. With the law of four that are alike.
-- Assumes nothing.
use Rattle.std.specs.Prelude.{◌≡◌, refl}
use Rattle.regions.specs.declared.four.Four.{Four}

pub data Which : Type 0 where
  first : Which
  second : Which
  third : Which
  fourth : Which

unfoldable pub at : {A : Type 0} → Which → Four A → A
at first f = f.a
at second f = f.b
at third f = f.c
at fourth f = f.d

pub all_at : {A : Type 0} (k : Which) (x : A) → at k (record { a = x; b = x; c = x; d = x }) ≡ x
unfolding at
all_at first x = refl
all_at second x = refl
all_at third x = refl
all_at fourth x = refl
