-- 'The clearance is at least c' mostly without a root: a margin's squares, and what they tell of a root.
-- Rests on the root's being monotone, and on the order of floats.
use Rattle.std.specs.Prelude.{◌≡◌, refl, Bool, true, false, cond, zero, suc, T, Float}
use Rattle.std.specs.Float.Ieee
use Rattle.std.specs.Float.{nan, inf, fin, binary64}
use Rattle.std.specs.Float.Ieee.{lt, le, is_nan}
use Rattle.laws.specs.Truth.{yes, refuted}
use Rattle.float.specs.Ops.{◌*ᶠ◌, ◌/ᶠ◌, ◌<ᶠ◌, ◌≤ᶠ◌, literal, 0ᶠ}
use Rattle.float.specs.Order.{sqrt}
use Rattle.float.specs.Root.{root_of}
use Rattle.float.specs.Laws.Nan.{Number, le_number}
use Rattle.float.specs.Laws.Zero.{origin, origin_is, zero_ge, plain_above}
use Rattle.float.specs.Laws.Compare.{le_trans, lt_le, lt_not_le}
use Rattle.float.specs.Laws.Monotone.{root_of_mono}

-- A clearance c to keep; squares below `low` have a root below c, and from `high` on one of at least c, or a comparison with them fails.
unfoldable pub low_square : Float → Float
low_square c =
    let square = c *ᶠ c *ᶠ literal 0x3fef_ff2e_48e8_a71e in
    cond (sqrt square <ᶠ c) square 0ᶠ

unfoldable pub high_square : Float → Float
high_square c =
    let square = c *ᶠ c *ᶠ literal 0x3ff0_0068_db8b_ac71 in
    cond (c ≤ᶠ sqrt square) square nan

-- the code's 0.0 / 0.0
pub none : 0ᶠ /ᶠ 0ᶠ ≡ nan
unfolding Ieee.of_bits Ieee.of_fields Ieee.odd Ieee.div
none = refl

-- ---- what the squares tell

-- a root that is a number is one of a value that is not below 0
pub root_number : (x : Float) → Number (sqrt x) → T (le origin x)
unfolding root_of is_nan
root_number nan h = absurd h
root_number (inf true) h = absurd h
root_number (inf false) h = unfold le in tt
root_number (fin true zero e) h = zero_ge true e
root_number (fin true (suc m) e) h = absurd h
root_number (fin false m e) h = plain_above (fin false m e) tt

low_of : (t : Bool) (s x c : Float) → sqrt s <ᶠ c ≡ t → T (le origin x) → T (lt x (cond t s 0ᶠ)) → T (lt (sqrt (cond t s 0ᶠ)) c)
low_of true s x c e p h = yes e
low_of false s x c e p h = absurd (lt_not_le x 0ᶠ h (rw origin_is p))

-- a square below `low` has a root below c
pub low_square_lem : (c x : Float) → T (le origin x) → T (lt x (low_square c)) → T (lt (sqrt (low_square c)) c)
unfolding low_square
low_square_lem c x p h =
    let s = c *ᶠ c *ᶠ literal 0x3fef_ff2e_48e8_a71e in
    low_of (sqrt s <ᶠ c) s x c refl p h

high_of : (t : Bool) (s u c : Float) → c ≤ᶠ sqrt s ≡ t → T (le (cond t s nan) u) → T (le c (sqrt u))
unfolding le
high_of true s u c e h =
    le_trans c (sqrt s) (sqrt u) (yes e) (root_of_mono binary64 s u (root_number s (le_number c (sqrt s) (yes e)).1) h)
high_of false s u c e h = absurd h

-- a square from `high` on has a root of at least c
pub high_square_lem : (c u : Float) → T (le (high_square c) u) → T (le c (sqrt u))
unfolding high_square
high_square_lem c u h =
    let s = c *ᶠ c *ᶠ literal 0x3ff0_0068_db8b_ac71 in
    high_of (c ≤ᶠ sqrt s) s u c refl h

-- a square below `low` has no root of at least c
pub low_square_below : (c x : Float) → T (lt x (low_square c)) → c ≤ᶠ sqrt x ≡ false
low_square_below c x h =
    refuted (c ≤ᶠ sqrt x)
    (λ (k : T (le c (sqrt x))).
    let p = root_number x (le_number c (sqrt x) k).1 in
    let q = root_of_mono binary64 x (low_square c) p (lt_le x (low_square c) h) in
    lt_not_le (sqrt (low_square c)) c (low_square_lem c x p h) (le_trans c (sqrt x) (sqrt (low_square c)) k q))
