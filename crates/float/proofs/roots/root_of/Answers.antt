-- `float::root_of` meets its contract: a pattern's fields are the digits and their scale.
-- Rests on `Value.antt` and the contract of `scaled_root`.
use Rattle.std.proofs.Common.{◌≡◌, ℕ, ◌-◌, ◌*◌, ◌%◌, ◌^◌, ◌<◌, sym, ap, ◌∙◌, mod-eq_of_lt, arith}
use lib.Count.{count_leading_zeros}
use lib.Ieee.{binary64}
use Rattle.float.specs.Root.{nearest_root}
use Rattle.float.proofs.roots.Value.{normal_root, subnormal_root, moved}
use Rattle.float.proofs.roots.root_of.Goals as goal

-- moving the digits up loses none
kept : (n : ℕ) → n < 2 ^ 53 → n % 2 ^ 64 ≡ n
kept n h = mod-eq_of_lt (omega arith)

pub overflow_sub-z : goal.overflow_sub-z
overflow_sub-z c = omega (arith, moved c.args.bits c.requires.above_zero c.if-bits-lt4503599627370496.true)

pub overflow_cast-z : goal.overflow_cast-z
overflow_cast-z c = omega (arith, moved c.args.bits c.requires.above_zero c.if-bits-lt4503599627370496.true)

pub overflow_shl-bits : goal.overflow_shl-bits
overflow_shl-bits c = omega (arith, moved c.args.bits c.requires.above_zero c.if-bits-lt4503599627370496.true)

pub overflow_sub-z-then-bits-lt4503599627370496 : goal.overflow_sub-z-then-bits-lt4503599627370496
overflow_sub-z-then-bits-lt4503599627370496 c = omega (arith, moved c.args.bits c.requires.above_zero c.if-bits-lt4503599627370496.true)

pub scaled_root-requires : goal.scaled_root-requires
scaled_root-requires c =
    let m = moved c.args.bits c.requires.above_zero c.if-bits-lt4503599627370496.true in
    record { low = omega (arith, m); high = omega (arith, m); places = omega (arith, m) }

pub returns-then-bits-lt4503599627370496 : goal.returns-then-bits-lt4503599627370496
returns-then-bits-lt4503599627370496 c =
    let f = moved c.args.bits c.requires.above_zero c.if-bits-lt4503599627370496.true in
    c.scaled_root.ensures
    ∙ ap (λ (n : ℕ). nearest_root binary64 (n * 2 ^ 52 * 2 ^ (1022 - (count_leading_zeros 64 c.args.bits - 11))))
    (kept (c.args.bits * 2 ^ (count_leading_zeros 64 c.args.bits - 11)) f.3)
    ∙ sym (subnormal_root c.args.bits (count_leading_zeros 64 c.args.bits - 11) c.requires.above_zero c.if-bits-lt4503599627370496.true f.1)

pub returns : goal.returns
returns c =
    c.scaled_root-2.ensures ∙ sym (normal_root c.args.bits c.if-bits-lt4503599627370496.false c.requires.finite)
