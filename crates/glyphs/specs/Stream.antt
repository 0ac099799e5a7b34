-- The random stream that stands in for rand's StdRng: SplitMix64 as published, and a draw from a range. Definitions only.
use Rattle.std.specs.Prelude.{ℕ, ◌+◌, ◌*◌, ◌/◌, ◌%◌, ◌^◌, bit_xor, Float}
use Rattle.float.specs.Ops.{◌+ᶠ◌, ◌-ᶠ◌, ◌*ᶠ◌, ◌/ᶠ◌, literal}
use Rattle.float.specs.Whole.{as_f64}
use Rattle.glyphs.specs.declared.stream.Stream.{Stream}
use Rattle.glyphs.specs.declared.stream.Drawn.{Drawn}

-- discs.rs, `pack_region`: one stream for each region
unfoldable pub seeded : ℕ → ℕ → Stream
seeded seed hash = record { state = bit_xor seed hash }

-- z xor (z right k), times c, in 64 bits
unfoldable pub scramble : ℕ → ℕ → ℕ → ℕ
scramble k c z = bit_xor z (z / 2 ^ k) * c % 2 ^ 64

unfoldable pub draw : Stream → Drawn ℕ
draw s =
    let state = (s.state + 0x9e37_79b9_7f4a_7c15) % 2 ^ 64 in
    let z = scramble 27 0x94d0_49bb_1331_11eb (scramble 30 0xbf58_476d_1ce4_e5b9 state) in
    record { value = bit_xor z (z / 2 ^ 31); next = record { state = state } }

-- 2 ^ 53
abbrev pub 2^53ᶠ : Float
2^53ᶠ = literal 0x4340_0000_0000_0000

-- low + (high - low) × (top 53 bits / 2^53)
unfoldable pub random_range : Stream → Float → Float → Drawn Float
random_range s low high =
    let d = draw s in
    record { value = low +ᶠ (high -ᶠ low) *ᶠ (as_f64 (d.value / 2 ^ 11) /ᶠ 2^53ᶠ); next = d.next }
