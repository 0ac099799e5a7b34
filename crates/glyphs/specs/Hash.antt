-- glyphs.rs, `fnv1a`: FNV-1a of 64 bits. Definitions only.
use Rattle.std.specs.Prelude.{ℕ, ◌*◌, ◌%◌, ◌^◌, List, bit_xor}
use mathlib.Core.List.{foldl}

-- xor the byte, then times the prime, of which the low 64 bits are kept
unfoldable pub mix_byte : ℕ → ℕ → ℕ
mix_byte hash b = bit_xor hash b * 0x100_0000_01b3 % 2 ^ 64

unfoldable pub fnv1a : List ℕ → ℕ
unfolding mix_byte
fnv1a bytes = foldl mix_byte 0xcbf2_9ce4_8422_2325 bytes
