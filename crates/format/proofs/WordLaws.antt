-- The bytes of a word: the library's conversions are the definitions.
-- Rests on the kit's laws of lists, and on the room of one digit more.
use Rattle.std.specs.Prelude.{ℕ, zero, suc, ◌+◌, ◌-◌, ◌*◌, ◌/◌, ◌%◌, ◌^◌, ◌<◌, ◌≤◌, ◌≡◌, refl, List, [], ◌∷◌, ◌++◌, length, get_or, replicate}
use Rattle.std.proofs.Common.{ap, ◌∙◌, arith, add-one, zero-add, pow-suc}
use Rattle.std.proofs.lemmas.List.{append-nil, take-replicate, drop-replicate}
use Rattle.std.proofs.Math.Nat.{div-div-eq-div-mul}
use borrow.Rule.Slice.PartMut.{put_mid}
use Rattle.std.specs.Int.{w64, byte_at, bytes_high_first, from_be_bytes}
use Rattle.format.specs.Numbers.{uint, bytes}
use Rattle.format.specs.NumberLaws.{digit_room}

-- ---- read

pub of_word : (word : List ℕ) → from_be_bytes w64 word ≡ uint 8 word 0
unfolding uint
of_word word = omega arith

-- zeros in front
zero_first : (n : ℕ) (s : List ℕ) → uint (suc n) (0 ∷ s) 0 ≡ uint n s 0
unfolding uint
zero_first zero s = refl
zero_first (suc n) s =
    let e : 0 + suc n ≡ suc n = omega arith in
    let z : 0 + n ≡ n = omega arith in
    rw (z, e) (ap (λ (x : ℕ). x * 256 + get_or s n 0) (rw z at (zero_first n s)))

pub zeros_first : (k n : ℕ) (s : List ℕ) → uint (k + n) (replicate k 0 ++ s) 0 ≡ uint n s 0
zeros_first zero n s = rw zero-add
zeros_first (suc k) n s =
    let e : suc k + n ≡ suc (k + n) = omega arith in
    rw (e, zero_first (k + n) (replicate k 0 ++ s), zeros_first k n s)

-- some bytes, put at the end of a word of zeros
pub ends_word : (s : List ℕ) → length s ≤ 8 → put_mid (8 - length s) (8 - (8 - length s)) (replicate 8 0) s ≡ replicate (8 - length s) 0 ++ s
ends_word s h =
    let k : 8 - (8 - length s) ≡ length s = omega arith in
    let z : 8 - (8 - length s) - length s ≡ 0 = omega arith in
    let n : ℕ = 0 in
    rw (
      take-replicate (8 - length s) 8 n (omega arith),
      k,
      drop-replicate (8 - length s) 8 n,
      drop-replicate (length s) (8 - (8 - length s)) n,
      z,
      append-nil s,
    )

pub uint_room : (n : ℕ) (s : List ℕ) → n ≤ 8 → ((i : ℕ) → get_or s i 0 < 256) → uint n s 0 < 256 ^ n
unfolding uint
uint_room zero s h f = omega arith
uint_room (suc n) s h f =
    rw add-one at (digit_room n (uint n s 0) (get_or s (0 + n) 0) (omega arith) (uint_room n s (omega arith) f) (f (0 + n))).0

-- ---- written

next_byte : (k v : ℕ) → byte_at (suc k) v ≡ byte_at k (v / 256)
next_byte zero v = refl
next_byte (suc k) v =
    let p : 256 ^ suc (suc k) ≡ 256 * 256 ^ suc k = pow-suc 256 (suc k) ∙ omega arith in
    rw (p, div-div-eq-div-mul v 256 (256 ^ suc k)) refl

last_byte : (k v : ℕ) → bytes_high_first (suc k) v ≡ bytes_high_first k (v / 256) ++ v % 256 ∷ []
last_byte zero v = refl
last_byte (suc k) v =
    ap (λ (l : List ℕ). byte_at (suc k) v ∷ l) (last_byte k v)
    ∙ ap (λ (b : ℕ). b ∷ bytes_high_first k (v / 256) ++ v % 256 ∷ []) (next_byte k v)

pub to_word : (n v : ℕ) → bytes_high_first n v ≡ bytes n v
unfolding bytes
to_word zero v = refl
to_word (suc n) v = last_byte n v ∙ rw (to_word n (v / 256))
