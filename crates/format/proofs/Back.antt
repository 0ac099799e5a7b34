-- What was written is read back: numbers and floats that stand at a place of some bytes.
-- Rests on the kit's laws of lists and of a float's bits.
use Rattle.std.specs.Prelude.{ℕ, zero, suc, ◌+◌, ◌*◌, ◌/◌, ◌%◌, ◌^◌, ◌<◌, ◌≡◌, List, [], ◌∷◌, ◌++◌, get_or, drop, T, Float}
use Rattle.std.proofs.Common.{sym, ap, ◌∙◌, append_assoc, arith, pow-suc, get_or-drop}
use Rattle.std.specs.Float.{binary64}
use Rattle.std.specs.Float.Ieee.{fits, to_bits}
use Rattle.std.specs.Float.Ieee.Bits.{of_bits-to_bits, to_bits-lt}
use Rattle.format.specs.Numbers.{uint, bytes, float_at, float_bytes}
use Rattle.format.specs.NumberLaws.{length_bytes}
use Rattle.format.specs.RowLaws.{behind}

first : (s : List ℕ) (at x : ℕ) (ys : List ℕ) → drop at s ≡ x ∷ ys → get_or s at 0 ≡ x
first s at x ys e =
    let z : at + 0 ≡ at = omega arith in
    ap (λ (n : ℕ). get_or s n 0) (sym z) ∙ sym (get_or-drop at s 0 0) ∙ rw e

pub uint_back : (n v : ℕ) (s : List ℕ) (at : ℕ) (ys : List ℕ) → drop at s ≡ bytes n v ++ ys → v < 256 ^ n → uint n s at ≡ v
unfolding uint bytes
uint_back zero v s at ys e h = omega arith
uint_back (suc n) v s at ys e h =
    let f : drop at s ≡ bytes n (v / 256) ++ (v % 256 ∷ ys) = e ∙ append_assoc (bytes n (v / 256)) (v % 256 ∷ []) ys in
    let g : drop (at + n) s ≡ v % 256 ∷ ys = rw (length_bytes n (v / 256)) at (behind s at (bytes n (v / 256)) (v % 256 ∷ ys) f) in
    let l : 256 ^ suc n ≡ 256 ^ n * 256 = pow-suc 256 n in
    rw (uint_back n (v / 256) s at (v % 256 ∷ ys) f (omega arith), first s (at + n) (v % 256) ys g) (omega arith)

pub float_back : (x : Float) (s : List ℕ) (at : ℕ) (ys : List ℕ) → drop at s ≡ float_bytes x ++ ys → T (fits binary64 x) → float_at s at ≡ x
unfolding float_at float_bytes
float_back x s at ys e h = rw (uint_back 8 (to_bits binary64 x) s at ys e (to_bits-lt binary64 x h)) (of_bits-to_bits binary64 x h)
