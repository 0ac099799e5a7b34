-- Two values that fit and are equal by `==` are the same, but for the sign of a zero.
-- Rests on the kit's law that a value that fits is that of its pattern.
use Rattle.std.specs.Prelude.{◌≡◌, ℕ, zero, suc, ◌*◌, ◌/◌, ◌^◌, Bool, true, false, ◌&&◌, T, ◌⊎◌, ℤ, ◌==◌, Float}
use Rattle.std.proofs.Math.Path.{refl}
use Rattle.std.proofs.Common.{sym, ap, ◌∙◌, inl, inr, mul_right_comm, mul-pos, zero-lt-suc, arith, eqb→eq}
use Rattle.std.specs.Float.{nan, inf, fin, Format}
use Rattle.std.specs.Float.Ieee.{low, up, down, fits, eq, of_bits, to_bits}
use Rattle.std.specs.Float.Ieee.Bits.{of_bits-to_bits}
use Rattle.std.specs.Float.Ieee.Fits.{up_pos, down_pos, and_l, and_r}
use Rattle.std.specs.Float.Ieee.Nearest.{div_same}

-- a zero, of either sign
abbrev pub Zero : Float → Type 0
Zero nan = ⊥
Zero (inf s) = ⊥
Zero (fin s m e) = m ≡ 0

same_value :
    (f : Format) (s : Bool) (m : ℕ) (e : ℤ) (n : ℕ) (d : ℤ) → T (fits f (fin s m e)) → T (fits f (fin s n d))
    → m * up e * down d ≡ n * up d * down e → fin s m e ≡ fin s n d
same_value f s m e n d p q h = sym (of_bits-to_bits f (fin s m e) p) ∙ ap (of_bits f) (patterns s) ∙ of_bits-to_bits f (fin s n d) q
  where
    l : ℕ
    l = 2 ^ low f

    in_units : m * up e * l / down e ≡ n * up d * l / down d
    in_units =
        div_same (m * up e * l) (down e) (n * up d * l) (down d) (down_pos e) (down_pos d)
        (mul_right_comm (m * up e) l (down d) ∙ ap (λ (x : ℕ). x * l) h ∙ mul_right_comm (n * up d) (down e) l)

    patterns : (s : Bool) → to_bits f (fin s m e) ≡ to_bits f (fin s n d)
    patterns s = unfold to_bits in rw in_units refl

no_size : (m : ℕ) (e d : ℤ) → m * up e * down d ≡ 0 → m ≡ 0
no_size zero e d h = refl
no_size (suc m) e d h = absurd (omega (arith, mul-pos (mul-pos (zero-lt-suc m) (up_pos e)) (down_pos d)))

both : (m : ℕ) (e : ℤ) (n : ℕ) (d : ℤ) → T (m * up e * down d == n * up d * down e && m * up e * down d == 0) → (m ≡ 0) × (n ≡ 0)
both m e n d h =
    let a = m * up e * down d in
    let b = n * up d * down e in
    let i = eqb→eq a b (and_l (a == b) (a == 0) h) in
    let z = eqb→eq a 0 (and_r (a == b) (a == 0) h) in
    (no_size m e d z, no_size n d e (sym i ∙ z))

pub same : (f : Format) (x y : Float) → T (fits f x) → T (fits f y) → T (eq x y) → (x ≡ y) ⊎ (Zero x × Zero y)
unfolding eq
same f nan y p q h = absurd h
same f (inf s) nan p q h = absurd h
same f (inf true) (inf true) p q h = inl refl
same f (inf true) (inf false) p q h = absurd h
same f (inf false) (inf true) p q h = absurd h
same f (inf false) (inf false) p q h = inl refl
same f (inf s) (fin t n d) p q h = absurd h
same f (fin s m e) nan p q h = absurd h
same f (fin s m e) (inf t) p q h = absurd h
same f (fin true m e) (fin true n d) p q h =
    inl (same_value f true m e n d p q (eqb→eq (m * up e * down d) (n * up d * down e) (and_l (m * up e * down d == n * up d * down e) true h)))
same f (fin false m e) (fin false n d) p q h =
    inl (same_value f false m e n d p q (eqb→eq (m * up e * down d) (n * up d * down e) (and_l (m * up e * down d == n * up d * down e) true h)))
same f (fin true m e) (fin false n d) p q h = inr (both m e n d h)
same f (fin false m e) (fin true n d) p q h = inr (both m e n d h)
