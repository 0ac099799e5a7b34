-- A root fits its format.
-- Rests on the kit's account of `units`.
use Rattle.std.specs.Prelude.{ℕ, zero, suc, ◌+◌, ◌-◌, ◌*◌, ◌/◌, ◌^◌, ◌<◌, ◌≤◌, Bool, true, false, cond, T, nat_lt, Float}
use Prim.Native.Nat.{compare}
use Rattle.std.proofs.Common.{le_refl, le_trans, lt_of_le_of_lt, ltb→lt}
use Rattle.std.proofs.Math.Pow.{pow-lt}
use Rattle.std.specs.Float.{nan, inf, fin, Format}
use Rattle.std.specs.Float.Ieee.{prec, emax, low, up, down, size, nearest, odd, units, fits}
use Rattle.std.specs.Float.Ieee.Fits.{kept-lt, nearest-le, odd-fits, inf-fits, nan-fits}
use Rattle.float.specs.Root.{root_of, nearest_root, floor_root}

-- ---- `units`, and so the root, fits its format
units_fits : (f : Format) (q k : ℕ) → q ≤ 2 ^ prec f → T (fits f (units f false q k))
unfolding units
units_fits f q k h = go (nat_lt (q * 2 ^ k) (2 ^ (low f + suc (emax f)))) (ltb→lt (q * 2 ^ k) (2 ^ (low f + suc (emax f))))
  where
    go : (b : Bool) → (T b → q * 2 ^ k < 2 ^ (low f + suc (emax f))) → T (fits f (cond b (odd (suc (prec f)) false q k (low f)) (inf false)))
    go true t = odd-fits f (suc (prec f)) false q k (lt_of_le_of_lt h (pow-lt (le_refl (suc (prec f))))) h (t tt)
    go false t = inf-fits f false

pub nearest_root_fits : (f : Format) (n : ℕ) → T (fits f (nearest_root f n))
unfolding nearest_root
nearest_root_fits f n =
    let w = floor_root (size n) n in
    let k = size w - prec f in
    let q = w / 2 ^ k in
    let o = compare (4 * n) ((2 * q + 1) * (2 * q + 1) * (2 ^ k * 2 ^ k)) in
    units_fits f (nearest q o) k (le_trans (nearest-le q o) (kept-lt (prec f) w))

pub root_of_fits : (f : Format) (x : Float) → T (fits f x) → T (fits f (root_of f x))
unfolding root_of
root_of_fits f nan h = h
root_of_fits f (inf true) h = nan-fits f
root_of_fits f (inf false) h = inf-fits f false
root_of_fits f (fin true zero e) h = h
root_of_fits f (fin false zero e) h = h
root_of_fits f (fin true (suc m) e) h = nan-fits f
root_of_fits f (fin false (suc m) e) h = nearest_root_fits f (suc m * up e * (2 ^ low f * 2 ^ low f) / down e)
