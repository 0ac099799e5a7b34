-- Errors in proportion, and how they chain: `Near E k e a b` says that a and b agree but for k / E of either and e / E. E is 2 ^ 53 at every use.
-- Rests on nothing.
use Rattle.std.specs.Prelude.{Bool, true, false, ℕ, ◌+◌, ◌*◌, ◌≤◌, ◌<◌}
use Rattle.std.proofs.Common.{mul-le-mul_right, mul-le-mul_left, mul-le-mul, le_of_mul-le-mul_right, le_of_suc-le-suc, lt_of_not-le, arith}
use Rattle.rounding.specs.Signed.{Exact, signed, abs, abs_scale}

-- a ≤ b * (1 + k / E) + e / E
abbrev pub Under : ℕ → ℕ → ℕ → ℕ → ℕ → Type 0
Under E k e a b = a * E ≤ b * (E + k) + e

pub record Near (E k e a b : ℕ) : Type 0 where
  pub above : Under E k e a b
  pub below : Under E k e b a

module _ (E : ℕ) (pos : 0 < E) where
  -- twice is always enough
  pub twice : (k e a b : ℕ) → k ≤ E → Under E k (e * E) a b → a ≤ b * 2 + e
  twice k e a b h p = le_of_mul-le-mul_right {k = E} (omega (arith, p, mul-le-mul_left b h)) pos

  pub wider : (k l e f a b : ℕ) → k ≤ l → e ≤ f → Under E k e a b → Under E l f a b
  wider k l e f a b h g p = omega (arith, p, mul-le-mul_left b h)

  pub chain : (k l e f a b c : ℕ) → k ≤ E → k * l ≤ E → Under E k e a b → Under E l f b c → Under E (k + l + 1) (e + 2 * f) a c
  chain k l e f a b c kE klE p q =
      le_of_mul-le-mul_right (omega (arith, mul-le-mul_right E p, mul-le-mul_right (E + k) q, mul-le-mul_left c klE, mul-le-mul_left f kE)) pos

  -- errors of the parts of a sum add up
  pub sum : (k e f a b c d : ℕ) → Under E k e a b → Under E k f c d → Under E k (e + f) (a + c) (b + d)
  sum k e f a b c d p q = omega (arith, p, q)

  pub scale : (k e a b c : ℕ) → Under E k e a b → Under E k (e * c) (a * c) (b * c)
  scale k e a b c p = omega (arith, mul-le-mul_right c p)

  pub square : (k a b : ℕ) → k * k ≤ E → Under E k 0 a b → Under E (2 * k + 1) 0 (a * a) (b * b)
  square k a b kE p =
      let q : a * E ≤ b * (E + k) = omega arith in
      le_of_mul-le-mul_right (omega (arith, mul-le-mul q q, mul-le-mul_left (b * b) kE)) pos

-- a common factor goes out
pub cancel : (E k e a b u : ℕ) → 0 < u → Near E k (e * u) (a * u) (b * u) → Near E k e a b
cancel E k e a b u u0 r =
    record { above = le_of_mul-le-mul_right {k = u} (omega (arith, r.above)) u0; below = le_of_mul-le-mul_right {k = u} (omega (arith, r.below)) u0 }

-- an error in proportion to either is one in proportion to b
pub within : (E e a b : ℕ) → Near E 1 e a b → (a * E ≤ b * E + b + e) × (b * E ≤ a * E + b + e)
within E e a b r = (
  omega (arith, r.above),
  le_of_suc-le-suc (lt_of_not-le (λ (h : a * E + b + e < b * E). absurd (omega (arith, r.below, h, mul-le-mul_right E (smaller h))))),
)
  where
    smaller : a * E + b + e < b * E → b ≤ a
    smaller h = omega (arith, r.below, h)

-- ---- signed numbers: a and b are e / E apart at most
pub record Close (E e : ℕ) (a b : Exact) : Type 0 where
  pub above : a.p * E + b.n * E ≤ b.p * E + a.n * E + e
  pub below : b.p * E + a.n * E ≤ a.p * E + b.n * E + e

pub close_chain : (E e f : ℕ) (a b c : Exact) → Close E e a b → Close E f b c → Close E (e + f) a c
close_chain E e f a b c p q = record { above = omega (arith, p.above, q.above); below = omega (arith, p.below, q.below) }

pub close_wider : (E e f : ℕ) (a b : Exact) → e ≤ f → Close E e a b → Close E f a b
close_wider E e f a b h p = record { above = omega (arith, p.above); below = omega (arith, p.below) }

-- the sizes are as close
pub close_abs : (E e : ℕ) (a b : Exact) → Close E e a b → (abs a * E ≤ abs b * E + e) × (abs b * E ≤ abs a * E + e)
close_abs E e a b p = (omega (arith, p, abs_scale a E, abs_scale b E), omega (arith, p, abs_scale a E, abs_scale b E))

-- and numbers of one sign as their sizes
pub close_signed : (E e a b : ℕ) (s : Bool) → Near E 1 e a b → Close E (b + e) (signed s a) (signed s b)
close_signed E e a b false r = let c = within E e a b r in record { above = omega (arith, c); below = omega (arith, c) }
close_signed E e a b true r = let c = within E e a b r in record { above = omega (arith, c); below = omega (arith, c) }
