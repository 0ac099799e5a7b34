-- The turns of the search for a radius, counted by the trials made.
-- Rests on the definition alone.
use Rattle.std.specs.Prelude.{Some}
use Rattle.std.proofs.Common.{◌≡◌, ℕ, suc, ◌+◌, ◌-◌, ◌<◌, ◌≤◌, Bool, true, false, cond, refl, arith}
use lib.Ieee.{Float}
use Rattle.float.specs.Ops.{◌+ᶠ◌, ◌-ᶠ◌, ◌*ᶠ◌, ◌≤ᶠ◌, ½ᶠ}
use Rattle.lattice.specs.Uniform.{1e-3ᶠ}
use Rattle.discs.specs.Radius.{halve}
use Rattle.discs.specs.Walk.{narrowed}
use Rattle.discs.specs.declared.radius.Bracket.{Bracket}
use Rattle.discs.specs.declared.radius.Search.{Search}

module _ (fits : Float → Bool) (r-hi : Float) where
  -- what is left of the search
  abbrev pub left : Bracket → ℕ → Search
  left b made = halve fits r-hi (25 - made) b.lo b.hi b.best made

  pub halve_end : (b : Bracket) (made : ℕ) → 25 ≤ made → left b made ≡ record { best = b.best; trials = made }
  unfolding halve
  halve_end b made h =
      let e : 25 - made ≡ 0 = omega arith in
      rw e

  pub halve_stop : (b : Bracket) (made : ℕ) → made < 25 → b.hi -ᶠ b.lo ≤ᶠ 1e-3ᶠ *ᶠ r-hi ≡ true → left b made ≡ record { best = b.best; trials = made }
  unfolding halve
  halve_stop b made h t =
      let e : 25 - made ≡ suc (24 - made) = omega arith in
      rw (e, t)

  pub halve_turn :
      (b : Bracket) (made : ℕ) → made < 25 → b.hi -ᶠ b.lo ≤ᶠ 1e-3ᶠ *ᶠ r-hi ≡ false
      → left b made ≡ left (narrowed b (½ᶠ *ᶠ (b.lo +ᶠ b.hi)) (fits (½ᶠ *ᶠ (b.lo +ᶠ b.hi)))) (made + 1)
  unfolding halve narrowed
  halve_turn b made h t =
      let e : 25 - made ≡ suc (24 - made) = omega arith in
      let f : 25 - (made + 1) ≡ 24 - made = omega arith in
      rw (e, t, f) (go b (24 - made) made (½ᶠ *ᶠ (b.lo +ᶠ b.hi)) (fits (½ᶠ *ᶠ (b.lo +ᶠ b.hi))))
    where
      go : (b : Bracket) (turns made : ℕ) (mid : Float) (t : Bool)
          → cond t (halve fits r-hi turns mid b.hi (Some mid) (made + 1)) (halve fits r-hi turns b.lo mid b.best (made + 1))
          ≡ halve fits r-hi turns (narrowed b mid t).lo (narrowed b mid t).hi (narrowed b mid t).best (made + 1)
      go b turns made mid true = unfold narrowed in refl
      go b turns made mid false = unfold narrowed in refl
