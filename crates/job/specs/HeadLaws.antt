-- Laws of the job's first bytes.
-- Rests on the laws of rows and items.
use Rattle.std.specs.Prelude.{ℕ, zero, suc, ◌+◌, ◌*◌, ◌<◌, ◌≤◌, ◌≡◌, refl, List, length, Float, Option, Result, Ok, IfOk}
use Rattle.std.proofs.Common.{◌∙◌, arith, leb-true}
use Rattle.glyphs.specs.declared.options.GlyphArrangement.{GlyphArrangement}
use Rattle.glyphs.specs.declared.options.ObstaclePolicy.{ObstaclePolicy}
use Rattle.discs.specs.declared.options.Radius.{Radius}
use Rattle.discs.specs.declared.options.GlyphOptions.{GlyphOptions}
use Rattle.format.specs.declared.refusal.Refusal.{Refusal}
use Rattle.format.specs.Refusals.{fault_of}
use Rattle.format.specs.Numbers.{u16, u32_in, coord_at, next_coord}
use Rattle.format.specs.RowLaws.{both, passed, length_each}
use Rattle.format.specs.NumberLaws.{item_cut}
use Rattle.format.specs.RefusalLaws.{given}
use Rattle.job.specs.Head.{obstacles_at, number_after, measures_fault, head_fault, options_of, obstacles}

-- ---- the number after a kind

pub after_cut : (kind : ℕ) (s : List ℕ) (at most : ℕ) → length s < at + 4 → 6 ≡ number_after kind s at most
unfolding number_after
after_cut zero s at most h = item_cut 4 s at 0 0 5 h refl
after_cut (suc kind) s at most h = item_cut 4 s at 0 most 4 h refl

pub after_none : (kind : ℕ) (s : List ℕ) (at most : ℕ) → kind ≡ 0 → u32_in s at 0 0 5 ≡ number_after kind s at most
unfolding number_after
after_none zero s at most h = refl
after_none (suc kind) s at most h = absurd (omega arith)

pub after_some : (kind : ℕ) (s : List ℕ) (at most : ℕ) → (kind ≡ 0 → ⊥) → u32_in s at 0 most 4 ≡ number_after kind s at most
unfolding number_after
after_some zero s at most h = absurd (h refl)
after_some (suc kind) s at most h = refl

-- ---- a head without fault is whole

pub head_whole : (s : List ℕ) → head_fault s ≡ 0 → 37 ≤ length s
unfolding head_fault measures_fault
head_whole s e =
    let m = (both _ _ (both _ _ e).1).1 in
    let seed = (both _ _ (both _ _ (both _ _ (both _ _ (both _ _ m).1).1).1).1).1 in
    leb-true 37 (length s) (passed 6 _ (omega arith) seed)

pub length_obstacles : (s : List ℕ) → length (obstacles s) ≡ 4 * u16 s obstacles_at
unfolding obstacles
length_obstacles s = length_each next_coord (coord_at s) (4 * u16 s obstacles_at) (obstacles_at + 2)

-- ---- a head without fault gives its options

pub options_given :
    (s : List ℕ) (r : Result GlyphOptions Refusal) → head_fault s ≡ 0 → fault_of r ≡ head_fault s → IfOk r (λ options. options ≡ options_of s)
    → r ≡ Ok (options_of s)
options_given s r e f h = given r (f ∙ e) h

-- ---- options are equal where their parts are

pub same_options :
    {a b : GlyphArrangement} {r q : Radius} {g h : Float} {k l : Option Float} {d e : ℕ} {p o : Float} {m n : ℕ} {x y : ObstaclePolicy}
    → a ≡ b → r ≡ q → g ≡ h → k ≡ l → d ≡ e → p ≡ o → m ≡ n → x ≡ y
    → ◌≡◌ {A = GlyphOptions}
    (record { arrangement = a; radius = r; gap = g; boundary_gap = k; seed = d; precision = p; max_attempts = m; obstacle_policy = x })
    (record { arrangement = b; radius = q; gap = h; boundary_gap = l; seed = e; precision = o; max_attempts = n; obstacle_policy = y })
same_options i1 i2 i3 i4 i5 i6 i7 i8 = rw (i1, i2, i3, i4, i5, i6, i7, i8)
