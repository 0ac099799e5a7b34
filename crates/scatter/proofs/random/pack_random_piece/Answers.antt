-- `pack_random_piece` meets its contract: no marks without bounds, else those thrown, relaxed where the mode spreads them.
-- Rests on the laws of the packer by its parts.
use mathlib.Core.Path.{◌≡◌, refl, sym, ◌∙◌, subst}
use Prim.Native.Nat.{ℕ, ◌≤◌}
use native.Mathlib.Omega.{arith}
use borrow.Author.Rules.{rules}
use Rattle.laws.specs.Lists.{written}
use Rattle.std.specs.Prelude.{None}
use Rattle.glyphs.specs.Spots.{flat}
use Rattle.regions.specs.Pieces.{rings_of}
use Rattle.scatter.specs.Sites.{Boxed}
use Rattle.scatter.proofs.Darts.{whole, few_both, no_marks, unspread, relaxed}
use Rattle.scatter.specs.Random.{pack_random_piece}
use Rattle.scatter.proofs.random.pack_random_piece.Goals as goal

pub returns-in_default : goal.returns-in_default
unfolding written flat
returns-in_default c =
    let a = c.args in
    let none : c.piece_bounds.result ≡ None = search rules in
    let e = no_marks a.numbers (rings_of a.piece) a.n a.attempts a.ctx a.obstacles.now a.rng (sym c.piece_bounds.ensures ∙ none) in
    rw e (refl, refl, refl)

pub relax_placed-requires : goal.relax_placed-requires
relax_placed-requires c =
    let s = c.of-site.result in
    let taken = c.throw_passes-taken in
    let few : taken.result.count ≤ s.n = subst (λ (k : ℕ). k ≤ s.n) (sym taken.ensures.0) (few_both s c.args.attempts c.args.rng) in
    let n = c.of-site.ensures.n in
    (omega (arith, few, n, c.requires.1), omega (arith, few, n, c.requires.2), omega (arith, few, n, c.requires.3, taken.auto.spots))

pub returns-then-ctx : goal.returns-then-ctx
returns-then-ctx c =
    let a = c.args in
    let s = c.of-site.result in
    let e = c.of-site.ensures in
    let near = a.obstacles.now in
    let boxed : Boxed s = rw (e.piece, e.extents) (sym c.piece_bounds.ensures ∙ c.in-Some.is) in
    let same : whole a.numbers s a.attempts near a.rng ≡ pack_random_piece a.numbers (rings_of a.piece) a.n a.attempts a.ctx near a.rng =
    rw (e.piece, e.n, e.ctx) in
    let taken = c.throw_passes-taken in
    rw same at
    (relaxed a.numbers s a.attempts near a.rng taken.result _ _ a.spots.now boxed e.near (rw e.ctx c.if-ctx.true) taken.ensures c.relax_placed.ensures)

pub returns-else-ctx : goal.returns-else-ctx
returns-else-ctx c =
    let a = c.args in
    let s = c.of-site.result in
    let e = c.of-site.ensures in
    let near = a.obstacles.now in
    let boxed : Boxed s = rw (e.piece, e.extents) (sym c.piece_bounds.ensures ∙ c.in-Some.is) in
    let same : pack_random_piece a.numbers (rings_of a.piece) a.n a.attempts a.ctx near a.rng ≡ whole a.numbers s a.attempts near a.rng =
    rw (e.piece, e.n, e.ctx) in
    rw (same, unspread a.numbers s a.attempts near a.rng boxed e.near (rw e.ctx c.if-ctx.false)) c.throw_passes-taken.ensures
