-- `Rows::of` meets its contract: the cells of its rows are those of the definition's walk.
-- Rests on the laws of the rows by rank.
use Rattle.std.proofs.Common.{◌≡◌, false, not, ◌||◌, sym, refl, ◌∙◌}
use Rattle.float.specs.Ops.{◌≤ᶠ◌, 0ᶠ}
use Rattle.glyphs.specs.Rect.{is_finite}
use Rattle.lattice.specs.Rows.{no_walk, walked, empty_walk}
use Rattle.lattice.proofs.walk.Rows.of.Goals as goal

pub returns-then-s : goal.returns-then-s
returns-then-s c = c.none.ensures ∙ sym (no_walk c.args.field (rw c.if-s.true refl))

pub returns-then-not-is_finite : goal.returns-then-not-is_finite
returns-then-not-is_finite c =
    let e = sym c.is_finite.ensures ∙ c.if-not-is_finite.true in
    c.none-then-not-is_finite.ensures ∙ sym (no_walk c.args.field (rw (c.if-s.false, e) refl))

pub returns-then-last-rank : goal.returns-then-last-rank
returns-then-last-rank c =
    let f = c.args.field in
    let e = sym c.is_finite.ensures ∙ c.if-not-is_finite.false in
    let sound : (f.lattice.spacing ≤ᶠ 0ᶠ || not (is_finite f.lattice.spacing)) ≡ false = rw (c.if-s.false, e) refl in
    c.none-then-last-rank.ensures
    ∙ sym (empty_walk f sound (rw (← c.row_height-row_h.ensures, ← c.floor_rank-rank.ensures, ← c.ceil_rank-last.ensures) c.if-last-rank.true))

pub returns : goal.returns
returns c =
    let f = c.args.field in
    let e = sym c.is_finite.ensures ∙ c.if-not-is_finite.false in
    let sound : (f.lattice.spacing ≤ᶠ 0ᶠ || not (is_finite f.lattice.spacing)) ≡ false = rw (c.if-s.false, e) refl in
    rw (c.floor_rank-rank.ensures, c.ceil_rank-last.ensures, c.row_height-row_h.ensures) (walked f sound)
