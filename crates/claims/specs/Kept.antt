-- What holds of the marks that a packer places in a piece: 64 bits hold them, clearance, obstacles where they are honoured, any two; and exact distances.
-- Rests on the rounding crate's law of computed squares.
use Rattle.std.specs.Prelude.{Bool, true, false, List, [], ◌∷◌, T, Float}
use Rattle.std.specs.Float.{binary64}
use Rattle.std.specs.Float.Ieee.{fits}
use Rattle.laws.specs.Every.{Every, Pairwise}
use Rattle.float.specs.Ops.{◌*ᶠ◌, ◌≥ᶠ◌}
use Rattle.rounding.specs.Bounds.{Sized}
use Rattle.rounding.specs.Distance.{Spaced, spaced_sym}
use Rattle.rounding.proofs.SpacingApart.{spacing}
use Rattle.glyphs.specs.declared.rect.Point.{Point}
use Rattle.glyphs.specs.declared.rect.Rectangle.{Rectangle}
use Rattle.glyphs.specs.Rect.{clear_of_obstacles}
use Rattle.glyphs.specs.Spots.{squared_distance}
use Rattle.regions.specs.Ring.{Piece}
use Rattle.claims.specs.Claim.{Inset}

-- the computed test of all obstacles
abbrev pub Unblocked : List Rectangle → Float → Point → Type 0
Unblocked obstacles inset p = T (clear_of_obstacles p.x p.y obstacles inset)

-- 64 bits hold its coordinates
pub record Fits (p : Point) : Type 0 where
  pub across : T (fits binary64 p.x)
  pub along : T (fits binary64 p.y)

pub record Stands (piece : Piece) (inset : Float) (p : Point) : Type 0 where
  pub fits : Fits p
  pub deep : Inset piece inset p

-- what holds of the marks placed: R of each and those after it
pub record Kept (piece : Piece) (clear : Float) (near : List Rectangle) (R : Point → Point → Type 0) (honor : Bool) (placed : List Point) : Type 0 where
  pub insets : Every (Stands piece clear) placed
  pub unblocked : T honor → Every (Unblocked near clear) placed
  pub apart : Pairwise R placed

pub none_kept : (piece : Piece) (clear : Float) (near : List Rectangle) (R : Point → Point → Type 0) (honor : Bool) → Kept piece clear near R honor []
none_kept piece clear near R honor = record { insets = tt; unblocked = λ t. tt; apart = tt }

module _ {piece : Piece} {clear : Float} {near : List Rectangle} {R : Point → Point → Type 0} {placed : List Point} where
  -- a pass without obstacles keeps the rest
  pub less_kept : {honor : Bool} → Kept piece clear near R honor placed → Kept piece clear near R false placed
  less_kept k = record { insets = k.insets; unblocked = λ t. absurd t; apart = k.apart }

  -- where they are honoured, that is more than is asked
  pub honor_kept : (honor : Bool) → Kept piece clear near R true placed → Kept piece clear near R honor placed
  honor_kept honor k = record { insets = k.insets; unblocked = λ t. k.unblocked tt; apart = k.apart }

-- ---- any two, by what holds of each
pub pairwise_by :
    {A : Type 0} (P : A → Type 0) (R S : A → A → Type 0) → ((x y : A) → P x → P y → R x y → S x y) → (xs : List A) → Every P xs → Pairwise R xs → Pairwise S xs
pairwise_by {A} P R S f [] e p = tt
pairwise_by {A} P R S f (x ∷ xs) e p = (row xs e.1 p.0, pairwise_by P R S f xs e.1 p.1)
  where
    row : (ys : List A) → Every P ys → Every (R x) ys → Every (S x) ys
    row [] d r = tt
    row (y ∷ ys) d r = (f x y e.0 d.0 r.0, row ys d.1 r.1)

pub kept_by :
    (piece : Piece) (clear : Float) (near : List Rectangle) (R S : Point → Point → Type 0) (honor : Bool) (placed : List Point)
    → ((p q : Point) → Stands piece clear p → Stands piece clear q → R p q → S p q) → Kept piece clear near R honor placed
    → Kept piece clear near S honor placed
kept_by piece clear near R S honor placed f k =
    record { insets = k.insets; unblocked = k.unblocked; apart = pairwise_by (Stands piece clear) R S f placed k.insets k.apart }

-- ---- exact distances

-- within the reach of the rounding laws
pub record Sited (p : Point) : Type 0 where
  pub across : Sized p.x 65536
  pub along : Sized p.y 65536

abbrev pub Apart : Float → Point → Point → Type 0
Apart s p q = Spaced s p.x p.y q.x q.y

pub apart_sym : (s : Float) (p q : Point) → Apart s p q → Apart s q p
apart_sym s p q h = spaced_sym s p.x p.y q.x q.y h

pub computed_apart : (s : Float) → Sized s 65536 → (p q : Point) → Sited p → Sited q → T (squared_distance p q ≥ᶠ s *ᶠ s) → Apart s p q
computed_apart s z p q a b t = spacing s p.x p.y q.x q.y z a.across a.along b.across b.along t
