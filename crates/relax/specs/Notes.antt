-- What is noted of each mark before the sweeps: its clearance, the root not taken, and whether it is clear of the obstacles.
-- Rests on the laws of lists that agree at each index.
use Rattle.std.specs.Prelude.{◌≡◌, refl, List, [], ◌∷◌, map, ℕ, ◌*◌, ◌/◌, ◌<◌, length, get_or, Float}
use Rattle.std.proofs.Common.{sym, ap, ◌∙◌, append-nil, arith, ext_get_or}
use Rattle.std.proofs.lemmas.List.{length-map}
use Rattle.std.proofs.Math.Seq.{drop-length}
use Rattle.std.specs.Float.{nan}
use Rattle.laws.specs.Lists.{tabulate, written, tabulated, get_d_map}
use Rattle.glyphs.specs.declared.rect.Point.{Point}
use Rattle.glyphs.specs.Spots.{spot_at, spots_of, spots_at_lem, length_spots}
use Rattle.regions.specs.Ring.{Piece}
use Rattle.regions.specs.Unrooted.{unrooted, rooted, rooted_clearance}
use Rattle.relax.specs.Scatter.{clearances_of}

unfoldable pub unrooted_of : Piece → List Point → List Float
unrooted_of piece points = map (λ (p : Point). unrooted p.x p.y piece) points

-- ---- laws

-- a rule's values written over a whole list
pub rule_noted :
    (f : ℕ → Float) (t l : List Float) → length t ≡ length l → ((i : ℕ) → i < length t → f i ≡ get_or t i nan)
    → written (tabulate f (length l)) l ≡ t
unfolding written
rule_noted f t l e h =
    let k : tabulate f (length l) ≡ t = rw (← e) (tabulated f t nan h) in
    rw (k, e, drop-length, append-nil)

-- one rule after another
pub together : {A B C : Type 0} (f : B → C) (g : A → B) (l : List A) → map (λ (x : A). f (g x)) l ≡ map f (map g l)
together f g [] = refl
together f g (x ∷ l) = rw (together f g l)

-- a list with a rule's value at each mark is what the rule gives for the marks
pub noted :
    {B : Type 0} (g : Point → B) (spots : List Float) (l : List B) (d : B) → length spots ≡ length l * 2
    → ((i : ℕ) → i < length l → get_or l i d ≡ g (spot_at spots i)) → l ≡ map g (spots_of spots)
noted g spots l d e h = ext_get_or d l (map g (spots_of spots)) (simp (length-map, length_spots) (omega arith)) same
  where
    same : (i : ℕ) → i < length l → get_or l i d ≡ get_or (map g (spots_of spots)) i d
    same i k =
        let n : i < length spots / 2 = omega arith in
        let m : i < length (spots_of spots) = rw length_spots n in
        h i k ∙ sym (get_d_map g (spots_of spots) i (spot_at spots i) d m ∙ ap g (spots_at_lem spots i (spot_at spots i) n))

-- their roots are the clearances
pub noted_roots : (piece : Piece) (points : List Point) → map rooted (unrooted_of piece points) ≡ clearances_of piece points
unfolding unrooted_of clearances_of
noted_roots piece [] = refl
noted_roots piece (p ∷ points) = rw (rooted_clearance p.x p.y piece, noted_roots piece points)
