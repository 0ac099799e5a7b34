-- The areas and the shares that lie at the front of what holds them.
-- Rests on the kit's laws of lists and on there being one quota for each weight.
use Rattle.std.specs.Prelude.{ℕ, ◌≤◌, ◌≡◌, List, length, take, replicate, Float}
use Rattle.std.proofs.Common.{ap, ◌∙◌, append-nil, arith, drop_of_length-le}
use Rattle.std.proofs.lemmas.List.{length-map, length-replicate}
use Rattle.std.proofs.lemmas.List.Edits.{sets}
use Rattle.std.proofs.Math.Seq.{take-append_seam}
use Rattle.laws.specs.Lists.{written, length_tabulate}
use Rattle.glyphs.specs.Apportion.{apportion}
use Rattle.glyphs.specs.Quotas.{apportioned}
use Rattle.glyphs.specs.declared.rect.Point.{Point}
use Rattle.regions.specs.Area.{piece_area}
use Rattle.format.specs.RowLaws.{sets_written}
use Rattle.discs.specs.Region.{areas}
use Rattle.discs.specs.Pieces.{pieces_of}
use Rattle.plan.specs.Walk.{length_pieces}

pub front_is : {A : Type 0} (xs l : List A) (n : ℕ) → length xs ≡ n → take n (written xs l) ≡ xs
unfolding written
front_is xs l n e = rw (← e) (take-append_seam xs _)

pub all_written : {A : Type 0} (x : A) (n : ℕ) (l : List A) → length l ≡ n → written (replicate n x) l ≡ replicate n x
unfolding written
all_written x n l e =
    let h : length l ≤ length (replicate n x) = omega (arith, length-replicate n x) in
    rw (drop_of_length-le l h) (append-nil (replicate n x))

pub length_apportion : (n : ℕ) (weights : List Float) → length (apportion n weights) ≡ length weights
length_apportion n weights = ap length (apportioned n weights) ∙ length_tabulate _ (length weights)

module _ (rings sizes : List ℕ) (points : List Point) where
  pub length_areas : length (areas (pieces_of rings sizes points)) ≡ length rings
  length_areas = length-map (pieces_of rings sizes points) piece_area ∙ length_pieces rings sizes points

  pub areas_front :
      (areas₀ areas₁ : List Float) → length rings ≤ length areas₀ → areas₁ ≡ sets areas₀ 0 (areas (pieces_of rings sizes points))
      → take (length rings) areas₁ ≡ areas (pieces_of rings sizes points)
  areas_front areas₀ areas₁ h e =
      let own = areas (pieces_of rings sizes points) in
      rw (e, sets_written own areas₀ (rw length_areas h)) (front_is own areas₀ (length rings) length_areas)

  pub shares_front :
      (count : ℕ) (front : List Float) (shares₀ shares₁ : List ℕ) → front ≡ areas (pieces_of rings sizes points)
      → shares₁ ≡ written (apportion count front) shares₀
      → take (length rings) shares₁ ≡ apportion count (areas (pieces_of rings sizes points))
  shares_front count front shares₀ shares₁ e f =
      rw (f, e) (front_is (apportion count (areas (pieces_of rings sizes points))) shares₀ (length rings) (length_apportion count _ ∙ length_areas))

  pub length_shared : (count : ℕ) → length (apportion count (areas (pieces_of rings sizes points))) ≡ length rings
  length_shared count = length_apportion count (areas (pieces_of rings sizes points)) ∙ length_areas
