-- Laws of a sheet's bytes as they are put, part after part.
-- Rests on the laws of runs of stores.
use Rattle.std.specs.Prelude.{ℕ, zero, suc, ◌+◌, ◌-◌, ◌≤◌, ◌<◌, ◌≡◌, refl, length, get_or, take, drop, set, Float}
use Rattle.std.proofs.Common.{sym, ◌∙◌, arith, add-one, drop_of_length-le, drop-cons, length-append}
use mathlib.Core.List.{List, [], ◌++◌, append_assoc, flat_map}
use Rattle.std.proofs.lemmas.List.Edits.{sets}
use Rattle.format.specs.Numbers.{bytes, float_bytes}
use Rattle.format.specs.NumberLaws.{length_bytes, next_byte_lem}
use Rattle.format.specs.RowLaws.{sets_append}
use Rattle.format.specs.Back.{length_float}
use Rattle.sheet.specs.Sheet.{zone_head, sheet_head}
use Rattle.sheet.specs.declared.Writer.{Writer}
use Rattle.sheet.specs.Steps.{Put}

-- ---- the parts of the two heads

-- a part of n bytes, and the rest behind it
part : (l : List ℕ) (at n : ℕ) (xs ys : List ℕ) → length xs ≡ n → sets l at (xs ++ ys) ≡ sets (sets l at xs) (at + n) ys
part l at n xs ys e = sets_append l at xs ys ∙ rw e

pub put_sheet_head :
    (l : List ℕ) (rest : ℕ) (radius : Float) (zones : ℕ)
    → sets l 0 (sheet_head rest radius zones) ≡ sets (sets (sets (sets l 0 (bytes 4 rest)) 4 (bytes 1 1)) 5 (float_bytes radius)) 13 (bytes 2 zones)
unfolding sheet_head
put_sheet_head l rest radius zones =
    let l4 = sets l 0 (bytes 4 rest) in
    let l5 = sets l4 4 (bytes 1 1) in
    simp append_assoc
    (part l 0 4 (bytes 4 rest) (bytes 1 1 ++ (float_bytes radius ++ bytes 2 zones)) (length_bytes 4 rest)
    ∙ part l4 4 1 (bytes 1 1) (float_bytes radius ++ bytes 2 zones) (length_bytes 1 1)
    ∙ part l5 5 8 (float_bytes radius) (bytes 2 zones) (length_float radius))

pub put_zone_head :
    (l : List ℕ) (at : ℕ) (key : List ℕ) (placed unplaced : ℕ)
    → sets l at (zone_head key placed unplaced)
    ≡ sets (sets (sets (sets l at (bytes 1 (length key))) (at + 1) key) (at + 1 + length key) (bytes 2 placed)) (at + 1 + length key + 2) (bytes 2 unplaced)
unfolding zone_head
put_zone_head l at key placed unplaced =
    let l1 = sets l at (bytes 1 (length key)) in
    let l2 = sets l1 (at + 1) key in
    simp append_assoc
    (part l at 1 (bytes 1 (length key)) (key ++ (bytes 2 placed ++ bytes 2 unplaced)) (length_bytes 1 (length key))
    ∙ part l1 (at + 1) (length key) key (bytes 2 placed ++ bytes 2 unplaced) refl
    ∙ part l2 (at + 1 + length key) 2 (bytes 2 placed) (bytes 2 unplaced) (length_bytes 2 placed))

-- ---- one turn of the loop

pub key_turn :
    {x : List ℕ} (l : List ℕ) (at : ℕ) (s : List ℕ) (k n : ℕ) → 0 < n → k + n ≤ length s → x ≡ sets l at (take n (drop k s))
    → x ≡ sets (set l at (get_or s k 0)) (at + 1) (take (n - 1) (drop (k + 1) s))
key_turn l at s k n m h e = e ∙ rw (next_byte_lem s k n m h, add-one at)

pub key_end : {x : List ℕ} (l : List ℕ) (at : ℕ) (s : List ℕ) (k n : ℕ) → n ≤ 0 → x ≡ sets l at (take n (drop k s)) → l ≡ x
key_end l at s k zero h e = sym e
key_end l at s k (suc n) h e = absurd (omega arith)

pub spots_turn :
    {x : List ℕ} (l : List ℕ) (at : ℕ) (spots : List Float) (i : ℕ) (d : Float) → i < length spots → x ≡ sets l at (flat_map float_bytes (drop i spots))
    → x ≡ sets (sets l at (float_bytes (get_or spots i d))) (at + 8) (flat_map float_bytes (drop (i + 1) spots))
unfolding flat_map
spots_turn l at spots i d h e =
    let x = float_bytes (get_or spots i d) in
    let xs = flat_map float_bytes (drop (suc i) spots) in
    e ∙ rw (drop-cons spots i d h, add-one, sets_append l at x xs, length_float (get_or spots i d))

pub spots_end : {x : List ℕ} (l : List ℕ) (at : ℕ) (spots : List Float) (i : ℕ) → length spots ≤ i → x ≡ sets l at (flat_map float_bytes (drop i spots)) → l ≡ x
unfolding flat_map
spots_end l at spots i h e = sym (e ∙ rw (drop_of_length-le spots h))

-- ---- what the writer leaves behind: nothing, and one part behind another

pub put_none : (w : Writer) → Put [] 0 w w
put_none w = record { same = refl; put = refl; at = omega arith; zones = omega arith }

pub put_both : {a b c : Writer} (xs ys : List ℕ) (m n : ℕ) → Put xs m a b → Put ys n b c → Put (xs ++ ys) (m + n) a c
put_both {a} {b} {c} xs ys m n f g =
    record {
      same = g.same ∙ f.same;
      put = g.put ∙ rw (f.put, f.at) (sym (sets_append a.sheet.now a.at xs ys));
      at = simp length-append (omega (arith, f.at, g.at));
      zones = omega (arith, f.zones, g.zones);
    }
