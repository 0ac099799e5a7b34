-- Cells told apart: a test whether two cells are the same, and 1 at a cell that is a given one, else 0.
-- Rests on nothing but the fields of cells and floats.
use Rattle.std.specs.Prelude.{◌≡◌, ℕ, Bool, true, false, ◌&&◌, ℤ, pos, negsuc, ◌==◌, refl, Float}
use Rattle.std.proofs.Common.{sym, ap, true≢false, eqb-true, eq-eqb}
use Rattle.std.specs.Bool.{beq}
use Rattle.std.specs.Float.{nan, inf, fin}
use Rattle.laws.specs.Truth.{yes, same_answer, both_true}
use Rattle.deepest.specs.declared.queue.Cell.{Cell}

self_bool : (a : Bool) → beq a a ≡ true
self_bool true = refl
self_bool false = refl

int_eq : ℤ → ℤ → Bool
int_eq (pos a) (pos b) = a == b
int_eq (pos a) (negsuc b) = false
int_eq (negsuc a) (pos b) = false
int_eq (negsuc a) (negsuc b) = a == b

int_same : (a b : ℤ) → int_eq a b ≡ true → a ≡ b
unfolding int_eq
int_same (pos a) (pos b) e = ap pos (eqb-true a b e)
int_same (pos a) (negsuc b) e = absurd (true≢false (sym e))
int_same (negsuc a) (pos b) e = absurd (true≢false (sym e))
int_same (negsuc a) (negsuc b) e = ap negsuc (eqb-true a b e)

int_self : (a : ℤ) → int_eq a a ≡ true
unfolding int_eq
int_self (pos a) = eq-eqb a a refl
int_self (negsuc a) = eq-eqb a a refl

float_eq : Float → Float → Bool
unfolding int_eq
float_eq nan nan = true
float_eq nan (inf t) = false
float_eq nan (fin t n d) = false
float_eq (inf s) nan = false
float_eq (inf s) (inf t) = beq s t
float_eq (inf s) (fin t n d) = false
float_eq (fin s m e) nan = false
float_eq (fin s m e) (inf t) = false
float_eq (fin s m e) (fin t n d) = beq s t && (m == n && int_eq e d)

float_same : (x y : Float) → float_eq x y ≡ true → x ≡ y
unfolding float_eq
float_same nan nan e = refl
float_same nan (inf t) e = absurd (true≢false (sym e))
float_same nan (fin t n d) e = absurd (true≢false (sym e))
float_same (inf s) nan e = absurd (true≢false (sym e))
float_same (inf s) (inf t) e = ap inf (same_answer s t (yes e))
float_same (inf s) (fin t n d) e = absurd (true≢false (sym e))
float_same (fin s m a) nan e = absurd (true≢false (sym e))
float_same (fin s m a) (inf t) e = absurd (true≢false (sym e))
float_same (fin s m a) (fin t n d) e =
    let p = both_true (beq s t) (m == n && int_eq a d) e in
    let q = both_true (m == n) (int_eq a d) p.1 in
    let f = same_answer s t (yes p.0) in
    let g = eqb-true m n q.0 in
    let h = int_same a d q.1 in
    cc

float_self : (x : Float) → float_eq x x ≡ true
unfolding float_eq
float_self nan = refl
float_self (inf s) = self_bool s
float_self (fin s m e) = rw (self_bool s, eq-eqb m m refl, int_self e)

pub cell_eq : Cell → Cell → Bool
unfolding float_eq
cell_eq a b =
    float_eq a.x b.x && (float_eq a.y b.y && (float_eq a.d b.d && (a.halvings == b.halvings && a.entry == b.entry)))

made : Float → Float → Float → ℕ → ℕ → Cell
made x y d h n = record { x = x; y = y; d = d; halvings = h; entry = n }

pub cell_same : (a b : Cell) → cell_eq a b ≡ true → a ≡ b
unfolding cell_eq made
cell_same a b e =
    let p = both_true _ _ e in
    let q = both_true _ _ p.1 in
    let r = both_true _ _ q.1 in
    let s = both_true _ _ r.1 in
    let x = float_same a.x b.x p.0 in
    let y = float_same a.y b.y q.0 in
    let d = float_same a.d b.d r.0 in
    let h = eqb-true a.halvings b.halvings s.0 in
    let n = eqb-true a.entry b.entry s.1 in
    let same : made a.x a.y a.d a.halvings a.entry ≡ made b.x b.y b.d b.halvings b.entry =
    rw (x, y, d, h, n) in
    same

cell_self : (a : Cell) → cell_eq a a ≡ true
unfolding cell_eq
cell_self a = rw (float_self a.x, float_self a.y, float_self a.d, eq-eqb a.halvings a.halvings refl, eq-eqb a.entry a.entry refl)

-- 1 at a cell equal to c, else 0
flag : Bool → ℕ
flag true = 1
flag false = 0

pub is_cell : Cell → Cell → ℕ
unfolding flag
is_cell c a = flag (cell_eq c a)

pub is_itself : (c : Cell) → is_cell c c ≡ 1
unfolding is_cell flag
is_itself c = rw (cell_self c)

pub is_other : (c a : Cell) → cell_eq c a ≡ false → is_cell c a ≡ 0
unfolding is_cell flag
is_other c a e = rw e
