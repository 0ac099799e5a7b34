-- `before` compares two indices by their remainders' keys, then by themselves.
-- Rests on what `remainder_key` and the library's order of pairs ensure.
use Rattle.std.specs.Prelude.{◌≡◌, ℕ, Some, refl}
use Rattle.std.proofs.Common.{Ordering as Order, Less, Equal, Greater, ◌∙◌, arith, rules, lt-ltb, le-ltb, eq-eqb, ne_eqb}
use lib.Ieee.{nan}
use Prim.Native.Nat.{compare, Ordering}
use Rattle.std.specs.Ordering as kit
use Rattle.laws.specs.Orders.{◌then_by◌, is_lt, Says, says}
use Rattle.glyphs.specs.Quotas.{by_keys}
use Rattle.glyphs.proofs.quotas.Shares.before.Goals as goal

-- the library's name of an order
abbrev of : Ordering → Order
of Ordering.lt = Less
of Ordering.eq = Equal
of Ordering.gt = Greater

of_says : (m n : ℕ) (o : Ordering) → Says m n o → kit.nat_cmp m n ≡ of o
of_says m n Ordering.lt h = rw (lt-ltb m n h)
of_says m n Ordering.eq h = rw (le-ltb m n (omega arith), eq-eqb m n h)
of_says m n Ordering.gt h = rw (le-ltb m n (omega arith), ne_eqb m n (λ (e : m ≡ n). omega arith))

of_compare : (m n : ℕ) → kit.nat_cmp m n ≡ of (compare m n)
of_compare m n = of_says m n (compare m n) (says m n)

of_both : (o p : Ordering) → kit.is_some_and kit.is_lt (kit.partial_ordering_then (Some (of o)) (Some (of p))) ≡ is_lt (o then_by p)
of_both Ordering.lt p = refl
of_both Ordering.eq Ordering.lt = refl
of_both Ordering.eq Ordering.eq = refl
of_both Ordering.eq Ordering.gt = refl
of_both Ordering.gt p = refl

pub returns : goal.returns
returns c =
    let a = c.args in
    let s = a.self.now in
    let other = c.remainder_key-b.result in
    rw (by_keys s.n s.total s.weights.now a.i a.j nan (search rules) (search rules), ← c.requires.key, ← c.remainder_key-b.ensures)
    (c.lt.ensures ∙ rw (of_compare a.a other, of_compare a.j a.i) (of_both (compare a.a other) (compare a.j a.i)))
