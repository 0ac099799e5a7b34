-- `float::is_nearest` meets its contract: what is left after the square of r says that r is the nearest whole number.
-- Rests on `Residual.antt`.
use Rattle.std.proofs.Common.{◌≡◌, ◌+◌, ◌*◌, ◌%◌, ◌^◌, ltb, ◌∙◌, arith, ltb→lt, rules}
use Rattle.float.proofs.roots.Residual.{residual, high_fits, rest_fits, nearest}
use Rattle.float.proofs.roots.is_nearest.Goals as goal

pub overflow_add-high : goal.overflow_add-high
overflow_add-high c =
    let borrow = ltb ((c.args.m + 2) % 0x1000 * 2 ^ 52) (c.args.r * c.args.r % 2 ^ 64) in
    record { fits = high_fits c.args.r c.high_mul-high.result borrow c.requires.root c.high_mul-high.ensures }

pub returns-then-high-lower : goal.returns-then-high-lower
returns-then-high-lower c t = absurd t

pub returns-then-rest-r : goal.returns-then-rest-r
returns-then-rest-r c t = absurd t

pub overflow_add-result : goal.overflow_add-result
overflow_add-result c =
    record { fits = rest_fits c.args.r _ _ c.requires.root (omega arith) c.if-rest-r.false }

pub returns : goal.returns
returns c t =
    let m = c.args.m in
    let r = c.args.r in
    let d = c.wrapping_sub_u64-rest.result in
    let e = residual (m + 2) (r * r) d (search rules) c.wrapping_sub_u64-rest.ensures.value (rw c.high_mul-high.ensures at c.if-high-lower.false) in
    let f : r * r + d ≡ m * 2 ^ 52 + 2 ^ 53 = e ∙ omega arith in
    nearest (m * 2 ^ 52) r d f (ltb→lt (2 ^ 53) (d + r) t) c.if-rest-r.false
