use Rattle.std.proofs.Common.{◌≡◌, ◌≤◌, ◌<◌, ◌*◌, ◌+◌, suc, length, arith}
use Rattle.mr_fattree.specs.Tree.{down_at, up_at}
use Rattle.mr_fattree.proofs.Numbers.{above_found, above_level, down_read, grown, member_few, up_few, up_read}
use Rattle.mr_fattree.proofs.levels.peer_above.Goals as goal

pub overflow_mul-member : goal.overflow_mul-member
overflow_mul-member c =
    let ls = c.args.levels.now in
    let p = c.args.place in
    let r = up_read ls p.level (record { down = 0; up = 0 }) c.requires.place.level in
    let f = up_few ls p.level c.requires.tree c.requires.place.level in
    let g = member_few ls p c.requires.tree c.requires.place in
    let m : p.member * c.from.result ≤ 65536 * 128 = grown p.member c.from.result 65536 (omega (arith, g)) (omega (arith, r, f, c.from.ensures)) in
    omega (arith, m)

pub overflow_add-member : goal.overflow_add-member
overflow_add-member c =
    let ls = c.args.levels.now in
    let p = c.args.place in
    let r = up_read ls p.level (record { down = 0; up = 0 }) c.requires.place.level in
    let f = up_few ls p.level c.requires.tree c.requires.place.level in
    let g = member_few ls p c.requires.tree c.requires.place in
    let m : p.member * c.from.result ≤ 65536 * 128 = grown p.member c.from.result 65536 (omega (arith, g)) (omega (arith, r, f, c.from.ensures)) in
    omega (arith, m, f, c.requires.port)

pub number_of-requires-clause-place : goal.number_of-requires-clause-place
number_of-requires-clause-place c =
    let ls = c.args.levels.now in
    let p = c.args.place in
    let e : p.level + 1 ≡ suc p.level = omega arith in
    let i : p.level + 1 < length ls = above_level ls p c.args.port c.requires.tree c.requires.place c.requires.port in
    let r = down_read ls (p.level + 1) (record { down = 0; up = 0 }) i in
    let s = up_read ls p.level (record { down = 0; up = 0 }) c.requires.place.level in
    let x : c.from-down.result ≡ down_at ls (p.level + 1) = omega (arith, r, c.from-down.ensures) in
    let y : c.from.result ≡ up_at ls p.level = omega (arith, s, c.from.ensures) in
    above_found ls p (p.level + 1) c.args.port c.from-down.result c.from.result c.requires.tree c.requires.place e c.requires.port x y
