use Rattle.std.proofs.Common.{◌≡◌, ◌≤◌, ◌<◌, ◌*◌, ◌-◌, suc, length, arith}
use Rattle.mr_fattree.specs.Tree.{down_at, up_at}
use Rattle.mr_fattree.proofs.Numbers.{below_found, down_few, down_read, group_few, grown, up_read}
use Rattle.mr_fattree.proofs.levels.peer_below.Goals as goal

pub overflow_mul-group : goal.overflow_mul-group
overflow_mul-group c =
    let ls = c.args.levels.now in
    let p = c.args.place in
    let r = down_read ls p.level (record { down = 0; up = 0 }) c.requires.place.level in
    let f = down_few ls p.level c.requires.tree c.requires.place.level in
    let g = group_few ls p c.requires.tree c.requires.place in
    let m : p.group * c.from.result ≤ 4096 * 128 = grown p.group c.from.result 4096 (omega (arith, g)) (omega (arith, r, f, c.from.ensures)) in
    omega (arith, m)

pub overflow_add-group : goal.overflow_add-group
overflow_add-group c =
    let ls = c.args.levels.now in
    let p = c.args.place in
    let r = down_read ls p.level (record { down = 0; up = 0 }) c.requires.place.level in
    let f = down_few ls p.level c.requires.tree c.requires.place.level in
    let g = group_few ls p c.requires.tree c.requires.place in
    let m : p.group * c.from.result ≤ 4096 * 128 = grown p.group c.from.result 4096 (omega (arith, g)) (omega (arith, r, f, c.from.ensures)) in
    omega (arith, m, f, c.requires.port)

pub number_of-requires-clause-place : goal.number_of-requires-clause-place
number_of-requires-clause-place c =
    let ls = c.args.levels.now in
    let p = c.args.place in
    let e : p.level ≡ suc (p.level - 1) = omega (arith, c.if-place-eq0.false) in
    let i : p.level - 1 < length ls = omega (arith, c.requires.place.level) in
    let r = down_read ls p.level (record { down = 0; up = 0 }) c.requires.place.level in
    let s = up_read ls (p.level - 1) (record { down = 0; up = 0 }) i in
    let x : c.from.result ≡ down_at ls p.level = omega (arith, r, c.from.ensures) in
    let y : c.from-up.result ≡ up_at ls (p.level - 1) = omega (arith, s, c.from-up.ensures) in
    below_found ls p (p.level - 1) c.args.port c.from.result c.from-up.result c.requires.tree c.requires.place e c.requires.port x y
