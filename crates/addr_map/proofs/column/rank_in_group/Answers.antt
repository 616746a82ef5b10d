use Rattle.std.proofs.Common.{◌≡◌, ◌<◌, ◌+◌, ◌*◌, ◌-◌, ◌∙◌, ap, take, drop, arith, refl}
use Rattle.std.proofs.lemmas.List.{take_min}
use Rattle.addr_map.proofs.Columns.{non_decreasing, group_ascends, rank_none, rank_group}
use Rattle.addr_map.proofs.column.rank_in_group.Goals as goal

pub returns-then-groups-eq0 : goal.returns-then-groups-eq0
returns-then-groups-eq0 c = rank_none _ _ _ c.requires.ascending c.requires.groups c.if-groups-eq0.true

pub rank_among-requires : goal.rank_among-requires
rank_among-requires c =
    let start = 64 * (c.args.groups - 1) in
    let group : c.split_at-2.result.0.now ≡ take 64 (drop start c.args.column.now)
    = c.split_at-2.ensures.front ∙ ap (λ n. take n c.split_at.result.1.now) c.min.ensures ∙ take_min 64 c.split_at.result.1.now
    ∙ ap (take 64) c.split_at.ensures.back in
    non_decreasing c.split_at-2.result.0.now (rw group (group_ascends c.args.column.now start c.requires.ascending))

pub returns : goal.returns
returns c =
    let column = c.args.column.now in
    let start = 64 * (c.args.groups - 1) in
    let some : 0 < c.args.groups = omega (arith, c.if-groups-eq0.false) in
    let rest = c.split_at.result.1.now in
    let group : c.split_at-2.result.0.now ≡ take 64 (drop start column)
    = c.split_at-2.ensures.front ∙ ap (λ n. take n rest) c.min.ensures ∙ take_min 64 rest
    ∙ ap (take 64) c.split_at.ensures.back in
    ap (λ n. start + n) c.rank_among.ensures
    ∙ rank_group column c.split_at-2.result.0.now c.args.x c.args.groups start c.requires.ascending c.requires.groups some
    refl group
