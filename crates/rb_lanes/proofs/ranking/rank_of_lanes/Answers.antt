use Rattle.std.proofs.Common.{◌≡◌, ◌∙◌, ap, take, drop, length, arith, w64, nat_le, lit≤}
use Rattle.std.specs.Prelude.{count_ones, count_by}
use Rattle.std.proofs.lemmas.Simd.{bitmask_splat, ones-mask_l}
use Rattle.std.proofs.lemmas.List.{take_all}
use Rattle.rb_lanes.proofs.ranking.rank_of_lanes.Goals as goal

pub returns : goal.returns
returns c =
    let all : take 8 (drop 0 c.args.xs.now) ≡ c.args.xs.now = take_all 8 c.args.xs.now (omega (arith, c.requires)) in
    let mask = bitmask_splat w64 nat_le (take 8 (drop 0 c.args.xs.now)) 8 c.args.x (ap length all ∙ c.requires) (lit≤ tt) in
    ap count_ones mask ∙ ones-mask_l (λ y. nat_le y c.args.x) (take 8 (drop 0 c.args.xs.now))
    ∙ ap (count_by (λ y. nat_le y c.args.x)) all
