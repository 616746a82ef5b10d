use Rattle.std.proofs.Common.{◌≡◌, ◌∙◌, ℕ, length, take, ap, arith, w16, nat_eq, bit_and, lit≤}
use Rattle.std.specs.Prelude.{replicate}
use Rattle.std.specs.Simd.Lanes.{mask_l, zip2}
use Rattle.std.proofs.lemmas.List.{take_all}
use Rattle.std.proofs.lemmas.Simd.{bitmask_splat, length-zip2, length-replicate}
use Rattle.rb_lanes.specs.Marks.{marks_of}
use Rattle.rb_lanes.proofs.Masks.{low_lanes}
use Rattle.rb_lanes.proofs.marks.marks_of_lanes.Goals as goal

pub returns : goal.returns
returns c =
    let lanes = take 64 c.args.halves.now in
    let all : lanes ≡ c.args.halves.now = take_all 64 c.args.halves.now (omega (arith, c.requires)) in
    let long : length lanes ≡ 64 = ap length all ∙ c.requires in
    let ones = replicate 64 3 in
    let low_long : length (zip2 bit_and lanes ones) ≡ 64
    = length-zip2 bit_and lanes ones (omega (arith, length-replicate {A = ℕ} 64 3)) ∙ long in
    bitmask_splat w16 nat_eq (zip2 bit_and lanes ones) 64 3 low_long (lit≤ tt) ∙ ap mask_l (low_lanes lanes 64 long)
    ∙ ap marks_of all
