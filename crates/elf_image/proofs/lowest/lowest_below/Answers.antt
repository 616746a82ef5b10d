use Rattle.std.proofs.Common.{◌≡◌, arith}
use Rattle.elf_image.proofs.Folds.{IsLowestOf-begin, IsLowestOf-next, IsLowestOf-all}
use Rattle.elf_image.proofs.lowest.lowest_below.Goals as goal

pub loop-index-init : goal.loop-index-init
loop-index-init g c = IsLowestOf-begin _

pub loop-index-preserved : goal.loop-index-preserved
loop-index-preserved g c = IsLowestOf-next _ _ _ _ _ c.lower-lowest.ensures c.place_of.ensures c.loop-index.invariant

pub returns : goal.returns
returns g c = let all : c.loop-index.index ≡ c.args.count = omega arith in IsLowestOf-all _ _ _ _ all c.loop-index.invariant
