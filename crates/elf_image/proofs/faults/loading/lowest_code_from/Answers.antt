use Rattle.std.proofs.Common.{◌≤◌, arith}
use Rattle.elf_image.specs.file.Header.{e_phnum}
use Rattle.elf_image.proofs.CodeLemmas.{IsLowestCodeBelow-begin, IsLowestCodeBelow-all}
use Rattle.elf_image.proofs.faults.loading.lowest_code_from.Goals as goal

pub loop-index-init : goal.loop-index-init
loop-index-init c = record {
  lowest = IsLowestCodeBelow-begin c.args.segments.file.now c.args.first c.requires.code c.requires.first;
  order = omega arith;
}

pub loop-index-preserved : goal.loop-index-preserved
loop-index-preserved c = record {
  lowest = c.lower_code-lowest.ensures.lowest;
  order = let low = c.lower_code-lowest.ensures.order in omega arith;
}

pub returns : goal.returns
returns c =
    let all : e_phnum c.args.segments.file.now ≤ c.loop-index.index = let end = c.count-index-end.ensures in let past =
    c.loop-index-test.false in omega arith in
    IsLowestCodeBelow-all c.args.segments.file.now c.loop-index.index c.loop-index.lowest all c.loop-index.invariant.lowest
