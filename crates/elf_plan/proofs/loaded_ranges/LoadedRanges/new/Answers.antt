use Rattle.std.proofs.Common.{◌∙◌, sym}
use Rattle.std.proofs.lemmas.List.Sorted.{list_any-IsPermutation}
use Rattle.elf_plan.specs.LoadedRanges.{meets}
use Rattle.elf_plan.proofs.loaded_ranges.LoadedRanges.new.Goals as goal

pub returns-clause-bytes : goal.returns-clause-bytes
returns-clause-bytes c = λ start end.
    sym (list_any-IsPermutation (meets start end) _ _ c.in_ok-sort_by_start.ensures.permutation)
    ∙ c.in_ok-sorted.ensures.bytes start end
