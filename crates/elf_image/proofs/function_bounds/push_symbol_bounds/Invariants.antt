use Rattle.std.proofs.Common.{◌≡◌, ◌++◌, take}
use Rattle.elf_image.specs.file.CutLists.{symbol_bounds}
use Rattle.elf_image.proofs.function_bounds.push_symbol_bounds.Given as goal

abbrev pub invariant-loop-symbol : goal.invariant-loop-symbol
invariant-loop-symbol l = l.cuts.items ≡ l.initial.cuts.items ++ symbol_bounds (take l.symbol-index l.symbols)
