use Rattle.std.proofs.Common.{List, ◌≡◌, take}
use Rattle.std.specs.Prelude.{sum_by}
use Rattle.elf_plan.specs.NameWeight.{cold_weight}
use Rattle.elf_image.specs.declared.symbol.Symbol.{Symbol}
use Rattle.elf_plan.specs.FirstNames.{AreFirstNames}
use Rattle.file_room.specs.Numbers.{capped}
use Rattle.elf_plan.proofs.weights.cold_weights.Given as goal

abbrev pub invariant-loop-address : goal.invariant-loop-address
invariant-loop-address l =
    (symbols : List Symbol) → AreFirstNames symbols l.names →
    l.sum ≡ capped (sum_by (cold_weight symbols l.funcs) (take l.address-index l.cold))
