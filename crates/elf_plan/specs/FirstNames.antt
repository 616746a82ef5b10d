-- The contents of a map of the first names of functions.
use Rattle.std.specs.Prelude.{◌≡◌, ℕ, List}
use Rattle.std.specs.Ordering.{nat_cmp}
use Rattle.std.specs.BTreeMap.{BTreeMap, get}
use Rattle.elf_image.specs.declared.symbol.Symbol.{Symbol}
use Rattle.elf_plan.specs.ColdSymbols.{first_named}

-- For each address, the first symbol of a function that starts there.
abbrev pub AreFirstNames : List Symbol → BTreeMap ℕ Symbol → Type 0
AreFirstNames symbols names = (start : ℕ) → get nat_cmp names start ≡ first_named symbols start
