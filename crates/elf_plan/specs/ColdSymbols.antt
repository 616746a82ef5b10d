-- The symbols that are added for cold parts. A part is given by the input address of its first instruction.
use Rattle.std.specs.Prelude.{ℕ, ◌&&◌, ◌==◌, ◌++◌, List, Option, find, codes, option_map, option_and_then}
use Rattle.rv_code.specs.declared.placed.Func.{Func}
use Rattle.rv_code.specs.layout.FunctionMembers.{func_holds}
use Rattle.elf_image.specs.declared.symbol.Symbol.{Symbol}
use Rattle.elf_image.specs.file.Cuts.{names_function}

-- The start of the function that contains address `a`.
abbrev pub start_around : List Func → ℕ → Option ℕ
start_around funcs a = option_map (λ f. f.start) (find (func_holds a) funcs)

-- The first symbol of a function that starts at `start`.
abbrev pub first_named : List Symbol → ℕ → Option Symbol
first_named symbols start = find (λ s. names_function s && (s.value == start)) symbols

-- The symbol that gives the cold part at `a` its name. Without one, the part gets no symbol.
abbrev pub named_around : List Symbol → List Func → ℕ → Option Symbol
named_around symbols funcs a = option_and_then (first_named symbols) (start_around funcs a)

abbrev pub cold_name : List ℕ → List ℕ
cold_name name = name ++ codes ".cold"
