-- The addresses that names of functions in a profile mean, and addresses at offsets from them.
use Rattle.std.specs.Prelude.{ℕ, ◌+◌, ◌==◌, ◌&&◌, List, [], ◌∷◌, Option, Some, None, if◌then◌else◌, drop, filter, map}
use Rattle.std.specs.Prelude.{slice_index, option_and_then, bytes_eq}
use Rattle.std.specs.List.{list_all, list_any}
use Rattle.rv_code.specs.declared.placed.Func.{Func}
use Rattle.rv_code.specs.layout.ProgramCode.{is_code_address}
use Rattle.elf_image.specs.declared.symbol.Symbol.{Symbol}
use Rattle.elf_image.specs.file.Cuts.{names_function}
use Rattle.edge_profile.specs.Grammar.{NamedPlace, short_hex_number}

-- the value of a list whose items are all equal
abbrev pub only_value : List ℕ → Option ℕ
only_value [] = None
only_value (v ∷ vs) = if list_all (λ w. w == v) vs then Some v else None

-- the values of the functions' symbols with a name
abbrev pub symbol_values : List Symbol → List ℕ → List ℕ
symbol_values symbols name =
    map (λ s. s.value) (filter (λ s. names_function s && bytes_eq s.name.now name) symbols)

abbrev pub named_value : List Symbol → List ℕ → Option ℕ
named_value symbols name = only_value (symbol_values symbols name)

-- the address that digits write, if a function starts there
abbrev pub function_start : List Func → List ℕ → Option ℕ
function_start funcs digits =
    option_and_then (λ a. if list_any (λ f. f.start == a) funcs then Some a else None) (short_hex_number digits)

-- `@` and digits mean the function that starts at this address; any other name means its symbols' value
abbrev pub value_of_name : List Symbol → List Func → List ℕ → Option ℕ
value_of_name symbols funcs name =
    if slice_index name 0 == 64 then function_start funcs (drop 1 name) else named_value symbols name

-- an address, if an instruction starts there
abbrev pub code_address : List Func → ℕ → Option ℕ
code_address funcs a = if is_code_address funcs a then Some a else None

-- the address that a line's place means, if an instruction starts there
abbrev pub address_at : List Symbol → List Func → NamedPlace → Option ℕ
address_at symbols funcs place =
    option_and_then (λ start. code_address funcs (start + place.offset)) (value_of_name symbols funcs place.name)
