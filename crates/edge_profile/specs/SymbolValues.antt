-- The values of names by the symbols of a file, in the terms of the code.
use Rattle.std.specs.Prelude.{◌≡◌, ℕ, List, Option, Some, None, length, set, slice_index_or}
use Rattle.std.specs.List.{slice_get}
use Rattle.elf_image.specs.declared.symbol.Symbol.{Symbol}
use Rattle.edge_profile.specs.Names.{symbol_values}
use Rattle.edge_profile.specs.FunctionNames.{known_by, next_known}
use Rattle.edge_profile.specs.NameEnds.{Backward, index_of}

pub record AreKnown (names : Backward) (symbols : List Symbol) (known : List (Option (Option ℕ))) : Type 0 where
  pub count_is : length known ≡ length names
  pub each : (name : List ℕ) (k : ℕ) → index_of names name ≡ Some k →
      slice_get known k ≡ Some (known_by (symbol_values symbols name))

-- the values after one more value for the name with this index, if there is one
abbrev pub noted_value : List (Option (Option ℕ)) → Option ℕ → ℕ → List (Option (Option ℕ))
noted_value known None value = known
noted_value known (Some k) value = set known k (Some (next_known (slice_index_or known k None) value))
