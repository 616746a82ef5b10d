-- The contents of a table of names.
use Rattle.std.specs.Prelude.{◌≡◌, ℕ, ◌==◌, List, [], ◌∷◌, Option, Some, None, if◌then◌else◌, bytes_eq}
use Rattle.std.specs.declared.hash.FoldHasher.{FoldHasher}
use Rattle.std.specs.declared.hash.BuildHasherDefault.{BuildHasherDefault}
use denote.Ref.{Bor}
use Rattle.indexmap.specs.IndexMap.{IndexMap, get_by}
use Rattle.elf_image.specs.declared.symbol.Symbol.{Symbol}
use Rattle.edge_profile.specs.Names.{only_value, named_value}
use Rattle.edge_profile.specs.declared.function_names.FunctionNames.{FunctionNames}

-- values by names; None for a name with different values
abbrev pub Values : Type 0
Values = IndexMap (Bor (List ℕ)) (Option ℕ) (BuildHasherDefault FoldHasher)

-- the table's entry for a name
abbrev pub known_of : Values → List ℕ → Option (Option ℕ)
known_of values name = get_by (λ k. bytes_eq name k.now) values

-- the entry for a name whose symbols have these values
abbrev pub known_by : List ℕ → Option (Option ℕ)
known_by [] = None
known_by (v ∷ vs) = Some (only_value (v ∷ vs))

-- a name's value after one more symbol with the value v
abbrev pub next_known : Option (Option ℕ) → ℕ → Option ℕ
next_known None v = Some v
next_known (Some None) v = None
next_known (Some (Some w)) v = if v == w then Some w else None

-- all entries of the table are right
abbrev pub AreValues : List Symbol → Values → Type 0
AreValues symbols values = (name : List ℕ) (value : Option ℕ) → known_of values name ≡ Some value →
    value ≡ named_value symbols name

-- the table has values of names that are asked for; all other names are looked up among the symbols
pub record AreNamesOf (symbols : List Symbol) (names : FunctionNames) : Type 0 where
  pub symbols_are : names.symbols.now ≡ symbols
  pub values_are : AreValues symbols names.values
