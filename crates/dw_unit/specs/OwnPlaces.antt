-- Units that can all be read, and the declarations of their own entries.
use Rattle.std.specs.Prelude.{⊤, ◌≡◌, ℕ, Bool, List, [], ◌∷◌, map, Ok, is_some}
use Rattle.std.specs.List.{list_any}
use Rattle.std.specs.BTreeMap.{get}
use Rattle.std.specs.Ordering.{nat_cmp}
use Rattle.table_core.specs.DebugUnits.{Walked}
use Rattle.table_core.specs.ReadSteps.{oks}
use Rattle.dw_unit.specs.Changes.{is_own_of, is_own}
use Rattle.dw_unit.specs.Declarations.{Declaration}
use Rattle.dw_unit.specs.CompUnits.{Sections, Unit, unit_of}
use Rattle.dw_unit.specs.declared.own_declarations.OwnDeclarations.{OwnDeclarations}

-- All units can be read.
abbrev pub AllRead : (abbrevs : List ℕ) → List Walked → Type 0
AllRead abbrevs [] = ⊤
AllRead abbrevs (w ∷ ws) = ((u : Unit) × (unit_of abbrevs w ≡ Ok u)) × AllRead abbrevs ws

-- Some unit's own entry has the declaration at offset `q`.
abbrev pub names_own : (abbrevs : List ℕ) → List Walked → ℕ → Bool
names_own abbrevs ws q = list_any (is_own_of q) (oks (map (unit_of abbrevs) ws))

-- `own` has the declarations that own entries of units use, and no others.
abbrev pub AreOwn : Sections → OwnDeclarations → Type 0
AreOwn s own = (d : Declaration) → is_own s d ≡ is_some (get nat_cmp own.places d.place)
