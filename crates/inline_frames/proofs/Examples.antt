-- A function with two inlined ones, one inside the other, and a second function.
use Rattle.std.proofs.Common.{◌≡◌, ◌==◌, ℕ, List, [], ◌∷◌, false, refl, map}
use Rattle.std.specs.List.{list_any}
use Rattle.dw_unit.specs.Declarations.{Declaration}
use Rattle.dw_unit.specs.CompUnits.{Entry}
use Rattle.inline_frames.specs.Chains.{chain_in}

abbrev declared : ℕ → Declaration
declared tag = record { place = 0; code = 1; tag = tag; children = false; specs = [] }

abbrev entry_at : ℕ → ℕ → ℕ → Entry
entry_at place depth tag = record { place = place; unit = 0; depth = depth; declaration = declared tag; attrs = [] }

abbrev unit_entries : List Entry
unit_entries =
    entry_at 12 0 0x11 ∷ entry_at 20 1 0x2e ∷ entry_at 30 2 0x1d ∷ entry_at 40 3 0x1d ∷ entry_at 50 1 0x2e ∷ []

-- The chain, if the entries at these offsets contain an address.
abbrev chain_of : List ℕ → List ℕ
chain_of places =
    map (λ (e : Entry). e.place) (chain_in (λ (e : Entry). list_any (λ p. p == e.place) places) [] [] unit_entries)

all_three : chain_of (20 ∷ 30 ∷ 40 ∷ []) ≡ 40 ∷ 30 ∷ 20 ∷ []
all_three = refl

-- An entry between them that doesn't contain the address is left out.
one_between : chain_of (20 ∷ 40 ∷ []) ≡ 40 ∷ 20 ∷ []
one_between = refl

-- The last entry that contains the address is the innermost.
second_function : chain_of (20 ∷ 30 ∷ 50 ∷ []) ≡ 50 ∷ []
second_function = refl

none : chain_of [] ≡ []
none = refl
