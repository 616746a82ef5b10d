-- References followed through the entries of a file.
use Rattle.std.specs.Prelude.{◌==◌, ℕ, zero, suc, Bool, false, List, [], ◌∷◌, Option, Some, None, option_map}
use Rattle.std.specs.List.{find}
use Rattle.std.specs.Option.{option_map_or, option_or}
use Rattle.dw_unit.specs.ListedEntries.{ListedEntry}
use Rattle.inline_frames.specs.Links.{own_says}
use Rattle.inline_frames.specs.Naming.{naming_in, naming_or_none}
use Rattle.inline_frames.specs.declared.naming.Naming.{Naming}
use Rattle.inline_frames.specs.declared.naming.Naming.TheVariants.{Named, Refers}

-- The offset to which a naming refers, if it does so.
abbrev pub target_of : Naming → Option ℕ
target_of (Named t) = None
target_of (Refers place) = Some place

-- The naming refers to the entry at offset `q`.
abbrev pub refers_to : ℕ → Naming → Bool
refers_to q n = option_map_or (λ place. place == q) (target_of n) false

-- How the name of a listed entry of a unit is found.
abbrev pub listed_naming : List ℕ → List ListedEntry → ListedEntry → Naming
listed_naming str_offsets es e = naming_in str_offsets (own_says es).text_base e.unit e.attrs

-- How the name of the entry at offset `q` is found.
abbrev pub unit_naming : List ℕ → List ListedEntry → ℕ → Option Naming
unit_naming str_offsets es q = option_map (listed_naming str_offsets es) (find (λ (e : ListedEntry). e.place == q) es)

-- How the name of the entry at offset `q` of a file is found.
abbrev pub file_naming : List ℕ → List (List ListedEntry) → ℕ → Option Naming
file_naming str_offsets [] q = None
file_naming str_offsets (es ∷ units) q = option_or (unit_naming str_offsets es q) (file_naming str_offsets units q)

-- A naming with its reference followed once, by what `found` has.
abbrev pub followed_by : (ℕ → Option Naming) → Naming → Naming
followed_by found (Named t) = Named t
followed_by found (Refers place) = naming_or_none (found place)

-- A naming with `k` references followed.
abbrev pub followed_times : List ℕ → List (List ListedEntry) → ℕ → Naming → Naming
followed_times str_offsets units zero n = n
followed_times str_offsets units (suc k) n = followed_times str_offsets units k
    (followed_by (file_naming str_offsets units) n)
