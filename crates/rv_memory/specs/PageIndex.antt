-- The index of the page with a number.
use Rattle.std.specs.Prelude.{ℕ, ◌/◌, ◌==◌, if◌then◌else◌, List, [], ◌∷◌, Option, None, Some}
use Rattle.std.specs.BTreeMap.{get}
use Rattle.std.specs.Ordering.{nat_cmp}
use Rattle.rv_memory.specs.declared.page_group.PageGroup.{PageGroup}
use Rattle.rv_memory.specs.declared.page_index.PageIndex.{PageIndex}

-- The member of the second list at the index that a number has in the first list.
unfoldable pub beside : List ℕ → List ℕ → ℕ → Option ℕ
beside [] places n = None
beside (x ∷ xs) [] n = None
beside (x ∷ xs) (p ∷ ps) n = if n == x then Some p else beside xs ps n

abbrev pub place_in : PageGroup → ℕ → Option ℕ
place_in group n = beside group.numbers.items group.places.items n

abbrev pub place_among : Option PageGroup → ℕ → Option ℕ
place_among None n = None
place_among (Some group) n = place_in group n

-- The index of the page with a number.
abbrev pub place_of : PageIndex → ℕ → Option ℕ
place_of index n = place_among (get nat_cmp index.groups (n / 64)) n
