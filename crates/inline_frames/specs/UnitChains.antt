-- The chain of a unit, by the offsets of the entries that contain an address.
use Rattle.std.specs.Prelude.{◌+◌, ◌==◌, ◌&&◌, ◌||◌, ℕ, Bool, List, [], ◌∷◌, map, reverse, take, Option, Some, None}
use Rattle.std.specs.BTreeSet.{BTreeSet, contains}
use Rattle.std.specs.Ordering.{nat_cmp}
use Rattle.dw_unit.specs.CompUnits.{Entry, enclosing}
use Rattle.dw_unit.specs.ListedEntries.{ListedEntry, listed}
use Rattle.dw_unit.specs.ListedUnits.{plain}
use Rattle.inline_frames.specs.Chains.{chain_in, outward}
use Rattle.inline_frames.specs.Links.{listed_link, own_says}
use Rattle.inline_frames.specs.declared.link.Link.{Link}
use Rattle.inline_frames.specs.declared.tag.TheConstants.{DW_TAG_subprogram, DW_TAG_inlined_subroutine}

-- A function, or an inlined instance of one, at one of the offsets `covering`.
abbrev pub is_function : BTreeSet ℕ → ListedEntry → Bool
is_function covering e = (e.tag == DW_TAG_subprogram || e.tag == DW_TAG_inlined_subroutine)
    && contains nat_cmp covering e.place

-- The test of `is_function` for entries with a declaration.
abbrev pub function_test : BTreeSet ℕ → Entry → Bool
function_test covering e = is_function covering (listed e)

-- The chain in a unit.
abbrev pub unit_chain : BTreeSet ℕ → List ListedEntry → List Entry
unit_chain covering es = chain_in (function_test covering) [] [] (map plain es)

-- The first of the entries, and its ancestors. The entries are listed from the last back.
abbrev pub with_enclosing : List Entry → List Entry
with_enclosing [] = []
with_enclosing (e ∷ before) = e ∷ enclosing e.depth before

-- The chain outward from the entry with index `n`.
abbrev pub chain_from : BTreeSet ℕ → List ListedEntry → Option ℕ → List Entry
chain_from covering es None = []
chain_from covering es (Some n) = outward (function_test covering)
    (with_enclosing (reverse (take (n + 1) (map plain es))))

-- The fields that are kept of an entry of a unit.
abbrev pub link_in : List ℕ → List ListedEntry → Entry → Link
link_in str_offsets es e = listed_link str_offsets (own_says es) (listed e)
