-- The entries of the functions that an address belongs to, from the innermost inlined one out. DWARF 5, sections 3.3.1
-- and 3.3.8.
use Rattle.std.specs.Prelude.{◌==◌, ◌&&◌, ◌||◌, ℕ, Bool, List, [], ◌∷◌, if◌then◌else◌}
use Rattle.dw_unit.specs.CompUnits.{Entry, Unit, units, enclosing}
use Rattle.range_loc_rewrite.specs.Faults.{ListSections}
use Rattle.range_loc_rewrite.specs.Ranges.{ranges_of}
use Rattle.range_loc_rewrite.specs.Located.{hold}
use Rattle.inline_frames.specs.declared.tag.TheConstants.{DW_TAG_subprogram, DW_TAG_inlined_subroutine}

-- A function, or an inlined instance of one, whose ranges contain the address `a`.
abbrev pub is_function_at : ListSections → ℕ → Unit → Entry → Bool
is_function_at s a u e =
    (e.declaration.tag == DW_TAG_subprogram || e.declaration.tag == DW_TAG_inlined_subroutine)
    && hold (ranges_of s u e) a

-- The entries that pass `test`, up to and including the first one that isn't inlined.
abbrev pub outward : (Entry → Bool) → List Entry → List Entry
outward test [] = []
outward test (e ∷ es) =
    if test e then (if e.declaration.tag == DW_TAG_subprogram then e ∷ [] else e ∷ outward test es) else outward test es

-- The innermost entry is the last one that contains the address. `before` has the entries before it, the last first.
abbrev pub chain_in : (Entry → Bool) → List Entry → List Entry → List Entry → List Entry
chain_in test found before [] = found
chain_in test found before (e ∷ es) =
    chain_in test (if test e then outward test (e ∷ enclosing e.depth before) else found) (e ∷ before) es

-- The chain in the last unit that has an entry with the address.
abbrev pub last_chain : ListSections → ℕ → List Entry → List Unit → List Entry
last_chain s a found [] = found
last_chain s a found (u ∷ us) = last_chain s a (chain_in (is_function_at s a u) found [] u.entries) us

-- The chain of a file at an address.
abbrev pub chain : ListSections → ℕ → List Entry
chain s a = last_chain s a [] (units s.units)
