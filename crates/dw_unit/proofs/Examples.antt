-- A unit of two entries: its own one covers 18 bytes from 10078 and has eight bytes of DW_AT_high_pc, a subprogram in it 8
-- bytes from 1007c with four. The code moves to 20000.
use Rattle.std.proofs.Common.{◌≡◌, ℕ, List, [], ◌∷◌, Some, None, true, false, refl, map}
use Rattle.addr_map.specs.declared.span.Span.{Span}
use Rattle.rb_bytes.specs.Leb.{uleb}
use Rattle.table_core.specs.declared.written.ListAt.{ListAt}
use Rattle.table_core.specs.DebugUnits.{units_from}
use Rattle.dw_unit.specs.declared.declaration.Spec.{Spec}
use Rattle.dw_unit.specs.declared.entry.Attr.{Attr}
use Rattle.dw_unit.specs.AbbrevWeight.{abbrev_weight}
use Rattle.dw_unit.specs.Changes.{changed_info, changed_abbrevs, new_address}
use Rattle.dw_unit.specs.Declarations.{Declaration, specs_within, table_within, has_bad_high}
use Rattle.dw_unit.specs.Faults.{unit_fault_places}
use Rattle.dw_unit.specs.EntryMoves.{Moves}
use Rattle.dw_unit.specs.CompUnits.{Entry, Sections, entries, entries_within, enclosing}

abbrevs : List ℕ
abbrevs = 1 ∷ 17 ∷ 1 ∷ 17 ∷ 1 ∷ 18 ∷ 7 ∷ 0 ∷ 0 ∷ 2 ∷ 46 ∷ 0 ∷ 17 ∷ 1 ∷ 18 ∷ 6 ∷ 0 ∷ 0 ∷ 0 ∷ []

info : List ℕ
info =
    39 ∷ 0 ∷ 0 ∷ 0 ∷ 5 ∷ 0 ∷ 1 ∷ 8 ∷ 0 ∷ 0 ∷ 0 ∷ 0
    ∷ 1 ∷ 0x78 ∷ 0 ∷ 1 ∷ 0 ∷ 0 ∷ 0 ∷ 0 ∷ 0 ∷ 0x18 ∷ 0 ∷ 0 ∷ 0 ∷ 0 ∷ 0 ∷ 0 ∷ 0
    ∷ 2 ∷ 0x7c ∷ 0 ∷ 1 ∷ 0 ∷ 0 ∷ 0 ∷ 0 ∷ 0 ∷ 8 ∷ 0 ∷ 0 ∷ 0
    ∷ 0 ∷ []

abbrev sections : Sections
sections = record { info = info; abbrevs = abbrevs; addr = [] }

abbrev span : ℕ → ℕ → Span
span out input = record { out = out; len = 4; input = input }

abbrev list : ℕ → ℕ → ListAt
list entry offset = record { entry = entry; attr = 0x55; offset = offset }

-- The list of the unit's own entry is at offset 12, the list of the subprogram at 16.
abbrev moves : Moves
moves = record {
  spans = span 0x20000 0x10078 ∷ span 0x20004 0x1007c ∷ span 0x20008 0x10080 ∷ [];
  lists = list 12 12 ∷ list 29 16 ∷ [];
  call_end = λ _. None;
}

abbrev places_of : List Entry → List (ℕ × ℕ)
places_of es = map (λ (e : Entry). (e.place, e.depth)) es

entries_are : places_of (entries sections) ≡ (12, 0) ∷ (29, 1) ∷ []
unfolding abbrevs info units_from specs_within table_within entries_within
entries_are = refl

no_fault : (unit_fault_places sections).bad ≡ None
unfolding abbrevs info units_from specs_within table_within entries_within
no_fault = refl

-- Eight bytes of DW_AT_high_pc become the offset of a list and four unused bytes. The unit's own DW_AT_low_pc stays one, and the
-- subprogram's becomes DW_AT_entry_pc.
abbrevs_are : changed_abbrevs sections
    ≡ 1 ∷ 17 ∷ 1 ∷ 17 ∷ 1 ∷ 0x55 ∷ 0x17 ∷ 0x90 ∷ 0x7e ∷ 6 ∷ 0 ∷ 0 ∷ 2 ∷ 46 ∷ 0 ∷ 0x52 ∷ 1 ∷ 0x55 ∷ 0x17 ∷ 0 ∷ 0 ∷ 0 ∷ []
unfolding abbrevs info units_from specs_within table_within entries_within uleb
abbrevs_are = refl

-- The unit's base address becomes 0.
info_is : changed_info sections moves
    ≡ 39 ∷ 0 ∷ 0 ∷ 0 ∷ 5 ∷ 0 ∷ 1 ∷ 8 ∷ 0 ∷ 0 ∷ 0 ∷ 0
    ∷ 1 ∷ 0 ∷ 0 ∷ 0 ∷ 0 ∷ 0 ∷ 0 ∷ 0 ∷ 0 ∷ 12 ∷ 0 ∷ 0 ∷ 0 ∷ 0 ∷ 0 ∷ 0 ∷ 0
    ∷ 2 ∷ 4 ∷ 0 ∷ 2 ∷ 0 ∷ 0 ∷ 0 ∷ 0 ∷ 0 ∷ 16 ∷ 0 ∷ 0 ∷ 0
    ∷ 0 ∷ []
unfolding abbrevs info units_from specs_within table_within entries_within uleb
info_is = refl

weight_is : abbrev_weight sections ≡ 57
unfolding abbrevs info units_from specs_within table_within entries_within
weight_is = refl

-- Single attributes.

abbrev spec : ℕ → ℕ → Spec
spec name form = record { name = name; form = form; implicit = 0 }

abbrev declared : List Spec → Declaration
declared specs = record { place = 0; code = 1; tag = 0x11; children = false; specs = specs }

abbrev address : ℕ → ℕ → Attr
address name value = record { name = name; form = 1; place = 13; len = 8; value = value }

abbrev entry_at : ℕ → ℕ → Declaration → Entry
entry_at place depth d = record { place = place; unit = 0; depth = depth; declaration = d; attrs = [] }

-- The address of an instruction that moves changes.
moved_entry : new_address moves false (entry_at 12 0 (declared (spec 0x52 1 ∷ []))) (address 0x52 0x10078) ≡ Some 0x20000
moved_entry = refl

-- The bases of address and text tables stay, even if they equal a code address.
kept_base : new_address moves false (entry_at 12 0 (declared (spec 0x73 1 ∷ []))) (address 0x73 0x10078) ≡ None
kept_base = refl

kept_text_base : new_address moves false (entry_at 12 0 (declared (spec 0x72 1 ∷ []))) (address 0x72 0x10078) ≡ None
kept_text_base = refl

-- A number that is no instruction's address stays.
kept_number : new_address moves false (entry_at 12 0 (declared (spec 0x52 1 ∷ []))) (address 0x52 0x10079) ≡ None
kept_number = refl

-- A high address needs a low one in its declaration, and no ranges.
bad_alone : has_bad_high (declared (spec 0x12 6 ∷ [])) ≡ true
bad_alone = refl

bad_form : has_bad_high (declared (spec 0x11 1 ∷ spec 0x12 15 ∷ [])) ≡ true
bad_form = refl

bad_beside_ranges : has_bad_high (declared (spec 0x11 1 ∷ spec 0x12 6 ∷ spec 0x55 0x17 ∷ [])) ≡ true
bad_beside_ranges = refl

sound_index : has_bad_high (declared (spec 0x11 0x29 ∷ spec 0x12 6 ∷ [])) ≡ false
sound_index = refl

-- The parent of an entry of depth 2 is the last entry of depth 1 before it. That entry's parent is the own entry.
abbrev at_depths : List Entry
at_depths =
    entry_at 40 3 (declared []) ∷ entry_at 30 2 (declared []) ∷ entry_at 20 1 (declared []) ∷ entry_at 15 1 (declared [])
    ∷ entry_at 12 0 (declared []) ∷ []

encloses : places_of (enclosing 2 at_depths) ≡ (20, 1) ∷ (12, 0) ∷ []
encloses = refl
