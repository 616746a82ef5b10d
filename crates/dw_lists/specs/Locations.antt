-- The expressions in force at an address. DWARF 5, section 2.6.
use Rattle.std.specs.Prelude.{ℕ, List, [], ◌∷◌, ◌++◌, if◌then◌else◌, map, Ok, Err, flat_map}
use Rattle.std.specs.Global.{Vec}
use Rattle.std.specs.Option.{option_map_or}
use Rattle.rb_bytes.specs.Readers.{bytes_at, number_read, and_then}
use Rattle.table_core.specs.ReadSteps.{leb_bytes_at, and_so}
use Rattle.table_core.specs.declared.shape.Shape.{Shape}
use Rattle.table_core.specs.declared.shape.Shape.TheVariants.{Block, LebBlock}
use Rattle.table_core.specs.AttributeForms.{shape_of, is_block}
use Rattle.dw_unit.specs.declared.attribute.TheConstants.{DW_AT_location, DW_AT_frame_base}
use Rattle.dw_unit.specs.declared.entry.Attr.{Attr}
use Rattle.dw_unit.specs.declared.trouble.Trouble.TheVariants.{Unsound}
use Rattle.dw_unit.specs.Trouble.{Read, whole, sound_if}
use Rattle.dw_unit.specs.CompUnits.{Unit, units, attr, value_bytes}
use Rattle.dw_lists.specs.Lists.{locations_kind, list_of}
use Rattle.cover_lists.specs.Located.{hold, in_force}
use Rattle.dw_lists.specs.Faults.{ListSections}
use Rattle.dw_lists.specs.Ranges.{Ranged, ranged_in}

-- The content of a block, after its length.
abbrev pub content_at : Shape → List ℕ → Read (List ℕ)
content_at (Block n) left = and_then (whole (number_read n left)) (λ count rest. whole (bytes_at count rest))
content_at LebBlock left = leb_bytes_at Unsound left
content_at _ left = Err Unsound

abbrev pub content_read : Read (List ℕ) → List ℕ
content_read (Ok read) = read.0
content_read (Err e) = []

-- The block of bytes in an attribute; empty for other forms.
abbrev pub block_of : List ℕ → Attr → List ℕ
block_of info a = content_read (and_so (sound_if (shape_of a.form)) (λ shape. content_at shape (value_bytes info a)))

-- The expressions of an attribute that are in force at an address. A single expression in the attribute itself is in
-- force everywhere.
abbrev pub expressions_of : ListSections → Unit → Attr → ℕ → List (List ℕ)
expressions_of s u x a =
    if is_block x.form then block_of s.units.info x ∷ []
    else option_map_or (λ ls. in_force ls a) (list_of locations_kind s.locations s.units.addr u x) []

-- The expressions in force of an entry's attribute. There are none unless the entry's nearest ranges contain the
-- address.
abbrev pub located : ListSections → Unit → Ranged → ℕ → ℕ → List (List ℕ)
located s u r x a = if hold r.nearest a then option_map_or (λ v. expressions_of s u v a) (attr x r.entry) [] else []

-- An entry, by its offset, one of its attributes, and the expressions of that in force.
pub record PlaceSaid : Type 0 where
  pub entry : ℕ
  pub attr : ℕ
  pub expressions : List (List ℕ)

-- The answer for an attribute of an entry, if it has expressions in force.
abbrev pub attr_says : ℕ → ℕ → List (List ℕ) → List PlaceSaid
attr_says d x [] = []
attr_says d x (b ∷ bs) = record { entry = d; attr = x; expressions = b ∷ bs } ∷ []

-- The answers of an entry's location attributes.
abbrev pub entry_says : ListSections → Unit → ℕ → Ranged → List PlaceSaid
entry_says s u a r =
    attr_says r.entry.place DW_AT_location (located s u r DW_AT_location a)
    ++ attr_says r.entry.place DW_AT_frame_base (located s u r DW_AT_frame_base a)

-- All locations at an address, ascending by entry and attribute.
abbrev pub places_said : ListSections → ℕ → List PlaceSaid
places_said s a = flat_map (λ u. flat_map (entry_says s u a) (ranged_in s u)) (units s.units)

-- The contents of an answer, without the memory that it owns.
abbrev pub place_said : ℕ × ℕ × Vec (Vec ℕ) → PlaceSaid
place_said p = record { entry = p.0; attr = p.1; expressions = map (λ x. x.items) p.2.items }

abbrev pub all_said : Vec (ℕ × ℕ × Vec (Vec ℕ)) → List PlaceSaid
all_said v = map place_said v.items
