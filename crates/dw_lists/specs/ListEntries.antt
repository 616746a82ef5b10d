-- The entries of range lists and of location lists. DWARF 5, sections 2.6.2, 2.17.3, 7.7.3 and 7.25.
use Rattle.std.specs.Prelude.{◌==◌, ℕ, zero, suc, Bool, true, false, List, [], if◌then◌else◌, Result, Ok, Err}
use Rattle.rb_bytes.specs.Readers.{number_read, and_then}
use Rattle.table_core.specs.ReadSteps as steps
use Rattle.table_core.specs.ReadSteps.{leb_bytes_at, with_head}
use Rattle.dw_unit.specs.declared.trouble.Trouble.{Trouble}
use Rattle.dw_unit.specs.declared.trouble.Trouble.TheVariants.{Unsound}
use Rattle.dw_unit.specs.Trouble.{Read, whole}
use Rattle.dw_lists.specs.declared.list_bound.Address.{Address}
use Rattle.dw_lists.specs.declared.list_bound.Address.TheVariants.{Here, Index}
use Rattle.dw_lists.specs.declared.list_bound.Bound.{Bound}
use Rattle.dw_lists.specs.declared.list_bound.Bound.TheVariants.{Base, Between, Onward, Offsets, Default}
use Rattle.dw_lists.specs.declared.list_entry.TheConstants.{DW_RLE_end_of_list, DW_RLE_base_addressx}
use Rattle.dw_lists.specs.declared.list_entry.TheConstants.{DW_RLE_startx_endx, DW_RLE_startx_length}
use Rattle.dw_lists.specs.declared.list_entry.TheConstants.{DW_RLE_offset_pair, DW_RLE_base_address, DW_RLE_start_end}
use Rattle.dw_lists.specs.declared.list_entry.TheConstants.{DW_RLE_start_length, DW_LLE_base_addressx}
use Rattle.dw_lists.specs.declared.list_entry.TheConstants.{DW_LLE_startx_endx, DW_LLE_startx_length}
use Rattle.dw_lists.specs.declared.list_entry.TheConstants.{DW_LLE_offset_pair, DW_LLE_default_location}
use Rattle.dw_lists.specs.declared.list_entry.TheConstants.{DW_LLE_base_address, DW_LLE_start_end, DW_LLE_start_length}

-- An entry. Its expression is empty if it has none.
pub record Item : Type 0 where
  pub bound : Bound
  pub expression : List ℕ

abbrev pub uleb_then : {X : Type 0} → List ℕ → (ℕ → List ℕ → Read X) → Read X
uleb_then = steps.uleb_then Unsound

-- Reads an address, or an index of one.
abbrev pub bound_address_at : (is_index : Bool) → List ℕ → Read Address
bound_address_at true left = uleb_then left (λ n rest. Ok (Index n, rest))
bound_address_at false left = and_then (whole (number_read 8 left)) (λ n rest. Ok (Here n, rest))

-- Reads a new base address.
abbrev pub base_at : (is_index : Bool) → List ℕ → Read Bound
base_at x left = and_then (bound_address_at x left) (λ a rest. Ok (Base a, rest))

-- Reads a first address and an end.
abbrev pub between_at : (is_index : Bool) → List ℕ → Read Bound
between_at x left =
    and_then (bound_address_at x left) (λ a left1. and_then (bound_address_at x left1)
    (λ b rest. Ok (Between a b, rest)))

-- Reads a first address and a length.
abbrev pub onward_at : (is_index : Bool) → List ℕ → Read Bound
onward_at x left = and_then (bound_address_at x left) (λ a left1. uleb_then left1 (λ n rest. Ok (Onward a n, rest)))

-- Reads two offsets from the base address.
abbrev pub offsets_at : List ℕ → Read Bound
offsets_at left = uleb_then left (λ m left1. uleb_then left1 (λ n rest. Ok (Offsets m n, rest)))

-- Reads the bounds of a range list entry of a kind (DW_RLE). DWARF 5, section 7.25.
abbrev pub range_bound : ℕ → List ℕ → Read Bound
range_bound kind left =
    if kind == DW_RLE_base_addressx then base_at true left
    else (if kind == DW_RLE_startx_endx then between_at true left
    else (if kind == DW_RLE_startx_length then onward_at true left
    else (if kind == DW_RLE_offset_pair then offsets_at left
    else (if kind == DW_RLE_base_address then base_at false left
    else (if kind == DW_RLE_start_end then between_at false left
    else (if kind == DW_RLE_start_length then onward_at false left
    else Err Unsound))))))

-- Reads the bounds of a location list entry of a kind (DW_LLE). DWARF 5, section 7.7.3.
abbrev pub location_bound : ℕ → List ℕ → Read Bound
location_bound kind left =
    if kind == DW_LLE_base_addressx then base_at true left
    else (if kind == DW_LLE_startx_endx then between_at true left
    else (if kind == DW_LLE_startx_length then onward_at true left
    else (if kind == DW_LLE_offset_pair then offsets_at left
    else (if kind == DW_LLE_default_location then Ok (Default, left)
    else (if kind == DW_LLE_base_address then base_at false left
    else (if kind == DW_LLE_start_end then between_at false left
    else (if kind == DW_LLE_start_length then onward_at false left
    else Err Unsound)))))))

-- Reads an entry of a range list.
abbrev pub range_item : ℕ → List ℕ → Read Item
range_item kind left = and_then (range_bound kind left) (λ b rest. Ok (record { bound = b; expression = [] }, rest))

-- An expression, after its length. An entry that sets the base address has none.
abbrev pub expression_at : Bound → List ℕ → Read (List ℕ)
expression_at (Base a) left = Ok ([], left)
expression_at _ left = leb_bytes_at Unsound left

-- Reads an entry of a location list.
abbrev pub location_item : ℕ → List ℕ → Read Item
location_item kind left =
    and_then (location_bound kind left) (λ b left1.
    and_then (expression_at b left1) (λ x rest. Ok (record { bound = b; expression = x }, rest)))

-- The entry of a kind, and then the entries after it, by `more`. Lists of both kinds end with the same byte.
abbrev pub item_behind : (ℕ → List ℕ → Read Item) → (List ℕ → Result (List Item) Trouble) → ℕ → List ℕ →
    Result (List Item) Trouble
item_behind item more kind left =
    if kind == DW_RLE_end_of_list then Ok [] else and_then (item kind left) (λ i rest. with_head i (more rest))

-- The entries up to the end of the list; at most `n`, with the end.
unfoldable pub items_within : (ℕ → List ℕ → Read Item) → ℕ → List ℕ → Result (List Item) Trouble
items_within item zero left = Err Unsound
items_within item (suc n) left = and_then (whole (number_read 1 left)) (item_behind item (items_within item n))
