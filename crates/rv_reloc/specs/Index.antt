-- Classes for searching the relocations of one address: calls, upper parts, and labels that are added or set, or
-- subtracted, for each width.
use Rattle.std.specs.Prelude.{ℕ, ◌+◌, ◌*◌, if◌then◌else◌, Bool, Option, Some, None}
use Rattle.elf_code.specs.Relocations.{Width, Bits, Uleb128, plus_width, minus_width, is_call_pair, is_pcrel_hi}

abbrev pub width_code : Width → ℕ
width_code (Bits n) = n + 1
width_code Uleb128 = 0

abbrev pub plus_class : Width → ℕ
plus_class width = 2 * width_code width + 4

abbrev pub minus_class : Width → ℕ
minus_class width = 2 * width_code width + 5

abbrev pub call_class : ℕ
call_class = 0

abbrev pub upper_class : ℕ
upper_class = 1

abbrev pub other_class : ℕ
other_class = 2

abbrev pub class_if : Bool → Bool → ℕ
class_if call upper = if call then call_class else if upper then upper_class else other_class

-- The class of a type that isn't for a label of a difference.
abbrev pub class_beside : ℕ → ℕ
class_beside kind = class_if (is_call_pair kind) (is_pcrel_hi kind)

abbrev pub class_by : Option Width → Option Width → Bool → Bool → ℕ
class_by (Some width) minus call upper = plus_class width
class_by None (Some width) call upper = minus_class width
class_by None None call upper = class_if call upper

-- The class of a type.
unfoldable pub class : ℕ → ℕ
class kind = class_by (plus_width kind) (minus_width kind) (is_call_pair kind) (is_pcrel_hi kind)
