-- The map of a small loop in which a jump was left out, and its text. Each equation holds by computation.
use Rattle.std.specs.Prelude.{◌≡◌, ℕ, List, [], ◌∷◌, Some, None, codes, refl}
use Rattle.std.specs.Fmt.{digits}
use Rattle.addr_map.specs.declared.span.Span.{Span}
use Rattle.addr_map.specs.MapText.{span_line}
use Rattle.addr_map.specs.Spans.{moved, new, owner}

abbrev span : ℕ → ℕ → ℕ → Span
span out len input = record { out = out; len = len; input = input }

-- A jump was added after the first instruction, and the jump at 10084 was left out before its target 1007c.
abbrev spans : List Span
spans =
    span 0x10090 8 0x10078 ∷ span 0x10098 4 0x10080 ∷ span 0x1009c 0 0x10084 ∷ span 0x1009c 4 0x1007c
    ∷ span 0x100a0 4 0x10088 ∷ span 0x100a4 4 0x1008c ∷ []

moved_first : moved spans 0x10078 ≡ Some 0x10090
moved_first = refl

-- An instruction that was left out has the new address of its target.
moved_jump : moved spans 0x10084 ≡ Some 0x1009c
moved_jump = refl

moved_inside : moved spans 0x1007a ≡ None
moved_inside = refl

new_of_data : new spans 0x20000 ≡ 0x20000
new_of_data = refl

-- The added jump belongs to the instruction before it.
owner_of_added : owner spans 0x10097 ≡ Some 0x10078
owner_of_added = refl

-- An instruction that was left out owns no byte.
owner_of_target : owner spans 0x1009c ≡ Some 0x1007c
owner_of_target = refl

owner_of_end : owner spans 0x100a8 ≡ None
owner_of_end = refl

line_of_left_out : span_line (span 0x1009c 0 0x10084) ≡ codes "1009c 0 10084\n"
unfolding digits
line_of_left_out = refl
