-- Types of relocations, on small examples. Each equation holds by computation.
use Rattle.std.specs.Prelude.{◌≡◌, Some, None, true, false, refl}
use Rattle.elf_code.specs.Relocations.{is_supported, Bits, Uleb128, plus_width, minus_width}

-- Type 61 is the greatest supported one.
uleb_is_supported : is_supported 61 ≡ true
uleb_is_supported = refl

next_is_not : is_supported 62 ≡ false
next_is_not = refl

-- COPY, which only dynamic linkers use.
copy_is_not : is_supported 4 ≡ false
copy_is_not = refl

-- SET32 and SUB32 have the same width, and so have ADD32 and SUB32.
width_of_set32 : plus_width 56 ≡ Some (Bits 32)
width_of_set32 = refl

width_of_sub32 : minus_width 39 ≡ Some (Bits 32)
width_of_sub32 = refl

width_of_sub6 : minus_width 52 ≡ Some (Bits 6)
width_of_sub6 = refl

width_of_set_uleb : plus_width 60 ≡ Some Uleb128
width_of_set_uleb = refl

sub_adds_nothing : plus_width 39 ≡ None
sub_adds_nothing = refl
