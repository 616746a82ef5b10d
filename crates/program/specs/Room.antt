-- The address of a program's new code.
use Rattle.std.specs.Prelude.{ℕ, Bool, Option}
use Rattle.rb_bytes.specs.declared.fault.Fault.{Fault}
use Rattle.area_room.specs.Room.{area_start_of}
use Rattle.area_room.specs.Need.{need}
use Rattle.area_room.specs.Room.{is_tight}
use Rattle.area_room.specs.RoomFault.{no_room}
use Rattle.program.specs.Program.{Program}

-- the greatest size in bytes of the new area
abbrev pub needed_bytes : Program → ℕ
needed_bytes x = need x.elf x.code.funcs x.blocks

-- the fault of a program whose new code has no room anywhere
abbrev pub no_program_room : Program → Option Fault
no_program_room x = no_room x.elf.segments.items (needed_bytes x)

-- there is no room for the new code after the executable segment
abbrev pub is_tight_program : Program → Bool
is_tight_program x = is_tight x.elf.segments.items (needed_bytes x)

-- the start of the new code
abbrev pub new_start : Program → ℕ
new_start x = area_start_of x.elf.segments.items (is_tight_program x)
