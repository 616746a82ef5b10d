-- In-memory files by name.
use Rattle.std.specs.Prelude.{ℕ, List, Option, String, option_map, option_and_then}
use Rattle.std.specs.BTreeMap.{BTreeMap, get_by_text}
use Rattle.std.specs.declared.alloc.Global.{Global}
use Rattle.rb_io.specs.Slot.{content_of, room_of}
use Rattle.rb_io.specs.declared.slot.Slot.{Slot}

-- The bytes of the file with a name, if it was written.
abbrev pub content_at : BTreeMap (String Global) Slot → List ℕ → Option (List ℕ)
content_at slots name = option_and_then content_of (get_by_text slots name)

-- The number of bytes that can be written under a name; `None` if no room was made for it.
abbrev pub room_at : BTreeMap (String Global) Slot → List ℕ → Option ℕ
room_at slots name = option_map room_of (get_by_text slots name)
