use Rattle.std.proofs.Common.{ap, option_map, string_bytes}
use Rattle.std.specs.Prelude.{option_and_then}
use Rattle.rb_io.specs.Slot.{content_of, room_of}
use Rattle.rb_io.proofs.Lookups.{get_by_text-others}
use Rattle.rb_io.proofs.mem_files.MemFiles.put.Goals as goal

pub returns-clause-others : goal.returns-clause-others
returns-clause-others c = record {
  others = λ name apart. ap (option_and_then content_of)
      (get_by_text-others c.args.self.now.slots c.insert.new.self _
      (string_bytes c.args.name) c.in_ok-insert.ensures.updates name apart);
}

pub returns-clause-other_rooms : goal.returns-clause-other_rooms
returns-clause-other_rooms c = record {
  others = λ name apart. ap (option_map room_of)
      (get_by_text-others c.args.self.now.slots c.insert.new.self _
      (string_bytes c.args.name) c.in_ok-insert.ensures.updates name apart);
}
