use Rattle.std.proofs.Common.{◌∙◌, ap, sym, Some, string_bytes}
use Rattle.std.specs.Prelude.{option_map, option_and_then}
use Rattle.rb_io.specs.Slot.{content_of, room_of}
use Rattle.rb_io.proofs.Lookups.{get_by_text-others, get_by_text-part, content_at-none}
use Rattle.rb_io.proofs.slots.add_room.Goals as goal

pub returns-clause-contents_kept : goal.returns-clause-contents_kept
returns-clause-contents_kept c =
    record {
      each = get_by_text-part (option_and_then content_of) c.args.slots.now c.insert.new.self (Some c.in_ok-with_room.field-0)
          (string_bytes c.args.name) c.in_ok-insert.ensures.updates
          (c.in_ok-with_room.ensures.content ∙ sym (content_at-none c.args.slots.now (string_bytes c.args.name) c.requires));
    }

pub returns-clause-others_kept : goal.returns-clause-others_kept
returns-clause-others_kept c =
    record {
      others = λ other apart. ap (option_map room_of)
          (get_by_text-others c.args.slots.now c.insert.new.self (Some c.in_ok-with_room.field-0)
          (string_bytes c.args.name) c.in_ok-insert.ensures.updates other apart);
    }
