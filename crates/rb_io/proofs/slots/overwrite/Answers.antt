use Rattle.std.proofs.Common.{◌∙◌, ap, rules, Some}
use Rattle.std.specs.Prelude.{option_map, option_and_then}
use Rattle.rb_io.specs.Slot.{content_of, room_of}
use Rattle.rb_io.proofs.Lookups.{ChangesAt, get_by_text-others, get_by_text-part}
use Rattle.rb_io.proofs.slots.overwrite.Goals as goal

pub returns-in-Some-clause-others_kept : goal.returns-in-Some-clause-others_kept
returns-in-Some-clause-others_kept c =
    let changed : ChangesAt c.args.name.now c.args.slots.now (c.get_mut.follows.lender c.write.new.self) (Some c.write.new.self) =
    (c.get_mut.follows.holds c.write.new.self).3 (search rules) in
    record {
      others = λ other apart. ap (option_and_then content_of)
          (get_by_text-others c.args.slots.now (c.get_mut.follows.lender c.write.new.self)
          (Some c.write.new.self) c.args.name.now changed other apart);
    }

pub returns-in-Some-clause-kept : goal.returns-in-Some-clause-kept
returns-in-Some-clause-kept c = λ failed.
    let changed : ChangesAt c.args.name.now c.args.slots.now (c.get_mut.follows.lender c.write.new.self) (Some c.write.new.self) =
    (c.get_mut.follows.holds c.write.new.self).3 (search rules) in
    record {
      each = get_by_text-part (option_and_then content_of) c.args.slots.now (c.get_mut.follows.lender c.write.new.self)
          (Some c.write.new.self) c.args.name.now changed
          ((rw failed at c.write.ensures.content) ∙ ap (option_and_then content_of) c.in-Some.ensures.value);
    }

pub returns-in-Some-clause-rooms_kept : goal.returns-in-Some-clause-rooms_kept
returns-in-Some-clause-rooms_kept c =
    let changed : ChangesAt c.args.name.now c.args.slots.now (c.get_mut.follows.lender c.write.new.self) (Some c.write.new.self) =
    (c.get_mut.follows.holds c.write.new.self).3 (search rules) in
    record {
      each = get_by_text-part (option_map room_of) c.args.slots.now (c.get_mut.follows.lender c.write.new.self)
          (Some c.write.new.self) c.args.name.now changed
          (ap Some c.write.ensures.room_kept ∙ ap (option_map room_of) c.in-Some.ensures.value);
    }
