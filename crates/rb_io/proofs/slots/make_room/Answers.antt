use Rattle.std.proofs.Common.{◌∙◌, ap, rules, Some}
use Rattle.std.specs.Prelude.{option_map, option_and_then}
use Rattle.rb_io.specs.Slot.{content_of, room_of}
use Rattle.rb_io.proofs.Lookups.{ChangesAt, get_by_text-others, get_by_text-part}
use Rattle.std.proofs.lemmas.Result.{on_err_weaker}
use Rattle.rb_io.proofs.slots.make_room.Goals as goal

pub returns-in-Some-clause-contents_kept : goal.returns-in-Some-clause-contents_kept
returns-in-Some-clause-contents_kept c =
    let changed : ChangesAt c.as_str.result.now c.args.slots.now (c.get_mut.follows.lender c.make_room.new.self)
    (Some c.make_room.new.self) = (c.get_mut.follows.holds c.make_room.new.self).3 (search rules) in
    record {
      each = get_by_text-part (option_and_then content_of) c.args.slots.now (c.get_mut.follows.lender c.make_room.new.self)
          (Some c.make_room.new.self) c.as_str.result.now changed
          (c.make_room.ensures.content_kept ∙ ap (option_and_then content_of) c.in-Some.ensures.value);
    }

pub returns-in-Some-clause-others_kept : goal.returns-in-Some-clause-others_kept
returns-in-Some-clause-others_kept c =
    let changed : ChangesAt c.as_str.result.now c.args.slots.now (c.get_mut.follows.lender c.make_room.new.self)
    (Some c.make_room.new.self) = (c.get_mut.follows.holds c.make_room.new.self).3 (search rules) in
    record {
      others = λ other apart. ap (option_map room_of)
          (get_by_text-others c.args.slots.now (c.get_mut.follows.lender c.make_room.new.self)
          (Some c.make_room.new.self) c.as_str.result.now changed other (λ same. apart (same ∙ c.as_str.ensures.value)));
    }

pub returns-in-Some-clause-err : goal.returns-in-Some-clause-err
returns-in-Some-clause-err c =
    let changed : ChangesAt c.as_str.result.now c.args.slots.now (c.get_mut.follows.lender c.make_room.new.self)
    (Some c.make_room.new.self) = (c.get_mut.follows.holds c.make_room.new.self).3 (search rules) in
    on_err_weaker c.make_room.result
    (λ kept. record {
      each = get_by_text-part (option_map room_of) c.args.slots.now (c.get_mut.follows.lender c.make_room.new.self)
          (Some c.make_room.new.self) c.as_str.result.now changed
          (ap Some kept ∙ ap (option_map room_of) c.in-Some.ensures.value);
    }) c.make_room.ensures.err
