use Rattle.std.specs.Prelude.{◌≡◌, ◌-◌, map}
use Rattle.inline_frames.specs.FileChains.{listed_units}
use Rattle.inline_frames.specs.Following.{followed_times}
use Rattle.inline_frames.proofs.follow.resolved.Given as goal

abbrev pub invariant-loop-round : goal.invariant-loop-round
invariant-loop-round l =
    map (followed_times l.str_offsets (listed_units l.reader.abbrevs l.reader.units) (16 - l.round)) l.now.items
    ≡ map (followed_times l.str_offsets (listed_units l.reader.abbrevs l.reader.units) 16) l.fn.namings.items
