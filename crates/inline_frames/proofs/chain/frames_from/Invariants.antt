use Rattle.std.specs.Prelude.{◌≡◌}
use Rattle.inline_frames.specs.Names.{NameSections}
use Rattle.inline_frames.specs.Positions.{link_frames}
use Rattle.inline_frames.proofs.LinkFrames.{AreFramed}
use Rattle.inline_frames.proofs.chain.frames_from.Given as goal

abbrev pub invariant-loop-number : goal.invariant-loop-number
invariant-loop-number l = (s : NameSections) → s.units.info ≡ l.texts.info.now → s.str ≡ l.texts.str.now →
    s.line_str ≡ l.texts.line_str.now →
    AreFramed l.lines s l.links l.namings (link_frames l.lines s l.fn.first l.links l.namings) l.number l.position l.frames.items
