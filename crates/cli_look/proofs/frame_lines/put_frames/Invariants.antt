use Rattle.std.proofs.Common.{◌≡◌, ◌++◌, take, flat_map}
use Rattle.inline_frames.specs.Frames.{frame_line}
use Rattle.cli_look.proofs.frame_lines.put_frames.Given as goal

abbrev pub invariant-loop-frame : goal.invariant-loop-frame
invariant-loop-frame l = l.text.items ≡ l.initial.text.items ++ flat_map frame_line (take l.frame-index l.frames)
