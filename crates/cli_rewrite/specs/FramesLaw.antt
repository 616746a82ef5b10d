-- The functions at addresses of a rewritten file, as a statement about all files and profiles.
use Rattle.std.specs.Prelude.{◌≡◌, ℕ, List, Some}
use Rattle.addr_map.specs.Spans.{owner}
use Rattle.addr_map.specs.declared.span.Span.{Span}
use Rattle.bolt_core.specs.RewriteCounts.{RewriteCounts}
use Rattle.bolt_core.specs.RewrittenFile.{IsRewritten}
use Rattle.inline_frames.specs.Frames.{frames}

-- At each byte of the new code, the functions, with the source position in each, are those at the byte's owner in the
-- input.
abbrev pub FramesLaw : Type 0
FramesLaw =
    (file profile written : List ℕ) (spans : List Span) (counts : RewriteCounts)
    (made : IsRewritten file profile written spans counts) (p o : ℕ) → owner spans p ≡ Some o →
    frames made.tables.new p ≡ frames made.program.elf o
