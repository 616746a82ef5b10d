-- The positions in the functions of a chain, and their frames.
use Rattle.std.specs.Prelude.{ℕ, List, [], ◌∷◌, codes, Option, Some, None, option_and_then, unwrap_or}
use Rattle.line_rewrite.specs.FilePaths.{path_at}
use Rattle.line_rewrite.specs.LineAnswers.{LineSaid, RowSaid}
use Rattle.line_rewrite.specs.Tables.{LineSections, line_at}
use Rattle.inline_frames.specs.Frames.{Frame, last_row, or_unknown}
use Rattle.inline_frames.specs.Names.{NameSections}
use Rattle.inline_frames.specs.Naming.{text_named}
use Rattle.inline_frames.specs.declared.link.Link.{Link}
use Rattle.inline_frames.specs.declared.naming.Naming.{Naming}

-- A file, a line and a column.
pub record Position : Type 0 where
  pub path : List ℕ
  pub line : ℕ
  pub column : ℕ

-- The position if none is known.
abbrev pub no_position : Position
no_position = record { path = codes "?"; line = 0; column = 0 }

-- The position of a row.
abbrev pub position_of : RowSaid → Position
position_of r = record { path = r.path; line = r.line; column = r.column }

abbrev pub position_or_none : Option RowSaid → Position
position_or_none (Some r) = position_of r
position_or_none None = no_position

-- The position at an address: the last row in force.
abbrev pub row_position : LineSections → ℕ → Position
row_position s a = position_or_none (option_and_then (λ (l : LineSaid). last_row l.rows) (line_at s a))

-- The path of the file in which an inlined function is called.
abbrev pub call_path : LineSections → Link → Option (List ℕ)
call_path s l = option_and_then (λ offset. option_and_then (path_at s offset) l.file) l.line_unit

abbrev pub or_zero : Option ℕ → ℕ
or_zero number = unwrap_or number 0

-- The position of the call of an inlined function.
abbrev pub call_position : LineSections → Link → Position
call_position s l = record { path = or_unknown (call_path s l); line = or_zero l.line; column = or_zero l.column }

-- A frame with a position and the text of a name.
abbrev pub frame_at : NameSections → Position → Naming → Frame
frame_at s p n = record { name = or_unknown (text_named s n); path = p.path; line = p.line; column = p.column }

-- The frames of a chain, outward from the position `p` in its first function.
abbrev pub link_frames : LineSections → NameSections → Position → List Link → List Naming → List Frame
link_frames lines s p [] ns = []
link_frames lines s p (l ∷ ls) [] = []
link_frames lines s p (l ∷ ls) (n ∷ ns) = frame_at s p n ∷ link_frames lines s (call_position lines l) ls ns
