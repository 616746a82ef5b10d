-- The report on an address: the rows of its line, the entries that cover it, the expressions in force, and how to
-- unwind.
use Rattle.std.specs.Prelude.{ℕ, Bool, true, false, List, [], ◌∷◌, ◌++◌, flat_map, codes, decimal, Option}
use Rattle.std.specs.Option.{option_map_or}
use Rattle.rb_bytes.specs.Text.{hexadecimal}
use Rattle.elf_image.specs.declared.elf.Elf.{Elf}
use Rattle.table_core.specs.Texts.{or_none}
use Rattle.cfi_rows.specs.declared.row.Cfa.{Cfa}
use Rattle.cfi_rows.specs.declared.row.Cfa.TheVariants as cfa
use Rattle.cfi_rows.specs.declared.row.Rule.{Rule}
use Rattle.cfi_rows.specs.declared.row.Rule.TheVariants as rule
use Rattle.frame_rewrite.specs.FrameAnswers.{FrameAnswer, unwind}
use Rattle.line_rewrite.specs.LineAnswers.{RowSaid, LineSaid}
use Rattle.line_rewrite.specs.Tables.{line}
use Rattle.range_loc_rewrite.specs.Ranges.{covering}
use Rattle.range_loc_rewrite.specs.Locations.{PlaceSaid, places_said}
use Rattle.range_loc_rewrite.specs.Tables.{list_sections}
use Rattle.lookup_core.specs.Texts.{bytes_text, offset_text, register_text, if_set, unless_zero}

-- A row: path, line and column, the flags that are set, and the numbers that aren't 0.

-- The position of a row.
abbrev pub position_text : List ℕ → ℕ → ℕ → List ℕ
position_text path line column = codes "line " ++ path ++ codes ":" ++ decimal line ++ codes ":" ++ decimal column

-- The flags and numbers of a row.
abbrev pub flags_text : RowSaid → List ℕ
flags_text r =
    if_set r.stmt (codes " stmt") ++ if_set r.block (codes " block") ++ if_set r.prologue (codes " prologue")
    ++ if_set r.epilogue (codes " epilogue")
    ++ unless_zero r.isa (codes " isa " ++ decimal r.isa) ++ unless_zero r.disc (codes " disc " ++ decimal r.disc)

-- The line of a row.
abbrev pub row_line : RowSaid → List ℕ
row_line r = position_text r.path r.line r.column ++ flags_text r ++ codes "\n"

-- The lines of all rows in force.
abbrev pub line_lines : Option LineSaid → List ℕ
line_lines said = option_map_or (λ (l : LineSaid). flat_map row_line l.rows) said []

-- The line of an entry that covers the address.
abbrev pub covers_line : ℕ → List ℕ
covers_line place = codes "covers " ++ hexadecimal place ++ codes "\n"

-- An expression in two hexadecimal digits a byte, or `-` for an empty one.
abbrev pub expression_text : List ℕ → List ℕ
expression_text [] = codes "-"
expression_text (b ∷ bs) = bytes_text (b ∷ bs)

-- The line of an expression in force.
abbrev pub place_line : ℕ → ℕ → List ℕ → List ℕ
place_line entry attr x =
    codes "places " ++ hexadecimal entry ++ codes " " ++ hexadecimal attr ++ codes " " ++ expression_text x
    ++ codes "\n"

-- The lines of an attribute's expressions in force.
abbrev pub places_lines : PlaceSaid → List ℕ
places_lines p = flat_map (place_line p.entry p.attr) p.expressions

-- How to unwind: the canonical frame address, the return address' column, the rules of registers, and then the handler,
-- the LSDA and the signal flag of the entry.

abbrev pub cfa_text : Cfa → List ℕ
cfa_text (cfa.Reg reg offset) = register_text reg ++ offset_text offset
cfa_text (cfa.Expr bytes) = codes "expr " ++ bytes_text bytes

-- The rule of a register. DWARF 5, section 6.4.1.
abbrev pub rule_text : Rule → List ℕ
rule_text rule.Undefined = codes "undefined"
rule_text rule.Same = codes "same"
rule_text (rule.Offset n) = codes "[cfa" ++ offset_text n ++ codes "]"
rule_text (rule.ValOffset n) = codes "cfa" ++ offset_text n
rule_text (rule.Reg r) = register_text r
rule_text (rule.Expr bytes) = codes "[expr " ++ bytes_text bytes ++ codes "]"
rule_text (rule.ValExpr bytes) = codes "expr " ++ bytes_text bytes

-- A register and its rule.
abbrev pub register_rule : ℕ × Rule → List ℕ
register_rule r = codes " " ++ register_text r.0 ++ codes "=" ++ rule_text r.1

abbrev pub star : Bool → List ℕ
star true = codes "*"
star false = []

-- The handler, unless it is 0; with `*` if it is the address of a pointer to it.
abbrev pub handler_text : ℕ → Bool → List ℕ
handler_text handler indirect = unless_zero handler (codes " handler " ++ star indirect ++ hexadecimal handler)

-- The line on how to unwind.
abbrev pub unwind_line : FrameAnswer → List ℕ
unwind_line x =
    codes "unwind cfa " ++ cfa_text x.row.cfa ++ codes " ra " ++ register_text x.ra
    ++ flat_map register_rule x.row.rules
    ++ handler_text x.handler x.indirect
    ++ unless_zero x.table (codes " table " ++ hexadecimal x.table) ++ if_set x.signal (codes " signal") ++ codes "\n"

-- The lines of all answers.
abbrev pub lines_of : Option LineSaid → List ℕ → List PlaceSaid → Option FrameAnswer → List ℕ
lines_of line covers places unwind =
    line_lines line ++ flat_map covers_line covers ++ flat_map places_lines places
    ++ option_map_or unwind_line unwind []

-- All lines, or a line that says that there is none.
abbrev pub report_of : Option LineSaid → List ℕ → List PlaceSaid → Option FrameAnswer → List ℕ
report_of line covers places unwind = or_none (lines_of line covers places unwind)

-- The report on an address of a file.
abbrev pub report : Elf → ℕ → List ℕ
report elf a =
    report_of (line elf a) (covering (list_sections elf) a) (places_said (list_sections elf) a) (unwind elf a)
