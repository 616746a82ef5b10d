-- The line of a verdict, and the command's result.
use Rattle.std.specs.Prelude.{◌≡◌, ◌⊎◌, ℕ, List, ◌++◌, codes}
use Rattle.rb_bytes.specs.Text.{hexadecimal}
use Rattle.rb_bytes.specs.declared.fault.Fault.{Fault}
use Rattle.cli_base.specs.Lines.{refused_front, refused_line}
use Rattle.cli_base.specs.declared.status.Status.{Status}
use Rattle.cli_base.specs.declared.status.Status.TheVariants as status
use Rattle.map_check.specs.declared.clause.Clause.{Clause}
use Rattle.map_check.specs.declared.clause.Clause.TheVariants as clause
use Rattle.map_check.specs.declared.clause.Verdict.{Verdict}
use Rattle.map_check.specs.declared.clause.Verdict.TheVariants as verdict

abbrev pub clause_name : Clause → List ℕ
clause_name clause.MapText = codes "MapText"
clause_name clause.MapSpan = codes "MapSpan"
clause_name clause.SpanBytes = codes "SpanBytes"
clause_name clause.Instruction = codes "Instruction"
clause_name clause.Next = codes "Next"
clause_name clause.Entry = codes "Entry"
clause_name clause.Byte = codes "Byte"
clause_name clause.Cell = codes "Cell"
clause_name clause.Table = codes "Table"

abbrev pub verdict_line : Verdict → List ℕ
verdict_line verdict.Faithful = codes "faithful\n"
verdict_line (verdict.Unfaithful clause place) =
    codes "unfaithful " ++ clause_name clause ++ codes " at " ++ hexadecimal place ++ codes "\n"

abbrev pub status_of : Verdict → Status
status_of verdict.Faithful = status.Ok
status_of (verdict.Unfaithful clause place) = status.Unfaithful clause place

-- the line for an output that is refused
abbrev pub refused_output_line : Fault → List ℕ
refused_output_line fault = refused_front fault ++ codes " in OUT\n"

-- a line of a refusal: of the input or of the map, or of the output
abbrev pub IsRefusalLine : Fault → List ℕ → Type 0
IsRefusalLine fault line = (line ≡ refused_line fault) ⊎ (line ≡ refused_output_line fault)
