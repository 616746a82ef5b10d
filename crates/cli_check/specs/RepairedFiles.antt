-- The repair of a profile of a file: the text that is written, and the lines that are printed.
use Rattle.std.specs.Prelude.{◌≡◌, ◌≤◌, ℕ, List, length}
use Rattle.rb_bytes.specs.declared.fault.Fault.{Fault}
use Rattle.rv_code.specs.layout.Edges.{AreEdges}
use Rattle.edge_profile.specs.PairCounts.{ArePairs, Counted, count_in}
use Rattle.edge_text.specs.EdgeText.{IsEdgeText}
use Rattle.flow_infer.specs.declared.flow.Flow.{Flow}
use Rattle.flow_infer.specs.Repairs.{IsRepaired}
use Rattle.flow_text.specs.RepairedCounts.{repaired_count}
use Rattle.flow_text.specs.Report.{report}
use Rattle.program.specs.Limits.{file_limit}
use Rattle.program.specs.Program.{Program}
use Rattle.cli_base.specs.Inputs.{IsTooLong}
use Rattle.cli_base.specs.ProgramFiles.{IsFileProgram, IsNoProgram}

-- The order of precedence: the lengths of both files, then the faults for which the file isn't a program.
pub data CannotRepair (file profile : List ℕ) (fault : Fault) : Type 0 where
  too_long : IsTooLong file profile fault → CannotRepair file profile fault
  no_program : length profile ≤ file_limit → IsNoProgram file fault → CannotRepair file profile fault

-- Flows on all links of the file's functions balance at each block, and prices show that they change the profile's
-- counts least. Read as a profile of the file, the written text has the flow of each edge and the old count of each
-- other pair; the lines are those of these flows and prices.
pub record IsRepairOf (file profile written printed : List ℕ) : Type 0 where
  pub profile_fits : length profile ≤ file_limit
  pub program : Program
  pub program_is : IsFileProgram file program
  pub edges : List (ℕ × ℕ)
  pub edges_are : AreEdges program.code.funcs program.code.cells program.blocks edges
  pub pairs : List Counted
  pub pairs_are : ArePairs (count_in profile program.elf program.code.funcs) pairs
  pub flow : Flow
  pub repaired : IsRepaired program.code program.blocks edges pairs flow
  pub written_is : IsEdgeText program.elf program.code.funcs
      (repaired_count program.code.funcs program.blocks flow.links.items pairs) written
  pub printed_is : printed ≡ report program.code.funcs program.blocks flow
