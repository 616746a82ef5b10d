-- The properties of a rewritten file, by its input and its profile.
use Rattle.std.specs.Prelude.{◌≡◌, ◌+◌, ◌-◌, ◌*◌, ◌≤◌, ℕ, List, IfSome, length, sum_by}
use Rattle.rv_code.specs.declared.layout.Chains.{Chains}
use Rattle.rv_code.specs.layout.Flow.{insts_of}
use Rattle.rv_code.specs.machine.Machine.{Event}
use Rattle.elf_image.specs.faults.FileFaults.{IsSound}
use Rattle.elf_image.specs.file.Header.{segments_of}
use Rattle.elf_image.specs.memory.CodeSegment.{executable_segment}
use Rattle.rv_memory.specs.Start.{Runs, RunsSoFar}
use Rattle.addr_map.specs.declared.span.Span.{Span}
use Rattle.addr_map.specs.Spans.{IsStretch}
use Rattle.sym_machine.specs.SymStart.{SymRuns, SymRunsSoFar}
use Rattle.edge_profile.specs.PairCounts.{Counted, ignored_in}
use Rattle.move_law.specs.FaithfulRewrite.{IsFaithful}
use Rattle.move_law.specs.Laws.{FitStack}
use Rattle.move_law.specs.Rewrite.{Rewrite, program}
use Rattle.elf_image.specs.memory.Executables.{executable_of}
use Rattle.elf_write.specs.Area.{shift_of}
use Rattle.elf_write.specs.CarriedBytes.{HoldsBytes}
use Rattle.elf_write.specs.FrontBytes.{KeepsBehind, KeepsFront}
use Rattle.elf_write.specs.NewSegments.{AreNewHeaders}
use Rattle.elf_write.specs.NewTables.{HasNewTables, area_for}
use Rattle.table_set.specs.TableLimits.{IsTooHeavy}
use Rattle.program.specs.Program.{Program}
use Rattle.program.specs.Room.{is_tight_program, needed_bytes, new_start}
use Rattle.bolt_core.specs.CarriedAnswers.{CarriesTables}
use Rattle.bolt_core.specs.GivenTables.{AreGivenFor, ReadTable}
use Rattle.bolt_core.specs.Limits.{IsTooLarge}
use Rattle.bolt_core.specs.NewCode.{IsLaidOutBy}
use Rattle.bolt_core.specs.ProfileOrder.{IsProfileOrder, cold_starts, hot_count}
use Rattle.bolt_core.specs.Refusals.{CanStand, IsInput}
use Rattle.bolt_core.specs.RewriteCounts.{RewriteCounts}

abbrev pub rewrite_of : Program → List ℕ → List Span → Rewrite
rewrite_of x written spans = record {
  input = x.elf;
  code = x.code;
  tight = is_tight_program x;
  output = executable_of written;
  spans = spans;
}

-- Each run of the input that ends on the symbol machine is matched by a run of the written file on the byte machine,
-- with the same arguments and input, the same system calls and the same status.
abbrev pub KeepsRuns : Program → List ℕ → List Span → Type 0
KeepsRuns x written spans = (args : List (List ℕ)) (input : List ℕ) → FitStack args →
    (n : ℕ) (trace : List Event) (status : ℕ) → SymRuns (program (rewrite_of x written spans)) args input n trace status
    →
    (m : ℕ) × (m ≤ 3 * n + 1) × Runs written args input m trace status

-- The first steps of every other run are matched.
abbrev pub KeepsRunsSoFar : Program → List ℕ → List Span → Type 0
KeepsRunsSoFar x written spans = (args : List (List ℕ)) (input : List ℕ) → FitStack args →
    (n : ℕ) (trace : List Event) → SymRunsSoFar (program (rewrite_of x written spans)) args input n trace →
    (m : ℕ) × (m ≤ 3 * n) × RunsSoFar written args input m trace

-- The sections and symbols of the written file follow from the input and the map, with these tables.
abbrev pub FollowsTables : Program → Chains → List ReadTable → List ℕ → List Span → List ℕ → Type 0
FollowsTables x parts given code spans written =
    HasNewTables x.elf given code x.code.funcs (cold_starts x.code.funcs x.blocks parts) spans
    (is_tight_program x) written

-- The program headers of the written file follow the input's: the executable segment may grow, and there is one more if
-- the new code has a segment of its own.
abbrev pub FollowsSegments : Program → List ReadTable → List ℕ → List ℕ → Type 0
FollowsSegments x given code written =
    let segments = x.elf.segments.items in
    let area = area_for x.elf given code (is_tight_program x) in
    let shift = shift_of segments area in
    IfSome (executable_segment segments) (λ e. AreNewHeaders shift.from shift.by area e.0 segments
    (segments_of written))

-- the counts in the summary of a rewrite
abbrev pub counts_of_rewrite : Program → List ℕ → List Counted → List Span → RewriteCounts
counts_of_rewrite x profile pairs spans = record {
  functions = length x.code.funcs;
  instructions = length (insts_of x.code.funcs);
  bytes = sum_by (λ s. s.len) spans;
  hot = hot_count x pairs;
  ignored = ignored_in profile x.elf x.code.funcs;
}

pub record IsRewritten (file profile written : List ℕ) (spans : List Span) (counts : RewriteCounts) : Type 0 where
  -- no fault is present
  pub program : Program
  pub accepted : IsInput file profile program
  pub stands : CanStand program
  pub pairs : List Counted
  pub parts : Chains
  pub order : List ℕ
  pub fits : (place : ℕ) →
      IsTooLarge program.elf program.code.funcs (cold_starts program.code.funcs program.blocks parts) place → ⊥
  pub light : IsTooHeavy program.elf spans → ⊥
  -- the reader accepts the written file, and it is a faithful rewrite, so it keeps the runs of the input
  pub sound : IsSound written
  pub faithful : IsFaithful (rewrite_of program written spans)
  pub runs : KeepsRuns program written spans
  pub so_far : KeepsRunsSoFar program written spans
  -- the new code is in the profile's order, and is one stretch from the new area's start on
  pub ordered : IsProfileOrder program profile pairs parts order
  pub code : List ℕ
  pub laid_out : IsLaidOutBy program order spans code
  -- the spans fill one stretch, which has the bytes of the new code; headers, sections and symbols follow the input's,
  -- and name the new code
  pub stretch : IsStretch spans (new_start program) (new_start program + length code)
  pub code_stands : HoldsBytes written (segments_of written) (new_start program) code
  pub given : List ReadTable
  pub are_given : AreGivenFor program.elf given
  pub tables : FollowsTables program parts given code spans written
  pub headers : FollowsSegments program given code written
  -- the new area takes at most the bytes that were found to be needed
  pub needed : (area_for program.elf given code (is_tight_program program)).end
      - (area_for program.elf given code (is_tight_program program)).start ≤ needed_bytes program
  -- at each byte of the new code all tables have the answers that they had at the byte's owner, and other debug data is
  -- kept
  pub answers : CarriesTables spans program.elf tables.new
  -- before the offset from which bytes move, bytes that no segment loads are unchanged, except the bytes of a replaced
  -- table
  pub front : KeepsFront program.elf (is_tight_program program) written
  -- after this offset, bytes that a segment names and doesn't load have moved with it
  pub behind : KeepsBehind program.elf (area_for program.elf given code (is_tight_program program)) written
  pub counted : counts ≡ counts_of_rewrite program profile pairs spans
