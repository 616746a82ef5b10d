-- Questions to the tables of a file about an address, and the faults of tables for which each is refused.
use Rattle.std.specs.Prelude.{ℕ, List}
use Rattle.rb_bytes.specs.declared.fault.FaultKind.{FaultKind}
use Rattle.elf_image.specs.declared.elf.Elf.{Elf}
use Rattle.table_set.specs.TableFaults.{HasDebugFault, HasTableFault}
use Rattle.lookup_core.specs.Report.{report}
use Rattle.inline_frames.specs.Frames.{frames_text}
use Rattle.cli_look.specs.declared.question.Question.{Question}
use Rattle.cli_look.specs.declared.question.Question.TheVariants as question

abbrev pub answer_text : Question → ℕ → Elf → List ℕ
answer_text question.Report address elf = report elf address
answer_text question.Frames address elf = frames_text elf address

-- functions are found without the unwind tables
abbrev pub HasFaultFor : Question → Elf → FaultKind → ℕ → Type 0
HasFaultFor question.Report elf = HasTableFault elf
HasFaultFor question.Frames elf = HasDebugFault elf
