-- The result of printing a line.
use Rattle.std.specs.Prelude.{◌≡◌, ℕ, List}
use Rattle.rb_io.specs.FaultCounts.{Rose}
use Rattle.rb_io.specs.TakenText.{TakesAll, TakesPrefix}
use Rattle.rb_io.specs.Views.{SinkSeen}
use Rattle.rb_bytes.specs.declared.fault.Refusal.{Refusal}
use Rattle.rb_bytes.specs.declared.fault.Refusal.TheVariants as refusal
use Rattle.cli_base.specs.Lines.{refused_line}
use Rattle.cli_base.specs.declared.status.Status.{Status}
use Rattle.cli_base.specs.declared.status.Status.TheVariants as status

-- The line was printed, and the answer is `done`; or only a prefix of it; or none of it, since memory ran out.
pub data LinePrinted (answer done : Status) (text : List ℕ) (before after : SinkSeen) : Type 0 where
  all_printed : answer ≡ done → TakesAll before.taken after.taken text → LinePrinted answer done text before after
  prefix_printed : answer ≡ status.WriteFault → Rose before.faults after.faults →
      TakesPrefix before.taken after.taken text
      → LinePrinted answer done text before after
  none_printed : answer ≡ status.NoMemory → after.taken ≡ before.taken → LinePrinted answer done text before after

-- the line of a refusal was printed, as `LinePrinted` says, or memory ran out and nothing was printed
abbrev pub Refuses : Refusal → Status → SinkSeen → SinkSeen → Type 0
Refuses (refusal.Fault fault) answer before after =
    LinePrinted answer (status.Refused fault) (refused_line fault) before after
Refuses refusal.Memory answer before after = (answer ≡ status.NoMemory) × (after.taken ≡ before.taken)
