-- What contracts see of the outside: files and standard streams.
use Rattle.std.specs.Prelude.{ℕ, List}
use Rattle.rb_io.specs.FaultCounts.{Rose}
use Rattle.rb_io.specs.Views.{FilesSeen, SourceSeen, SinkSeen}

-- files by name, standard input and standard output
pub record World : Type 0 where
  pub files : FilesSeen
  pub input : SourceSeen
  pub output : SinkSeen

abbrev pub world : FilesSeen → SourceSeen → SinkSeen → World
world files input output = record { files = files; input = input; output = output }

-- the count of errors of reading a file rose, and likewise of writing it
abbrev pub ReadRose : World → World → List ℕ → Type 0
ReadRose old new name = Rose (old.files.read_faults name) (new.files.read_faults name)

abbrev pub WriteRose : World → World → List ℕ → Type 0
WriteRose old new name = Rose (old.files.write_faults name) (new.files.write_faults name)
