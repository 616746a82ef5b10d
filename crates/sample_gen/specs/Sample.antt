-- A sample: a file with its code, and its profile, without any fault.
use Rattle.std.specs.Prelude.{◌≡◌, ℕ, List}
use Rattle.program.specs.Program.{Program}
use Rattle.sample_file.specs.FoundCode.{HasSampleCode}
use Rattle.sample_file.specs.SampleText.{sample_profile}
use Rattle.sample_gen.specs.Faultless.{HasNoFault}

-- Sample n. Its program is the result of reading the file.
pub record IsSample (n : ℕ) (file profile : List ℕ) : Type 0 where
  pub program : Program
  pub faultless : HasNoFault file profile program
  pub code : HasSampleCode n program.elf program.code.funcs program.code.cells
  pub profile_is : profile ≡ sample_profile n
