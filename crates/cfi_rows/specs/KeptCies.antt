-- A CIE as the code keeps it: what its instructions say of registers is only counted.
use Rattle.std.specs.Prelude.{◌≡◌, List, length, flat_map, sum_by}
use Rattle.answer_runs.specs.Weights.{distinct}
use Rattle.cfi_rows.specs.declared.kept_cie.Cie.{Cie as Kept}
use Rattle.cfi_rows.specs.declared.instruction.Instruction.{Instruction}
use Rattle.cfi_rows.specs.FrameRows.{Known}
use Rattle.cfi_rows.specs.Augmentations.{augmentation_of}
use Rattle.cfi_rows.specs.EntryCounts.{registers_set, bytes_in}
use Rattle.cfi_rows.specs.Outlines.{kind_of}
use Rattle.cfi_rows.specs.RegisterSets.{AreIn}
use Rattle.cfi_rows.specs.Entries.{Cie}

abbrev pub cie_of : Kept → List Instruction → Known → Cie
cie_of k is known =
    record {
      code = k.head.code;
      «data» = k.head.«data»;
      ra = k.head.ra;
      augmentation = augmentation_of k.head.augmentation;
      instructions = is;
      known = known;
    }

-- the kept part of a CIE by its instructions and the state known after them
pub record IsKept (k : Kept) (is : List Instruction) (known : Known) : Type 0 where
  pub frame : kind_of known.cfa ≡ k.frame
  pub registers : AreIn (flat_map registers_set is) k.registers.set
  pub count : length (distinct (flat_map registers_set is)) ≡ k.registers.count
  pub bytes : sum_by bytes_in is ≡ k.bytes

pub record IsKeptCie (k : Kept) (c : Cie) : Type 0 where
  pub same : c ≡ cie_of k c.instructions c.known
  pub kept : IsKept k c.instructions c.known
