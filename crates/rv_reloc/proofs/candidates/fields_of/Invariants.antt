use Rattle.std.proofs.Common.{ℕ, List, map, take}
use Rattle.rv_reloc.specs.Candidates.{IsFieldOf}
use Rattle.rv_reloc.specs.Finds.{AreFound}
use Rattle.rv_reloc.specs.Records.{seen}
use Rattle.rv_reloc.specs.CountedFields.{as_field}
use Rattle.code_starts.specs.WholeParts.{AreWholeParts}
use Rattle.rv_reloc.proofs.candidates.fields_of.Given as goal

abbrev pub invariant-loop-index : goal.invariant-loop-index
invariant-loop-index l = (tabled : List (ℕ × ℕ)) → AreWholeParts l.elf tabled l.wholes →
    AreFound (λ r f. IsFieldOf l.elf tabled (seen r) f) (take l.index l.records) (map as_field l.fields.items)
