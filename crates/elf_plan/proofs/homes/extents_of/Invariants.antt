use Rattle.std.proofs.Common.{◌≡◌, ℕ, Some, length}
use Rattle.std.specs.Prelude.{slice_get, unwrap_or}
use Rattle.elf_image.specs.declared.section.Section.{Section}
use Rattle.elf_image.specs.declared.extent.Extent.{Extent}
use Rattle.elf_plan.specs.declared.sections.Contents.TheVariants.{Dropped}
use Rattle.elf_plan.specs.Homes.{extent_of}
use Rattle.elf_plan.proofs.homes.extents_of.Given as goal

abbrev pub invariant-loop-index : goal.invariant-loop-index
invariant-loop-index l = record {
  count : length l.extents.items ≡ l.index;
  each : (i : ℕ) (s : Section) (e : Extent) → slice_get l.sections i ≡ Some s → slice_get l.extents.items i ≡ Some e →
      e ≡ extent_of i (unwrap_or (slice_get l.contents i) Dropped) s;
}
