use Rattle.std.proofs.Common.{◌↔◌, ◌*◌, ap, subst, IsTrue, ℕ}
use Rattle.elf_image.specs.declared.header.HeaderFields.{HeaderFields}
use Rattle.elf_image.specs.declared.segment.TheConstants.{PHDR_SIZE}
use Rattle.elf_image.specs.file.Header.{e_phoff}
use Rattle.elf_image.specs.faults.SegmentLayout.{CrossesEnd}
use Rattle.elf_image.proofs.LowestPlaces.{IsLowest-place}
use Rattle.elf_image.proofs.faults.loading.crossing_table.Goals as goal

pub returns : goal.returns
returns c =
    let AtOffset : ℕ → Type 0 =
    λ offset. IsTrue c.crosses_end.result ↔ CrossesEnd c.args.segments.file.now offset (PHDR_SIZE * c.count.result) in
    let OfSize : ℕ → Type 0 =
    λ count. IsTrue c.crosses_end.result
    ↔ CrossesEnd c.args.segments.file.now (e_phoff c.args.segments.file.now) (PHDR_SIZE * count) in
    let offset_is = ap (λ (h : HeaderFields). h.phoff) c.fields-offset.ensures in
    IsLowest-place _ _ _ _ _ c.place_if.ensures offset_is
    (subst OfSize c.count.ensures (subst AtOffset offset_is c.crosses_end.ensures))
