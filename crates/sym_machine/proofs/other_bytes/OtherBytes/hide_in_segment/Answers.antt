use Rattle.std.proofs.Common.{◌≡◌, ◌+◌, ◌*◌, ◌∙◌, ap, ℕ, List, Some, Option, length}
use Rattle.std.specs.Prelude.{◌&&◌, ◌||◌, if◌then◌else◌}
use Rattle.std.proofs.lemmas.Result.{on_ok_weaker}
use Rattle.elf_image.specs.declared.segment.Segment.{Segment}
use Rattle.elf_image.specs.declared.segment.TheConstants.{PHDR_SIZE}
use Rattle.elf_image.specs.file.Header.{header_size}
use Rattle.elf_image.specs.memory.HiddenFields.{is_hidden_field}
use Rattle.sym_machine.specs.declared.value.MemoryByte.{MemoryByte}
use Rattle.sym_machine.specs.declared.value.MemoryByte.TheVariants.{Hidden}
use Rattle.sym_machine.specs.internal.SpecialBytes.{special, covers_between, covers_header}
use Rattle.sym_machine.proofs.StartFields.{hidden_joined}
use Rattle.sym_machine.proofs.other_bytes.OtherBytes.hide_in_segment.Goals as goal

pub returns : goal.returns
unfolding covers_header
returns c = on_ok_weaker c.hide_between-2.result (λ all tight fields q.
    let elf = c.args.elf.now in
    let p = c.args.p.now in
    let h = is_hidden_field elf tight q in
    let old = special c.args.self.now q in
    let count : length c.as_slice-segments.result.now ≡ length elf.segments.items =
    ap (λ (segments : List Segment). length segments) c.as_slice-segments.ensures.value in
    all tight fields q
    ∙ ap (λ (o : Option MemoryByte). if covers_between elf.phoff
    (elf.phoff + PHDR_SIZE * length c.as_slice-segments.result.now) q p && h
    then Some Hidden else o) (c.in_ok-hide_between.ensures tight fields q)
    ∙ hidden_joined (covers_between 0 header_size q p) (covers_between elf.phoff
    (elf.phoff + PHDR_SIZE * length c.as_slice-segments.result.now) q p) h
    (Some Hidden) old
    ∙ ap (λ (n : ℕ). if (covers_between 0 header_size q p || covers_between elf.phoff (elf.phoff + PHDR_SIZE * n) q p) && h
    then Some Hidden else old) count)
    c.hide_between-2.ensures
