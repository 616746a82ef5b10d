use Rattle.std.proofs.Common.{◌≡◌, ◌+◌, ◌-◌, ◌<◌, ◌∙◌, ap, arith, true, rules, Some, Bool, ℕ}
use Rattle.std.specs.Prelude.{◌&&◌, min, nat_le, nat_lt, if◌then◌else◌}
use Rattle.std.proofs.lemmas.Result.{on_ok_weaker}
use Rattle.elf_image.specs.memory.Image.{is_load}
use Rattle.elf_image.specs.memory.HiddenFields.{is_hidden_field}
use Rattle.sym_machine.specs.declared.value.MemoryByte.TheVariants.{Hidden}
use Rattle.sym_machine.specs.internal.SpecialBytes.{special}
use Rattle.sym_machine.proofs.StartFields.{segment_low, covers_between-run}
use Rattle.sym_machine.proofs.other_bytes.OtherBytes.hide_between.Goals as goal

pub overflow_add-p : goal.overflow_add-p
overflow_add-p c =
    let p = c.args.p.now in
    let load : is_load p ≡ true = search rules in
    let within : c.saturating_sub-skipped.result < min p.filesz p.memsz = omega (arith, c.file_end-end.ensures) in
    let low = segment_low c.args.elf.now.segments.items p c.saturating_sub-skipped.result c.requires.low c.requires.one load within in
    omega arith

pub hide_run-requires : goal.hide_run-requires
hide_run-requires c =
    let p = c.args.p.now in
    let load : is_load p ≡ true = search rules in
    let within : c.file_end-end.result - 1 < min p.filesz p.memsz = omega (arith, c.file_end-end.ensures) in
    let low = segment_low c.args.elf.now.segments.items p (c.file_end-end.result - 1) c.requires.low c.requires.one load within in
    omega arith

pub returns : goal.returns
returns c = on_ok_weaker c.hide_run.result (λ all tight fields q.
    let p = c.args.p.now in
    let load : is_load p ≡ true = search rules in
    let end : (p.vaddr + c.saturating_sub-skipped.result) + (c.file_end-end.result - c.saturating_sub-skipped.result)
    ≡ p.vaddr + c.file_end-end.result = omega arith in
    let skipped : c.saturating_sub-skipped.result ≡ c.args.from - p.offset = search rules in
    let h = is_hidden_field c.args.elf.now tight q in
    let old = special c.args.self.now q in
    all tight fields q
    ∙ ap (λ (n : ℕ). if (nat_le (p.vaddr + c.saturating_sub-skipped.result) q && nat_lt q n) && h then Some Hidden else old) end
    ∙ ap (λ (n : ℕ). if (nat_le (p.vaddr + n) q && nat_lt q (p.vaddr + c.file_end-end.result)) && h then Some Hidden else old)
    skipped
    ∙ ap (λ (b : Bool). if b && h then Some Hidden else old)
    (covers_between-run c.args.from c.args.to q p load c.file_end-end.result c.file_end-end.ensures))
    c.hide_run.ensures
