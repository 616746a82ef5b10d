use Rattle.std.proofs.Common.{◌≡◌, ◌∙◌, ◌+◌, ◌-◌, ◌^◌, ◌≤◌, ℕ, List, sym, ap, subst, refl, arith, length}
use Rattle.std.specs.Prelude.{map, string_bytes, unwrap_or, if◌then◌else◌, ◌==◌}
use Rattle.rv_code.specs.machine.Machine.{put}
use Rattle.elf_image.specs.file.Header.{segments_of}
use Rattle.elf_image.specs.memory.Image.{image_byte}
use Rattle.elf_image.specs.memory.Break.{break_start, writable_end}
use Rattle.rv_memory.specs.Start.{in_stack, space_of, stack_bytes, stack_end, stack_pointer, start}
use Rattle.rv_memory.specs.Memory.{memory_of}
use Rattle.run_core.proofs.SameStates.{same_state}
use Rattle.elf_image.proofs.LowSegments.{low_end}
use Rattle.rv_memory.proofs.Spaces.{space_in-keeps}
use Rattle.rv_memory.proofs.CodeKept.{stack_writable}
use Rattle.rv_memory.proofs.StackLengths.{stack_bytes-end, stack_pointer-within}
use Rattle.rv_memory.proofs.StackMemory.{put_stack, start_register}
use Rattle.rv_machine.proofs.machine.Machine.load.Goals as goal

pub overflow_sub-pointer : goal.overflow_sub-pointer
overflow_sub-pointer c =
    let args : List (List ℕ) = map string_bytes c.args.args.now in
    let same : length c.deref-bytes.result.now ≡ length (stack_bytes c.args.elf.now.file.now args) =
    ap length (c.deref-bytes.ensures.value ∙ c.in_ok-bytes.ensures) in
    omega (arith, same, stack_bytes-end c.args.elf.now.file.now args c.requires.limits)

pub new-memory-requires : goal.new-memory-requires
new-memory-requires c = subst (λ segments. writable_end segments ≤ 2 ^ 63) (sym c.requires.read.segments)
    (low_end c.args.elf.now.file.now c.requires.sound)

pub returns : goal.returns
returns c = λ input.
    let file : List ℕ = c.args.elf.now.file.now in
    let args : List (List ℕ) = map string_bytes c.args.args.now in
    let image : ℕ → ℕ = λ q. unwrap_or (image_byte file (segments_of file) q) 0 in
    let bytes : c.deref-bytes.result.now ≡ stack_bytes file args = c.deref-bytes.ensures.value ∙ c.in_ok-bytes.ensures in
    let size : length c.deref-bytes.result.now ≡ length (stack_bytes file args) = ap length bytes in
    let ends : stack_pointer args + length (stack_bytes file args) ≡ stack_end = stack_bytes-end file args c.requires.limits in
    let pointer : stack_end - length c.deref-bytes.result.now ≡ stack_pointer args = omega (arith, size, ends) in
    let fresh : (q : ℕ) → memory_of c.new-memory.result q ≡ (if in_stack q then 0 else image q) = λ q.
    c.new-memory.ensures.bytes q
    ∙ ap (λ segments. if in_stack q then 0 else unwrap_or (image_byte file segments q) 0) c.requires.read.segments in
    let written = c.in_ok-write.ensures.written refl in
    same_state _ (start file args input) (record {
      pc_is = c.requires.read.entry;
      registers_are =
          λ r. start_register (stack_end - length c.deref-bytes.result.now) r ∙ ap (λ p. if r == 2 then p else 0) pointer;
      memory_is = λ q.
          written q
          ∙ ap (λ a. put (memory_of c.new-memory.result) a c.deref-bytes.result.now q) pointer
          ∙ ap (λ xs. put (memory_of c.new-memory.result) (stack_pointer args) xs q) bytes
          ∙ put_stack (stack_bytes file args) (stack_pointer args) image (memory_of c.new-memory.result) fresh ends
          (stack_pointer-within args c.requires.limits) q;
      space_is = sym (space_in-keeps c.new-memory.result c.write.new.self c.write.ensures.space_kept) ∙ c.new-memory.ensures.space
          ∙ ap space_of c.requires.read.segments;
      break_is = c.write.ensures.space_kept.break_is ∙ c.new-memory.ensures.break_is ∙ ap break_start c.requires.read.segments;
      input_is = refl;
    })

pub write-requires : goal.write-requires
write-requires c =
    let args : List (List ℕ) = map string_bytes c.args.args.now in
    let size : length c.deref-bytes.result.now ≡ length (stack_bytes c.args.elf.now.file.now args) =
    ap length (c.deref-bytes.ensures.value ∙ c.in_ok-bytes.ensures) in
    let ends = stack_bytes-end c.args.elf.now.file.now args c.requires.limits in
    let within = stack_pointer-within args c.requires.limits in
    stack_writable c.new-memory.result (stack_end - length c.deref-bytes.result.now) (length c.deref-bytes.result.now)
    (omega arith) (omega arith)
