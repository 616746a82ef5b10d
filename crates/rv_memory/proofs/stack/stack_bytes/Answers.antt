use Rattle.std.proofs.Common.{◌≡◌, ◌∙◌, ◌+◌, ◌-◌, ◌*◌, ℕ, List, ◌++◌, ap, refl, rules, arith, length, take}
use Rattle.std.proofs.lemmas.List.{length-map}
use Rattle.std.proofs.lemmas.Grind.{common_steps}
use Rattle.std.specs.Prelude.{map, replicate, string_bytes}
use Rattle.elf_image.specs.memory.Break.{rounded_down}
use Rattle.rv_memory.specs.Start.{program_arguments, random_address, random_bytes, texts, texts_address, start_bytes, stack_pointer}
use Rattle.rv_memory.proofs.StackLengths.{length-texts, start_bytes-room, padded}
use Rattle.rv_memory.proofs.stack.stack_bytes.Goals as goal

pub overflow_sub-address : goal.overflow_sub-address
overflow_sub-address c = grind (arith, common_steps, length-texts)

pub stack_pointer-pointer-requires-clause-room : goal.stack_pointer-pointer-requires-clause-room
stack_pointer-pointer-requires-clause-room c = grind (arith, common_steps, length-texts)

pub returns : goal.returns
returns c =
    let file = c.args.elf.now.file.now in
    let args : List (List ℕ) = map string_bytes c.args.args.now in
    let ends : c.deref-ends.result.now ≡ texts args = c.deref-ends.ensures.value ∙ c.in_ok-ends.ensures in
    let address : random_address - length c.deref-ends.result.now ≡ texts_address args =
    ap (λ (bytes : List ℕ). random_address - length bytes) ends in
    let count : length c.args.args.now + 1 ≡ length (program_arguments args) =
    omega (arith, length-map c.args.args.now string_bytes) in
    let pointer : c.stack_pointer-pointer.result ≡ stack_pointer args =
    c.stack_pointer-pointer.ensures
    ∙ ap (λ (a : ℕ). rounded_down 16 (a - 8 * (length c.args.args.now + 1 + 17))) address
    ∙ ap (λ (n : ℕ). rounded_down 16 (texts_address args - 8 * (n + 17))) count in
    let size : random_address - length c.deref-ends.result.now - c.stack_pointer-pointer.result
    ≡ texts_address args - stack_pointer args =
    ap (λ (a : ℕ). a - c.stack_pointer-pointer.result) address ∙ ap (λ (p : ℕ). texts_address args - p) pointer in
    let n = texts_address args - stack_pointer args in
    let resized : c.resize.new.self.items ≡ start_bytes file args ++ replicate (n - length (start_bytes file args)) 0 =
    c.in_ok-resize.ensures.items
    ∙ ap (λ k. take k c.in_ok-out.out.items ++ replicate (k - c.in_ok-out.out.len) 0) size
    ∙ padded c.in_ok-out.out.items (start_bytes file args) n c.in_ok-out.out.len
    (n - length (start_bytes file args)) c.in_ok-out.ensures (search rules)
    (start_bytes-room file args c.requires.limits) refl in
    c.in_ok-extend_from_slice-2.ensures.items
    ∙ ap (λ bytes. bytes ++ random_bytes)
    (c.in_ok-extend_from_slice.ensures.items ∙ ap (λ bytes. bytes ++ c.deref-ends.result.now) resized
    ∙ ap (λ bytes. (start_bytes file args ++ replicate (n - length (start_bytes file args)) 0) ++ bytes) ends)

pub stack_pointer-pointer-requires-clause-count : goal.stack_pointer-pointer-requires-clause-count
stack_pointer-pointer-requires-clause-count c = grind (arith, common_steps)
