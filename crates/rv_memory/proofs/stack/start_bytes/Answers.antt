use Rattle.std.proofs.Common.{◌≡◌, ◌∙◌, ◌+◌, ◌%◌, ◌^◌, ℕ, List, [], ◌∷◌, ◌++◌, ap, arith, length}
use Rattle.std.proofs.lemmas.List.{length-map}
use Rattle.std.specs.Prelude.{map, flat_map, string_bytes}
use Rattle.std.proofs.lemmas.Grind.{common_steps}
use Rattle.rv_code.specs.machine.Machine.{low_bytes}
use Rattle.elf_image.specs.file.Header.{e_phnum}
use Rattle.elf_image.specs.memory.Break.{table_address}
use Rattle.rv_memory.specs.Start.{program_arguments, texts_address, text_addresses}
use Rattle.rv_memory.specs.Vector.{vector}
use Rattle.rv_memory.proofs.StackLengths.{length-texts, start_bytes-is}
use Rattle.elf_image.proofs.ReadLists.{length-segments_of}
use Rattle.rv_memory.proofs.stack.start_bytes.Goals as goal

pub put_addresses-requires : goal.put_addresses-requires
put_addresses-requires c = grind (arith, common_steps, length-texts)

pub returns : goal.returns
returns c =
    let file = c.args.elf.now.file.now in
    let args : List (List ℕ) = map string_bytes c.args.args.now in
    let all : ℕ → ℕ → ℕ → ℕ → ℕ → List ℕ = λ count address table headers entry.
    ((low_bytes 8 count ++ flat_map (low_bytes 8) (text_addresses address (program_arguments args)))
    ++ flat_map (low_bytes 8) (0 ∷ 0 ∷ [])) ++ flat_map (low_bytes 8) (vector table headers entry) in
    let count : length c.args.args.now + 1 ≡ length (program_arguments args) =
    omega (arith, length-map c.args.args.now string_bytes) in
    let headers : length c.deref-segments.result.now ≡ e_phnum file =
    ap length (c.deref-segments.ensures.value ∙ c.requires.segments)
    ∙ length-segments_of file in
    let first : c.put_number.new.out.items ≡ low_bytes 8 (length c.args.args.now + 1) = c.in_ok-put_number.ensures
    ∙ ap (λ bytes. bytes ++ low_bytes 8 (length c.args.args.now + 1)) c.new-out.ensures.items in
    let second = c.in_ok-put_addresses.ensures
    ∙ ap (λ bytes. bytes ++ flat_map (low_bytes 8) (text_addresses c.args.address (program_arguments args))) first in
    let third = c.in_ok-put_numbers.ensures ∙ ap (λ bytes. bytes ++ flat_map (low_bytes 8) (0 ∷ 0 ∷ [])) second in
    let fourth : c.put_vector.new.out.items
    ≡ all (length c.args.args.now + 1) c.args.address c.table_address.result
    (length c.deref-segments.result.now) c.args.elf.now.entry =
    c.in_ok-put_vector.ensures
    ∙ ap (λ bytes. bytes
    ++ flat_map (low_bytes 8) (vector c.table_address.result (length c.deref-segments.result.now) c.args.elf.now.entry)) third in
    fourth
    ∙ ap (λ n. all n c.args.address c.table_address.result (length c.deref-segments.result.now) c.args.elf.now.entry) count
    ∙ ap (λ a. all (length (program_arguments args)) a c.table_address.result
    (length c.deref-segments.result.now) c.args.elf.now.entry) c.requires.address
    ∙ ap (λ t. all (length (program_arguments args)) (texts_address args) t
    (length c.deref-segments.result.now) c.args.elf.now.entry) c.table_address.ensures
    ∙ ap (λ n. all (length (program_arguments args)) (texts_address args)
    (table_address file % 2 ^ 64) n c.args.elf.now.entry) headers
    ∙ ap
    (all (length (program_arguments args)) (texts_address args) (table_address file % 2 ^ 64) (e_phnum file)) c.requires.entry
    ∙ start_bytes-is file args
