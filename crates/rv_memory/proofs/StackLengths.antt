-- The lengths of the parts of an initial stack, and the low bytes of its numbers.
use Rattle.std.proofs.Common.{◌≡◌, ◌+◌, ◌-◌, ◌*◌, ◌/◌, ◌%◌, ◌^◌, ◌≤◌, ℕ, zero, suc, List, [], ◌∷◌, ◌++◌, refl, ap}
use Rattle.std.proofs.Common.{arith, length, take, take_all, length-append, append_assoc}
use Rattle.std.proofs.lemmas.List.{length-replicate}
use Rattle.std.proofs.lemmas.List.Sums.{sum_by-cons}
use Rattle.std.proofs.Math.Nat.{one-le-pow, pow-suc}
use Rattle.std.proofs.Math.Arith.{mod-mul}
use Rattle.std.proofs.lemmas.Nat.{mod-mul-add, div-mul-add}
use Rattle.std.proofs.lemmas.Grind.{flat_map-append}
use Rattle.std.specs.Prelude.{flat_map, sum_by, replicate}
use Rattle.rv_code.specs.machine.Machine.{low_bytes}
use Rattle.rv_code.proofs.machine.LowBytes.{length_numbers}
use Rattle.elf_image.specs.file.Header.{e_entry, e_phnum}
use Rattle.elf_image.specs.memory.Break.{rounded_down, table_address}
use Rattle.rv_memory.specs.Start.{random_address, random_bytes, stack_end, stack_size, stack_pointer, stack_bytes}
use Rattle.rv_memory.specs.Start.{program_arguments, texts, texts_address, text_addresses, auxiliary_vector, start_bytes}
use Rattle.rv_memory.specs.Vector.{vector}
use Rattle.rv_memory.specs.Limits.{IsWithinLimits}
use Rattle.std.proofs.lemmas.Grind.{common_steps}

pub low_bytes-mod : (k x : ℕ) → low_bytes k (x % 256 ^ k) ≡ low_bytes k x
unfolding low_bytes
low_bytes-mod zero x = refl
low_bytes-mod (suc k) x = grind (arith, common_steps, one-le-pow, pow-suc, mod-mul, mod-mul-add, div-mul-add, low_bytes-mod k (x / 256))

pub low_bytes-number : (x : ℕ) → low_bytes 8 (x % 2 ^ 64) ≡ low_bytes 8 x
low_bytes-number x = low_bytes-mod 8 x

-- The numbers at the stack pointer, part by part.
pub start_bytes-is : (file : List ℕ) (args : List (List ℕ)) →
    ((low_bytes 8 (length (program_arguments args))
    ++ flat_map (low_bytes 8) (text_addresses (texts_address args) (program_arguments args)))
    ++ flat_map (low_bytes 8) (0 ∷ 0 ∷ []))
    ++ flat_map (low_bytes 8) (vector (table_address file % 2 ^ 64) (e_phnum file) (e_entry file))
    ≡ start_bytes file args
start_bytes-is file args = grind (arith, common_steps, low_bytes-number, append_assoc, flat_map-append)

pub length-text_addresses : (a : ℕ) (ts : List (List ℕ)) → length (text_addresses a ts) ≡ length ts
length-text_addresses a [] = refl
length-text_addresses a (t ∷ ts) = ap suc (length-text_addresses (a + length t + 1) ts)

length-ended : (args : List (List ℕ)) →
    length (flat_map (λ text. text ++ 0 ∷ []) args) ≡ sum_by (λ arg. length arg) args + length args
length-ended [] = refl
length-ended (w ∷ args) =
    let rest : length (flat_map (λ text. text ++ 0 ∷ []) args) ≡ sum_by (λ arg. length arg) args + length args =
    length-ended args in
    let both : length ((w ++ 0 ∷ []) ++ flat_map (λ text. text ++ 0 ∷ []) args)
    ≡ length (w ++ 0 ∷ []) + length (flat_map (λ text. text ++ 0 ∷ []) args) =
    length-append (w ++ 0 ∷ []) (flat_map (λ text. text ++ 0 ∷ []) args) in
    let one : length (w ++ 0 ∷ []) ≡ length w + 1 = length-append w (0 ∷ []) in
    let lengths : sum_by (λ arg. length arg) (w ∷ args) ≡ length w + sum_by (λ arg. length arg) args =
    sum_by-cons (λ arg. length arg) w args in
    let whole : length (flat_map (λ text. text ++ 0 ∷ []) (w ∷ args))
    ≡ length ((w ++ 0 ∷ []) ++ flat_map (λ text. text ++ 0 ∷ []) args) = refl in
    let count : length (w ∷ args) ≡ length args + 1 = omega arith in
    omega (arith, rest, both, one, lengths, whole, count)

pub length-texts : (args : List (List ℕ)) → IsWithinLimits args → length (texts args) ≤ 65608
length-texts args limits = grind (arith, common_steps, length-ended, length-append)

pub length-start_bytes : (file : List ℕ) (args : List (List ℕ)) →
    length (start_bytes file args) ≡ 8 * (length (program_arguments args) + 17)
length-start_bytes file args =
    let addresses = text_addresses (texts_address args) (program_arguments args) in
    let bytes : length (start_bytes file args)
    ≡ 8 * length ((length (program_arguments args) ∷ addresses) ++ (0 ∷ 0 ∷ auxiliary_vector file)) =
    length_numbers ((length (program_arguments args) ∷ addresses) ++ (0 ∷ 0 ∷ auxiliary_vector file)) in
    let parts : length ((length (program_arguments args) ∷ addresses) ++ (0 ∷ 0 ∷ auxiliary_vector file))
    ≡ suc (length addresses) + 16 =
    length-append (length (program_arguments args) ∷ addresses) (0 ∷ 0 ∷ auxiliary_vector file) in
    let count : length addresses ≡ length (program_arguments args) =
    length-text_addresses (texts_address args) (program_arguments args) in
    omega (arith, bytes, parts, count)

-- The stack's bytes end at the end of the stack.
pub stack_bytes-end : (file : List ℕ) (args : List (List ℕ)) → IsWithinLimits args →
    stack_pointer args + length (stack_bytes file args) ≡ stack_end
stack_bytes-end file args limits =
    let pad = texts_address args - stack_pointer args - length (start_bytes file args) in
    let zeros : List ℕ = replicate pad 0 in
    let short : length (texts args) ≤ 65608 = length-texts args limits in
    let few : length (program_arguments args) ≤ 65 = omega (arith, limits.few) in
    let started : length (start_bytes file args) ≡ 8 * (length (program_arguments args) + 17) = length-start_bytes file args in
    let one : length (stack_bytes file args) ≡ length ((start_bytes file args ++ zeros) ++ texts args) + length random_bytes =
    length-append ((start_bytes file args ++ zeros) ++ texts args) random_bytes in
    let two : length ((start_bytes file args ++ zeros) ++ texts args)
    ≡ length (start_bytes file args ++ zeros) + length (texts args) =
    length-append (start_bytes file args ++ zeros) (texts args) in
    let three : length (start_bytes file args ++ zeros) ≡ length (start_bytes file args) + length (zeros) =
    length-append (start_bytes file args) (zeros) in
    let four : length (zeros) ≡ pad = length-replicate pad 0 in
    whole (length (texts args)) (length (program_arguments args)) (length (start_bytes file args))
    (length (stack_bytes file args)) short few started (omega (arith, one, two, three, four))
  where
    whole : (t n s all : ℕ) → t ≤ 65608 → n ≤ 65 → s ≡ 8 * (n + 17) →
        all ≡ s + (random_address - t - rounded_down 16 (random_address - t - 8 * (n + 17)) - s) + t + 16 →
        rounded_down 16 (random_address - t - 8 * (n + 17)) + all ≡ stack_end
    whole t n s all short few started is = omega (arith, short, few, started, is)

-- The numbers at the stack pointer end at or below the arguments' texts.
pub start_bytes-room : (file : List ℕ) (args : List (List ℕ)) → IsWithinLimits args →
    length (start_bytes file args) ≤ texts_address args - stack_pointer args
start_bytes-room file args limits = grind (arith, common_steps, length-texts, length-start_bytes)

-- Bytes that are padded with zeros to a length.
pub padded : (out start : List ℕ) (n len m : ℕ) → out ≡ start → len ≡ length out → length start ≤ n →
    m ≡ n - length start → take n out
    ++ replicate (n - len) 0 ≡ start ++ replicate m 0
padded out start n len m same is fits size = grind (arith, common_steps, take_all)

-- The stack has room for its bytes.
pub stack_pointer-within : (args : List (List ℕ)) → IsWithinLimits args → stack_end - stack_size ≤ stack_pointer args
stack_pointer-within args limits = grind (arith, common_steps, length-texts)
