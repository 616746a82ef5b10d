-- The bytes of the stack before the first step: numbers, the auxiliary vector, texts.
use Rattle.std.proofs.Common.{◌≡◌, ℕ, zero, suc, ◌+◌, ◌-◌, ◌*◌, ◌/◌, ◌%◌, ◌^◌, ◌<◌, ◌≤◌, List, [], ◌∷◌, ◌++◌, length, refl, sym}
use Rattle.std.proofs.Common.{ap, ◌∙◌, arith, inl, inr, get_or, append_assoc}
use Rattle.std.specs.Prelude.{replicate, flat_map}
use Rattle.std.proofs.lemmas.Bool.{cases_lt}
use Rattle.std.proofs.lemmas.List.{get_or_append_left, get_or-append_right, length-append}
use Rattle.std.proofs.lemmas.Grind.{common_steps}
use Rattle.rv_code.specs.machine.Machine.{low_bytes}
use Rattle.elf_image.specs.declared.segment.TheConstants.{PHDR_SIZE}
use Rattle.elf_image.specs.file.Header.{e_entry, e_phnum}
use Rattle.rv_memory.specs.Start.{stack_bytes, stack_pointer, stack_end, stack_size}
use Rattle.rv_memory.specs.Start.{random_address, random_bytes, program_arguments, texts, texts_address, text_addresses}
use Rattle.rv_memory.proofs.StackLengths.{length-text_addresses}
use Rattle.elf_image.specs.memory.Break.{table_address, page_size}
use Rattle.rv_code.proofs.machine.LowBytes.{length_numbers, numbers_at}

abbrev pub count : List (List ℕ) → ℕ
count args = length (program_arguments args)

-- the numbers before the auxiliary vector
abbrev pub front : List (List ℕ) → List ℕ
front args = count args ∷ text_addresses (texts_address args) (program_arguments args)

abbrev pub back : ℕ → ℕ → ℕ → List ℕ
back t n e = 0 ∷ 0 ∷ 3 ∷ t ∷ 4 ∷ PHDR_SIZE ∷ 5 ∷ n ∷ 6 ∷ page_size ∷ 9 ∷ e ∷ 25 ∷ random_address ∷ 0 ∷ 0 ∷ []

pub front_length : (args : List (List ℕ)) → length (front args) ≡ suc (count args)
front_length args = ap suc (length-text_addresses (texts_address args) (program_arguments args))

back_same : (t n e t' n' e' k : ℕ) → (k ≡ 3 → t ≡ t') → (k ≡ 7 → n ≡ n') → (k ≡ 11 → e ≡ e') →
    get_or (back t n e) k 0 ≡ get_or (back t' n' e') k 0
back_same t n e t' n' e' zero a b c = refl
back_same t n e t' n' e' (suc zero) a b c = refl
back_same t n e t' n' e' (suc (suc zero)) a b c = refl
back_same t n e t' n' e' (suc (suc (suc zero))) a b c = a refl
back_same t n e t' n' e' (suc (suc (suc (suc zero)))) a b c = refl
back_same t n e t' n' e' (suc (suc (suc (suc (suc zero))))) a b c = refl
back_same t n e t' n' e' (suc (suc (suc (suc (suc (suc zero)))))) a b c = refl
back_same t n e t' n' e' (suc (suc (suc (suc (suc (suc (suc zero))))))) a b c = b refl
back_same t n e t' n' e' (suc (suc (suc (suc (suc (suc (suc (suc zero)))))))) a b c = refl
back_same t n e t' n' e' (suc (suc (suc (suc (suc (suc (suc (suc (suc zero))))))))) a b c = refl
back_same t n e t' n' e' (suc (suc (suc (suc (suc (suc (suc (suc (suc (suc zero)))))))))) a b c = refl
back_same t n e t' n' e' (suc (suc (suc (suc (suc (suc (suc (suc (suc (suc (suc zero))))))))))) a b c = c refl
back_same t n e t' n' e' (suc (suc (suc (suc (suc (suc (suc (suc (suc (suc (suc (suc k)))))))))))) a b c = refl

-- the bytes from the end of the numbers to the stack's end
abbrev pub past : List (List ℕ) → ℕ → List ℕ
past args n = replicate (texts_address args - stack_pointer args - n) 0 ++ texts args ++ random_bytes

abbrev pub stack_of : List (List ℕ) → ℕ → ℕ → ℕ → List ℕ
stack_of args t n e =
    flat_map (low_bytes 8) (front args ++ back t n e) ++ past args
    (length (flat_map (low_bytes 8) (front args ++ back t n e)))

length_all : (args : List (List ℕ)) (t n e : ℕ) →
    length (flat_map (low_bytes 8) (front args ++ back t n e)) ≡ 8 * (count args + 17)
length_all args t n e =
    let a = length_numbers (front args ++ back t n e) in
    let b = length-append (front args) (back t n e) in
    let c = front_length args in
    let d : length (back t n e) ≡ 16 = refl in
    omega (arith, a, b, c, d)

number_same : (args : List (List ℕ)) (t n e t' n' e' m : ℕ) → (m ≡ count args + 4 → t ≡ t') →
    (m ≡ count args + 8 → n ≡ n') → (m ≡ count args + 12 → e ≡ e') →
    get_or (front args ++ back t n e) m 0 ≡ get_or (front args ++ back t' n' e') m 0
number_same args t n e t' n' e' m a b c =
    let len = front_length args in
    elim (cases_lt m (length (front args))) [
      | inl inside ↦ get_or_append_left (front args) (back t n e) 0 m inside
          ∙ sym (get_or_append_left (front args) (back t' n' e') 0 m inside)
      | inr after ↦
          get_or-append_right (front args) (back t n e) (length (front args)) m 0 refl after
          ∙ back_same t n e t' n' e' (m - length (front args)) (λ k. a (omega (arith, k, len, after)))
          (λ k. b (omega (arith, k, len, after))) (λ k. c (omega (arith, k, len, after)))
          ∙ sym (get_or-append_right (front args) (back t' n' e') (length (front args)) m 0 refl after)
    ]

pub byte_same : (args : List (List ℕ)) (t n e t' n' e' j : ℕ) → (j / 8 ≡ count args + 4 → t ≡ t') →
    (j / 8 ≡ count args + 8 → n ≡ n') → (j / 8 ≡ count args + 12 → e ≡ e') →
    get_or (stack_of args t n e) j 0 ≡ get_or (stack_of args t' n' e') j 0
byte_same args t n e t' n' e' j a b c =
    let len = length_all args t n e in
    let len' = length_all args t' n' e' in
    elim (cases_lt j (8 * (count args + 17))) [
      | inl inside ↦
          get_or_append_left (flat_map (low_bytes 8) (front args ++ back t n e))
          (past args (length (flat_map (low_bytes 8) (front args ++ back t n e)))) 0 j (omega (arith, len, inside))
          ∙ of t n e inside
          ∙ ap (λ (w : ℕ). w / 256 ^ (j % 8) % 256) (number_same args t n e t' n' e' (j / 8) a b c)
          ∙ sym (of t' n' e' inside)
          ∙ sym (get_or_append_left (flat_map (low_bytes 8) (front args ++ back t' n' e'))
          (past args (length (flat_map (low_bytes 8) (front args ++ back t' n' e')))) 0 j (omega (arith, len', inside)))
      | inr after ↦
          get_or-append_right (flat_map (low_bytes 8) (front args ++ back t n e))
          (past args (length (flat_map (low_bytes 8) (front args ++ back t n e)))) (8 * (count args + 17)) j 0 len after
          ∙ ap (λ (l : ℕ). get_or (past args l) (j - 8 * (count args + 17)) 0) (len ∙ sym len')
          ∙ sym (get_or-append_right (flat_map (low_bytes 8) (front args ++ back t' n' e'))
          (past args (length (flat_map (low_bytes 8) (front args ++ back t' n' e')))) (8 * (count args + 17)) j 0
          len' after)
    ]
  where
    count_all : (t n e : ℕ) → length (front args ++ back t n e) ≡ count args + 17
    count_all t n e =
        let b = length-append (front args) (back t n e) in
        let c = front_length args in
        let d : length (back t n e) ≡ 16 = refl in omega (arith, b, c, d)

    of : (t n e : ℕ) → j < 8 * (count args + 17) →
        get_or (flat_map (low_bytes 8) (front args ++ back t n e)) j 0 ≡ get_or (front args ++ back t n e) (j / 8) 0
        / 256 ^ (j % 8) % 256
    of t n e inside =
        let at : j ≡ 8 * (j / 8) + j % 8 = omega arith in
        let all = count_all t n e in
        ap (λ (x : ℕ). get_or (flat_map (low_bytes 8) (front args ++ back t n e)) x 0) at
        ∙ numbers_at (front args ++ back t n e) (j / 8) (j % 8) (omega (arith, all, inside)) (omega arith)

-- the entry point on the stack
pub entry_on_stack : (args : List (List ℕ)) (t n e i : ℕ) → i < 8 →
    get_or (stack_of args t n e) (8 * (count args + 12) + i) 0 ≡ e / 256 ^ i % 256
entry_on_stack args t n e i h =
    let len = length_all args t n e in
    let f = front_length args in
    let b = length-append (front args) (back t n e) in
    let d : length (back t n e) ≡ 16 = refl in
    let at : count args + 12 - suc (count args) ≡ 11 = omega arith in
    get_or_append_left (flat_map (low_bytes 8) (front args ++ back t n e))
    (past args (length (flat_map (low_bytes 8) (front args ++ back t n e)))) 0 (8 * (count args + 12) + i)
    (omega (arith, len, h))
    ∙ numbers_at (front args ++ back t n e) (count args + 12) i (omega (arith, f, b, d)) h
    ∙ ap (λ (w : ℕ). w / 256 ^ i % 256) (get_or-append_right (front args) (back t n e) (suc (count args))
    (count args + 12) 0 f (omega arith) ∙ ap (λ (k : ℕ). get_or (back t n e) k 0) at)

pub room : (args : List (List ℕ)) → stack_end - stack_size ≤ stack_pointer args →
    (stack_pointer args + 8 * (count args + 17) ≤ stack_end) × (0 < stack_pointer args)
room args h = grind (arith, common_steps)

four_lists : (a b c d : List ℕ) → a ++ b ++ c ++ d ≡ a ++ (b ++ c ++ d)
four_lists a b c d = grind (arith, append_assoc)

pub stack_is : (file : List ℕ) (args : List (List ℕ)) →
    stack_bytes file args ≡ stack_of args (table_address file) (e_phnum file) (e_entry file)
stack_is file args = grind (arith, common_steps, four_lists)
