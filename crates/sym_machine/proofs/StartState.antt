-- The state at the start: low segments, registers, and code cells over the bytes of the file.
use Rattle.std.proofs.Common.{◌≡◌, ◌∙◌, sym, subst, refl, ℕ, zero, suc, ◌+◌, ◌-◌, ◌^◌, ◌<◌, ◌≤◌, true}
use Rattle.std.proofs.Common.{false, IsTrue, List, ◌∷◌, Option, Some, None, arith, ⊎_elim}
use Rattle.std.specs.Prelude.{Contains, replicate, if◌then◌else◌, ◌==◌, unwrap_or, option_map, slice_index_or}
use Rattle.std.proofs.lemmas.Bool.{cases_lt, eqb-true, false_from_ne_true}
use Rattle.rb_bytes.specs.declared.fault.FaultKind.TheVariants.{HighAddress}
use Rattle.elf_image.specs.declared.segment.Segment.{Segment}
use Rattle.elf_image.specs.file.Header.{segment, segments_of}
use Rattle.elf_image.specs.memory.Image.{has_memory, end_of, loads_address}
use Rattle.rv_code.specs.layout.FunctionLists.{address_end}
use Rattle.elf_image.specs.faults.FileFaults.{IsSound}
use Rattle.elf_image.proofs.LoadLemmas.{loads_last}
use Rattle.elf_image.proofs.ReadLists.{get_or-segments}
use Rattle.sym_machine.specs.declared.value.Value.TheVariants.{Num}
use Rattle.sym_machine.specs.declared.value.MemoryByte.TheVariants.{Byte}
use Rattle.sym_machine.specs.declared.other_bytes.OtherByte.{OtherByte}
use Rattle.sym_machine.specs.internal.Fields.{AreLow}
use Rattle.sym_machine.specs.internal.Memory.{as_byte, byte_over}

pub low_segments : (file : List ℕ) → IsSound file → AreLow (segments_of file)
low_segments file sound = record { each = ends }
  where
    ends : (p : Segment) → Contains (segments_of file) p → has_memory p ≡ true → end_of p ≤ 2 ^ 63
    ends p (i, within, at) has =
        let found = get_or-segments file i p within in
        let p_is : segment file i ≡ p = sym found.1 ∙ at in
        ⊎_elim
        (λ (low : end_of p < address_end + 1). omega arith)
        (λ (high : address_end + 1 ≤ end_of p).
        absurd (sound HighAddress (end_of p - 1)
        (i, found.0, (subst (λ q. IsTrue (loads_address (end_of p - 1) q)) (sym p_is) (loads_last p has), omega arith))))
        (cases_lt (end_of p) (address_end + 1))

nums : (k n : ℕ) → slice_index_or (replicate k (Num 0)) n (Num 0) ≡ Num 0
nums zero n = refl
nums (suc k) zero = refl
nums (suc k) (suc n) = nums k n

pub start_register : (p r : ℕ) →
    slice_index_or (Num 0 ∷ Num 0 ∷ Num p ∷ replicate 253 (Num 0)) r (Num 0) ≡ Num (if r == 2 then p else 0)
start_register p zero = refl
start_register p (suc zero) = refl
start_register p (suc (suc zero)) = refl
start_register p (suc (suc (suc n))) =
    let other : (suc (suc (suc n)) == 2) ≡ false = false_from_ne_true (suc (suc (suc n)) == 2)
    (λ test. let same : suc (suc (suc n)) ≡ 2 = eqb-true (suc (suc (suc n))) 2 test in omega (arith, same)) in
    rw other (nums 253 n)

pub byte_over-special : (o : Option OtherByte) (b : ℕ) → byte_over o b ≡ unwrap_or (option_map as_byte o) (Byte b)
byte_over-special None b = refl
byte_over-special (Some x) b = refl
