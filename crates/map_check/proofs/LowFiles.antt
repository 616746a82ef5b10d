-- Files that are loaded at low addresses.
use Rattle.std.proofs.Common.{◌≡◌, ◌<◌, ◌≤◌, ◌+◌, ◌-◌, ◌^◌, ◌∙◌, ℕ, true, false, refl, ap, sym, arith, Option, Some, None}
use Rattle.std.proofs.Common.{IsTrue, ⊎_elim, option_map}
use Rattle.std.specs.Prelude.{Contains, is_some}
use Rattle.std.specs.Option.{option_map_or}
use Rattle.std.proofs.lemmas.Bool.{cases_lt}
use Rattle.rb_bytes.proofs.Searches.{find-finds}
use Rattle.elf_image.specs.declared.elf.Elf.{Elf}
use Rattle.elf_image.specs.declared.segment.Segment.{Segment}
use Rattle.elf_image.specs.declared.segment.TheConstants.{PF_X}
use Rattle.elf_image.specs.memory.Image.{byte_of, end_of, has_flag, loads_address, segment_of}
use Rattle.elf_image.specs.memory.LoadedBytes.{byte_at}
use Rattle.elf_image.specs.memory.Executables.{AreCodeBytes, IsCodeByte, executable_read}
use Rattle.elf_image.proofs.LoadLemmas.{loads_last}
use Rattle.code_starts.specs.LoadedMemory.{IsLow}
use Rattle.sym_machine.specs.internal.Fields.{AreLow}

pub no_segment : (elf : Elf) (a : ℕ) → IsLow elf → 2 ^ 63 ≤ a → segment_of elf.segments.items a ≡ None
no_segment elf a low high = by (segment_of elf.segments.items a) refl
  where
    by : (o : Option Segment) → segment_of elf.segments.items a ≡ o → o ≡ None
    by None is = refl
    by (Some p) is =
        let below = low.below a (ap (λ (o : Option Segment). is_some (option_map (byte_of elf.file.now a) o)) is) in
        absurd (omega (arith, below, high))

-- an address that a segment loads is low
pub loaded_low : (elf : Elf) (a : ℕ) (p : Segment) → IsLow elf → Contains elf.segments.items p → IsTrue (loads_address a p) →
    a < 2 ^ 63
loaded_low elf a p low here loads = ⊎_elim
    (λ (below : a < 2 ^ 63). below)
    (λ (high : 2 ^ 63 ≤ a).
    let found = find-finds (loads_address a) elf.segments.items p here loads in
    let never : None ≡ Some found.0 = sym (no_segment elf a low high) ∙ found.1 in absurd (cc))
    (cases_lt a (2 ^ 63))

-- each segment with memory has a low end
pub ends_low : (elf : Elf) → IsLow elf → AreLow elf.segments.items
ends_low elf low = record {
  each = λ p here memory.
      let last : end_of p - 1 < 2 ^ 63 = loaded_low elf (end_of p - 1) p low here (loads_last p memory) in
      omega (arith, last);
}

pub no_byte : (elf : Elf) (a : ℕ) → IsLow elf → 2 ^ 63 ≤ a → byte_at elf a ≡ None
no_byte elf a low high = ap (option_map (byte_of elf.file.now a)) (no_segment elf a low high)

no_code : (elf : Elf) (a : ℕ) → IsLow elf → 2 ^ 63 ≤ a → IsCodeByte (executable_read elf) a → ⊥
no_code elf a low high is =
    let never : false ≡ true = sym (ap (λ o. option_map_or (has_flag PF_X) o false) (no_segment elf a low high)) ∙ is.0 in cc

pub code_cut : (elf : Elf) (start len i : ℕ) → IsLow elf → i < len → 2 ^ 64 ≤ start + i →
    AreCodeBytes (executable_read elf) start len → ⊥
code_cut elf start len i low within high code = no_code elf (start + i) low (omega arith) (code i within)
