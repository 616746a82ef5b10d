-- The segments of a file without faults are below the end of loadable addresses.
use Rattle.std.proofs.Common.{◌≡◌, ◌∙◌, sym, subst, ap, ℕ, ◌<◌, ◌≤◌, ⊎_elim, false, true, IsTrue, IsSome, List, Option, Some, None}
use Rattle.std.specs.Option.{option_map}
use Rattle.std.proofs.lemmas.Bool.{cases_lt}
use Rattle.rb_bytes.specs.declared.fault.FaultKind.TheVariants.{HighAddress}
use Rattle.elf_image.specs.declared.elf.Elf.{Elf}
use Rattle.elf_image.specs.declared.segment.Segment.{Segment}
use Rattle.elf_image.specs.file.Header.{segment, segments_of}
use Rattle.elf_image.specs.memory.Image.{loads_address, segment_of, byte_of}
use Rattle.elf_image.specs.faults.FileFaults.{IsSound}
use Rattle.rv_code.specs.layout.FunctionLists.{address_end}
use Rattle.rb_bytes.proofs.Searches.{find-found}
use Rattle.elf_image.proofs.ReadLists.{get_or-segments}
use Rattle.code_starts.specs.LoadedMemory.{IsLow}
use Rattle.rv_reloc.specs.Refs.{IsRead}

-- No segment of a sound file loads a high address.
segment_low : (file : List ℕ) (a : ℕ) (p : Segment) → IsSound file → segment_of (segments_of file) a ≡ Some p → a < address_end
segment_low file a p sound e =
    let found = find-found (loads_address a) (segments_of file) p e in
    let at = get_or-segments file (found.1).0 p (found.1).1 in
    let p_is : segment file (found.1).0 ≡ p = sym at.1 ∙ (found.1).2 in
    ⊎_elim
    (λ (low : a < address_end). low)
    (λ (high : address_end ≤ a).
    let loads = subst (λ q. IsTrue (loads_address a q)) (sym p_is) found.0 in
    absurd (sound HighAddress a ((found.1).0, at.0, (loads, high))))
    (cases_lt a address_end)

by_segment : (file read : List ℕ) (a : ℕ) (o : Option Segment) → IsSound file → segment_of (segments_of file) a ≡ o →
    IsSome (option_map (byte_of read a) o) → a < address_end
by_segment file read a None sound e some = let wrong : false ≡ true = some in absurd (cc)
by_segment file read a (Some p) sound e some = segment_low file a p sound e

pub IsLow-read : (elf : Elf) → IsRead elf → IsLow elf
IsLow-read elf is = record {
  below = λ a some. by_segment is.file elf.file.now a (segment_of elf.segments.items a) is.sound
      (ap (λ (l : List Segment). segment_of l a) (sym is.fields.segments)) some;
}
