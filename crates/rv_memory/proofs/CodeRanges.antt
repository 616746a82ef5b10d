-- The code that a program can't write, from the segment with the entry point.
use Rattle.std.proofs.Common.{◌≡◌, ◌∙◌, ◌⊎◌, ap, ℕ, ◌+◌, ◌-◌, ◌<◌, ◌≤◌, Bool, false, IsTrue, Some, arith}
use Rattle.std.specs.Prelude.{unwrap_or, slice_index}
use Rattle.std.specs.Option.{option_map_or}
use Rattle.std.proofs.lemmas.Bool.{and_parts, leb-true, ltb-true, lt-ltb, false_from_ne_true}
use Rattle.elf_image.specs.declared.segment.Segment.{Segment}
use Rattle.elf_image.specs.declared.segment.TheConstants.{PF_W}
use Rattle.elf_image.specs.declared.elf.Elf.{Elf}
use Rattle.elf_image.specs.memory.Image.{loads_address, segment_of, image_byte, has_flag, is_loaded_with}
use Rattle.rv_memory.specs.Start.{stack_end, stack_size}
use Rattle.elf_image.proofs.LoadLemmas.{loads-parts, loads-from_parts, same_segment}
use Rattle.rv_memory.specs.CodeRange.{is_ever_writable}
use Rattle.std.proofs.lemmas.Grind.{common_steps}

-- An address of a segment whose byte comes from the file.
module _ (elf : Elf) (entry : ℕ) (p : Segment) (found : segment_of elf.segments.items entry ≡ Some p)
    (loads : IsTrue (loads_address entry p)) (q : ℕ) (low : p.vaddr ≤ q) (inside : q < p.vaddr + p.filesz)
    (loaded : q < p.vaddr + p.memsz) where
  there : segment_of elf.segments.items q ≡ Some p
  there = same_segment elf entry q p found (loads-from_parts q p (loads-parts entry p loads).0 low loaded)

  pub flag_there : (flag : ℕ) (b : Bool) → has_flag flag p ≡ b → is_loaded_with flag elf.segments.items q ≡ b
  flag_there flag b is = ap (λ r. option_map_or (has_flag flag) r false) there ∙ is

  pub byte_there : unwrap_or (image_byte elf.file.now elf.segments.items q) 0
      ≡ slice_index elf.file.now (p.offset + (q - p.vaddr))
  byte_there = grind (arith, common_steps, there, lt-ltb)

  pub never_written : (from to : ℕ) → has_flag PF_W p ≡ false → q < stack_end - stack_size → (to ≤ q) ⊎ (q < from) →
      is_ever_writable elf.segments.items from to q ≡ false
  never_written from to read_only below apart = grind (arith, common_steps, false_from_ne_true, and_parts, leb-true, ltb-true, flag_there)
