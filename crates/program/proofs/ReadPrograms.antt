-- The result of reading a file is a program, or a reason why it isn't read.
use Rattle.std.proofs.Common.{◌≡◌, refl, subst, ℕ, ◌≤◌, List, length}
use Rattle.rb_bytes.specs.FirstFault.{IsAnswered, IsFree, IsRefusalBy}
use Rattle.rb_bytes.specs.declared.fault.Refusal.{Refusal}
use Rattle.rb_bytes.specs.declared.fault.Refusal.TheVariants as refusal
use Rattle.rv_code.specs.declared.placed.Block.{Block}
use Rattle.rv_code.specs.declared.placed.Func.{Func}
use Rattle.rv_code.specs.layout.Blocks.{AreBlocks}
use Rattle.elf_image.specs.declared.elf.Elf.{Elf}
use Rattle.elf_image.specs.faults.FileFaults.{IsSound}
use Rattle.elf_image.specs.file.ParsedFile.{IsElfOf}
use Rattle.elf_code.specs.CodeFaults.{HasCodeFault}
use Rattle.elf_code.specs.FileCode.{IsCodeOf}
use Rattle.elf_code.specs.FunctionFaults.{HasFunctionFault}
use Rattle.elf_code.specs.Functions.{AreFunctions}
use Rattle.elf_code.specs.ReferenceFaults.{HasReferenceFault}
use Rattle.rv_reloc.specs.Refs.{AreRefs}
use Rattle.rv_reloc.specs.declared.refs.Refs.{Refs}
use Rattle.cfg_build.specs.NamedAddresses.{code_of}
use Rattle.program.specs.Limits.{file_limit}
use Rattle.cfi_rows.specs.Frames.{tabled}
use Rattle.program.specs.Program.{IsPlain, IsProgramOf, program_of}
use Rattle.program.specs.Refusals.{IsRefusalFor, IsUnreadable, bad_code}
use Rattle.program.proofs.CodeFaultOrder.{free_of_both, refused_function, refused_reference}

module _ (file : List ℕ) (elf : Elf) (read : IsElfOf file elf) (fits : length file ≤ file_limit) (sound : IsSound file) where
  is_plain : IsPlain file
  is_plain = record { fits = fits; sound = sound }

  -- `whole` are the tabled ranges, as a slice
  module _ (whole : List (ℕ × ℕ)) (whole_is : whole ≡ tabled elf) where
    code_refused : (r : Refusal) → IsRefusalBy (HasCodeFault elf whole) r → IsRefusalFor (IsUnreadable file) r
    code_refused (refusal.Fault fault) has =
        bad_code is_plain elf read (subst (λ (ranges : List (ℕ × ℕ)). IsAnswered (HasCodeFault elf ranges) fault) whole_is has)
    code_refused refusal.Memory has = tt

    pub references_refused : (r : Refusal) → IsRefusalBy (HasReferenceFault elf whole) r →
        IsRefusalFor (IsUnreadable file) r
    references_refused r has = code_refused r (refused_reference elf whole r has)

    module _ (references_free : IsFree (HasReferenceFault elf whole)) where
      pub functions_refused : (r : Refusal) → IsRefusalBy (HasFunctionFault elf whole) r →
          IsRefusalFor (IsUnreadable file) r
      functions_refused r has = code_refused r (refused_function elf whole r references_free has)

      -- `given` are the functions that were read, as a slice
      pub program_read : (funcs given : List Func) (refs : Refs) (blocks : List Block) → given ≡ funcs →
          AreRefs elf whole refs → AreFunctions elf whole funcs → IsFree (HasFunctionFault elf whole) →
          AreBlocks (code_of given refs elf.entry) blocks → IsProgramOf file (program_of elf funcs refs blocks)
      program_read funcs given refs blocks same are_refs are functions_free are_blocks = record {
        faultless = record {
          plain = is_plain;
          read = read;
          no_fault = subst (λ (ranges : List (ℕ × ℕ)). IsFree (HasCodeFault elf ranges)) whole_is
              (free_of_both elf whole references_free functions_free);
        };
        code_is = subst (λ (ranges : List (ℕ × ℕ)). IsCodeOf elf ranges (code_of funcs refs elf.entry)) whole_is
            (record { funcs = are; roles = are_refs.roles; cells = are_refs.cells; entry = refl });
        blocks_are = subst (λ (fs : List Func). AreBlocks (code_of fs refs elf.entry) blocks) same are_blocks;
      }
