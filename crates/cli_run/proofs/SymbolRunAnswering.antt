-- The symbol machine as a mode of `run`.
use Rattle.std.proofs.Common.{◌≡◌, refl, subst, sym, ℕ, List, length, arith}
use Rattle.rb_bytes.specs.declared.fault.Fault.{Fault}
use Rattle.rv_code.specs.declared.placed.Func.{Func}
use Rattle.elf_image.specs.declared.elf.Elf.{Elf}
use Rattle.elf_image.specs.file.ParsedFile.{IsElfOf}
use Rattle.rb_bytes.specs.FirstFault.{IsFree}
use Rattle.elf_code.specs.CodeFaults.{HasCodeFault}
use Rattle.elf_code.specs.Functions.{AreFunctions}
use Rattle.elf_readings.proofs.Readings.{reading_law}
use Rattle.cfi_rows.specs.Frames.{tabled}
use Rattle.program.specs.Limits.{IsCodeTooLarge, many_functions, much_code}
use Rattle.program.specs.Program.{IsFaultless, Program}
use Rattle.program.specs.Refusals.{IsUnreadable, bad_code, unsound}
use Rattle.cli_base.specs.ProgramFiles.{IsFileProgram, IsProgramFile, IsNoProgram, large_code, too_long}
use Rattle.cli_run.specs.run.SymbolRuns.{symbol_mode}
use Rattle.cli_base.specs.ProgramFiles.{unreadable}
use Rattle.cli_run.proofs.RunAnswering.{IsLawful}
use Rattle.cli_run.proofs.TabledRanges.{same_tabled}

-- the limits only depend on the number of functions
pub by_count : (file : List ℕ) (funcs funcs' : List Func) → length funcs ≡ length funcs' → (place : ℕ) →
    IsCodeTooLarge file funcs place → IsCodeTooLarge file funcs' place
by_count file funcs funcs' same place (much_code e much) = much_code e much
by_count file funcs funcs' same place (many_functions e many) = many_functions e (omega (arith, same, many))

-- a file without a fault is read
pub readable : (file : List ℕ) (fault : Fault) → IsUnreadable file fault → (elf : Elf) → IsFaultless file elf → ⊥
readable file fault (unsound present) elf faultless = faultless.plain.sound fault.kind fault.place present.present
readable file fault (bad_code plain other is has) elf faultless =
    let one = reading_law file other elf is faultless.read (tabled other) in
    let free = subst (λ (ranges : List (ℕ × ℕ)). IsFree (HasCodeFault elf ranges))
    (sym (same_tabled file other elf is faultless.read)) faultless.no_fault in
    one.0.free.1 free fault.kind fault.place has.present

-- the number of functions is the same for each reading of the file
pub same_count : (file : List ℕ) (elf elf' : Elf) → IsElfOf file elf → IsElfOf file elf' → (funcs funcs' : List Func) →
    AreFunctions elf (tabled elf) funcs → AreFunctions elf' (tabled elf') funcs' → length funcs ≡ length funcs'
same_count file elf elf' read read' funcs funcs' are are' =
    let moved = subst (λ (ranges : List (ℕ × ℕ)). AreFunctions elf' ranges funcs') (sym (same_tabled file elf elf' read read')) are' in
    (reading_law file elf elf' read read' (tabled elf)).1.function_count funcs funcs' are moved

-- a file that can't be run isn't one that can
pub not_both : (file : List ℕ) (fault : Fault) → IsNoProgram file fault → IsProgramFile file → ⊥
not_both file fault (too_long long e) can = let fits = can.faultless.plain.fits in absurd (omega arith)
not_both file fault (unreadable fits is) can = readable file fault is can.elf can.faultless
not_both file fault (large_code elf faultless funcs are limit) can =
    can.within limit.place
    (by_count file funcs can.funcs (same_count file elf can.elf faultless.read can.faultless.read funcs can.funcs are can.funcs_are)
    limit.place limit.first.present)

pub lawful : IsLawful symbol_mode
lawful = record {
  long_cannot = λ file long. too_long long refl;
  not_both = not_both;
  halts = λ program args pc why. tt;
}

-- reading keeps the bytes of the file
pub own_file : (file : List ℕ) (program : Program) → IsFileProgram file program →
    IsFileProgram program.elf.file.now program
own_file file program is = subst (λ f. IsFileProgram f program) (sym is.program.faultless.read.file_is) is
