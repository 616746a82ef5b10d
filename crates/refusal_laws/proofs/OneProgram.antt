-- A file isn't an image, or isn't a program, for at most one fault; and for none if it is one.
use Rattle.std.proofs.Common.{◌≡◌, ◌∙◌, sym, subst, ℕ, List, inl, inr, arith}
use Rattle.rb_bytes.specs.FirstFault.{IsAnswered}
use Rattle.rb_bytes.specs.declared.fault.Fault.{Fault}
use Rattle.elf_image.specs.declared.elf.Elf.{Elf}
use Rattle.elf_image.specs.faults.FileFaults.{HasFault}
use Rattle.elf_code.specs.CodeFaults.{HasCodeFault}
use Rattle.elf_code.specs.FunctionFaults.{IsBadInstruction, IsBareAuipc}
use Rattle.elf_code.specs.Functions.{IsFunctionPart}
use Rattle.elf_code.specs.Parts.{HasValidInst, IsPart}
use Rattle.rv_code.specs.declared.inst.Inst.TheVariants.{Auipc}
use Rattle.code_starts.proofs.StartLists.{starts_inside}
use Rattle.code_starts.proofs.WholeLookup.{same_end, same_start}
use Rattle.elf_readings.proofs.Readings.{reading_law}
use Rattle.cfi_rows.specs.Frames.{tabled}
use Rattle.program.specs.Limits.{IsCodeTooLarge}
use Rattle.program.specs.Program.{Program}
use Rattle.program.specs.Refusals.{IsUnreadable, bad_code, unsound}
use Rattle.cli_base.specs.ImageFiles.{IsImageFile, IsNoImage}
use Rattle.cli_base.specs.ProgramFiles.{IsFileProgram, IsNoProgram, IsProgramFile, large_code, too_long, unreadable}
use Rattle.cli_run.proofs.SymbolRunAnswering.{by_count, not_both, readable, same_count}
use Rattle.cli_run.proofs.TabledRanges.{same_tabled}
use Rattle.refusal_laws.proofs.OneFault.{AreApart, none_answered, one_answered, one_limit}

pub file_apart : (file : List ℕ) → AreApart (HasFault file)
file_apart file place bad bare = bad

pub one_image : (file : List ℕ) (f g : Fault) → IsNoImage file f → IsNoImage file g → f ≡ g
one_image file f g (IsNoImage.too_long long is) (IsNoImage.too_long long' is') = is ∙ sym is'
one_image file f g (IsNoImage.too_long long is) (IsNoImage.unsound fits has) = absurd (omega (arith, long, fits))
one_image file f g (IsNoImage.too_long long is) (IsNoImage.much_code fits sound much is') = absurd (omega (arith, long, fits))
one_image file f g (IsNoImage.unsound fits has) (IsNoImage.too_long long is) = absurd (omega (arith, long, fits))
one_image file f g (IsNoImage.unsound fits has) (IsNoImage.unsound fits' has') =
    one_answered (HasFault file) (file_apart file) f g has has'
one_image file f g (IsNoImage.unsound fits has) (IsNoImage.much_code fits' sound much is) =
    absurd (none_answered (HasFault file) f has sound)
one_image file f g (IsNoImage.much_code fits sound much is) (IsNoImage.too_long long is') = absurd (omega (arith, long, fits))
one_image file f g (IsNoImage.much_code fits sound much is) (IsNoImage.unsound fits' has) =
    absurd (none_answered (HasFault file) g has sound)
one_image file f g (IsNoImage.much_code fits sound much is) (IsNoImage.much_code fits' sound' much' is') = is ∙ sym is'

pub no_image : (file : List ℕ) (f : Fault) → IsNoImage file f → IsImageFile file → ⊥
no_image file f (IsNoImage.too_long long is) of = let fits = of.fits in absurd (omega (arith, long, fits))
no_image file f (IsNoImage.unsound fits has) of = none_answered (HasFault file) f has of.sound
no_image file f (IsNoImage.much_code fits sound much is) of = of.code_fits much

-- A function's part contains all bytes of each of its instructions.

part_of : (elf : Elf) (tabled : List (ℕ × ℕ)) (start end : ℕ) → IsFunctionPart elf tabled start end → IsPart elf start end
part_of elf tabled start end (IsFunctionPart.code s n part some) = part.part
part_of elf tabled start end (IsFunctionPart.referred s n at nops st is) = nops.part
part_of elf tabled start end (IsFunctionPart.fallen_into s n before at inst bytes nops first v to falls) = nops.part

bad_or_bare : (elf : Elf) (tabled : List (ℕ × ℕ)) (place : ℕ) → IsBadInstruction elf tabled place →
    IsBareAuipc elf tabled place → ⊥
bad_or_bare elf tabled place bad bare =
    let here = part_of elf tabled bad.start bad.end bad.function in
    let there = part_of elf tabled bare.start bare.end bare.function in
    let in_here = starts_inside elf bad.start bad.end place bad.starts in
    let in_there = starts_inside elf bare.start bare.end place bare.auipc.has.starts.starts in
    let start = same_start elf bare.start bare.end bad.start bad.end place there here in_there.0 in_there.1 in_here.0 in_here.1 in
    let end = same_end elf bare.start bare.end bad.start bad.end place there here in_there.0 in_there.1 in_here.0 in_here.1 in
    bad.invalid (Auipc bare.rd bare.imm) 4
    (subst (λ (n : ℕ). HasValidInst elf bad.start n place (Auipc bare.rd bare.imm) 4) end
    (subst (λ (s : ℕ). HasValidInst elf s bare.end place (Auipc bare.rd bare.imm) 4) start bare.auipc))

code_apart : (elf : Elf) (tabled : List (ℕ × ℕ)) → AreApart (HasCodeFault elf tabled)
code_apart elf tabled place (inl none) bare = none
code_apart elf tabled place (inr bad) (inl none) = none
code_apart elf tabled place (inr bad) (inr bare) = bad_or_bare elf tabled place bad bare

pub one_unreadable : (file : List ℕ) (f g : Fault) → IsUnreadable file f → IsUnreadable file g → f ≡ g
one_unreadable file f g (unsound has) (unsound has') = one_answered (HasFault file) (file_apart file) f g has has'
one_unreadable file f g (unsound has) (bad_code plain elf read has') =
    absurd (none_answered (HasFault file) f has plain.sound)
one_unreadable file f g (bad_code plain elf read has) (unsound has') =
    absurd (none_answered (HasFault file) g has' plain.sound)
one_unreadable file f g (bad_code plain elf read has) (bad_code plain' elf' read' has') =
    let moved = ((reading_law file elf' elf read' read (tabled elf')).0.answers g).0 has' in
    one_answered (HasCodeFault elf (tabled elf)) (code_apart elf (tabled elf)) f g has
    (subst (λ (ranges : List (ℕ × ℕ)). IsAnswered (HasCodeFault elf ranges) g) (same_tabled file elf' elf read' read) moved)

pub one_program : (file : List ℕ) (f g : Fault) → IsNoProgram file f → IsNoProgram file g → f ≡ g
one_program file f g (too_long long is) (too_long long' is') = is ∙ sym is'
one_program file f g (too_long long is) (unreadable fits has) = absurd (omega (arith, long, fits))
one_program file f g (too_long long is) (large_code elf faultless funcs are limit) =
    let fits = faultless.plain.fits in absurd (omega (arith, long, fits))
one_program file f g (unreadable fits has) (too_long long is) = absurd (omega (arith, long, fits))
one_program file f g (unreadable fits has) (unreadable fits' has') = one_unreadable file f g has has'
one_program file f g (unreadable fits has) (large_code elf faultless funcs are limit) = absurd (readable file f has elf faultless)
one_program file f g (large_code elf faultless funcs are limit) (too_long long is) =
    let fits = faultless.plain.fits in absurd (omega (arith, long, fits))
one_program file f g (large_code elf faultless funcs are limit) (unreadable fits has) = absurd (readable file g has elf faultless)
one_program file f g (large_code elf faultless funcs are limit) (large_code elf' faultless' funcs' are' limit') =
    let same = same_count file elf elf' faultless.read faultless'.read funcs funcs' are are' in
    one_limit (IsCodeTooLarge file funcs) (IsCodeTooLarge file funcs') (by_count file funcs funcs' same)
    (by_count file funcs' funcs (sym same)) f g limit limit'

pub no_program : (file : List ℕ) (f : Fault) → IsNoProgram file f → (x : Program) → IsFileProgram file x → ⊥
no_program file f is x of =
    let program : IsProgramFile file = record {
      elf = x.elf;
      faultless = of.program.faultless;
      funcs = x.code.funcs;
      funcs_are = of.program.code_is.funcs;
      within = of.within;
    } in
    not_both file f is program
