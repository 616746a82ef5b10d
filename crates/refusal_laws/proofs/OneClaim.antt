-- `repair` and `verify` refuse their files for at most one fault, and for none if a profile is repaired, or if there is a verdict.
use Rattle.std.proofs.Common.{◌≡◌, ◌∙◌, ap, sym, ℕ, List, arith}
use Rattle.rb_bytes.specs.declared.fault.Fault.{Fault}
use Rattle.map_check.specs.declared.clause.Verdict.{Verdict}
use Rattle.cli_base.specs.Inputs.{IsTooLong, long_file, long_profile}
use Rattle.cli_base.specs.Lines.{refused_line}
use Rattle.cli_base.specs.ProgramFiles.{IsNoProgram}
use Rattle.cli_check.specs.RepairedFiles.{CannotRepair, IsRepairOf}
use Rattle.cli_check.specs.VerdictLines.{refused_output_line}
use Rattle.cli_check.specs.VerifiedFiles.{IsRefusedBy, IsVerdictOn, by_input, by_map, by_output}
use Rattle.refusal_laws.proofs.OneProgram.{no_image, no_program, one_image, one_program}

one_length : (file profile : List ℕ) (f g : Fault) → IsTooLong file profile f → IsTooLong file profile g → f ≡ g
one_length file profile f g (long_file long is) (long_file long' is') = is ∙ sym is'
one_length file profile f g (long_file long is) (long_profile fits long' is') = absurd (omega (arith, long, fits))
one_length file profile f g (long_profile fits long is) (long_file long' is') = absurd (omega (arith, long', fits))
one_length file profile f g (long_profile fits long is) (long_profile fits' long' is') = is ∙ sym is'

pub one_repair : (file profile : List ℕ) (f g : Fault) → CannotRepair file profile f → CannotRepair file profile g → f ≡ g
one_repair file profile f g (CannotRepair.too_long is) (CannotRepair.too_long is') = one_length file profile f g is is'
one_repair file profile f g (CannotRepair.too_long (long_file long is)) (CannotRepair.no_program fits none) =
    one_program file f g (IsNoProgram.too_long long is) none
one_repair file profile f g (CannotRepair.too_long (long_profile fits long is)) (CannotRepair.no_program fits' none) =
    absurd (omega (arith, long, fits'))
one_repair file profile f g (CannotRepair.no_program fits none) (CannotRepair.too_long (long_file long is)) =
    one_program file f g none (IsNoProgram.too_long long is)
one_repair file profile f g (CannotRepair.no_program fits none) (CannotRepair.too_long (long_profile fits' long is)) =
    absurd (omega (arith, long, fits))
one_repair file profile f g (CannotRepair.no_program fits none) (CannotRepair.no_program fits' none') = one_program file f g none none'

pub none_repaired : (file profile written printed : List ℕ) (f : Fault) → CannotRepair file profile f →
    IsRepairOf file profile written printed → ⊥
none_repaired file profile written printed f (CannotRepair.too_long (long_file long is)) of =
    no_program file f (IsNoProgram.too_long long is) of.program of.program_is
none_repaired file profile written printed f (CannotRepair.too_long (long_profile fits long is)) of =
    let fits' = of.profile_fits in absurd (omega (arith, long, fits'))
none_repaired file profile written printed f (CannotRepair.no_program fits none) of =
    no_program file f none of.program of.program_is

module _ (input output map : List ℕ) where
  pub one_refusal : (f g : Fault) (l m : List ℕ) → IsRefusedBy input output map f l → IsRefusedBy input output map g m → f ≡ g
  one_refusal f g l m (by_input none is) (by_input none' is') = one_program input f g none none'
  one_refusal f g l m (by_input none is) (by_output x of none' is') = absurd (no_program input f none x of)
  one_refusal f g l m (by_input none is) (by_map x of elf out long fault is') = absurd (no_program input f none x of)
  one_refusal f g l m (by_output x of none is) (by_input none' is') = absurd (no_program input g none' x of)
  one_refusal f g l m (by_output x of none is) (by_output x' of' none' is') = one_image output f g none none'
  one_refusal f g l m (by_output x of none is) (by_map x' of' elf out long fault is') = absurd (no_image output f none out.image)
  one_refusal f g l m (by_map x of elf out long fault is) (by_input none is') = absurd (no_program input g none x of)
  one_refusal f g l m (by_map x of elf out long fault is) (by_output x' of' none is') = absurd (no_image output g none out.image)
  one_refusal f g l m (by_map x of elf out long fault is) (by_map x' of' elf' out' long' fault' is') = fault ∙ sym fault'

  pub one_line : (f g : Fault) (l m : List ℕ) → IsRefusedBy input output map f l → IsRefusedBy input output map g m → l ≡ m
  one_line f g l m (by_input none is) (by_input none' is') = is ∙ ap refused_line (one_program input f g none none') ∙ sym is'
  one_line f g l m (by_input none is) (by_output x of none' is') = absurd (no_program input f none x of)
  one_line f g l m (by_input none is) (by_map x of elf out long fault is') = absurd (no_program input f none x of)
  one_line f g l m (by_output x of none is) (by_input none' is') = absurd (no_program input g none' x of)
  one_line f g l m (by_output x of none is) (by_output x' of' none' is') =
      is ∙ ap refused_output_line (one_image output f g none none') ∙ sym is'
  one_line f g l m (by_output x of none is) (by_map x' of' elf out long fault is') = absurd (no_image output f none out.image)
  one_line f g l m (by_map x of elf out long fault is) (by_input none is') = absurd (no_program input g none x of)
  one_line f g l m (by_map x of elf out long fault is) (by_output x' of' none is') = absurd (no_image output g none out.image)
  one_line f g l m (by_map x of elf out long fault is) (by_map x' of' elf' out' long' fault' is') =
      is ∙ ap refused_line (fault ∙ sym fault') ∙ sym is'

  pub none_judged : (v : Verdict) (f : Fault) (l : List ℕ) → IsRefusedBy input output map f l → IsVerdictOn input output map v → ⊥
  none_judged v f l (by_input none is) on = no_program input f none on.program on.program_is
  none_judged v f l (by_output x of none is) on = no_image output f none on.output_is.image
  none_judged v f l (by_map x of elf out long fault is) on = let fits = on.fits in absurd (omega (arith, long, fits))
