-- At most one fault is the one for which tables give no answer, whichever reading of the file it is taken from.
use Rattle.std.proofs.Common.{◌≡◌, ◌∙◌, sym, subst, ℕ, List, None, Some, arith}
use Rattle.std.specs.Prelude.{◌≢◌}
use Rattle.rb_bytes.specs.FirstFault.{IsAnswered, IsFree}
use Rattle.rb_bytes.specs.declared.fault.Fault.{Fault}
use Rattle.rb_bytes.specs.declared.fault.FaultKind.{FaultKind}
use Rattle.rb_bytes.specs.declared.fault.FaultKind.TheVariants as fault
use Rattle.elf_image.specs.declared.elf.Elf.{Elf}
use Rattle.elf_readings.proofs.Alike.{Alike}
use Rattle.elf_readings.proofs.Readings.{readings_alike}
use Rattle.cli_look.specs.LookingUp.{CannotLookUp, IsAnswerAt, IsSoundElf, bad_table as bad_tables, much_code, too_long, unsound}
use Rattle.cli_look.specs.Questions.{HasFaultFor}
use Rattle.cli_look.specs.declared.question.Question.{Question}
use Rattle.cli_look.specs.declared.question.Question.TheVariants as question
use Rattle.elf_image.specs.faults.FileFaults.{HasFault}
use Rattle.refusal_laws.proofs.OneFault.{AreApart, none_answered, one_answered}
use Rattle.refusal_laws.proofs.OneProgram.{file_apart}
use Rattle.refusal_laws.proofs.SameTables.{same_place}

same_faults : (e e' : Elf) → Alike e e' → (q : Question) → HasFaultFor q e ≡ HasFaultFor q e'
same_faults e e' alike question.Report = λ i kind place. same_place e e' alike kind i ≡ Some place
same_faults e e' alike question.Frames = λ i kind place. (kind ≢ fault.FrameFault) × (same_place e e' alike kind i ≡ Some place)

pub no_place : (place : ℕ) → None ≡ Some place → ⊥
no_place place is = absurd (cc)

tables_apart : (q : Question) (elf : Elf) → AreApart (HasFaultFor q elf)
tables_apart question.Report elf place bad bare = no_place place bad
tables_apart question.Frames elf place bad bare = no_place place bad.1

module _ (q : Question) (file : List ℕ) where
  answered_of : (elf elf' : Elf) → IsSoundElf file elf → IsSoundElf file elf' → (f : Fault) →
      IsAnswered (HasFaultFor q elf) f → IsAnswered (HasFaultFor q elf') f
  answered_of elf elf' is is' f =
      subst (λ (Has : FaultKind → ℕ → Type 0). IsAnswered Has f)
      (same_faults elf elf' (readings_alike file elf elf' is.read is'.read) q)

  free_of : (elf elf' : Elf) → IsSoundElf file elf → IsSoundElf file elf' → IsFree (HasFaultFor q elf) →
      IsFree (HasFaultFor q elf')
  free_of elf elf' is is' =
      subst (λ (Has : FaultKind → ℕ → Type 0). IsFree Has)
      (same_faults elf elf' (readings_alike file elf elf' is.read is'.read) q)

  pub one_look : (f g : Fault) → CannotLookUp q file f → CannotLookUp q file g → f ≡ g
  one_look f g (too_long long is) (too_long long' is') = is ∙ sym is'
  one_look f g (too_long long is) (unsound fits has) = absurd (omega (arith, long, fits))
  one_look f g (too_long long is) (bad_tables elf of has) = let fits = of.fits in absurd (omega (arith, long, fits))
  one_look f g (too_long long is) (much_code elf of free much is') = let fits = of.fits in absurd (omega (arith, long, fits))
  one_look f g (unsound fits has) (too_long long is) = absurd (omega (arith, long, fits))
  one_look f g (unsound fits has) (unsound fits' has') = one_answered (HasFault file) (file_apart file) f g has has'
  one_look f g (unsound fits has) (bad_tables elf of has') = absurd (none_answered (HasFault file) f has of.sound)
  one_look f g (unsound fits has) (much_code elf of free much is) = absurd (none_answered (HasFault file) f has of.sound)
  one_look f g (bad_tables elf of has) (too_long long is) = let fits = of.fits in absurd (omega (arith, long, fits))
  one_look f g (bad_tables elf of has) (unsound fits has') = absurd (none_answered (HasFault file) g has' of.sound)
  one_look f g (bad_tables elf of has) (bad_tables elf' of' has') =
      one_answered (HasFaultFor q elf) (tables_apart q elf) f g has (answered_of elf' elf of' of g has')
  one_look f g (bad_tables elf of has) (much_code elf' of' free much is) =
      absurd (none_answered (HasFaultFor q elf) f has (free_of elf' elf of' of free))
  one_look f g (much_code elf of free much is) (too_long long is') = let fits = of.fits in absurd (omega (arith, long, fits))
  one_look f g (much_code elf of free much is) (unsound fits has) = absurd (none_answered (HasFault file) g has of.sound)
  one_look f g (much_code elf of free much is) (bad_tables elf' of' has) =
      absurd (none_answered (HasFaultFor q elf) g (answered_of elf' elf of' of g has) free)
  one_look f g (much_code elf of free much is) (much_code elf' of' free' much' is') = is ∙ sym is'

  pub none_looked : (address : ℕ) (text : List ℕ) (f : Fault) → CannotLookUp q file f → IsAnswerAt q address file text → ⊥
  none_looked address text f (too_long long is) of = let fits = of.read.fits in absurd (omega (arith, long, fits))
  none_looked address text f (unsound fits has) of = none_answered (HasFault file) f has of.read.sound
  none_looked address text f (bad_tables elf is has) of =
      none_answered (HasFaultFor q elf) f has (free_of of.elf elf of.read is of.tables)
  none_looked address text f (much_code elf is free much is') of = of.code_fits much
