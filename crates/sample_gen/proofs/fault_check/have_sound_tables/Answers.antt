use Rattle.std.proofs.Common.{◌≡◌, ℕ, false, Option, Some, None, sym}
use Rattle.std.specs.Prelude.{MatchOption, is_some}
use Rattle.elf_image.specs.declared.elf.Elf.{Elf}
use Rattle.frame_rewrite.specs.Faults.{IsRegisteredFrames}
use Rattle.sample_gen.proofs.fault_check.have_sound_tables.Goals as goal

none_registered : (elf : Elf) (o : Option ℕ) →
    MatchOption o ((place : ℕ) → IsRegisteredFrames elf place → ⊥) (IsRegisteredFrames elf) → is_some o ≡ false → (place : ℕ) →
    IsRegisteredFrames elf place → ⊥
none_registered elf None found none = found
none_registered elf (Some place) found none = absurd (cc)

pub returns-clause-registered : goal.returns-clause-registered
returns-clause-registered c = λ yes.
    none_registered c.args.elf.now c.registered_frames.result c.registered_frames.ensures (sym c.if-is_some.ensures)
