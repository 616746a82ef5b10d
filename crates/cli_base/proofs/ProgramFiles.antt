-- The result of reading a file is its program, or a reason why it isn't one.
use Rattle.std.proofs.Common.{◌≡◌, sym, subst, ℕ, ◌≤◌, List, length}
use Rattle.rb_bytes.specs.declared.fault.Refusal.{Refusal}
use Rattle.rb_bytes.specs.declared.fault.Refusal.TheVariants as refusal
use Rattle.rv_code.specs.declared.placed.Func.{Func}
use Rattle.program.specs.Limits.{IsCodeTooLarge, IsLimitFault, file_limit}
use Rattle.program.specs.Program.{IsProgramOf, program_seen}
use Rattle.program.specs.Refusals.{IsRefusalFor, IsUnreadable}
use Rattle.program.specs.declared.program.Program.{Program}
use Rattle.cli_base.specs.ProgramFiles.{IsNoProgram, IsFileProgram, large_code, unreadable}

module _ (file : List ℕ) where
  pub unreadable_refused : length file ≤ file_limit → (r : Refusal) → IsRefusalFor (IsUnreadable file) r →
      IsRefusalFor (IsNoProgram file) r
  unreadable_refused fits (refusal.Fault fault) is = unreadable fits is
  unreadable_refused fits refusal.Memory is = tt

  -- `given` are its functions, as a slice
  module _ (p : Program) (given : List Func) (is : IsProgramOf file (program_seen p)) (same : given ≡ p.funcs.items) where
    refused : (r : Refusal) → IsRefusalFor (IsLimitFault (IsCodeTooLarge file p.funcs.items)) r →
        IsRefusalFor (IsNoProgram file) r
    refused (refusal.Fault fault) limit = large_code p.elf is.faultless p.funcs.items is.code_is.funcs limit
    refused refusal.Memory limit = tt

    pub large_refused : (r : Refusal) → IsRefusalFor (IsLimitFault (IsCodeTooLarge p.elf.file.now given)) r →
        IsRefusalFor (IsNoProgram file) r
    large_refused r limit =
        refused r (subst (λ (f : List ℕ). IsRefusalFor (IsLimitFault (IsCodeTooLarge f p.funcs.items)) r)
        is.faultless.read.file_is
        (subst (λ (fs : List Func). IsRefusalFor (IsLimitFault (IsCodeTooLarge p.elf.file.now fs)) r) same limit))

    pub runnable : ((place : ℕ) → IsCodeTooLarge p.elf.file.now given place → ⊥) → IsFileProgram file (program_seen p)
    runnable within = record {
      program = is;
      within = λ place large. within place
          (subst (λ (fs : List Func). IsCodeTooLarge p.elf.file.now fs place) (sym same)
          (subst (λ (f : List ℕ). IsCodeTooLarge f p.funcs.items place) (sym is.faultless.read.file_is) large));
    }
