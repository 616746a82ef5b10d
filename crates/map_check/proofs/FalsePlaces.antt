-- For a faithful rewrite no clause is false at any place. So the two results of a check exclude each other.
use Rattle.std.proofs.Common.{◌≡◌, ℕ, Option, Some, None, IfSome}
use Rattle.elf_image.specs.memory.LoadedBytes.{address_of}
use Rattle.rv_code.specs.machine.MemoryNumbers.{number_in}
use Rattle.elf_image.specs.memory.HiddenFields.{e_entry_field}
use Rattle.move_law.specs.Rewrite.{Rewrite}
use Rattle.elf_image.specs.memory.Executables.{memory_of}
use Rattle.move_law.specs.FaithfulRewrite.{IsFaithful}
use Rattle.map_check.specs.declared.clause.Clause.{Clause}
use Rattle.map_check.specs.declared.clause.Clause.TheVariants as clause
use Rattle.map_check.specs.FirstFalse.{IsFalseIn}
use Rattle.map_check.proofs.ValidMaps.{no_bad_span}

pub faithful_nowhere : (r : Rewrite) → IsFaithful r → (which : Clause) (place : ℕ) → IsFalseIn r which place → ⊥
faithful_nowhere r is clause.MapText place wrong = wrong
faithful_nowhere r is clause.MapSpan place wrong = no_bad_span r.code r.spans is.map place wrong
faithful_nowhere r is clause.SpanBytes place wrong = wrong (λ k d within at. is.span_bytes k d within)
faithful_nowhere r is clause.Instruction place wrong = wrong (λ k d within at. is.insts k d within)
faithful_nowhere r is clause.Next place wrong = wrong (λ k d within at. is.goes_on k d within)
faithful_nowhere r is clause.Entry place wrong = wrong.0 is.entry
faithful_nowhere r is clause.Byte place wrong = wrong (λ byte here. is.bytes place byte here)
faithful_nowhere r is clause.Cell place wrong = wrong (record {
  each = λ k d within at. is.cells.each k d within;
  entry = kept (address_of r.input e_entry_field) is.cells.entry;
})
  where
    kept : (o : Option ℕ) → IfSome o (λ a. number_in (memory_of r.output) a 8 ≡ Some r.output.entry) →
        IfSome o (λ b. b ≡ place → number_in (memory_of r.output) b 8 ≡ Some r.output.entry)
    kept None e = e
    kept (Some b) e = λ at. e
faithful_nowhere r is clause.Table place wrong = wrong.0 is.layout
