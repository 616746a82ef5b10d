-- The answers of sections of ranges without a fault.
use Rattle.std.proofs.Common.{◌≡◌, ◌∷◌, [], ℕ, Option, Some, None, refl, sym, subst}
use Rattle.rb_bytes.specs.FirstFault.{IsFree}
use Rattle.rb_bytes.specs.declared.fault.FaultKind.TheVariants as fault
use Rattle.elf_image.specs.declared.elf.Elf.{Elf}
use Rattle.answer_runs.specs.Choices.{unless_any}
use Rattle.dw_unit.specs.Faults.{FaultPlaces, HasDwarfFault}
use Rattle.dw_unit.specs.Tables.{answers_if_free}
use Rattle.dw_lists.specs.Faults.{ListSections, range_places}
use Rattle.dw_lists.specs.ListTables.{range_says}
use Rattle.dw_lists.specs.Tables.{list_sections, range_answers}

none_is : (o : Option ℕ) → ((n : ℕ) → o ≡ Some n → ⊥) → o ≡ None
none_is None h = refl
none_is (Some n) h = absurd (h n refl)

pub answers_free : {A : Type 0} (p : FaultPlaces) (x : ℕ → Option A) → IsFree (HasDwarfFault p) → answers_if_free p x ≡ Some x
answers_free p x free =
    let version : p.version ≡ None = none_is p.version (free fault.DwarfVersion) in
    let form : p.form ≡ None = none_is p.form (free fault.DwarfForm) in
    let high : p.high ≡ None = none_is p.high (free fault.HighPcForm) in
    let bad : p.bad ≡ None = none_is p.bad (free fault.DwarfFault) in
    λ i. unless_any (version i ∷ form i ∷ high i ∷ bad i ∷ []) x

pub ranges_free : (elf : Elf) (s : ListSections) → s ≡ list_sections elf → IsFree (HasDwarfFault (range_places s)) →
    (range_answers elf ≡ Some (range_says s)) × IsFree (HasDwarfFault (range_places (list_sections elf)))
ranges_free elf s same free =
    subst (λ (x : ListSections). (range_answers elf ≡ Some (range_says x)) × IsFree (HasDwarfFault (range_places (list_sections elf))))
    (sym same) (
      answers_free (range_places (list_sections elf)) (range_says (list_sections elf))
          (subst (λ (x : ListSections). IsFree (HasDwarfFault (range_places x))) same free),
      subst (λ (x : ListSections). IsFree (HasDwarfFault (range_places x))) same free,
    )
