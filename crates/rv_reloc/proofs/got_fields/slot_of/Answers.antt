use Rattle.std.proofs.Common.{◌≡◌, ◌∙◌, sym, ℕ, ◌<◌, ◌≤◌, ◌^◌, ⊎_elim, true, false, rules, FitsSigned}
use Rattle.std.specs.Int.{w128}
use Rattle.std.proofs.lemmas.Bool.{cases_lt}
use Rattle.std.proofs.lemmas.Int.{to_z-of_z}
use Rattle.rb_bytes.proofs.Options.{same_some, not_found}
use Rattle.rv_reloc.proofs.SlotFields.{slot-made, slot-named, slot-missing, label-listed}
use Rattle.rv_reloc.proofs.Only.{some-only}
use Rattle.rv_reloc.proofs.got_fields.slot_of.Goals as goal

not_small : (a : ℕ) → (a < 2 ^ 64 → ⊥) → 2 ^ 64 ≤ a
not_small a other = ⊎_elim (λ (less : a < 2 ^ 64). absurd (other less)) (λ (more : 2 ^ 64 ≤ a). more) (cases_lt a (2 ^ 64))

pub has_label_at-requires : goal.has_label_at-requires
has_label_at-requires c = c.requires.labels.ordered

pub returns-then-not-has_label_at-clause-only : goal.returns-then-not-has_label_at-clause-only
returns-then-not-has_label_at-clause-only c = λ f is.
    let entry = is.entry in
    let has = label-listed c.args.elf.now c.args.labels.now c.args.low.now.hi entry.field.to c.requires.labels entry.named in
    let e : false ≡ true = sym c.if-not-has_label_at.true ∙ c.has_label_at.ensures.1 has in
    absurd (cc)

pub returns-clause-is : goal.returns-clause-is
returns-clause-is c =
    let number = c.in_ok-number.number in
    let fits : FitsSigned w128 number = search rules in
    let slot = c.in_ok-slot.ensures.there ∙ to_z-of_z w128 number fits in
    some-only _
    (λ f entry. slot-made c.args.elf.now c.args.low.now number c.in_ok-slot.slot f c.in_ok-number.ensures.is slot entry)
    c.named_field.ensures.is

pub returns-clause-only : goal.returns-clause-only
returns-clause-only c = λ f is.
    let number = c.in_ok-number.number in
    let fits : FitsSigned w128 number = search rules in
    let slot = c.in_ok-slot.ensures.there ∙ to_z-of_z w128 number fits in
    c.named_field.ensures.only f (slot-named c.args.elf.now c.args.low.now number c.in_ok-slot.slot f
    (λ z makes. same_some _ _ _ c.in_ok-number.was (c.low_target.ensures.only z makes)) slot is)

pub returns-in_err-slot-clause-only : goal.returns-in_err-slot-clause-only
returns-in_err-slot-clause-only c = λ f is.
    let number = c.in_ok-number.number in
    let fits : FitsSigned w128 number = search rules in
    let whole = to_z-of_z w128 number fits in
    absurd (slot-missing c.args.elf.now c.args.low.now number f c.requires.low
    (λ z makes. same_some _ _ _ c.in_ok-number.was (c.low_target.ensures.only z makes))
    (λ a e. not_small a (λ small. let g = c.in_err-slot.ensures.each a small (e ∙ sym whole) in absurd (cc))) is)

pub returns-in_err-number-clause-only : goal.returns-in_err-number-clause-only
returns-in_err-number-clause-only c = λ f is. absurd (not_found _ _ c.in_err-number.was (c.low_target.ensures.only _ is.names))
