use Rattle.std.proofs.Common.{◌≡◌, ◌∙◌, sym, subst, refl, false, true, FitsSigned, rules}
use Rattle.std.specs.Int.{w128}
use Rattle.std.proofs.lemmas.Int.{to_z-of_z}
use Rattle.elf_code.specs.ReferenceFaults.{IsAddress}
use Rattle.rv_reloc.proofs.BadEntryPlaces.{misses-listed, entry-names, entry-far}
use Rattle.rb_bytes.proofs.Options.{same_some, not_found}
use Rattle.rv_reloc.proofs.bad_entries.names_bad_entry.Goals as goal

pub has_label_at-requires : goal.has_label_at-requires
has_label_at-requires c = c.requires.labels.ordered

pub returns-then-not-has_label_at : goal.returns-then-not-has_label_at
returns-then-not-has_label_at c = (
  λ is. let e : false ≡ true = is in absurd (cc),
  λ names.
      let has =
      misses-listed c.args.elf.now c.args.labels.now c.args.low.now.hi names.entry c.requires.labels names.misses in
      let e : false ≡ true = sym c.if-not-has_label_at.true ∙ c.has_label_at.ensures.1 has in absurd (cc),
)

pub returns-in-Some-address_of : goal.returns-in-Some-address_of
returns-in-Some-address_of c =
    let fits : FitsSigned w128 c.in-Some.target = search rules in
    let whole = to_z-of_z w128 _ fits in
    let tells = entry-names c.args.elf.now c.args.low.now c.in-Some.target c.in-Some-address_of.entry c.in-Some.ensures.is
    (λ z is. same_some _ _ _ c.in-Some.is (c.low_target.ensures.only z is))
    (c.in-Some-address_of.ensures.there ∙ whole)
    (subst IsAddress whole (c.in-Some-address_of.ensures.exact.0 refl)) in
    (λ is. tells.0 (c.misses_label.ensures.0 is), λ names. c.misses_label.ensures.1 (tells.1 names))

pub returns-in-None-address_of : goal.returns-in-None-address_of
returns-in-None-address_of c = (
  λ is. let e : false ≡ true = is in absurd (cc),
  λ names.
      let fits : FitsSigned w128 c.in-Some.target = search rules in
      absurd (entry-far c.args.elf.now c.args.low.now c.in-Some.target
      (λ z is. same_some _ _ _ c.in-Some.is (c.low_target.ensures.only z is))
      (λ address.
      let e : false ≡ true = c.in-None-address_of.ensures.exact.1 (subst IsAddress (sym (to_z-of_z w128 _ fits)) address) in cc)
      names),
)

pub returns-in-None : goal.returns-in-None
returns-in-None c = (
  λ is. let e : false ≡ true = is in absurd (cc),
  λ names. absurd (not_found _ _ c.in-None.is (c.low_target.ensures.only _ names.makes)),
)
