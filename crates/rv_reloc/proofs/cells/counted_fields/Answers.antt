use Rattle.std.proofs.Common.{◌∙◌, sym, ap, subst, map, ◌++◌, List}
use Rattle.std.proofs.lemmas.List.{map-append}
use Rattle.std.proofs.lemmas.List.Sorted.{IsPermutation-map}
use Rattle.rv_reloc.specs.declared.sweep.Candidate.{Candidate}
use Rattle.rv_reloc.specs.CountedFields.{as_field, AreCandidates}
use Rattle.rv_reloc.proofs.CellFields.{candidates-all}
use Rattle.rv_reloc.proofs.cells.counted_fields.Goals as goal

pub returns : goal.returns
returns c = λ tabled are.
    let elf = c.args.elf.now in
    let of_records = c.in_ok-fields.fields.items in
    let of_lows = c.in_ok-slots.slots.items in
    let joined =
    ap (map as_field)
    (c.in_ok-extend_from_slice.ensures.items ∙ ap (λ (xs : List Candidate). of_records ++ xs) c.deref.ensures.value)
    ∙ map-append as_field of_records of_lows in
    let all = candidates-all elf tabled c.args.records.now c.args.lows.now (map as_field of_records) (map as_field of_lows)
    (map as_field c.extend_from_slice.new.self.items)
    (map as_field c.sort_fields.new.fields.items) c.requires.records c.requires.lows
    (c.in_ok-fields.ensures tabled are) c.in_ok-slots.ensures joined
    (IsPermutation-map as_field _ _ c.in_ok-sort_fields.ensures.permutation) c.in_ok-sort_fields.ensures.rising in
    c.in_ok-sweep.ensures elf tabled
    (subst (λ (xs : List Candidate). AreCandidates elf tabled (map as_field xs)) (sym c.deref-2.ensures.value) all)
