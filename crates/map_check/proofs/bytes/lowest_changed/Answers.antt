use Rattle.std.proofs.Common.{◌≡◌, ◌≤◌, ◌^◌, true, ap, sym, subst, List, length, All}
use Rattle.std.proofs.lemmas.List.Elements.{Contains-get_or}
use Rattle.elf_image.specs.declared.segment.Segment.{Segment}
use Rattle.elf_image.specs.faults.LowestPlace.{IsLowest, SomeBelow}
use Rattle.elf_image.specs.memory.Image.{has_memory, end_of}
use Rattle.map_check.specs.internal.KeptBytes.{ChangedAt}
use Rattle.map_check.proofs.KeptPlaces.{changed_all, segment_low}
use Rattle.map_check.proofs.bytes.lowest_changed.Goals as goal

pub lowest_over-requires-clause-inside : goal.lowest_over-requires-clause-inside
lowest_over-requires-clause-inside c =
    subst (λ (ps : List Segment). All (λ p. has_memory p ≡ true → end_of p ≤ 2 ^ 63) ps) (sym c.deref.ensures.value)
    (λ k d within has. segment_low c.args.input.now _ c.requires.low (Contains-get_or c.args.input.now.segments.items k d within) has)

pub returns : goal.returns
returns c = λ r of ch.
    changed_all r c.args.input.now c.args.output.now of (length c.deref.result.now) c.lowest_over.result (ap length c.deref.ensures.value)
    (subst (λ (ps : List Segment). IsLowest (SomeBelow (length c.deref.result.now) (ChangedAt r ps)) c.lowest_over.result)
    c.deref.ensures.value (c.lowest_over.ensures r of ch))
