use Rattle.std.proofs.Common.{refl, slice_index_or, arith}
use Rattle.std.proofs.lemmas.List.Elements.{Contains-get_or}
use Rattle.code_starts.specs.declared.parts.Part.{Part}
use Rattle.func_find.specs.Referents.{PartGoesTo}
use Rattle.rb_bytes.proofs.Gains.{gains_next, gains_all, gains_same}
use Rattle.func_find.proofs.Judged.{inside_starts}
use Rattle.func_find.proofs.ReferredLists.{part_goes}
use Rattle.func_find.proofs.referred.push_targets.Goals as goal

pub starts_in-requires-clause-has_bytes : goal.starts_in-requires-clause-has_bytes
starts_in-requires-clause-has_bytes c =
    (c.requires.parts.only _ (Contains-get_or c.args.parts.now c.loop-part.part-index _ c.loop-part-test.true)).part.has_bytes

pub loop-part-preserved : goal.loop-part-preserved
loop-part-preserved c =
    let elf = c.args.elf.now in
    let parts = c.args.parts.now in
    let d : Part = record { start = 0; end = 0 } in
    let x = slice_index_or parts c.loop-part.part-index d in
    let part = c.requires.parts.only x (Contains-get_or parts c.loop-part.part-index d c.loop-part-test.true) in
    gains_next (λ p a. PartGoesTo elf p a) parts c.loop-part.part-index x d _ _ _ c.loop-part-test.true refl
    (gains_same _ _ _ _
    (part_goes elf x c.starts_in.result.now
    (inside_starts elf c.args.starts.now c.starts_in.result.now x.start x.end c.requires.starts part c.starts_in.ensures.members))
    c.in_ok-push_targets_of.ensures)
    c.loop-part.invariant

pub returns : goal.returns
returns c = gains_all (λ p a. PartGoesTo c.args.elf.now p a) c.args.parts.now c.loop-part.part-index _ _
    (omega arith) c.loop-part.invariant
