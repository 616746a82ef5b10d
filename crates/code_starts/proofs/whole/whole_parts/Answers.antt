use Rattle.std.proofs.Common.{refl, rules, arith}
use Rattle.std.proofs.lemmas.List.Elements.{Contains-get_or}
use Rattle.elf_code.specs.Parts.{IsWholePart}
use Rattle.code_starts.specs.Parts.{Precedes}
use Rattle.code_starts.proofs.Chosen.{chosen_keep, chosen_skip, chosen_all}
use Rattle.code_starts.proofs.WholeLookup.{whole-nowhere}
use Rattle.code_starts.proofs.whole.whole_parts.Goals as goal
use Rattle.rb_bytes.proofs.Tests.{clash}

pub is_whole-requires-clause-part : goal.is_whole-requires-clause-part
is_whole-requires-clause-part c =
    c.requires.parts.only _ (Contains-get_or c.args.parts.now c.loop-part.part-index _ c.loop-part-test.true)

pub loop-part-preserved-then-not-is_whole : goal.loop-part-preserved-then-not-is_whole
loop-part-preserved-then-not-is_whole c =
    chosen_skip (λ p. IsWholePart c.args.elf.now c.args.tabled.now p.start p.end) Precedes c.args.parts.now _
    c.loop-part.part-index _ _ c.loop-part-test.true refl
    (λ whole. clash _
    ((c.is_whole.ensures c.args.tabled.now c.in_ok-ranges.ensures).1 whole) c.if-not-is_whole.true) c.loop-part.invariant

pub loop-part-preserved : goal.loop-part-preserved
loop-part-preserved c =
    chosen_keep (λ p. IsWholePart c.args.elf.now c.args.tabled.now p.start p.end) Precedes c.args.parts.now _ _
    c.loop-part.part-index _ _ c.requires.parts.ordered c.loop-part-test.true refl
    ((c.is_whole.ensures c.args.tabled.now c.in_ok-ranges.ensures).0 c.if-not-is_whole.false)
    c.in_ok-push.ensures.items c.loop-part.invariant

pub returns : goal.returns
returns c =
    chosen_all (λ p. IsWholePart c.args.elf.now c.args.tabled.now p.start p.end) Precedes c.args.parts.now _
    c.loop-part.part-index
    (omega arith)
    (λ p whole. c.requires.parts.each p whole.starts.part) c.loop-part.invariant

pub returns-then-is_empty : goal.returns-then-is_empty
returns-then-is_empty c =
    whole-nowhere c.args.elf.now c.args.tabled.now c.new-wholes.result.items
    (search rules) c.new-wholes.ensures.items
