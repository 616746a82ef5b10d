use Rattle.std.proofs.Common.{◌-◌, ◌∙◌, length, arith, sym, subst, List, ℕ, ap}
use Rattle.elf_image.specs.file.Sections.{text_of}
use Rattle.edge_profile.specs.NameEnds.{IsEnding, indices_in}
use Rattle.edge_profile.proofs.TableIndices.{none-left, all-left, text_of-behind, text-more, indices-more, text_of-within}
use Rattle.edge_profile.proofs.symbol_values.indices_in.Goals as goal

pub loop-count-init : goal.loop-count-init
loop-count-init c = record {
  is = c.in_ok-indices.ensures.items ∙ ap (indices_in c.args.names.now.backward.items) (sym (none-left c.args.texts.now));
  at =
      subst (λ (end : List ℕ). IsEnding c.args.names.now.backward.items end c.all-ending.result)
      (sym (text_of-behind c.args.texts.now (length c.args.texts.now - 0) (omega arith))) c.all-ending.ensures;
}

pub before-ending-requires-clause-short : goal.before-ending-requires-clause-short
before-ending-requires-clause-short c =
    let size = text_of-within c.args.texts.now (length c.args.texts.now - c.loop-count.count) in
    omega (arith, size, c.loop-count.invariant.at.depth_is)

pub loop-count-preserved : goal.loop-count-preserved
loop-count-preserved c =
    let names = c.args.names.now.backward.items in
    let texts = c.args.texts.now in
    let text = text_of texts (length texts - c.loop-count.count) in
    let ending = c.before-ending.ensures text c.loop-count.invariant.at in
    record {
      is =
          c.in_ok-push.ensures.items
          ∙ indices-more names texts c.loop-count.count _ c.loop-count-test.true c.loop-count.indices.items _
          c.loop-count.invariant.is (c.named.ensures _ ending);
      at =
          subst (λ (end : List ℕ). IsEnding names end c.before-ending.result)
          (text-more names texts c.loop-count.count _ c.loop-count-test.true) ending;
    }

pub returns : goal.returns
returns c =
    c.loop-count.invariant.is
    ∙ ap (indices_in c.args.names.now.backward.items) (all-left c.args.texts.now c.loop-count.count (omega
    (arith, c.loop-count-test.false)))
