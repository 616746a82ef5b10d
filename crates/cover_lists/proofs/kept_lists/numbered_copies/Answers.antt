use Rattle.std.proofs.Common.{◌∙◌, ◌++◌, [], ℕ, List, Option, ap, arith}
use Rattle.std.proofs.lemmas.Grind.{common_steps}
use Rattle.std.specs.List.{cons_option}
use Rattle.cover_lists.specs.KeptLists.{items_in, expression_of}
use Rattle.cover_lists.proofs.ByNumbers.{picked_more}
use Rattle.cover_lists.proofs.kept_lists.numbered_copies.Goals as goal

pub loop-number-preserved : goal.loop-number-preserved
loop-number-preserved c =
    picked_more (expression_of c.args.expressions.now) c.args.numbers.now c.loop-number.number-index _ (items_in c.loop-number.copies.items)
    (items_in c.put_option.new.copies.items) c.loop-number-test.true c.loop-number.invariant
    (c.in_ok-put_option.ensures ∙ ap (λ (o : Option (List ℕ)). items_in c.loop-number.copies.items
    ++ cons_option o []) c.expression_of.ensures)

pub returns : goal.returns
returns c = grind (arith, common_steps)
