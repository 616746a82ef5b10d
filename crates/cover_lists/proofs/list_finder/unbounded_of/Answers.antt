use Rattle.std.proofs.Common.{◌∙◌, ◌++◌, ap}
use Rattle.cover_lists.specs.declared.kept_list.KeptList.{KeptList}
use Rattle.cover_lists.specs.ListFinder.{default_numbers}
use Rattle.cover_lists.proofs.FoundLists.{numbered_more, numbered_done, found_defaults}
use Rattle.cover_lists.proofs.list_finder.unbounded_of.Goals as goal

pub loop-number-preserved : goal.loop-number-preserved
loop-number-preserved c =
    numbered_more default_numbers c.args.lists.now c.loop-number.number c.index-lists-number.result c.loop-number.numbers.items
    c.put_unbounded.new.numbers.items _ c.loop-number-test.true c.loop-number.invariant
    (c.in_ok-put_unbounded.ensures
    ∙ ap (λ (l : KeptList). c.loop-number.numbers.items ++ default_numbers c.loop-number.number l) c.index-lists-number.is)

pub returns : goal.returns
returns c = λ n. found_defaults c.args.lists.now c.loop-number.numbers.items n
    (numbered_done default_numbers c.args.lists.now c.loop-number.number c.loop-number.numbers.items _ c.loop-number-test.false
    c.loop-number.invariant)
