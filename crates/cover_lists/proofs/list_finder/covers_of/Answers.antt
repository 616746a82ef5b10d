use Rattle.std.proofs.Common.{◌∙◌, ◌++◌, ap}
use Rattle.cover_lists.specs.declared.kept_list.KeptList.{KeptList}
use Rattle.cover_lists.specs.ListFinder.{list_covers}
use Rattle.cover_lists.proofs.FoundLists.{numbered_more, numbered_done}
use Rattle.cover_lists.proofs.list_finder.covers_of.Goals as goal

pub loop-number-preserved : goal.loop-number-preserved
loop-number-preserved c =
    numbered_more list_covers c.args.lists.now c.loop-number.number c.index-lists-number.result c.loop-number.covers.items
    c.put_regrouped.new.covers.items _ c.loop-number-test.true c.loop-number.invariant
    (c.in_ok-put_regrouped.ensures
    ∙ ap (λ (l : KeptList). c.loop-number.covers.items ++ list_covers c.loop-number.number l) c.index-lists-number.is)

pub returns : goal.returns
returns c = numbered_done list_covers c.args.lists.now c.loop-number.number c.loop-number.covers.items _ c.loop-number-test.false
    c.loop-number.invariant
