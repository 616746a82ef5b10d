use Rattle.std.proofs.Common.{◌∙◌, ◌||◌, Bool, ap, get_or, sym}
use Rattle.std.proofs.lemmas.List.Folds.{list_any_more}
use Rattle.cover_lists.specs.declared.cover_tree.Cover.{Cover}
use Rattle.cover_lists.specs.Groups.{is_in_group}
use Rattle.range_loc_rewrite.proofs.one_address.groups_at.Goals as goal

abbrev none : Cover
none = record { low = 0; high = 0; group = 0 }

pub loop-cover-preserved : goal.loop-cover-preserved
loop-cover-preserved c = λ g.
    let covers = c.args.covers.now in
    let i = c.loop-cover.cover-index in
    c.in_ok-put_group.ensures g ∙ ap (λ (b : Bool). b || is_in_group g c.args.a (get_or covers i none)) (c.loop-cover.invariant g)
    ∙ sym (list_any_more (is_in_group g c.args.a) covers i none c.loop-cover-test.true)
