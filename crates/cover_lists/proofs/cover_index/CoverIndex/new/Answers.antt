use Rattle.std.proofs.Common.{◌∙◌, List, sym, ap}
use Rattle.std.proofs.lemmas.List.Sorted.{list_any-IsPermutation}
use Rattle.cover_lists.specs.declared.cover_tree.Cover.{Cover}
use Rattle.cover_lists.specs.Groups.{group_holds, is_in_group}
use Rattle.cover_lists.proofs.cover_index.CoverIndex.new.Goals as goal

pub returns : goal.returns
returns c = record {
  held = λ g a. ap (λ (cs : List Cover). group_holds cs g a) (c.in_ok-tree.ensures ∙ c.deref-2.ensures.value)
      ∙ sym (list_any-IsPermutation (is_in_group g a) c.deref.result.now c.in_ok-covers.covers.items c.in_ok-covers.ensures)
      ∙ ap (λ (cs : List Cover). group_holds cs g a) c.deref.ensures.value;
  members = c.in_ok-members.ensures.each;
}
