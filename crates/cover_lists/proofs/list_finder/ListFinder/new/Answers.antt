use Rattle.std.proofs.Common.{◌∙◌, List, sym, subst}
use Rattle.std.specs.List.Sorted.{IsPermutation}
use Rattle.cover_lists.specs.declared.cover_tree.Cover.{Cover}
use Rattle.cover_lists.specs.ListFinder.{numbered, list_covers}
use Rattle.cover_lists.proofs.FoundLists.{found_bounds}
use Rattle.cover_lists.proofs.list_finder.ListFinder.new.Goals as goal

pub returns : goal.returns
returns c =
    let all : List Cover = numbered list_covers 0 c.args.lists.now in
    let permuted : IsPermutation all c.in_ok-tree.tree =
    subst (IsPermutation all) (sym (c.in_ok-tree.ensures ∙ c.deref-2.ensures.value))
    (subst (λ (cs : List Cover). IsPermutation cs c.in_ok-covers.covers.items) (c.deref.ensures.value ∙ c.in_ok-numbered.ensures)
    c.in_ok-covers.ensures) in
    record {
      bounded = λ n a. found_bounds a c.args.lists.now c.in_ok-tree.tree n permuted;
      unbounded = c.in_ok-unbounded.ensures;
    }
