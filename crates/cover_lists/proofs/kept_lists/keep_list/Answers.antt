use Rattle.std.proofs.Common.{◌≡◌, ◌∙◌, List, sym, subst, map}
use Rattle.std.specs.List.Sorted.{IsPermutation}
use Rattle.cover_lists.specs.declared.cover_tree.Cover.{Cover}
use Rattle.cover_lists.specs.KeptLists.{numbered_covers}
use Rattle.cover_lists.specs.ListPlaces.{located_of}
use Rattle.cover_lists.specs.Located.{Located}
use Rattle.cover_lists.proofs.KeptListFacts.{says, numbered}
use Rattle.cover_lists.proofs.kept_lists.keep_list.Goals as goal

permuted : (numbered deref covers deref2 tree : List Cover) (ls : List Located) → numbered ≡ numbered_covers 0 ls → deref ≡ numbered →
    IsPermutation deref covers → deref2 ≡ covers → tree ≡ deref2 → IsPermutation (numbered_covers 0 ls) tree
permuted numbered deref covers deref2 tree ls e f p g h =
    subst (IsPermutation (numbered_covers 0 ls)) (sym (h ∙ g)) (subst (λ (cs : List Cover). IsPermutation cs covers) (f ∙ e) p)

pub invariant_of-result : goal.invariant_of-result
invariant_of-result c =
    let ls : List Located = map located_of c.args.places.now in
    record {
      numbered = numbered ls c.in_ok-tree.tree c.in_ok-expressions.expressions.items
          (permuted c.in_ok-numbered.numbered.items c.deref.result.now c.in_ok-covers.covers.items c.deref-2.result.now c.in_ok-tree.tree ls
          c.in_ok-numbered.ensures c.deref.ensures.value c.in_ok-covers.ensures c.deref-2.ensures.value c.in_ok-tree.ensures)
          c.in_ok-expressions.ensures;
    }

pub returns : goal.returns
returns c =
    let ls : List Located = map located_of c.args.places.now in
    says ls c.in_ok-tree.tree c.in_ok-expressions.expressions.items c.in_ok-defaults.defaults.items
    (permuted c.in_ok-numbered.numbered.items c.deref.result.now c.in_ok-covers.covers.items c.deref-2.result.now c.in_ok-tree.tree ls
    c.in_ok-numbered.ensures c.deref.ensures.value c.in_ok-covers.ensures c.deref-2.ensures.value c.in_ok-tree.ensures)
    c.in_ok-expressions.ensures c.in_ok-defaults.ensures
