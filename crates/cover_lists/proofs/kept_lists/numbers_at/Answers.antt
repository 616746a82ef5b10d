use Rattle.std.proofs.Common.{◌≡◌, ◌∙◌, ◌==◌, ◌++◌, ℕ, List, ap, map, filter, length}
use Rattle.std.specs.List.{list_any}
use Rattle.std.proofs.lemmas.List.Filters.{dedup_is}
use Rattle.std.proofs.lemmas.Map.Keys.{IsStrictlyIncreasing-dedup}
use Rattle.answer_runs.proofs.Ascending.{among_kept}
use Rattle.cover_lists.specs.declared.cover_tree.Cover.{Cover}
use Rattle.cover_lists.specs.CoverTree.{holds}
use Rattle.cover_lists.specs.Groups.{group_holds}
use Rattle.cover_lists.proofs.KeptListFacts.{below_size, found_numbers}
use Rattle.cover_lists.proofs.MemberLists.{numbers_are}
use Rattle.cover_lists.proofs.kept_lists.numbers_at.Goals as goal

pub returns : goal.returns
returns c =
    let tree : List Cover = c.args.list.now.tree in
    let n : ℕ = length c.args.list.now.expressions.items in
    let found : c.find.new.groups.items ≡ map (λ (x : Cover). x.group) (filter (holds c.args.a) tree) = c.in_ok-find.ensures
    ∙ ap (λ (l : List ℕ). l ++ map (λ (x : Cover). x.group) (filter (holds c.args.a) tree)) c.clear.ensures.items in
    let kept = dedup_is _ _ _ c.dedup.ensures.filtered in
    numbers_are (λ k. group_holds tree k c.args.a) n c.dedup.new.self.items
    (rw kept (IsStrictlyIncreasing-dedup _ c.sort_unstable.ensures.sorted))
    (λ k. ap (list_any (λ o. o == k)) kept ∙ among_kept k _ _ c.sort_unstable.ensures.permutation
    ∙ found_numbers tree c.args.a k c.find.new.groups.items found)
    (λ k. below_size tree n c.args.a k c.args.list.now.numbered)
