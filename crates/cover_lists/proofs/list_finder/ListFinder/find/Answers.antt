use Rattle.std.proofs.Common.{◌≡◌, ◌∙◌, ◌==◌, ◌||◌, ◌++◌, ℕ, Bool, List, refl, ap, map, filter}
use Rattle.std.specs.List.{list_any}
use Rattle.std.proofs.lemmas.List.Filters.{dedup_is}
use Rattle.std.proofs.lemmas.List.Folds.{list_any-append}
use Rattle.std.proofs.lemmas.Map.Keys.{IsStrictlyIncreasing-dedup}
use Rattle.answer_runs.proofs.Ascending.{among_kept}
use Rattle.cover_lists.specs.declared.cover_tree.Cover.{Cover}
use Rattle.cover_lists.specs.CoverTree.{holds}
use Rattle.cover_lists.specs.ListRuns.{is_among}
use Rattle.cover_lists.proofs.FoundLists.{candidates}
use Rattle.cover_lists.proofs.KeptListFacts.{found_numbers}
use Rattle.cover_lists.proofs.list_finder.ListFinder.find.Goals as goal

pub returns : goal.returns
returns c = λ lists is.
    let tree : List Cover = c.args.self.now.tree in
    let unbounded : List ℕ = c.args.self.now.unbounded.items in
    let bounded : List ℕ = map (λ (x : Cover). x.group) (filter (holds c.args.a) tree) in
    let found : c.find.new.groups.items ≡ unbounded ++ bounded =
    c.in_ok-find.ensures ∙ ap (λ (l : List ℕ). l ++ bounded) (c.in_ok-numbers.ensures.items ∙ c.deref.ensures.value) in
    let kept = dedup_is _ _ _ c.dedup.ensures.filtered in
    candidates lists tree unbounded c.dedup.new.self.items c.args.a (λ n. is.bounded n c.args.a) is.unbounded
    (rw kept (IsStrictlyIncreasing-dedup _ c.sort_unstable.ensures.sorted))
    (λ n. ap (list_any (λ o. o == n)) kept ∙ among_kept n _ _ c.sort_unstable.ensures.permutation
    ∙ ap (list_any (λ o. o == n)) found ∙ list_any-append (λ m. m == n) unbounded bounded
    ∙ ap (λ (b : Bool). is_among unbounded n || b) (found_numbers tree c.args.a n bounded refl))
