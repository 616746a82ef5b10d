use Rattle.std.proofs.Common.{rules}
use Rattle.std.proofs.lemmas.List.Sorted.{answers_always}
use Rattle.block_layout.specs.declared.hot_chains.HotChain.{HotChain}
use Rattle.block_layout.proofs.ChainLists.{chains-sorted}
use Rattle.block_layout.proofs.hot_chains.sort_chains.Goals as goal

pub returns-clause-sorted : goal.returns-clause-sorted
returns-clause-sorted c =
    chains-sorted _ (c.sort_unstable_by_key.ensures.sorted (λ (x : HotChain). (record { 0 = x.weight }, x.head))
    (answers_always _ _ _ (λ f a r f' k. search rules)))
