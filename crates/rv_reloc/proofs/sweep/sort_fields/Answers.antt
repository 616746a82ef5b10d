use Rattle.std.proofs.Common.{rules, refl}
use Rattle.std.proofs.lemmas.List.Sorted.{answers_always}
use Rattle.rv_reloc.specs.declared.sweep.Candidate.{Candidate}
use Rattle.rv_reloc.specs.contracts.sweep.ContentOrd.TheImpl.{ghosts}
use Rattle.rv_reloc.proofs.Keys.{keys-sorted}
use Rattle.rv_reloc.proofs.sweep.sort_fields.Goals as goal

pub returns-clause-rising : goal.returns-clause-rising
returns-clause-rising c =
    keys-sorted ghosts.cmp c.sort_by_key.new.self.items
    (record { addresses = λ a b. refl; address_first = λ a to from. refl; differences = λ to from to' from'. refl })
    (c.in_ok-sort_by_key.ensures.sorted (λ (x : Candidate). (x.place, record { 0 = x.width }, x.content))
    (answers_always _ _ _ (λ f a r f' k. search rules)))
