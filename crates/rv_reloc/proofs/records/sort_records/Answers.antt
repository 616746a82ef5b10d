use Rattle.std.proofs.Common.{rules}
use Rattle.std.proofs.lemmas.List.Sorted.{answers_always}
use Rattle.rv_reloc.specs.Index.{class}
use Rattle.rv_reloc.specs.declared.records.Record.{Record}
use Rattle.rv_reloc.proofs.Ordered.{AreInOrder-sorted}
use Rattle.rv_reloc.proofs.records.sort_records.Goals as goal

pub returns-clause-ordered : goal.returns-clause-ordered
returns-clause-ordered c =
    AreInOrder-sorted _
    (c.in_ok-sort_by_key.ensures.sorted (λ (x : Record). (x.place, class x.kind))
    (answers_always _ _ _ (λ f a r f' k. search rules)))
