use Rattle.std.proofs.Common.{◌≡◌, ◌<◌, ℕ, get_or}
use Rattle.dw_lists.specs.declared.named_list.NamedList.{NamedList}
use Rattle.list_writer.proofs.table_groups.unit_len.Given as goal

abbrev pub invariant-loop-entry : goal.invariant-loop-entry
invariant-loop-entry l =
    (l.count ≡ l.entry-index) × ((k : ℕ) (d : NamedList) → k < l.count → (get_or l.entries k d).own ≡ l.own)
