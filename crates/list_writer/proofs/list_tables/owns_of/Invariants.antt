use Rattle.std.proofs.Common.{◌≡◌, ◌==◌, ℕ, nat_cmp, take}
use Rattle.std.specs.BTreeSet.{contains}
use Rattle.std.specs.List.{list_any}
use Rattle.dw_lists.specs.declared.named_list.NamedList.{NamedList}
use Rattle.list_writer.proofs.list_tables.owns_of.Given as goal

abbrev pub invariant-loop-entry : goal.invariant-loop-entry
invariant-loop-entry l =
    (o : ℕ) → contains nat_cmp l.owns o ≡ list_any (λ (r : NamedList). r.own == o) (take l.entry-index l.named)
