use Rattle.std.proofs.Common.{rules}
use Rattle.std.specs.Prelude.{nat_le}
use Rattle.std.proofs.lemmas.Bool.{leb-true, leb-false}
use Rattle.std.proofs.lemmas.List.Sorted.{IsPartitionPoint-from_clause, IsPartitionedBy-leb}
use Rattle.elf_plan.specs.declared.fragments.Fragment.{Fragment}
use Rattle.elf_plan.proofs.FragmentLists.{starts_rise}
use Rattle.elf_plan.proofs.fragments.count_fragments_up_to.Goals as goal

pub returns-clause-below : goal.returns-clause-below
returns-clause-below c = λ sorted.
    let parted = IsPartitionedBy-leb (λ (r : Fragment). r.start) c.args.fragments.now c.args.address (starts_rise _ sorted) in
    let point = IsPartitionPoint-from_clause (λ
    (r : Fragment). nat_le r.start c.args.address) _ _ c.partition_point.ensures.partitioned parted
    (λ a r q k. search rules) in
    λ k d within. leb-true _ _ (point.0 k d (search rules) within)

pub returns-clause-above : goal.returns-clause-above
returns-clause-above c = λ sorted.
    let parted = IsPartitionedBy-leb (λ (r : Fragment). r.start) c.args.fragments.now c.args.address (starts_rise _ sorted) in
    let point = IsPartitionPoint-from_clause (λ
    (r : Fragment). nat_le r.start c.args.address) _ _ c.partition_point.ensures.partitioned parted
    (λ a r q k. search rules) in
    λ k d from within. leb-false _ _ (point.1 k d from within)
