use Rattle.std.proofs.Common.{◌<◌, sym, subst, arith, rules}
use Rattle.std.specs.Prelude.{nat_le}
use Rattle.std.proofs.lemmas.List.{get_or_default}
use Rattle.std.proofs.lemmas.List.Sorted.{IsPartitionPoint-from_clause, IsPartitionedBy-leb}
use Rattle.rv_code.specs.declared.placed.Func.{Func}
use Rattle.rv_code.proofs.lists.FunctionAt.{IsAbove, ends_rise, above_from, function_at-found, function_at-absent}
use Rattle.rv_code.proofs.functions.function_at.Goals as goal
use Rattle.rv_code.proofs.functions.function_at.Goals.{else-above-funcs-via-then-above-funcs+else-funcs-above}
use Rattle.rv_code.proofs.functions.function_at.Goals.{else-above-funcs-via-else-above-funcs}

pub returns-then-funcs-above : goal.returns-then-funcs-above
returns-then-funcs-above c =
    let funcs = c.args.funcs.now in
    let k = c.partition_point-above.result in
    let is : IsAbove funcs c.args.address k = above_from funcs c.args.address k c.partition_point-above.ensures.bound
    (IsPartitionPoint-from_clause (λ
    (f : Func). nat_le f.end c.args.address) _ _ c.partition_point-above.ensures.partitioned (IsPartitionedBy-leb (λ
    (f : Func). f.end) _ c.args.address (ends_rise funcs c.requires)) (λ a r q k. search rules)) in
    sym (function_at-found funcs c.args.address k c.index-funcs-above.result is c.if-above-funcs.true c.if-funcs-above.true)

pub returns-else-above-funcs : goal.returns-else-above-funcs
returns-else-above-funcs c =
    let funcs = c.args.funcs.now in
    let k = c.partition_point-above.result in
    let is : IsAbove funcs c.args.address k = above_from funcs c.args.address k c.partition_point-above.ensures.bound
    (IsPartitionPoint-from_clause (λ
    (f : Func). nat_le f.end c.args.address) _ _ c.partition_point-above.ensures.partitioned (IsPartitionedBy-leb (λ
    (f : Func). f.end) _ c.args.address (ends_rise funcs c.requires)) (λ a r q k. search rules)) in
    sym (function_at-absent funcs c.args.address k c.requires is (λ d lt.
    elim c.else-above-funcs.branch [
      | else-above-funcs-via-then-above-funcs+else-funcs-above w ↦
          subst (λ (x : Func). c.args.address < x.start)
          (get_or_default funcs k w.index-funcs-above.result d lt) w.if-funcs-above.false
      | else-above-funcs-via-else-above-funcs w ↦ let past = w.if-above-funcs.false in absurd (omega arith)
    ]))
