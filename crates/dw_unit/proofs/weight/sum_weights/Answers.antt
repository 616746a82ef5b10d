use Rattle.std.proofs.Common.{◌≡◌, ◌∙◌, ◌+◌, ◌-◌, ◌*◌, ◌^◌, ℕ, List, Option, sym, ap, arith, min, take, get_or}
use Rattle.std.specs.Prelude.{sum_by, unwrap_or}
use Rattle.std.proofs.lemmas.List.Sums.{sum_by_more}
use Rattle.dw_unit.specs.AbbrevWeight.{table_weight}
use Rattle.dw_unit.specs.Declarations.{Table, table_at}
use Rattle.dw_unit.proofs.weight.sum_weights.Goals as goal

saturated : (sum more limit : ℕ) → min (min sum limit + min more limit) limit ≡ min (sum + more) limit
saturated sum more limit = omega arith

pub loop-offset-preserved : goal.loop-offset-preserved
loop-offset-preserved c = λ s e.
    let offset : ℕ = get_or c.args.offsets.now c.loop-offset.offset-index 0 in
    let limit : ℕ = 2 ^ 64 - 1 in
    let sum : ℕ = sum_by (table_weight s) (take c.loop-offset.offset-index c.args.offsets.now) in
    let more : c.table_weight.result ≡ min (table_weight s offset) limit =
    c.table_weight.ensures ∙ ap (λ (o : Option ℕ). min (3 * (unwrap_or o offset - offset)) limit)
    (sym (ap (λ (t : Table). t.end) (ap (λ (b : List ℕ). table_at b offset) e ∙ c.find-table.ensures.table))) in
    c.saturating_add-weight.ensures
    ∙ ap (λ (n : ℕ). min (n + c.table_weight.result) limit) (c.loop-offset.invariant s e)
    ∙ ap (λ (n : ℕ). min (min sum limit + n) limit) more
    ∙ saturated sum (table_weight s offset) limit
    ∙ ap (λ (n : ℕ). min n limit) (sym (sum_by_more (table_weight s) c.args.offsets.now c.loop-offset.offset-index 0
    c.loop-offset-test.true))

pub find-table-requires : goal.find-table-requires
find-table-requires c = c.requires c.loop-offset.offset-index c.loop-offset-test.true
