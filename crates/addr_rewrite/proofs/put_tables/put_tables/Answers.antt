use Rattle.std.proofs.Common.{◌≡◌, ◌∙◌, ◌<◌, ◌≤◌, ◌-◌, ◌+◌, ◌*◌, ◌^◌, ◌++◌, ◌∷◌, ℕ, List, ap, arith, drop, length, subst, sym, take}
use Rattle.addr_rewrite.specs.WrittenAranges.{count_of, spelled_table, spelled_tables, table_bytes, tables_of}
use Rattle.addr_rewrite.specs.declared.stretch.Stretch.{Stretch}
use Rattle.addr_rewrite.proofs.TableSteps.{dropped, no_tables, tables_end, tables_more, taken}
use Rattle.addr_rewrite.proofs.TablesBack.{fewer, front_fewer}
use Rattle.addr_rewrite.proofs.put_tables.put_tables.Goals as goal

pub returns-in-None : goal.returns-in-None
returns-in-None c = no_tables _ c.loop-count.rest.now c.loop-count.out.items _ c.in-None.ensures.cases c.loop-count.invariant.written

pub put_table-requires : goal.put_table-requires
put_table-requires c =
    let less = front_fewer (c.count_of.result + 1) c.loop-count.rest.now in
    let few = c.loop-count.invariant.few in
    subst (λ (l : List Stretch). 28 + 16 * length l < 2 ^ 32 - 1) (sym c.split_at.ensures.front) (omega (arith, less, few, c.requires))

pub loop-count-preserved : goal.loop-count-preserved
loop-count-preserved c =
    let s : Stretch = c.in-Some.first.now in
    let others : List Stretch = c.in-Some.others.now in
    let rest : List Stretch = c.loop-count.rest.now in
    let is : rest ≡ s ∷ others = c.in-Some.ensures.cases.0 in
    let k : ℕ = count_of s.unit others in
    let table : c.split_at.result.0.now ≡ s ∷ take k others =
    c.split_at.ensures.front ∙ ap (λ (n : ℕ). take (n + 1) rest) c.count_of.ensures.count ∙ taken k s others rest is in
    let behind : c.split_at.result.1.now ≡ drop k others =
    c.split_at.ensures.back ∙ ap (λ (n : ℕ). drop (n + 1) rest) c.count_of.ensures.count ∙ dropped k s others rest is in
    record {
      written = ap (λ (l : List Stretch). c.put_table.new.out.items
          ++ spelled_tables (tables_of (length c.args.stretches.now - (c.loop-count.count + 1)) l)) behind
          ∙ tables_more (length c.args.stretches.now) c.loop-count.count s others rest c.loop-count.out.items c.put_table.new.out.items _
          c.loop-count-test.true is
          (c.in_ok-put_table-in-Some.ensures ∙ ap (λ (l : List Stretch). c.loop-count.out.items ++ spelled_table (table_bytes s.unit l))
          table)
          c.loop-count.invariant.written;
      few = let less = fewer (c.count_of.result + 1) rest in
          let few = c.loop-count.invariant.few in
          subst (λ (l : List Stretch). length l ≤ length c.args.stretches.now) (sym c.split_at.ensures.back) (omega (arith, less, few));
    }

pub returns : goal.returns
returns c =
    tables_end (length c.args.stretches.now) c.loop-count.count c.loop-count.rest.now c.loop-count.out.items _ c.loop-count-test.false
    c.loop-count.invariant.written
