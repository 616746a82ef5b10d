use Rattle.std.proofs.Common.{◌≡◌, ◌∙◌, ◌<◌, ◌-◌, ◌+◌, ◌*◌, ◌^◌, ◌++◌, List, ap, arith, length, map, subst, sym}
use Rattle.std.proofs.lemmas.List.{length-map}
use Rattle.std.proofs.lemmas.List.Sorted.{length_permutation}
use Rattle.addr_rewrite.specs.WrittenAranges.{spelled_tables, stretch_of, tables_of}
use Rattle.addr_rewrite.specs.declared.stretch.Stretch.{Stretch}
use Rattle.addr_rewrite.proofs.write_runs.put_runs.Goals as goal

pub put_tables-requires : goal.put_tables-requires
put_tables-requires c =
    let ss : List Stretch = c.in_ok-stretches.stretches.items in
    let count : length ss ≡ length c.args.runs.now =
    length_permutation (map stretch_of c.args.runs.now) ss c.in_ok-stretches.ensures.same ∙ length-map c.args.runs.now stretch_of in
    subst (λ (l : List Stretch). 28 + 16 * length l < 2 ^ 32 - 1) (sym c.deref.ensures.value) (omega (arith, count, c.requires.few))

pub returns : goal.returns
returns c =
    let ss : List Stretch = c.in_ok-stretches.stretches.items in (
      ss,
      c.in_ok-stretches.ensures.same,
      c.in_ok-stretches.ensures.rises,
      c.in_ok-put_tables.ensures
          ∙ ap (λ (l : List Stretch). c.args.out.now.items ++ spelled_tables (tables_of (length l) l)) c.deref.ensures.value,
    )
