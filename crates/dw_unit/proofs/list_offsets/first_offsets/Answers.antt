use Rattle.std.proofs.Common.{◌≡◌, ◌<◌, ◌+◌, ◌-◌, ◌∙◌, ℕ, List, Some, cond, ap, arith, sym, subst, drop, length, get_or, nat_cmp}
use Rattle.std.proofs.lemmas.List.{drop_more}
use Rattle.std.specs.BTreeMap.{get, is_at}
use Rattle.table_core.specs.declared.written.ListAt.{ListAt}
use Rattle.dw_unit.specs.ListKeys.{Offsets}
use Rattle.dw_unit.proofs.ListTables.{offsets_more}
use Rattle.dw_unit.proofs.list_offsets.first_offsets.Goals as goal

abbrev none : ListAt
none = record { entry = 0; attr = 0; offset = 0 }

pub lists-preserved : goal.lists-preserved
lists-preserved c =
    let lists : List ListAt = c.args.lists.now in
    let i : ℕ = c.lists.index - 1 in
    let l : ListAt = get_or lists i none in
    let within : i < length lists = omega (arith, c.lists-test.true, c.lists.auto.index) in
    let next : c.lists.index ≡ i + 1 = omega (arith, c.lists-test.true) in
    let before : Offsets (drop (i + 1) lists) c.lists.offsets = subst (λ (k : ℕ). Offsets (drop k lists) c.lists.offsets) next
    c.lists.invariant in
    subst (λ (ls : List ListAt). Offsets ls c.insert.new.self) (sym (drop_more lists i none within))
    (offsets_more l (drop (i + 1) lists) c.lists.offsets c.insert.new.self c.key.ensures.below before
    (λ q. c.in_ok-insert.ensures.updates.0 q ∙ ap (λ (k : ℕ). cond (is_at (nat_cmp k) q) (Some l.offset) (get nat_cmp c.lists.offsets q))
    c.key.ensures.value))
