use Rattle.std.proofs.Common.{rules, ◌≡◌, ◌≤◌, ◌<◌, ◌∙◌, ◌++◌, ◌∷◌, [], ⊎_elim, refl, ℕ, List, sym, ap, subst, arith, length, min}
use Rattle.std.proofs.lemmas.Bool.{cases_lt}
use Rattle.answer_runs.specs.Choices.{least}
use Rattle.dw_unit.specs.declared.start.Start.{Start}
use Rattle.dw_unit.specs.declared.indexed_table.IndexedTable.{IndexedTable}
use Rattle.dw_unit.specs.Declarations.{Table, table_at, has_bad_form, has_bad_high}
use Rattle.dw_unit.specs.Faults.{places_with}
use Rattle.dw_unit.specs.TableStarts.{AreMarked, IsStart}
use Rattle.dw_unit.specs.Told.{told_table}
use Rattle.dw_unit.proofs.MapKeys.{key_there, keys_kept}
use Rattle.dw_unit.proofs.Starts.{starts_more, first}
use Rattle.dw_unit.proofs.TableSuffixes.{table_past}
use Rattle.dw_unit.proofs.tables.read_at.Goals as goal

same_table : (section : List ℕ) (offset from : ℕ) → from ≡ min offset (length section) → table_at section offset ≡ table_at section from
same_table section offset from e = ⊎_elim
    (λ (h : length section < offset). table_past section offset from (omega arith) (omega arith))
    (λ (h : offset ≤ length section). let is : offset ≡ from = omega arith in ap (table_at section) is)
    (cases_lt (length section) offset)

pub returns-clause-right : goal.returns-clause-right
returns-clause-right c = λ q s e.
    let section : List ℕ = c.args.section.now in
    let old : List IndexedTable = c.args.read.now.items in
    let t : IndexedTable = c.in_ok-table-2.table in
    let from : ℕ = c.min-from.result in
    let from_is : from ≡ min c.args.offset (length section) = c.min-from.ensures in
    let inside : from ≤ length section = omega (arith, from_is) in
    let table_is : t.table ≡ c.in_ok-table.table = c.in_ok-table-2.ensures in
    let told : told_table t.table ≡ told_table c.in_ok-table.table = ap told_table table_is in
    let read : told_table t.table ≡ table_at section from = told ∙ c.in_ok-table.ensures in
    let number_is : c.len-number.result ≡ length old = search rules in
    let marks : AreMarked (told_table t.table) (length old) c.args.starts.now c.mark.new.starts =
    subst (λ (n : ℕ). AreMarked (told_table t.table) n c.args.starts.now c.mark.new.starts) number_is
    (subst (λ (t : Table). AreMarked t c.len-number.result c.args.starts.now c.mark.new.starts) (sym told) c.in_ok-form.ensures.marks) in
    let s0 : Start = record { number = c.len-number.result; index = 0; form = c.in_ok-form.form; high = c.in_ok-form.high } in
    let start : IsStart section (old ++ t ∷ []) c.args.offset s0 =
    first section old t from inside read c.args.offset s0 (same_table section c.args.offset from from_is) number_is refl
    (c.in_ok-form.ensures.form ∙ ap (λ (t : Table). least (places_with has_bad_form t.list)) (sym told))
    (c.in_ok-form.ensures.high ∙ ap (λ (t : Table). least (places_with has_bad_high t.list)) (sym told)) in
    subst (λ (items : List IndexedTable). IsStart section items q s) (sym c.in_ok-push.ensures.items)
    (starts_more section old t from inside read c.args.starts.now c.mark.new.starts c.insert.new.self c.args.offset s0 c.requires marks
    (λ q. c.in_ok-insert.ensures.updates.0 q) start q s e)

pub returns-clause-keeps : goal.returns-clause-keeps
returns-clause-keeps c = λ q h.
    let s0 : Start = record { number = c.len-number.result; index = 0; form = c.in_ok-form.form; high = c.in_ok-form.high } in
    keys_kept c.mark.new.starts c.insert.new.self c.args.offset s0 (λ q. c.in_ok-insert.ensures.updates.0 q) q
    (c.in_ok-form.ensures.keeps q h)

pub returns-clause-there : goal.returns-clause-there
returns-clause-there c =
    let s0 : Start = record { number = c.len-number.result; index = 0; form = c.in_ok-form.form; high = c.in_ok-form.high } in
    key_there c.mark.new.starts c.insert.new.self c.args.offset s0 (λ q. c.in_ok-insert.ensures.updates.0 q)
