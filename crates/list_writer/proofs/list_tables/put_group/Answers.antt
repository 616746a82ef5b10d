use Rattle.std.proofs.Common.{◌≡◌, ◌∙◌, ◌+◌, ◌*◌, ◌<◌, ◌^◌, ℕ, List, ap, subst, length, rules}
use Rattle.list_writer.specs.WrittenTables.{ArePut, IsTablePut}
use Rattle.list_writer.proofs.UnitTables.{group_written}
use Rattle.list_writer.proofs.list_tables.put_group.Goals as goal

pub returns : goal.returns
returns c = λ tables lo bound before named up rise owned apart.
    let lists = c.args.lists.now in
    let body : List ℕ = c.in_ok-body.body.bytes.items in
    let indexes = c.in_ok-body.body.indexes in
    let count : ℕ = c.in_ok-count.count in
    let base : ℕ = c.in_ok-base.base in
    let size : c.len.result ≡ length c.args.out.now.items = search rules in
    let based : base ≡ length c.args.out.now.items + 12 = c.in_ok-base.ensures.0 ∙ ap (λ (n : ℕ). n + 12) size in
    let start : c.in_ok-start.start ≡ base + 4 * count = c.in_ok-start.ensures.0 ∙ ap (λ (n : ℕ). base + n) c.in_ok-size.ensures.0 in
    let put : ArePut c.args.kind lists (base + 4 * count) lo bound body indexes c.args.names.now.items c.table_body.new.names.items
    c.args.entries.now =
    subst (λ (n : ℕ). ArePut c.args.kind lists n lo bound body indexes c.args.names.now.items c.table_body.new.names.items
    c.args.entries.now) start
    (c.in_ok-body.ensures.put c.args.kind lo bound named up) in
    let table : IsTablePut count indexes body c.args.out.now.items c.put_table.new.out.items =
    subst (λ (l : List ℕ). IsTablePut count indexes l c.args.out.now.items c.put_table.new.out.items) c.deref.ensures.value
    c.in_ok-put_table.ensures in
    group_written c.args.kind lists lo bound count base c.args.entries.now c.args.units.now tables c.args.out.now.items
    c.put_table.new.out.items body indexes c.args.names.now.items c.table_body.new.names.items c.name_bases.new.names.items before based
    c.in_ok-base.ensures.1 (subst (λ (n : ℕ). n < 2 ^ 32) c.in_ok-size.ensures.0 c.in_ok-size.ensures.1) c.in_ok-body.ensures.first put rise
    owned apart c.in_ok-count.ensures c.in_ok-name_bases.ensures table
