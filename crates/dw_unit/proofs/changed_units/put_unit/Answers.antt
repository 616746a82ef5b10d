use Rattle.std.proofs.Common.{◌≡◌, ◌+◌, ◌∙◌, ◌++◌, ◌∷◌, ℕ, List, Ok, ap, sym, drop, option_map, arith}
use Rattle.std.proofs.lemmas.Result.{IfOk-weaker}
use Rattle.std.proofs.lemmas.Grind.{common_steps}
use Rattle.std.specs.Prelude.{flat_map}
use Rattle.std.specs.List.{list_any}
use Rattle.byteorder.specs.Endian.{little_bytes}
use Rattle.table_core.specs.DebugUnits.{Walked}
use Rattle.dw_unit.specs.Changes.{Patch, patched, entry_patches, new_offset}
use Rattle.dw_unit.specs.CompUnits.{own_entry, unit_of}
use Rattle.dw_unit.specs.Declarations.{Table, has_bad_high, table_at}
use Rattle.dw_unit.specs.EntryChanges.{own_places}
use Rattle.dw_unit.specs.TablesAt.{told_at}
use Rattle.dw_unit.specs.Faults.{named_declarations}
use Rattle.dw_unit.specs.NamedOffsets.{offset_read}
use Rattle.dw_unit.specs.Trouble.{Read}
use Rattle.dw_unit.specs.Walking.{entries_at, unit_bounds}
use Rattle.dw_unit.proofs.UnitsRead.{header_read}
use Rattle.dw_unit.proofs.WalkSteps.{IsBehindHeader, entries_of, entries_there}
use Rattle.dw_unit.proofs.changed_units.put_unit.Goals as goal

pub returns-clause-put : goal.returns-clause-put
returns-clause-put c = IfOk-weaker c.put_entries.result _ _ (λ to put s m u ps x read.
    let w : Walked = c.args.unit.now in
    let entries = c.unit_entries-entries.result in
    let table : Table = told_at entries.table in
    let offset : ℕ = entries.abbrev_offset in
    let table_is : table_at s.abbrevs offset ≡ table = ap (λ (l : List ℕ). table_at l offset) x.abbrevs
    ∙ c.unit_entries-entries.ensures.table in
    let b : IsBehindHeader w u offset table entries.cursor.left = entries_of s.abbrevs w u offset table entries.cursor.left read
    c.unit_entries-entries.ensures.header table_is in
    let own : c.in_ok-own.own ≡ option_map own_places (own_entry u) = c.in_ok-own.ensures u
    (ap (λ (l : List ℕ). unit_of l w) (sym x.abbrevs) ∙ read) in
    let place_is : entries.place ≡ w.place = c.unit_entries-entries.ensures.place in
    let all : entries_at (unit_bounds entries.place entries.end table) 0 entries.cursor.left ≡ Ok u.entries =
    entries_there s.abbrevs w u offset entries.place entries.end table entries.cursor.left read c.unit_entries-entries.ensures.header
    table_is place_is c.unit_entries-entries.ensures.end in
    let offset_is : c.offset-offset.result ≡ new_offset s u.abbrev_offset =
    x.offsets offset c.offset-offset.result c.offset-offset.ensures ∙ ap (new_offset s) (sym b.at) in
    let more : List Patch = flat_map (entry_patches s m u) u.entries ++ ps in
    let old : List ℕ = c.args.out.now.items in
    let left : List ℕ = drop c.args.from c.args.change.now.info.now in
    put s m u ps x own all
    ∙ c.in_ok-to.ensures.put more
    ∙ ap (λ (k : ℕ). old ++ patched c.args.from (record { place = k + 8; bytes = little_bytes 4 c.offset-offset.result } ∷ more) left)
    (place_is ∙ sym b.place)
    ∙ ap (λ (n : ℕ). old ++ patched c.args.from (record { place = u.place + 8; bytes = little_bytes 4 n } ∷ more) left) offset_is)
    c.put_entries.ensures.put

pub unit_entries-entries-requires-clause-header : goal.unit_entries-entries-requires-clause-header
unit_entries-entries-requires-clause-header c = header_read c.args.change.now.tables.now.section.now c.args.unit.now c.requires.read.0
    c.requires.read.1

pub offset-offset-requires : goal.offset-offset-requires
offset-offset-requires c = c.requires.written c.unit_entries-entries.result.abbrev_offset
    (ap offset_read c.unit_entries-entries.ensures.header)

pub put_entries-requires-clause-fine : goal.put_entries-requires-clause-fine
put_entries-requires-clause-fine c =
    sym (ap (λ (t : Table). list_any has_bad_high t.list) c.unit_entries-entries.ensures.table)
    ∙ sym (ap (λ (r : Read ℕ). list_any has_bad_high (named_declarations c.args.change.now.tables.now.section.now r))
    c.unit_entries-entries.ensures.header)
    ∙ c.requires.fine

pub put_entries-requires-clause-read : goal.put_entries-requires-clause-read
put_entries-requires-clause-read c =
    let entries = c.unit_entries-entries.result in (
      c.requires.read.0.entries,
      entries_there c.args.change.now.tables.now.section.now c.args.unit.now c.requires.read.0 entries.abbrev_offset entries.place
          entries.end (told_at entries.table)
          entries.cursor.left c.requires.read.1 c.unit_entries-entries.ensures.header c.unit_entries-entries.ensures.table
          c.unit_entries-entries.ensures.place c.unit_entries-entries.ensures.end,
    )

pub put_entries-requires-clause-behind : goal.put_entries-requires-clause-behind
put_entries-requires-clause-behind c = grind (arith, common_steps)
