use Rattle.std.proofs.Common.{◌≡◌, ◌≤◌, ◌<◌, ◌+◌, ◌-◌, ◌∙◌, ◌++◌, ◌∷◌, [], ℕ, List, ap, arith, refl, sym, subst, drop, length, append_assoc}
use Rattle.std.specs.Prelude.{flat_map}
use Rattle.dw_unit.specs.declared.entry.Attr.{Attr}
use Rattle.dw_unit.specs.Changes.{Patch, patched, entry_patches}
use Rattle.dw_unit.specs.CompUnits.{Entry, UnitBounds}
use Rattle.dw_unit.specs.EntryChanges.{ArePlaced, HaveRoom}
use Rattle.dw_unit.specs.TablesAt.{told_at}
use Rattle.dw_unit.specs.Told.{told_declaration}
use Rattle.dw_unit.specs.Walking.{entries_at, unit_bounds, walked_entry}
use Rattle.dw_unit.proofs.HighAttrs.{entry_room}
use Rattle.dw_unit.proofs.PlacedAttrs.{placed_less}
use Rattle.dw_unit.proofs.ReadEntries.{AreReadEntries, read_entries}
use Rattle.dw_unit.proofs.WalkSteps.{IsWithHead, if_some, match_none, match_some, or_entries, with_head_parts}
use Rattle.dw_unit.proofs.changed_units.put_entries.Goals as goal

pub put_entry-requires-clause-placed : goal.put_entry-requires-clause-placed
put_entry-requires-clause-placed c =
    let end : ℕ = c.args.unit.end in
    let items : List Attr = c.next_entry.new.attrs.items in
    let behind : c.entries.to + length c.entries.cursor.left ≤ end = c.entries.invariant.behind in
    let placed : ArePlaced (end - length c.entries.cursor.left) (end - length c.next_entry.new.cursor.left) items =
    if_some c.in-Ok-Some.field-0 c.in-Ok-Some.head _ c.in-Ok-Some.field-0-is c.in-Ok-Some.ensures.placed in
    let less : ArePlaced c.entries.to (end - length c.next_entry.new.cursor.left) items =
    placed_less (end - length c.entries.cursor.left) c.entries.to (end - length c.next_entry.new.cursor.left) items
    (omega arith) placed in
    subst (λ (n : ℕ). ArePlaced c.entries.to (end - n) c.deref.result.now) (sym c.left.ensures)
    (subst (λ (l : List Attr). ArePlaced c.entries.to (end - length c.next_entry.new.cursor.left) l) (sym c.deref.ensures.value) less)

pub put_entry-requires-clause-room : goal.put_entry-requires-clause-room
put_entry-requires-clause-room c =
    let b : UnitBounds = unit_bounds c.args.unit.place c.args.unit.end (told_at c.args.unit.table) in
    let items : List Attr = c.next_entry.new.attrs.items in
    let head = c.in-Ok-Some.head in
    let e : Entry = walked_entry b head.place head.depth (told_declaration head.declaration.now) items in
    let es : List Entry = c.entries.invariant.read.0 in
    let parts : IsWithHead e (entries_at b c.next_entry.new.depth c.next_entry.new.cursor.left) es =
    with_head_parts e (entries_at b c.next_entry.new.depth c.next_entry.new.cursor.left) es
    (sym (match_some c.in-Ok-Some.field-0 head _ _ c.in-Ok-Some.field-0-is c.in-Ok-Some.ensures.read) ∙ c.entries.invariant.read.1) in
    let all : AreReadEntries b (e ∷ parts.rest) =
    subst (λ (l : List Entry). AreReadEntries b l) parts.is
    (read_entries b (length c.entries.cursor.left) c.entries.depth c.entries.cursor.left es c.entries.invariant.read.1) in
    subst HaveRoom (sym c.deref.ensures.value) (entry_room b e c.requires.fine all.0)

pub entries-preserved : goal.entries-preserved
entries-preserved c =
    let end : ℕ = c.args.unit.end in
    let b : UnitBounds = unit_bounds c.args.unit.place end (told_at c.args.unit.table) in
    let items : List Attr = c.next_entry.new.attrs.items in
    let head = c.in-Ok-Some.head in
    let e : Entry = walked_entry b head.place head.depth (told_declaration head.declaration.now) items in
    let behind : c.entries.to + length c.entries.cursor.left ≤ end = c.entries.invariant.behind in
    let on : length c.next_entry.new.cursor.left < length c.entries.cursor.left =
    if_some c.in-Ok-Some.field-0 head _ c.in-Ok-Some.field-0-is c.in-Ok-Some.ensures.forward in
    let left_is : c.left.result ≡ length c.next_entry.new.cursor.left = c.left.ensures in
    let rest_parts : IsWithHead e (entries_at b c.next_entry.new.depth c.next_entry.new.cursor.left) c.entries.invariant.read.0 =
    with_head_parts e (entries_at b c.next_entry.new.depth c.next_entry.new.cursor.left) c.entries.invariant.read.0
    (sym (match_some c.in-Ok-Some.field-0 head _ _ c.in-Ok-Some.field-0-is c.in-Ok-Some.ensures.read) ∙ c.entries.invariant.read.1) in
    let to_is : c.in_ok-to-in-Ok-Some.to ≤ end - c.left.result = c.in_ok-to-in-Ok-Some.ensures.to in
    record {
      behind = omega arith;
      bounded = let deepens = c.in-Ok-Some.ensures.deepens in let bounded = c.entries.invariant.bounded in omega arith;
      read = (rest_parts.rest, rest_parts.read);
      put = λ s m u ps x own read.
          let before = c.entries.invariant.put s m u ps x own read in
          let parts : IsWithHead e (entries_at b c.next_entry.new.depth c.next_entry.new.cursor.left) before.0 =
          with_head_parts e (entries_at b c.next_entry.new.depth c.next_entry.new.cursor.left) before.0
          (sym (match_some c.in-Ok-Some.field-0 head _ _ c.in-Ok-Some.field-0-is c.in-Ok-Some.ensures.read) ∙ before.1) in
          let f : Entry → List Patch = entry_patches s m u in
          let whole : f e ++ (flat_map f parts.rest ++ ps) ≡ flat_map f before.0 ++ ps =
          sym (append_assoc (f e) (flat_map f parts.rest) ps) ∙ ap (λ (l : List Entry). flat_map f l ++ ps) (sym parts.is) in (
            parts.rest,
            parts.read,
            c.in_ok-to-in-Ok-Some.ensures.put s m u e (flat_map f parts.rest ++ ps) x own refl refl (sym c.deref.ensures.value)
                ∙ ap (λ (l : List Patch). c.entries.out.items ++ patched c.entries.to l (drop c.entries.to c.args.change.now.info.now))
                whole
                ∙ before.2,
          );
    }

pub returns-in-Ok-None-clause-put : goal.returns-in-Ok-None-clause-put
returns-in-Ok-None-clause-put c = λ s m u ps x own read.
    let before = c.entries.invariant.put s m u ps x own read in
    let none : [] ≡ before.0 = ap (or_entries []) (sym (match_none c.in-Ok-None.field-0 _ _ c.in-Ok-None.field-0-is
    c.in-Ok-None.ensures.read) ∙ before.1) in
    ap (λ (es : List Entry). c.entries.out.items ++ patched c.entries.to (flat_map (entry_patches s m u) es ++ ps)
    (drop c.entries.to c.args.change.now.info.now)) none
    ∙ before.2
