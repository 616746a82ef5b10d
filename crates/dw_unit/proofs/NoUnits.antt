-- A file that has neither units nor address tables doesn't change.
use Rattle.std.proofs.Common.{◌≡◌, ◌∙◌, ℕ, List, [], ◌∷◌, false, refl, ap, sym, subst, length}
use Rattle.std.specs.Prelude.{codes, filter, flat_map}
use Rattle.std.specs.List.{AllZip, range_with_len}
use Rattle.rb_bytes.specs.FirstFault.{IsFree}
use Rattle.elf_image.specs.declared.elf.Elf.{Elf}
use Rattle.addr_map.specs.declared.span.Span.{Span}
use Rattle.table_core.specs.declared.written.ListAt.{ListAt}
use Rattle.table_core.specs.DebugUnits.{units_from}
use Rattle.table_core.specs.Sections.{bytes_of}
use Rattle.dw_unit.specs.ChangedEntries.{IsChangedUnit}
use Rattle.dw_unit.specs.Changes.{changed_abbrevs, changed_addr, changed_info, table_bytes}
use Rattle.dw_unit.specs.CompUnits.{Sections, Unit, units}
use Rattle.dw_unit.specs.EntryMoves.{Moves}
use Rattle.dw_unit.specs.Faults.{HasDwarfFault, unit_fault_places}
use Rattle.dw_unit.specs.Tables.{AreNewUnits, sections_of}
use Rattle.dw_unit.proofs.CallEndsOf.{call_end_is, call_end_of, no_call_end}
use Rattle.dw_unit.proofs.NoFaults.{free_of}

-- Sections that only have declarations.
abbrev declared_alone : List ℕ → Sections
declared_alone abbrevs = record { info = []; abbrevs = abbrevs; addr = [] }

none_kept : (xs : List ℕ) → filter (λ x. false) xs ≡ []
none_kept [] = refl
none_kept (x ∷ xs) = none_kept xs

no_units : (abbrevs : List ℕ) → units (declared_alone abbrevs) ≡ []
unfolding units_from
no_units abbrevs = refl

no_info : (m : Moves) (abbrevs : List ℕ) → changed_info (declared_alone abbrevs) m ≡ []
unfolding units_from
no_info m abbrevs = refl

no_abbrevs : (abbrevs : List ℕ) → changed_abbrevs (declared_alone abbrevs) ≡ []
unfolding units_from
no_abbrevs abbrevs = ap (flat_map (table_bytes (declared_alone abbrevs))) (none_kept (range_with_len 0 (length abbrevs)))

no_addr : (m : Moves) → changed_addr m [] ≡ []
unfolding units_from
no_addr m = refl

no_faults : (abbrevs : List ℕ) → IsFree (HasDwarfFault (unit_fault_places (declared_alone abbrevs)))
unfolding units_from
no_faults abbrevs =
    free_of (unit_fault_places (declared_alone abbrevs)) (record { version = refl; form = refl; high = refl; bad = refl })

are_alone : (s : Sections) → s.info ≡ [] → s.addr ≡ [] → s ≡ declared_alone s.abbrevs
are_alone s info addr i = record { info = info i; abbrevs = s.abbrevs; addr = addr i }

pub unchanged : (elf : Elf) (spans : List Span) (lists : List ListAt) → bytes_of elf (codes ".debug_info") ≡ [] →
    bytes_of elf (codes ".debug_addr") ≡ [] → AreNewUnits elf spans lists [] []
unchanged elf spans lists info addr =
    let s : Sections = sections_of elf in
    let m : Moves = record { spans = spans; lists = lists; call_end = call_end_of elf spans } in
    let alone : s ≡ declared_alone s.abbrevs = are_alone s info addr in
    let info_is : changed_info s m ≡ [] = ap (λ (x : Sections). changed_info x m) alone ∙ no_info m s.abbrevs in
    let addr_is : changed_addr m s.addr ≡ [] = ap (changed_addr m) addr ∙ no_addr m in
    record {
      moves = m;
      are_moves = record { spans_are = refl; call_end_is = call_end_is elf spans; no_call_end = no_call_end elf spans };
      lists_are = refl;
      info_is = sym info_is;
      abbrevs_are = sym (ap changed_abbrevs alone ∙ no_abbrevs s.abbrevs);
      units_are = λ f e.
          let t : Sections = sections_of f in
          let again : t ≡ declared_alone t.abbrevs = are_alone t (e.info ∙ info_is) (e.addr ∙ addr_is) in
          subst (λ (us : List Unit). AllZip (IsChangedUnit s t.info m) us (units t)) (sym (ap units alone ∙ no_units s.abbrevs))
          (subst (λ (us : List Unit). AllZip (IsChangedUnit s t.info m) [] us) (sym (ap units again ∙ no_units t.abbrevs)) tt);
      sound = λ f e.
          let t : Sections = sections_of f in
          subst (λ (x : Sections). IsFree (HasDwarfFault (unit_fault_places x)))
          (sym (are_alone t (e.info ∙ info_is) (e.addr ∙ addr_is))) (no_faults t.abbrevs);
    }
