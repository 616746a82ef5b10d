-- The debug sections that units are read from, and how the sections of the written file follow from the input's.
use Rattle.std.specs.Prelude.{◌≡◌, ◌+◌, ◌%◌, ◌^◌, ℕ, IsTrue, List, [], ◌∷◌, codes, Contains, Option, Some, None}
use Rattle.rv_code.specs.declared.inst.Inst.{Inst}
use Rattle.rv_code.specs.isa.Action.{action_of}
use Rattle.rv_code.specs.layout.Flow.{is_call}
use Rattle.elf_image.specs.declared.elf.Elf.{Elf}
use Rattle.elf_code.specs.Parts.{IsInstAt}
use Rattle.rb_bytes.specs.FirstFault.{IsFree}
use Rattle.addr_map.specs.declared.span.Span.{Span}
use Rattle.answer_runs.specs.Choices.{unless_any}
use Rattle.table_core.specs.declared.written.ListAt.{ListAt}
use Rattle.table_core.specs.Sections.{bytes_of}
use Rattle.dw_unit.specs.Faults.{FaultPlaces, HasDwarfFault, unit_fault_places}
use Rattle.dw_unit.specs.EntryMoves.{Moves, new_list_offset}
use Rattle.dw_unit.specs.CompUnits.{Sections}
use Rattle.dw_unit.specs.ChangedEntries.{AreChangedUnits}
use Rattle.dw_unit.specs.Changes.{changed_info, changed_abbrevs, changed_addr}

-- The sections of a file that units are read from.
abbrev pub sections_of : Elf → Sections
sections_of elf = record {
  info = bytes_of elf (codes ".debug_info");
  abbrevs = bytes_of elf (codes ".debug_abbrev");
  addr = bytes_of elf (codes ".debug_addr");
}

-- A call that was moved ends at address `from` in the input and at address `to` in the output.
pub record IsCallEnd (elf : Elf) (spans : List Span) (from to : ℕ) : Type 0 where
  pub span : Span
  pub listed : Contains spans span
  pub inst : Inst
  pub bytes : ℕ
  pub there : IsInstAt elf span.input inst bytes
  pub calls : IsTrue (is_call (action_of inst))
  pub from_is : from ≡ span.input + bytes
  pub to_is : to ≡ (span.out + bytes) % 2 ^ 64

-- `m` has the moves of the spans `spans`, and the ends of the calls that they move.
pub record AreMovesOf (elf : Elf) (spans : List Span) (m : Moves) : Type 0 where
  pub spans_are : m.spans ≡ spans
  pub call_end_is : (from to : ℕ) → m.call_end from ≡ Some to → IsCallEnd elf spans from to
  pub no_call_end : (from to : ℕ) → m.call_end from ≡ None → IsCallEnd elf spans from to → ⊥

-- The three sections of the file `f` are the changed sections of the input `i`.
pub record AreChanged (m : Moves) (i f : Elf) : Type 0 where
  pub info : bytes_of f (codes ".debug_info") ≡ changed_info (sections_of i) m
  pub abbrevs : bytes_of f (codes ".debug_abbrev") ≡ changed_abbrevs (sections_of i)
  pub addr : bytes_of f (codes ".debug_addr") ≡ changed_addr m (sections_of i).addr

-- The sections are changed for the spans, with the lists `lists` and no others.
pub record AreChangedWith (spans : List Span) (lists : List ListAt) (i f : Elf) : Type 0 where
  pub moves : Moves
  pub are_moves : AreMovesOf i spans moves
  pub lists_are : moves.lists ≡ lists
  pub changed : AreChanged moves i f
  pub units_are : AreChangedUnits (sections_of i) moves (sections_of f)

-- The sections are changed for the spans, with lists among which `lists` are found.
pub record AreChangedBy (spans : List Span) (lists : List ListAt) (i f : Elf) : Type 0 where
  pub moves : Moves
  pub are_moves : AreMovesOf i spans moves
  pub named : (l : ListAt) → Contains lists l → new_list_offset moves.lists l.entry l.attr ≡ Some l.offset
  pub changed : AreChanged moves i f
  pub units_are : AreChangedUnits (sections_of i) moves (sections_of f)

-- The new `.debug_info` and `.debug_abbrev` of a file whose code moves. In each file with these sections and the
-- changed `.debug_addr`, each entry keeps its offset, and all units can be read.
pub record AreNewUnits (elf : Elf) (spans : List Span) (lists : List ListAt) (info abbrevs : List ℕ) : Type 0 where
  pub moves : Moves
  pub are_moves : AreMovesOf elf spans moves
  pub lists_are : moves.lists ≡ lists
  pub info_is : info ≡ changed_info (sections_of elf) moves
  pub abbrevs_are : abbrevs ≡ changed_abbrevs (sections_of elf)
  pub units_are : (f : Elf) → AreChanged moves elf f → AreChangedUnits (sections_of elf) moves (sections_of f)
  pub sound : (f : Elf) → AreChanged moves elf f → IsFree (HasDwarfFault (unit_fault_places (sections_of f)))

-- The answers, unless there is a fault.
abbrev pub answers_if_free : {A : Type 0} → FaultPlaces → (ℕ → Option A) → Option (ℕ → Option A)
answers_if_free p answers = unless_any (p.version ∷ p.form ∷ p.high ∷ p.bad ∷ []) answers
