-- A written file with the new code is a faithful rewrite of its input.
use Rattle.std.proofs.Common.{◌≡◌, ◌∙◌, refl, sym, ap, subst, ℕ, ◌%◌, ◌^◌, Bool, List, [], ◌∷◌, Option, Some, map}
use Rattle.std.specs.Prelude.{◌||◌, All, Contains, IsFalse, unwrap_or}
use Rattle.std.specs.List.{list_any}
use Rattle.std.proofs.lemmas.List.Elements.{All-contains}
use Rattle.rv_code.specs.declared.cell.CodeCell.{CodeCell}
use Rattle.rv_code.specs.layout.Flow.{insts_of}
use Rattle.rv_code.specs.layout.ProgramCode.{ProgramCode}
use Rattle.elf_image.specs.declared.elf.Elf.{Elf}
use Rattle.elf_image.specs.declared.segment.TheConstants.{PF_R, PF_W, PF_X}
use Rattle.elf_image.specs.memory.LoadedBytes.{byte_at, is_in_range}
use Rattle.rv_code.specs.machine.MemoryNumbers.{number_in}
use Rattle.addr_map.specs.declared.span.Span.{Span}
use Rattle.addr_map.specs.Spans.{new}
use Rattle.elf_image.specs.memory.HiddenFields.{is_hidden_field, is_in_entry_field}
use Rattle.sym_machine.specs.SymStart.{code_cell_range}
use Rattle.move_law.specs.FaithfulRewrite.{GoesOn, IsFaithful, IsMapOf, KeepsByte, KeepsCell, KeepsInst}
use Rattle.move_law.specs.Rewrite.{Goes, Rewrite}
use Rattle.elf_image.specs.memory.Executables.{AreCodeBytes, executable_of, memory_of}
use Rattle.rb_bytes.proofs.ListLemmas.{all_of, in_map}
use Rattle.code_emit.specs.Output.{Puts, new_cell}
use Rattle.bolt_core.proofs.CellNumbers.{cell_number_is}
use Rattle.area_room.specs.Room.{area_start_of}
use Rattle.elf_write.specs.Source.{Source, cell_range}
use Rattle.elf_write.specs.WrittenFile.{IsWritten}

same_ranges : (new : ℕ → ℕ) (a : ℕ) (cells : List CodeCell) →
    list_any (λ cell. is_in_range a (cell_range cell)) (map (new_cell new) cells) ≡ list_any
    (λ cell. is_in_range a (code_cell_range cell)) cells
same_ranges new a [] = refl
same_ranges new a (c ∷ cs) = ap (λ (b : Bool). is_in_range a (code_cell_range c) || b) (same_ranges new a cs)

module _ (elf : Elf) (code : ProgramCode) (tight : Bool) (spans : List Span) (frames index : Option ℕ) (bytes w : List ℕ) where
  abbrev pub source : Source
  source = record {
    elf = elf;
    code = bytes;
    cells = map (new_cell (new spans)) code.cells;
    spans = spans;
    frames = frames;
    index = index;
  }

  abbrev pub rewrite : Rewrite
  rewrite = record { input = elf; code = code; tight = tight; output = executable_of w; spans = spans }

  module _ (written : IsWritten source tight w) where
    pub puts : Puts rewrite code.funcs spans (area_start_of elf.segments.items tight) bytes
    puts = record {
      funcs_are = refl;
      spans_are = refl;
      has_code = record { bytes = written.code; rights = written.executable };
    }

    keeps_byte : (a byte : ℕ) → byte_at elf a ≡ Some byte → KeepsByte rewrite a byte
    keeps_byte a byte there =
        let carried = written.image a byte there in
        record {
          is_loaded = carried.is_loaded;
          rights = record { reads = carried.rights PF_R; writes = carried.rights PF_W; executes = carried.rights PF_X };
          same = λ kept. carried.same
              (subst (λ (b : Bool). IsFalse (b || is_in_entry_field elf a || is_hidden_field elf tight a))
              (sym (same_ranges (new spans) a code.cells)) kept);
        }

    keeps_cell : (c : CodeCell) → Contains code.cells c → KeepsCell rewrite c
    keeps_cell c is_in =
        let holds = All-contains (λ cell. number_in (memory_of (executable_of w)) cell.0 cell.1 ≡ Some cell.2)
        (map (new_cell (new spans)) code.cells)
        (new_cell (new spans) c) written.cells (in_map (new_cell (new spans)) code.cells c is_in) in
        holds ∙ ap (λ (n : ℕ). Some (n % 256 ^ c.width)) (cell_number_is rewrite c.kind)

    pub faithful : IsMapOf rewrite → All (λ s. AreCodeBytes (executable_of w) s.out s.len) spans →
        All (KeepsInst rewrite (Goes (executable_of w))) (insts_of code.funcs) × All (GoesOn rewrite (Goes (executable_of w)))
        (insts_of code.funcs) →
        IsFaithful rewrite
    faithful map span_bytes (insts, goes_on) = record {
      map = map;
      span_bytes = span_bytes;
      insts = insts;
      goes_on = goes_on;
      entry = sym (ap (λ (o : Option ℕ). unwrap_or o elf.entry) written.entry);
      bytes = keeps_byte;
      cells = record { each = all_of (KeepsCell rewrite) code.cells keeps_cell; entry = written.entry_field };
      layout = record {
        table = λ fits. record { place = written.places.table fits; count = written.places.count fits };
        break_start_is = written.places.break_start_is;
        break_bound_is = written.places.break_bound_is;
      };
    }
