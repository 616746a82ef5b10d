-- The written file of a program is a faithful rewrite of it.
use Rattle.std.proofs.Common.{◌≡◌, subst, ℕ, ◌+◌, ◌-◌, ◌≤◌, Bool, List, length, arith}
use Rattle.std.specs.Prelude.{codes, sum_by}
use Rattle.rv_code.specs.declared.layout.Emitted.{Emitted}
use Rattle.rv_code.specs.declared.placed.Block.{Block}
use Rattle.rv_code.specs.declared.placed.Func.{Func}
use Rattle.rv_code.specs.layout.Blocks.{AreBlocks}
use Rattle.rv_code.specs.layout.ProgramCode.{ProgramCode}
use Rattle.rv_reloc.specs.declared.refs.Refs.{Refs}
use Rattle.elf_image.specs.declared.elf.Elf.{Elf}
use Rattle.elf_image.specs.faults.FileFaults.{IsSound}
use Rattle.elf_image.specs.file.Header.{segments_of}
use Rattle.addr_map.specs.declared.span.Span.{Span}
use Rattle.move_law.specs.FaithfulRewrite.{IsFaithful}
use Rattle.cfg_build.specs.NamedAddresses.{code_of}
use Rattle.branch_fixup.specs.Strips.{pieces_of, strips_of}
use Rattle.code_emit.proofs.SpanBytes.{span_bytes}
use Rattle.elf_write.specs.Area.{area_of}
use Rattle.elf_write.specs.CarriedBytes.{HoldsBytes}
use Rattle.elf_write.specs.FrontBytes.{KeepsBehind, KeepsFront}
use Rattle.elf_write.specs.Source.{HasPlace, Source, source_of}
use Rattle.elf_write.specs.TableSizes.{table_size}
use Rattle.elf_write.specs.WrittenFile.{IsWritten}
use Rattle.cfi_rows.specs.FrameNeed.{frame_need}
use Rattle.area_room.specs.Need.{code_need, need}
use Rattle.bolt_core.specs.GivenTables.{ReadTable}
use Rattle.bolt_core.specs.Refusals.{CanStand}
use Rattle.program.specs.Program.{program_of}
use Rattle.program.specs.Room.{is_tight_program, new_start}
use Rattle.bolt_core.specs.NewCode.{IsLaidOutBy}
use Rattle.bolt_core.specs.RewrittenFile.{FollowsSegments, rewrite_of}
use Rattle.bolt_core.specs.internal.MovedCode.{IsMovedCode}
use Rattle.bolt_core.proofs.Joined.{faithful, puts, source}
use Rattle.bolt_core.proofs.Maps.{bytes_in_order, some_code}
use Rattle.bolt_core.proofs.NewArea.{HasRoom, has_room, needed}
use Rattle.bolt_core.proofs.SomeCode.{entry_named, some_need}
use Rattle.bolt_core.proofs.SoundCode.{IsSoundCode, accepted, laid}
use Rattle.bolt_core.proofs.TableRoom.{SizesFit, area_fits}

module _ (elf : Elf) (funcs : List Func) (refs : Refs) (blocks : List Block) (is : IsSoundCode elf (code_of funcs refs elf.entry))
    (are : AreBlocks (code_of funcs refs elf.entry) blocks) (stands : CanStand (program_of elf funcs refs blocks)) where
  abbrev code : ProgramCode
  code = code_of funcs refs elf.entry

  abbrev tight : Bool
  tight = is_tight_program (program_of elf funcs refs blocks)

  abbrev start : ℕ
  start = new_start (program_of elf funcs refs blocks)

  pub place : HasRoom elf funcs blocks
  place = has_room elf funcs blocks (some_need elf code (accepted elf code is) (laid elf code is) blocks are) stands.room

  pub is_laid_out : (order : List ℕ) (spans : List Span) (emitted : Emitted) →
      IsMovedCode funcs refs.cells.items blocks order start spans emitted →
      IsLaidOutBy (program_of elf funcs refs blocks) order spans emitted.code.items
  is_laid_out order spans emitted moved = record {
    forms = moved.forms;
    are_forms = (moved.mapped).forms;
    spans_are = (moved.mapped).map_is;
    made = moved.made;
  }

  module _ (order : List ℕ) (spans : List Span) (emitted : Emitted)
      (moved : IsMovedCode funcs refs.cells.items blocks order start spans emitted) (given : List ReadTable)
      (sizes : SizesFit (table_size given (codes ".eh_frame")) (table_size given (codes ".eh_frame_hdr"))
      (frame_need elf funcs blocks)) where
    upto : (n most have : ℕ) → n ≤ most → most ≤ have → n ≤ have
    upto n most have short within = omega (arith, short, within)

    pub placed : HasPlace (source_of elf emitted spans given) tight
    placed = record {
      some =
          some_code spans start (length emitted.code.items) elf.entry moved.stretch
          ((moved.is_map refs.roles.items refs.cells.items elf.entry are).named elf.entry
          (entry_named elf code (accepted elf code is)));
      stretch = moved.stretch;
      fits =
          upto _ _ _
          (area_fits elf.segments.items tight (length emitted.code.items) (code_need funcs blocks) (frame_need elf funcs blocks)
          (table_size given (codes ".eh_frame")) (table_size given (codes ".eh_frame_hdr")) moved.fits sizes)
          place.all.within;
    }

    pub area_needed : (area_of elf.segments.items tight (length emitted.code.items) (table_size given (codes ".eh_frame"))
        (table_size given (codes ".eh_frame_hdr"))).end
        - (area_of elf.segments.items tight (length emitted.code.items) (table_size given (codes ".eh_frame"))
        (table_size given (codes ".eh_frame_hdr"))).start ≤ need elf funcs blocks
    area_needed =
        upto _ _ _
        (area_fits elf.segments.items tight (length emitted.code.items) (code_need funcs blocks) (frame_need elf funcs blocks)
        (table_size given (codes ".eh_frame")) (table_size given (codes ".eh_frame_hdr")) moved.fits sizes)
        (needed (code_need funcs blocks + frame_need elf funcs blocks) _ place.all.low)

    module _ (w : List ℕ) (does : (t : Bool) → HasPlace (source_of elf emitted spans given) t →
        IsWritten (source_of elf emitted spans given) t w) where
      abbrev sources : List ℕ → Source
      sources bytes =
          source elf code tight spans (table_size given (codes ".eh_frame")) (table_size given (codes ".eh_frame_hdr")) bytes w

      written : IsWritten (sources emitted.code.items) tight w
      written =
          subst (λ (cs : List (ℕ × ℕ × ℕ)). IsWritten (record {
            elf = elf;
            code = emitted.code.items;
            cells = cs;
            spans = spans;
            frames = table_size given (codes ".eh_frame");
            index = table_size given (codes ".eh_frame_hdr");
          }) tight w) moved.cells_are (does tight placed)

      pub code_there : HoldsBytes w (segments_of w) start emitted.code.items
      code_there = written.code

      pub follows_segments : FollowsSegments (program_of elf funcs refs blocks) given emitted.code.items w
      follows_segments = written.headers

      pub keeps_front : KeepsFront elf tight w
      keeps_front = written.front

      pub keeps_behind : KeepsBehind elf (area_of elf.segments.items tight (length emitted.code.items)
          (table_size given (codes ".eh_frame")) (table_size given (codes ".eh_frame_hdr"))) w
      keeps_behind = written.behind

      pub is_sound : IsSound w
      is_sound = written.sound

      pub is_faithful : IsFaithful (rewrite_of (program_of elf funcs refs blocks) w spans)
      is_faithful =
          let there = puts elf code tight spans (table_size given (codes ".eh_frame")) (table_size given (codes ".eh_frame_hdr"))
          emitted.code.items w written in
          faithful elf code tight spans (table_size given (codes ".eh_frame")) (table_size given (codes ".eh_frame_hdr"))
          emitted.code.items w written
          (moved.is_map refs.roles.items refs.cells.items elf.entry are)
          (span_bytes (strips_of funcs blocks order) moved.forms start spans moved.mapped funcs emitted.code.items
          moved.length_is
          (rewrite_of (program_of elf funcs refs blocks) w spans) there)
          (moved.keeps (rewrite_of (program_of elf funcs refs blocks) w spans) there)

    pub bytes_are : length emitted.code.items ≡ sum_by (λ s. s.len) spans
    bytes_are =
        bytes_in_order start (length emitted.code.items) (pieces_of (strips_of funcs blocks order) moved.forms) spans
        (moved.mapped).map_is moved.length_is
