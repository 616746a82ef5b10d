-- Moved code: its whole functions move as one piece, so its unwind table can be carried, and there is room for the table.
use Rattle.std.proofs.Common.{◌≡◌, ◌∙◌, ap, sym, subst, ℕ, ◌+◌, ◌*◌, ◌≤◌, ◌<◌, ◌^◌, List, Bool, length, arith}
use Rattle.std.specs.Prelude.{Contains, IsTrue, if◌then◌else◌, sum_by}
use Rattle.std.proofs.lemmas.List.Sorted.{Contains-permutation, IsPermutation-sym}
use Rattle.std.proofs.lemmas.List.Elements.{All-contains}
use Rattle.rb_bytes.proofs.ListLemmas.{all_of}
use Rattle.elf_image.specs.declared.elf.Elf.{Elf}
use Rattle.elf_code.specs.Functions.{AreFunctions}
use Rattle.rv_code.specs.declared.layout.Emitted.{Emitted}
use Rattle.rv_code.specs.declared.placed.Block.{Block}
use Rattle.rv_code.specs.layout.BlockOrders.{HasAllBlocks}
use Rattle.rv_code.specs.layout.Blocks.{AreBlocks}
use Rattle.rv_code.specs.layout.FunctionLists.{AreLaidOut, address_end}
use Rattle.rv_code.specs.layout.ProgramCode.{ProgramCode}
use Rattle.addr_map.specs.declared.span.Span.{Span}
use Rattle.area_room.specs.Need.{code_need}
use Rattle.branch_fixup.specs.Pieces.{end_from, laid_from}
use Rattle.branch_fixup.specs.Strips.{pieces_of, spans_of, strips_of}
use Rattle.branch_fixup.proofs.Laid.{inside}
use Rattle.answer_runs.specs.AnswerRuns.{AreLow, AreRunsOf, carried}
use Rattle.answer_runs.specs.declared.run.Run.{Run}
use Rattle.cfi_rows.specs.Entries.{Fde, Frames}
use Rattle.cfi_rows.specs.FrameNeed.{frame_need, need_of}
use Rattle.cfi_rows.specs.Frames.{eh_frames, tabled}
use Rattle.cfi_rows.specs.ReadFrames.{read_as}
use Rattle.frame_rewrite.specs.declared.eh.EhFrames.{EhFrames}
use Rattle.frame_rewrite.specs.FrameAnswers.{FrameAnswer, cuts_of, is_marked_by}
use Rattle.frame_rewrite.specs.Tables.{AllowsFrames, EhAllows, EhComesFrom, eh_says, run_size}
use Rattle.bolt_core.specs.internal.CarriedTables.{EhRunsFit, HasRoomBehind}
use Rattle.bolt_core.specs.internal.MovedCode.{IsMovedCode}
use Rattle.branch_fixup.specs.WholeMoves.{KeepWhole}
use Rattle.bolt_core.proofs.FrameNeeds.{frame_need_fits}
use Rattle.frame_rewrite.proofs.FramesCarried.{read_is, says_is}
use Rattle.bolt_core.proofs.MarkedFrames.{allows_frames}
use Rattle.branch_fixup.proofs.WholeMoves.{keep_whole}

module _ (elf : Elf) (code : ProgramCode) (blocks : List Block) (laid : AreLaidOut code.funcs) (are : AreBlocks code blocks)
    (order : List ℕ) (perm : HasAllBlocks blocks order) (base : ℕ) (spans : List Span) (emitted : Emitted)
    (moved : IsMovedCode code.funcs code.cells blocks order base spans emitted) (t : EhFrames) (comes : EhComesFrom t elf) where
  whole : KeepWhole code.funcs spans
  whole =
      keep_whole code blocks are order perm moved.forms moved.mapped.forms.by_table base spans
      (λ s is_in. Contains-permutation (spans_of (strips_of code.funcs blocks order) base moved.forms) spans s
      moved.mapped.map_is.same is_in)

  pub allows : AreFunctions elf (tabled elf) code.funcs → AreLow spans → EhAllows t spans
  allows functions low =
      let is_map = moved.is_map code.roles code.cells code.entry are in
      let of_file : AllowsFrames (is_marked_by (cuts_of elf)) (eh_frames elf).list spans =
      allows_frames spans is_map.once is_map.disjoint elf code.funcs functions laid whole is_map.only low in
      subst (λ (m : Fde → Bool). AllowsFrames m (read_as t.frames).list spans) (sym comes.marks)
      (subst (λ (f : Frames). AllowsFrames (is_marked_by (cuts_of elf)) f.list spans) (sym (read_is t elf comes)) of_file)

  -- the need of a loaded table
  needed : IsTrue t.has_section → frame_need elf code.funcs blocks ≡ need_of code.funcs blocks (eh_frames elf)
  needed has = ap (λ (b : Bool). if b then need_of code.funcs blocks (eh_frames elf) else 0) (sym comes.there ∙ has)

  pub frame_room : IsTrue t.has_section → (runs : List (Run FrameAnswer)) → AreRunsOf (carried (eh_says t) spans) runs →
      64 + 64 * (read_as t.frames).cies + sum_by (λ r. run_size r.answer) runs ≤ frame_need elf code.funcs blocks
  frame_room has runs runs_are =
      let of_file = subst (λ (says : ℕ → _). AreRunsOf (carried says spans) runs) (says_is t elf comes) runs_are in
      let fits = frame_need_fits elf code blocks order moved.forms base laid are perm spans moved.mapped.map_is runs of_file in
      let cies : (read_as t.frames).cies ≡ (eh_frames elf).cies = ap (λ (f : Frames). f.cies) (read_is t elf comes) in
      let need = needed has in
      omega (arith, fits, cies, need)

  -- no span ends after the code
  span_end : (s : Span) → Contains spans s → s.out + s.len ≤ base + length emitted.code.items
  span_end s is_in =
      let lines = spans_of (strips_of code.funcs blocks order) base moved.forms in
      let pieces = pieces_of (strips_of code.funcs blocks order) moved.forms in
      let among = Contains-permutation spans lines s (IsPermutation-sym lines spans moved.mapped.map_is.same) is_in in
      let within = All-contains (λ (z : Span). z.out + z.len ≤ end_from base pieces) (laid_from base pieces) s (inside base pieces)
      among in
      let end = moved.length_is in
      omega (arith, within, end)

  module _ (low : base + (code_need code.funcs blocks + frame_need elf code.funcs blocks) ≤ address_end) where
    pub fits : EhRunsFit t spans
    fits runs runs_are has =
        let room = frame_room has runs runs_are in
        let upto = moved.fits in
        all_of (λ (s : Span). s.out + s.len + (64 + 64 * (read_as t.frames).cies + sum_by (λ r. run_size r.answer) runs) ≤ address_end)
        spans (λ s is_in. let end = span_end s is_in in omega (arith, end, room, upto, low))

    pub room_behind : HasRoomBehind t spans (base + length emitted.code.items)
    room_behind has runs runs_are =
        let room = frame_room has runs runs_are in
        let upto = moved.fits in
        omega (arith, room, upto, low)

    pub low_spans : AreLow spans
    low_spans =
        let upto = moved.fits in
        all_of (λ (s : Span). s.out + s.len < 2 ^ 64) spans (λ s is_in.
        let end = span_end s is_in in omega (arith, end, upto, low))

    pub code_low : base + length emitted.code.items ≤ address_end
    code_low = let upto = moved.fits in omega (arith, upto, low)
