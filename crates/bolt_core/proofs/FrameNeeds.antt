-- The need for frames is enough for the runs of `.eh_frame`, for blocks in any order.
use Rattle.std.proofs.Common.{ℕ, ◌+◌, ◌*◌, ◌≤◌, List, sum_by, arith, codes, false}
use Rattle.std.specs.Prelude.{Contains, ◌⊎◌}
use Rattle.std.proofs.Common.{inl, inr}
use Rattle.std.proofs.lemmas.List.Sorted.{Contains-permutation, IsPermutation-sym}
use Rattle.std.specs.List.Sorted.{IsPermutation}
use Rattle.addr_map.specs.declared.span.Span.{Span}
use Rattle.addr_map.specs.MapText.{AreInLineOrder}
use Rattle.addr_map.proofs.Orders.{lines_disjoint, lines_apart}
use Rattle.branch_fixup.proofs.BlockSpans.{Follows, HasInst, Heads, IsLaidByBlocks}
use Rattle.elf_image.specs.declared.elf.Elf.{Elf}
use Rattle.rv_code.specs.declared.layout.Form.{Form}
use Rattle.rv_code.specs.declared.placed.Block.{Block}
use Rattle.rv_code.specs.layout.ProgramCode.{ProgramCode}
use Rattle.rv_code.specs.layout.Blocks.{AreBlocks, block_start}
use Rattle.rv_code.specs.layout.BlockOrders.{HasAllBlocks}
use Rattle.rv_code.specs.layout.FunctionLists.{AreLaidOut}
use Rattle.branch_fixup.specs.Strips.{strips_of, pieces_of, spans_of}
use Rattle.branch_fixup.proofs.Laid.{disjoint, once_each}
use Rattle.branch_fixup.proofs.Placed.{are_strips, strips_once}
use Rattle.answer_runs.specs.declared.run.Run.{Run}
use Rattle.answer_runs.specs.AnswerRuns.{AreRunsOf, carried}
use Rattle.table_core.specs.Sections.{held}
use Rattle.cfi_rows.specs.Frames.{eh_frames}
use Rattle.cfi_rows.specs.FrameNeed.{need_of, piece_count, piece_size}
use Rattle.frame_rewrite.specs.FrameAnswers.{FrameAnswer, eh, is_marked_by, cuts_of}
use Rattle.frame_rewrite.specs.Tables.{run_size}
use Rattle.bolt_core.proofs.FrameCount.{frame_count}
use Rattle.branch_fixup.proofs.LaidBlocks.{laid_by_blocks}
use Rattle.cfi_rows.proofs.MadeEntries.{are_made}

-- Properties of spans that don't depend on their order.
module _ {B : Type 0} (blocks : List B) (start : B → ℕ) (Holds : B → ℕ → Type 0) (spans lines : List Span)
    (same : IsPermutation spans lines) where
  there : (s : Span) → Contains lines s → Contains spans s
  there s c = Contains-permutation lines spans s (IsPermutation-sym spans lines same) c

  pub laid_in_order : IsLaidByBlocks blocks start Holds spans → IsLaidByBlocks blocks start Holds lines
  laid_in_order laid s c some = by (laid s (there s c) some) where
    by : Heads blocks start Holds spans s ⊎ Follows spans s → Heads blocks start Holds lines s ⊎ Follows lines s
    by (inl h) = inl (record {
      b = h.b;
      among = h.among;
      first = record { after = h.first.after; first = λ t k bytes from. h.first.first t (there t k) bytes from };
      holds = h.holds;
    })
    by (inr f) = inr (record {
      t = f.t;
      among = Contains-permutation spans lines f.t same f.among;
      bytes = f.bytes;
      touch = f.touch;
      before = f.before;
      last = λ u k bytes less. f.last u (there u k) bytes less;
    })

-- the longest runs of `.eh_frame` take at most the room that `need` has for its entries
pub frame_sum_fits : (elf : Elf) (code : ProgramCode) (blocks : List Block) (order : List ℕ) (fs : List Form) (base : ℕ) →
    AreLaidOut code.funcs → AreBlocks code blocks → HasAllBlocks blocks order → (spans : List Span) →
    AreInLineOrder (spans_of (strips_of code.funcs blocks order) base fs) spans → (runs : List (Run FrameAnswer)) →
    AreRunsOf (carried (eh elf) spans) runs →
    sum_by (λ r. run_size r.answer) runs
    ≤ sum_by (λ f. piece_count code.funcs blocks (eh_frames elf).list f * piece_size f) (eh_frames elf).list
frame_sum_fits elf code blocks order fs base laid are perm spans lines runs runs_are =
    let pieces = pieces_of (strips_of code.funcs blocks order) fs in
    frame_count (is_marked_by (cuts_of elf)) (eh_frames elf).list
    (λ f c. are_made false (held elf (codes ".eh_frame")).address (held elf (codes ".eh_frame")).bytes f c) code.funcs blocks
    spans (lines_disjoint lines (disjoint base pieces))
    (lines_apart lines
    (once_each base pieces (strips_once (strips_of code.funcs blocks order) (are_strips code blocks order laid are perm) fs)))
    (laid_in_order blocks (block_start code.funcs) (HasInst code.funcs) (spans_of (strips_of code.funcs blocks order) base fs)
    spans lines.same (laid_by_blocks code blocks order laid are perm fs base)) runs runs_are

pub frame_need_fits : (elf : Elf) (code : ProgramCode) (blocks : List Block) (order : List ℕ) (fs : List Form) (base : ℕ) →
    AreLaidOut code.funcs → AreBlocks code blocks → HasAllBlocks blocks order → (spans : List Span) →
    AreInLineOrder (spans_of (strips_of code.funcs blocks order) base fs) spans → (runs : List (Run FrameAnswer)) →
    AreRunsOf (carried (eh elf) spans) runs →
    64 + 64 * (eh_frames elf).cies + sum_by (λ r. run_size r.answer) runs ≤ need_of code.funcs blocks (eh_frames elf)
frame_need_fits elf code blocks order fs base laid are perm spans lines runs runs_are =
    let h = frame_sum_fits elf code blocks order fs base laid are perm spans lines runs runs_are in
    omega (arith, h)
