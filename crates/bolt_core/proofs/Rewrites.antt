-- A written file is a rewrite of its input, and keeps its runs.
use Rattle.std.proofs.Common.{◌≡◌, ◌∙◌, refl, sym, subst, ap, ℕ, ◌+◌, ◌*◌, ◌%◌, ◌<◌, ◌≤◌, Bool, List, [], ◌∷◌, cond, get_or, length}
use Rattle.std.proofs.Common.{map, Fits, w8}
use Rattle.std.specs.Prelude.{All, AllPairs, IsTrue, codes, count_by, nat_lt, sum_by}
use Rattle.std.specs.List.{fold}
use Rattle.std.proofs.Math.Facts.{Fits-lt-pow}
use Rattle.std.proofs.lemmas.List.{get_or_default}
use Rattle.rv_code.specs.declared.layout.Chains.{Chains}
use Rattle.rv_code.specs.declared.layout.Emitted.{Emitted}
use Rattle.rv_code.specs.declared.placed.Block.{Block}
use Rattle.rv_code.specs.declared.placed.Func.{Func}
use Rattle.rv_code.specs.layout.Flow.{insts_of}
use Rattle.rv_code.specs.layout.FunctionLists.{address_end}
use Rattle.rv_code.specs.layout.WorstSizes.{worst_size_of_block}
use Rattle.elf_image.specs.declared.elf.Elf.{Elf}
use Rattle.elf_image.specs.faults.FileFaults.{IsSound}
use Rattle.addr_map.specs.declared.span.Span.{Span}
use Rattle.addr_map.specs.Spans.{new}
use Rattle.rv_reloc.specs.declared.refs.Refs.{Refs}
use Rattle.edge_profile.specs.PairCounts.{Counted, ignored_in}
use Rattle.edge_profile.specs.Weights.{block_weight, is_hot_block}
use Rattle.move_law.specs.FaithfulRewrite.{IsFaithful}
use Rattle.move_law.specs.Laws.{KeepsCode}
use Rattle.move_law.proofs.Law.{simulation_law}
use Rattle.branch_fixup.specs.Inputs.{AreNear}
use Rattle.func_place.specs.Nearness.{AreTiedNear}
use Rattle.elf_write.specs.NewTables.{HasNewTables, area_for}
use Rattle.elf_write.specs.Source.{HasPlace, source_of}
use Rattle.elf_write.specs.TablePlaces.{TablesStand}
use Rattle.elf_write.specs.TableSizes.{table_size}
use Rattle.area_room.specs.Need.{code_need}
use Rattle.answer_runs.specs.AnswerRuns.{AreLow, AreRunsOf, carried}
use Rattle.answer_runs.specs.declared.run.Run.{Run}
use Rattle.cfi_rows.specs.FrameNeed.{frame_need}
use Rattle.cfi_rows.specs.ReadFrames.{read_as}
use Rattle.frame_rewrite.specs.FrameAnswers.{FrameAnswer}
use Rattle.frame_rewrite.specs.Tables.{EhAllows, eh_says, run_size}
use Rattle.rv_code.specs.layout.BlockOrders.{HasAllBlocks}
use Rattle.elf_write.specs.WrittenFile.{AreApart, CanHold, IsWritten}
use Rattle.program.specs.Program.{Program, program_of}
use Rattle.program.specs.Room.{is_tight_program, new_start}
use Rattle.bolt_core.specs.CarriedAnswers.{CarriesTables}
use Rattle.bolt_core.specs.GivenTables.{ReadTable}
use Rattle.table_set.specs.AllTables.{AllComeFrom}
use Rattle.table_set.specs.declared.all.AllTables.{AllTables}
use Rattle.bolt_core.specs.internal.CarriedTables.{AreNewTables, EhRunsFit, HasRoomBehind}
use Rattle.table_set.specs.TableLimits.{IsTooHeavy}
use Rattle.bolt_core.specs.Limits.{IsTooLarge}
use Rattle.bolt_core.specs.NewCode.{IsLaidOutBy}
use Rattle.bolt_core.specs.ProfileOrder.{IsProfileOrder, cold_starts, hot_count}
use Rattle.bolt_core.specs.Refusals.{CanStand, IsInput}
use Rattle.bolt_core.specs.RewriteCounts.{RewriteCounts}
use Rattle.bolt_core.specs.RewrittenFile.{IsRewritten, KeepsRuns, KeepsRunsSoFar, rewrite_of}
use Rattle.bolt_core.specs.internal.MovedCode.{IsMovedCode}
use Rattle.bolt_core.proofs.CellFields.{all_apart, all_hold}
use Rattle.bolt_core.proofs.Near.{near_blocks}
use Rattle.bolt_core.proofs.NewArea.{start_even}
use Rattle.bolt_core.proofs.SoundCode.{IsSoundCode, accepted, laid, of_input}
use Rattle.bolt_core.proofs.WrittenOutput.{area_needed, bytes_are, code_there, follows_segments, is_faithful, is_laid_out, is_sound}
use Rattle.bolt_core.proofs.WrittenOutput.{keeps_behind, keeps_front, place, placed}
use Rattle.bolt_core.proofs.TableNeeds.{allows, code_low, fits, frame_room, low_spans, room_behind}
use Rattle.bolt_core.proofs.TableRoom.{SizesFit}
use Rattle.bolt_core.proofs.TablesCarried.{are_given, carries_tables, sizes_fit}

module _ {file profile : List ℕ} {x : Program} (input : IsInput file profile x) (bytes : All (λ b. b < 256) file)
    (w : List ℕ) (written : All (λ b. b < 256) w) (sound : IsSound w) (spans : List Span)
    (faithful : IsFaithful (rewrite_of x w spans)) where
  keeps : KeepsCode (rewrite_of x w spans)
  keeps = record {
    accepted = accepted x.elf x.code (of_input input bytes);
    output = record { bytes = written; is = refl; sound = sound };
    faithful = faithful;
  }

  keeps_runs : KeepsRuns x w spans
  keeps_runs = λ args given fit n trace status run. simulation_law.runs (rewrite_of x w spans) keeps args given fit n trace
      status run

  keeps_so_far : KeepsRunsSoFar x w spans
  keeps_so_far = λ args given fit n trace run. simulation_law.so_far (rewrite_of x w spans) keeps args given fit n trace run

-- counts that are equal field by field
pub counted : (functions instructions bytes hot ignored instructions' bytes' hot' ignored' : ℕ) → instructions ≡ instructions' →
    bytes ≡ bytes' → hot ≡ hot' → ignored ≡ ignored' →
    ◌≡◌ {A = RewriteCounts}
    (record { functions = functions; instructions = instructions; bytes = bytes; hot = hot; ignored = ignored })
    (record { functions = functions; instructions = instructions'; bytes = bytes'; hot = hot'; ignored = ignored' })
counted functions instructions bytes hot ignored instructions' bytes' hot' ignored' e f g h = λ i. record {
  functions = functions;
  instructions = e i;
  bytes = f i;
  hot = g i;
  ignored = h i;
}

-- the items of a slice of bytes are bytes
pub all_bytes : (bytes : List ℕ) → ((k : ℕ) → Fits w8 (get_or bytes k 0)) → All (λ b. b < 256) bytes
all_bytes bytes fit = λ k d within. subst (λ n. n < 256) (get_or_default bytes k 0 d within) (Fits-lt-pow (fit k))

-- the hot blocks are those with positive weights
count_from : {X : Type 0} (weight : X → ℕ) (n : ℕ) (xs : List X) →
    fold (λ (a : ℕ) (b : ℕ). a + cond (nat_lt 0 b) 1 0) n (map weight xs)
    ≡ fold (λ (a : ℕ) (x : X). a + cond (nat_lt 0 (weight x)) 1 0) n xs
count_from weight n [] = refl
count_from weight n (x ∷ xs) = count_from weight (n + cond (nat_lt 0 (weight x)) 1 0) xs

count_of : {X : Type 0} (weight : X → ℕ) (xs : List X) →
    count_by (nat_lt 0) (map weight xs) ≡ count_by (λ x. nat_lt 0 (weight x)) xs
count_of weight xs = count_from weight 0 xs

pub hot_counted : (pairs : List Counted) (funcs : List Func) (blocks : List Block) (given weights : List ℕ) (hot : ℕ) →
    given ≡ weights → weights ≡ map (block_weight pairs funcs) blocks → hot ≡ count_by (nat_lt 0) given →
    hot ≡ count_by (is_hot_block pairs funcs) blocks
hot_counted pairs funcs blocks given weights hot same are is =
    is ∙ ap (λ (ws : List ℕ). count_by (nat_lt 0) ws) (same ∙ are) ∙ count_of (block_weight pairs funcs) blocks

module _ {file profile : List ℕ} (elf : Elf) (funcs : List Func) (refs : Refs) (blocks : List Block)
    (input : IsInput file profile (program_of elf funcs refs blocks)) (bytes : All (λ b. b < 256) file) where
  abbrev x : Program
  x = program_of elf funcs refs blocks

  pub sound_code : IsSoundCode elf x.code
  sound_code = of_input input bytes

  pub near : (order : List ℕ) → AreTiedNear funcs blocks order → AreNear funcs blocks order
  near order tied =
      near_blocks x.code blocks (input.program).blocks_are (laid elf x.code sound_code) order tied

  pub even : (start : ℕ) → start ≡ new_start x → start % 2 ≡ 0
  even start is =
      subst (λ (s : ℕ). s % 2 ≡ 0) (sym is) (start_even elf.segments.items (is_tight_program x))

  module _ (stands : CanStand x) where
    pub room : (start : ℕ) → start ≡ new_start x → start + sum_by (worst_size_of_block funcs) blocks ≤ address_end
    room start is =
        subst (λ (s : ℕ). s + sum_by (worst_size_of_block funcs) blocks ≤ address_end) (sym is)
        (place elf funcs refs blocks sound_code (input.program).blocks_are stands).low

    module _ (start : ℕ) (start_is : start ≡ new_start x) (order : List ℕ) (spans : List Span) (emitted : Emitted)
        (made : IsMovedCode funcs refs.cells.items blocks order start spans emitted) where
      moved : IsMovedCode funcs refs.cells.items blocks order (new_start x) spans emitted
      moved = subst (λ (s : ℕ). IsMovedCode funcs refs.cells.items blocks order s spans emitted) start_is made

      pub cells_held : All (CanHold elf) emitted.cells.items
      cells_held =
          subst (λ (cs : List (ℕ × ℕ × ℕ)). All (CanHold elf) cs) (sym made.cells_are)
          (all_hold elf x.code (accepted elf x.code sound_code) (new spans))

      pub cells_apart : AllPairs AreApart emitted.cells.items
      cells_apart =
          subst (λ (cs : List (ℕ × ℕ × ℕ)). AllPairs AreApart cs) (sym made.cells_are)
          (all_apart elf x.code (accepted elf x.code sound_code) (new spans))

      pub laid_out_by : IsLaidOutBy x order spans emitted.code.items
      laid_out_by = is_laid_out elf funcs refs blocks sound_code (input.program).blocks_are stands order spans emitted moved

      -- The tables that are carried.

      module _ (order_all : HasAllBlocks blocks order) (t : AllTables) (comes : AllComeFrom t elf) where
        all_low : start + (code_need funcs blocks + frame_need elf funcs blocks) ≤ address_end
        all_low =
            subst (λ (s : ℕ). s + (code_need funcs blocks + frame_need elf funcs blocks) ≤ address_end) (sym start_is)
            (place elf funcs refs blocks sound_code (input.program).blocks_are stands).all.low

        pub spans_low : AreLow spans
        spans_low =
            low_spans elf x.code blocks (laid elf x.code sound_code) (input.program).blocks_are order order_all start spans emitted
            made t.eh comes.eh all_low

        pub allowed : EhAllows t.eh spans
        allowed =
            allows elf x.code blocks (laid elf x.code sound_code) (input.program).blocks_are order order_all start spans emitted made
            t.eh comes.eh (sound_code.code_is).funcs spans_low

        pub eh_fits : EhRunsFit t.eh spans
        eh_fits =
            fits elf x.code blocks (laid elf x.code sound_code) (input.program).blocks_are order order_all start spans emitted made
            t.eh comes.eh all_low

        pub behind : HasRoomBehind t.eh spans (start + length emitted.code.items)
        behind =
            room_behind elf x.code blocks (laid elf x.code sound_code) (input.program).blocks_are order order_all start spans emitted
            made t.eh comes.eh all_low

        pub low : start + length emitted.code.items ≤ address_end
        low =
            code_low elf x.code blocks (laid elf x.code sound_code) (input.program).blocks_are order order_all start spans emitted
            made t.eh comes.eh all_low

        pub room_for : IsTrue t.eh.has_section → (runs : List (Run FrameAnswer)) → AreRunsOf (carried (eh_says t.eh) spans) runs →
            64 + 64 * (read_as t.eh.frames).cies + sum_by (λ r. run_size r.answer) runs ≤ frame_need elf funcs blocks
        room_for =
            frame_room elf x.code blocks (laid elf x.code sound_code) (input.program).blocks_are order order_all start spans emitted
            made t.eh comes.eh

      module _ (given : List ReadTable) (t : AllTables) (comes : AllComeFrom t elf) (order_all : HasAllBlocks blocks order)
          (new : AreNewTables elf t spans start (length emitted.code.items) given)
          (cold w : List ℕ) (w_bytes : All (λ b. b < 256) w)
          (written : (t : Bool) → HasPlace (source_of elf emitted spans given) t → IsWritten (source_of elf emitted spans given) t w)
          (tables : (t : Bool) → HasPlace (source_of elf emitted spans given) t →
          HasNewTables elf given emitted.code.items funcs cold spans t w)
          (stand : (t : Bool) → (T : HasNewTables elf given emitted.code.items funcs cold spans t w) →
          TablesStand elf T.new given (area_for elf given emitted.code.items t))
          (pairs : List Counted) (parts : Chains) (ordered : IsProfileOrder x profile pairs parts order)
          (cold_is : cold ≡ cold_starts funcs blocks parts)
          (fits : (place : ℕ) → IsTooLarge elf funcs cold place → ⊥) (light : IsTooHeavy elf spans → ⊥) where
        sizes : SizesFit (table_size given (codes ".eh_frame")) (table_size given (codes ".eh_frame_hdr"))
            (frame_need elf funcs blocks)
        sizes =
            sizes_fit elf t comes spans start emitted.code.items given new (frame_need elf funcs blocks) (room_for order_all t comes)

        sound : IsSound w
        sound =
            is_sound elf funcs refs blocks sound_code (input.program).blocks_are stands order spans emitted moved given sizes w written

        faithful : IsFaithful (rewrite_of x w spans)
        faithful =
            is_faithful elf funcs refs blocks sound_code (input.program).blocks_are stands order spans emitted moved given sizes w
            written

        -- the tables that are read of the written file have the input's answers
        abbrev Answers : List ℕ → Type 0
        Answers names = (T : HasNewTables elf given emitted.code.items funcs names spans (is_tight_program x) w)
            × CarriesTables spans elf T.new

        answers : Answers cold
        answers =
            let T = tables (is_tight_program x)
            (placed elf funcs refs blocks sound_code (input.program).blocks_are stands order spans emitted moved given sizes) in (
              T,
              carries_tables elf t comes spans start emitted.code.items given new T.new (is_tight_program x) start_is
                  (stand (is_tight_program x) T),
            )

        named_answers : Answers (cold_starts funcs blocks parts)
        named_answers = subst Answers cold_is answers

        pub rewritten : (instructions size hot ignored : ℕ) → instructions ≡ length (insts_of funcs) →
            size ≡ length emitted.code.items → hot ≡ hot_count x pairs → ignored ≡ ignored_in profile elf funcs →
            IsRewritten file profile w spans (record {
              functions = length funcs;
              instructions = instructions;
              bytes = size;
              hot = hot;
              ignored = ignored;
            })
        rewritten instructions size hot ignored instructions_are size_is hot_is ignored_is = record {
          program = x;
          accepted = input;
          stands = stands;
          pairs = pairs;
          parts = parts;
          order = order;
          fits = subst (λ (c : List ℕ). (place : ℕ) → IsTooLarge elf funcs c place → ⊥) cold_is fits;
          light = light;
          sound = sound;
          faithful = faithful;
          runs = keeps_runs input bytes w w_bytes sound spans faithful;
          so_far = keeps_so_far input bytes w w_bytes sound spans faithful;
          ordered = ordered;
          code = emitted.code.items;
          laid_out = is_laid_out elf funcs refs blocks sound_code (input.program).blocks_are stands order spans emitted moved;
          stretch = moved.stretch;
          code_stands =
              code_there elf funcs refs blocks sound_code (input.program).blocks_are stands order spans emitted moved given sizes w
              written;
          given = given;
          are_given = are_given elf t comes spans start emitted.code.items given new;
          tables = named_answers.0;
          headers =
              follows_segments elf funcs refs blocks sound_code (input.program).blocks_are stands order spans emitted moved given
              sizes w written;
          needed =
              area_needed elf funcs refs blocks sound_code (input.program).blocks_are stands order spans emitted moved given sizes;
          answers = named_answers.1;
          front =
              keeps_front elf funcs refs blocks sound_code (input.program).blocks_are stands order spans emitted moved given sizes w
              written;
          behind =
              keeps_behind elf funcs refs blocks sound_code (input.program).blocks_are stands order spans emitted moved given sizes
              w written;
          counted = counted (length funcs) instructions size hot ignored _ _ _ _ instructions_are
              (size_is ∙ bytes_are elf funcs refs blocks sound_code (input.program).blocks_are stands order spans emitted moved
              given sizes)
              hot_is ignored_is;
        }
