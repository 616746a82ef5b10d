use Rattle.std.proofs.Common.{All, arith, ◌≡◌, ◌∙◌, ◌+◌, ap, refl, sym, subst, ◌<◌, ◌≤◌, ◌^◌, ℕ, List, length, map}
use Rattle.std.specs.Prelude.{sum}
use Rattle.std.proofs.lemmas.Result.{err_from_is_err_and}
use Rattle.edge_profile.specs.PairCounts.{ArePairs, Counted}
use Rattle.edge_profile.specs.Profile.{profile_counts, pairs_of}
use Rattle.edge_profile.specs.Weights.{block_weight}
use Rattle.func_place.specs.Placement.{IsPlacement}
use Rattle.program.specs.Limits.{function_limit, many_functions}
use Rattle.program.specs.Program.{IsProgramOf, Program, program_of, program_seen}
use Rattle.program.specs.Room.{new_start}
use Rattle.program.proofs.Programs.{laid_out}
use Rattle.rv_code.specs.layout.FunctionLists.{address_end}
use Rattle.addr_map.specs.Spans.{IsStretch}
use Rattle.bolt_core.specs.Limits.{IsTooLarge, large_code}
use Rattle.bolt_core.specs.ProfileOrder.{ArePartsBy, IsProfileOrder}
use Rattle.bolt_core.specs.Refusals.{CanStand, Fit, IsInput}
use Rattle.bolt_core.specs.internal.CarriedTables.{AreNewTables, HasRoomBehind}
use Rattle.bolt_core.proofs.Accepted.{apart_blocks, blocks_of, input_of, laid_program, misplaced_refusal, no_place_refusal}
use Rattle.bolt_core.proofs.Accepted.{not_carried_refusal, too_heavy_refusal, no_room_by, parts_by, read_again, readable_again, stands_by}
use Rattle.bolt_core.proofs.Accepted.{start_by, stretches, too_large_refusal, unreadable_refusal}
use Rattle.bolt_core.proofs.Rewrites.{allowed, behind, eh_fits, laid_out_by, low, spans_low}
use Rattle.table_set.specs.TableLimits.{IsTooHeavy}
use Rattle.table_set.proofs.Fitting.{aranges_fit, df_fits, lines_fit, places_fit, ranges_fit}
use Rattle.bolt_core.proofs.TableRefusals.{light_declarations, sound_units}
use Rattle.bolt_core.proofs.TableSections.{file_fits}
use Rattle.bolt_core.proofs.Rewrites.{all_bytes, cells_apart, cells_held, even, hot_counted, near, rewritten, room, sound_code}
use Rattle.bolt_core.proofs.SoundCode.{cells, direct, insts}
use Rattle.bolt_core.proofs.rewriting.rewrite.Goals.{After-as_slice-blocks, In_ok-parts, In_ok-plan, In_ok-start}
use Rattle.bolt_core.proofs.rewriting.rewrite.Goals as goal

input_read : {file profile : List ℕ} {x : Program} → Fit file profile → IsProgramOf file x → IsInput file profile x
input_read fit is = record { program = is; profile_fits = fit.profile_fits }

-- Facts after the slices are taken.
given : (c : After-as_slice-blocks) → IsInput c.args.file.now c.args.profile.now
    (program_of c.in_ok-program.program.elf c.as_slice-funcs.result.now c.in_ok-program.program.refs c.as_slice-blocks.result.now)
given c =
    input_of c.in_ok-program.program c.as_slice-funcs.ensures.value c.as_slice-blocks.ensures.value c.in_ok-program.ensures.program
    c.in_ok-check_lengths.ensures.fit

-- Facts after the new code has an address.
standing : (c : In_ok-start) → CanStand
    (program_of c.in_ok-program.program.elf c.as_slice-funcs.result.now c.in_ok-program.program.refs c.as_slice-blocks.result.now)
standing c =
    stands_by c.in_ok-program.program c.as_slice-funcs.ensures.value c.as_slice-blocks.ensures.value c.in_ok-plan.ensures.free
    c.in_ok-tables.ensures.free c.in_ok-start.ensures.room

starting : (c : In_ok-start) → c.in_ok-start.start ≡ new_start
    (program_of c.in_ok-program.program.elf c.as_slice-funcs.result.now c.in_ok-program.program.refs c.as_slice-blocks.result.now)
starting c =
    start_by c.in_ok-program.program c.as_slice-funcs.ensures.value c.as_slice-blocks.ensures.value c.in_ok-start.start
    c.in_ok-start.ensures.start

-- Facts after the parts of functions and their order are known.
parted : (c : In_ok-parts) → IsInput c.args.file.now c.args.profile.now
    (program_of c.in_ok-program.program.elf c.as_slice-funcs.result.now c.in_ok-program.program.refs c.as_slice-blocks.result.now) →
    ArePartsBy
    (program_of c.in_ok-program.program.elf c.as_slice-funcs.result.now c.in_ok-program.program.refs c.as_slice-blocks.result.now)
    c.args.profile.now (pairs_of c.in_ok-counts.counts) c.in_ok-parts.parts
parted c input =
    parts_by input (profile_counts c.in_ok-counts.counts) (pairs_of c.in_ok-counts.counts) c.in_ok-parts.parts
    c.in_ok-parts.ensures.parts c.in_ok-counts.ensures.counts

in_order : (c : In_ok-plan) → ArePartsBy
    (program_of c.in_ok-program.program.elf c.as_slice-funcs.result.now c.in_ok-program.program.refs c.as_slice-blocks.result.now)
    c.args.profile.now (pairs_of c.in_ok-counts.counts) c.in_ok-parts.parts → IsProfileOrder
    (program_of c.in_ok-program.program.elf c.as_slice-funcs.result.now c.in_ok-program.program.refs c.as_slice-blocks.result.now)
    c.args.profile.now (pairs_of c.in_ok-counts.counts) c.in_ok-parts.parts c.in_ok-plan.plan.order.items
in_order c parts_are = record {
  parts_are = parts_are;
  placed = subst (λ (ps : List Counted). IsPlacement c.as_slice-funcs.result.now c.as_slice-blocks.result.now c.in_ok-parts.parts ps
      (block_weight ps c.as_slice-funcs.result.now)
      c.in_ok-plan.plan.order.items) c.pairs-pairs.ensures.value c.in_ok-plan.ensures.order;
}

pub read_program-requires : goal.read_program-requires
read_program-requires c =
    c.in_ok-check_lengths.ensures.fit.file_fits

pub returns-in_err-program-clause-refused : goal.returns-in_err-program-clause-refused
returns-in_err-program-clause-refused c =
    let p = err_from_is_err_and c.from_residual-in_err-program.result c.from_residual-in_err-program.ensures.1 in
    rw (p.1, p.2) (unreadable_refusal c.args.file.now c.args.profile.now c.in_ok-check_lengths.ensures.fit
    c.in_err-program.field-0.0 c.in_err-program.ensures.fault)

pub check_blocks-requires-clause-fields : goal.check_blocks-requires-clause-fields
check_blocks-requires-clause-fields c =
    read_again c.in_ok-program.ensures.program

pub check_blocks-requires-clause-laid : goal.check_blocks-requires-clause-laid
check_blocks-requires-clause-laid c =
    laid_program (input_read c.in_ok-check_lengths.ensures.fit c.in_ok-program.ensures.program)

pub check_blocks-requires-clause-stretches : goal.check_blocks-requires-clause-stretches
check_blocks-requires-clause-stretches c =
    stretches (input_read c.in_ok-check_lengths.ensures.fit c.in_ok-program.ensures.program)

pub check_blocks-requires-clause-blocks : goal.check_blocks-requires-clause-blocks
check_blocks-requires-clause-blocks c =
    ((program_seen c.in_ok-program.program).code, refl, c.in_ok-program.ensures.program.blocks_are)

pub returns-in_err-check_blocks-clause-refused : goal.returns-in_err-check_blocks-clause-refused
returns-in_err-check_blocks-clause-refused c =
    let p = err_from_is_err_and c.from_residual-in_err-check_blocks.result c.from_residual-in_err-check_blocks.ensures.1 in
    rw (p.1, p.2) (c.in_err-check_blocks.ensures.refused c.args.file.now c.args.profile.now
    (input_read c.in_ok-check_lengths.ensures.fit c.in_ok-program.ensures.program))

pub read-requires-clause-funcs : goal.read-requires-clause-funcs
read-requires-clause-funcs c =
    laid_program (given (goal.at.read-requires-clause-funcs c).After-as_slice-blocks)

pub read-requires-clause-elf : goal.read-requires-clause-elf
read-requires-clause-elf c = read_again c.in_ok-program.ensures.program

pub read-requires-clause-readable : goal.read-requires-clause-readable
read-requires-clause-readable c = readable_again c.in_ok-program.ensures.program

pub block_weights-requires-clause-funcs : goal.block_weights-requires-clause-funcs
block_weights-requires-clause-funcs c =
    laid_program (given (goal.at.block_weights-requires-clause-funcs c).After-as_slice-blocks)

pub block_weights-requires-clause-blocks : goal.block_weights-requires-clause-blocks
block_weights-requires-clause-blocks c =
    apart_blocks (given (goal.at.block_weights-requires-clause-blocks c).After-as_slice-blocks)

pub parts-requires-clause-blocks : goal.parts-requires-clause-blocks
parts-requires-clause-blocks c =
    blocks_of (given (goal.at.parts-requires-clause-blocks c).After-as_slice-blocks)

pub parts-requires-clause-laid : goal.parts-requires-clause-laid
parts-requires-clause-laid c =
    laid_program (given (goal.at.parts-requires-clause-laid c).After-as_slice-blocks)

pub parts-requires-clause-pairs : goal.parts-requires-clause-pairs
parts-requires-clause-pairs c =
    subst (ArePairs (profile_counts c.in_ok-counts.counts)) c.pairs-pairs.ensures.value c.pairs-pairs.ensures.exact

pub parts-requires-clause-weights : goal.parts-requires-clause-weights
parts-requires-clause-weights c =
    c.deref.ensures.value ∙ c.in_ok-weights.ensures.weights

pub place_by-requires-clause-funcs : goal.place_by-requires-clause-funcs
place_by-requires-clause-funcs c =
    laid_program (given (goal.at.place_by-requires-clause-funcs c).After-as_slice-blocks)

pub place_by-requires-clause-blocks : goal.place_by-requires-clause-blocks
place_by-requires-clause-blocks c =
    stretches (given (goal.at.place_by-requires-clause-blocks c).After-as_slice-blocks)

pub place_by-requires-clause-hot : goal.place_by-requires-clause-hot
place_by-requires-clause-hot c =
    c.in_ok-parts.ensures.parts.chains.parts_are.hot_count

pub place_by-requires-clause-cold : goal.place_by-requires-clause-cold
place_by-requires-clause-cold c =
    c.in_ok-parts.ensures.parts.chains.parts_are.cold_count

pub place_by-requires-clause-weights : goal.place_by-requires-clause-weights
place_by-requires-clause-weights c =
    c.deref-2.ensures.value ∙ c.in_ok-weights.ensures.weights
    ∙ ap (λ (ps : List Counted). map (block_weight ps c.as_slice-funcs.result.now) c.as_slice-blocks.result.now)
    (sym c.pairs-pairs.ensures.value)

pub place_by-requires-clause-room : goal.place_by-requires-clause-room
place_by-requires-clause-room c =
    subst (λ (ws : List ℕ). sum ws < 2 ^ 101) (sym c.deref-2.ensures.value) c.in_ok-weights.ensures.few

pub returns-in_err-plan-clause-refused : goal.returns-in_err-plan-clause-refused
returns-in_err-plan-clause-refused c =
    let p = err_from_is_err_and c.from_residual-in_err-plan.result c.from_residual-in_err-plan.ensures.1 in
    rw (p.1, p.2) (misplaced_refusal (given (goal.at.returns-in_err-plan-clause-refused c).After-as_slice-blocks) c.in_err-plan.field-0.0
    c.in_err-plan.ensures.fault)

pub returns-in_err-tables-clause-refused : goal.returns-in_err-tables-clause-refused
returns-in_err-tables-clause-refused c =
    let p = err_from_is_err_and c.from_residual-in_err-tables.result c.from_residual-in_err-tables.ensures.1 in
    rw (p.1, p.2) (not_carried_refusal (given (goal.at.returns-in_err-tables-clause-refused c).After-as_slice-blocks)
    c.in_ok-plan.ensures.free c.in_err-tables.field-0.0 c.in_err-tables.ensures.fault)

pub new_start-requires-clause-laid : goal.new_start-requires-clause-laid
new_start-requires-clause-laid c =
    let is = c.in_ok-program.ensures.program in
    laid_out c.args.file.now c.in_ok-program.program.elf is.faultless c.in_ok-program.program.funcs.items is.code_is.funcs

pub new_start-requires-clause-blocks : goal.new_start-requires-clause-blocks
new_start-requires-clause-blocks c =
    ((program_seen c.in_ok-program.program).code, refl, c.in_ok-program.ensures.program.blocks_are)

pub returns-in_err-start-clause-refused : goal.returns-in_err-start-clause-refused
returns-in_err-start-clause-refused c =
    let input = given (goal.at.returns-in_err-start-clause-refused c).After-as_slice-blocks in
    let p = err_from_is_err_and c.from_residual-in_err-start.result c.from_residual-in_err-start.ensures.1 in
    rw (p.1, p.2) (no_place_refusal input c.in_ok-plan.ensures.free c.in_ok-tables.ensures.free c.in_err-start.field-0.0
    (no_room_by c.in_ok-program.program c.as_slice-funcs.ensures.value c.as_slice-blocks.ensures.value c.in_err-start.field-0.0
    c.in_err-start.ensures.refused))

pub check_sizes-requires-clause-fields : goal.check_sizes-requires-clause-fields
check_sizes-requires-clause-fields c =
    read_again c.in_ok-program.ensures.program

pub check_sizes-requires-clause-laid : goal.check_sizes-requires-clause-laid
check_sizes-requires-clause-laid c =
    laid_program (given (goal.at.check_sizes-requires-clause-laid c).After-as_slice-blocks)

pub returns-in_err-check_sizes-clause-refused : goal.returns-in_err-check_sizes-clause-refused
returns-in_err-check_sizes-clause-refused c =
    let at = goal.at.returns-in_err-check_sizes-clause-refused c in
    let input = given at.After-as_slice-blocks in
    let stands = standing at.In_ok-start in
    let parts_are = parted at.In_ok-parts input in
    let p = err_from_is_err_and c.from_residual-in_err-check_sizes.result c.from_residual-in_err-check_sizes.ensures.1 in
    rw (p.1, p.2) (too_large_refusal input stands (pairs_of c.in_ok-counts.counts) c.in_ok-parts.parts parts_are c.deref-3.result.now
    (c.deref-3.ensures.value ∙ c.in_ok-cold.ensures) c.in_err-check_sizes.field-0.0 c.in_err-check_sizes.ensures.refused)

pub moved_code-requires-clause-laid : goal.moved_code-requires-clause-laid
moved_code-requires-clause-laid c =
    laid_program (given (goal.at.moved_code-requires-clause-laid c).After-as_slice-blocks)

pub moved_code-requires-clause-direct : goal.moved_code-requires-clause-direct
moved_code-requires-clause-direct c =
    direct c.in_ok-program.program.elf _ (sound_code c.in_ok-program.program.elf c.as_slice-funcs.result.now c.in_ok-program.program.refs
    c.as_slice-blocks.result.now (given (goal.at.moved_code-requires-clause-direct c).After-as_slice-blocks)
    (all_bytes c.args.file.now c.type_inv.file)) c.as_slice-blocks.result.now c.in_ok-plan.ensures.free

pub moved_code-requires-clause-insts : goal.moved_code-requires-clause-insts
moved_code-requires-clause-insts c =
    insts c.in_ok-program.program.elf _ (sound_code c.in_ok-program.program.elf c.as_slice-funcs.result.now c.in_ok-program.program.refs
    c.as_slice-blocks.result.now (given (goal.at.moved_code-requires-clause-insts c).After-as_slice-blocks)
    (all_bytes c.args.file.now c.type_inv.file))

pub moved_code-requires-clause-cells : goal.moved_code-requires-clause-cells
moved_code-requires-clause-cells c =
    cells c.in_ok-program.program.elf _ (sound_code c.in_ok-program.program.elf c.as_slice-funcs.result.now c.in_ok-program.program.refs
    c.as_slice-blocks.result.now (given (goal.at.moved_code-requires-clause-cells c).After-as_slice-blocks)
    (all_bytes c.args.file.now c.type_inv.file))

pub moved_code-requires-clause-blocks : goal.moved_code-requires-clause-blocks
moved_code-requires-clause-blocks c =
    blocks_of (given (goal.at.moved_code-requires-clause-blocks c).After-as_slice-blocks)

pub moved_code-requires-clause-order : goal.moved_code-requires-clause-order
moved_code-requires-clause-order c =
    c.in_ok-plan.ensures.all c.in_ok-parts.ensures.all

pub moved_code-requires-clause-near : goal.moved_code-requires-clause-near
moved_code-requires-clause-near c =
    near c.in_ok-program.program.elf c.as_slice-funcs.result.now c.in_ok-program.program.refs
    c.as_slice-blocks.result.now (given (goal.at.moved_code-requires-clause-near c).After-as_slice-blocks)
    (all_bytes c.args.file.now c.type_inv.file) c.in_ok-plan.plan.order.items (c.in_ok-plan.ensures.near c.in_ok-parts.ensures.all)

pub moved_code-requires-clause-even : goal.moved_code-requires-clause-even
moved_code-requires-clause-even c =
    let at = goal.at.moved_code-requires-clause-even c in
    even c.in_ok-program.program.elf c.as_slice-funcs.result.now c.in_ok-program.program.refs
    c.as_slice-blocks.result.now (given at.After-as_slice-blocks) (all_bytes c.args.file.now c.type_inv.file) c.in_ok-start.start
    (starting at.In_ok-start)

pub moved_code-requires-clause-room : goal.moved_code-requires-clause-room
moved_code-requires-clause-room c =
    let at = goal.at.moved_code-requires-clause-room c in
    room c.in_ok-program.program.elf c.as_slice-funcs.result.now c.in_ok-program.program.refs
    c.as_slice-blocks.result.now (given at.After-as_slice-blocks) (all_bytes c.args.file.now c.type_inv.file)
    (standing at.In_ok-start) c.in_ok-start.start (starting at.In_ok-start)

pub check_weight-requires-clause-comes : goal.check_weight-requires-clause-comes
check_weight-requires-clause-comes c = c.in_ok-tables.ensures.come

pub new_tables-requires-clause-come : goal.new_tables-requires-clause-come
new_tables-requires-clause-come c = c.in_ok-tables.ensures.come

pub check_weight-requires-clause-sound : goal.check_weight-requires-clause-sound
check_weight-requires-clause-sound c = sound_units c.in_ok-program.program.elf c.in_ok-tables.ensures.free

pub check_weight-requires-clause-ordered : goal.check_weight-requires-clause-ordered
check_weight-requires-clause-ordered c = c.in_ok-map.ensures.mapped.map_is.ordered

pub new_tables-requires-clause-ordered : goal.new_tables-requires-clause-ordered
new_tables-requires-clause-ordered c = c.in_ok-map.ensures.mapped.map_is.ordered

pub check_weight-requires-clause-disjoint : goal.check_weight-requires-clause-disjoint
check_weight-requires-clause-disjoint c =
    let input = given (goal.at.check_weight-requires-clause-disjoint c).After-as_slice-blocks in
    (c.in_ok-map.ensures.is_map _ _ _ input.program.blocks_are).disjoint

pub new_tables-requires-clause-disjoint : goal.new_tables-requires-clause-disjoint
new_tables-requires-clause-disjoint c =
    let input = given (goal.at.new_tables-requires-clause-disjoint c).After-as_slice-blocks in
    (c.in_ok-map.ensures.is_map _ _ _ input.program.blocks_are).disjoint

pub check_weight-requires-clause-low : goal.check_weight-requires-clause-low
check_weight-requires-clause-low c =
    let at = goal.at.check_weight-requires-clause-low c in
    spans_low c.in_ok-program.program.elf c.as_slice-funcs.result.now c.in_ok-program.program.refs
    c.as_slice-blocks.result.now (given at.After-as_slice-blocks) (all_bytes c.args.file.now c.type_inv.file)
    (standing at.In_ok-start) c.in_ok-start.start (starting at.In_ok-start) c.in_ok-plan.plan.order.items
    c.in_ok-map.map c.in_ok-map.emitted c.in_ok-map.ensures (c.in_ok-plan.ensures.all c.in_ok-parts.ensures.all)
    c.in_ok-tables.tables c.in_ok-tables.ensures.come

pub returns-in_err-weighed-clause-refused : goal.returns-in_err-weighed-clause-refused
returns-in_err-weighed-clause-refused c =
    let at = goal.at.returns-in_err-weighed-clause-refused c in
    let input = given at.After-as_slice-blocks in
    let bytes = all_bytes c.args.file.now c.type_inv.file in
    let stands = standing at.In_ok-start in
    let start_is = starting at.In_ok-start in
    let ordered = in_order at.In_ok-plan (parted at.In_ok-parts input) in
    let p = err_from_is_err_and c.from_residual-in_err-weighed.result c.from_residual-in_err-weighed.ensures.1 in
    rw (p.1, p.2) (too_heavy_refusal input stands (pairs_of c.in_ok-counts.counts) c.in_ok-parts.parts c.deref-3.result.now
    (c.deref-3.ensures.value ∙ c.in_ok-cold.ensures) c.in_ok-check_sizes.ensures.within c.in_ok-plan.plan.order.items ordered
    c.in_ok-map.map c.in_ok-map.emitted.code.items
    (laid_out_by c.in_ok-program.program.elf c.as_slice-funcs.result.now c.in_ok-program.program.refs
    c.as_slice-blocks.result.now input bytes stands c.in_ok-start.start start_is c.in_ok-plan.plan.order.items
    c.in_ok-map.map c.in_ok-map.emitted c.in_ok-map.ensures)
    c.in_err-weighed.field-0.0 c.in_err-weighed.ensures.refused)

pub new_tables-requires-clause-allowed : goal.new_tables-requires-clause-allowed
new_tables-requires-clause-allowed c =
    let at = goal.at.new_tables-requires-clause-allowed c in
    allowed c.in_ok-program.program.elf c.as_slice-funcs.result.now c.in_ok-program.program.refs
    c.as_slice-blocks.result.now (given at.After-as_slice-blocks) (all_bytes c.args.file.now c.type_inv.file)
    (standing at.In_ok-start) c.in_ok-start.start (starting at.In_ok-start) c.in_ok-plan.plan.order.items
    c.in_ok-map.map c.in_ok-map.emitted c.in_ok-map.ensures (c.in_ok-plan.ensures.all c.in_ok-parts.ensures.all)
    c.in_ok-tables.tables c.in_ok-tables.ensures.come

pub new_tables-requires-clause-fit : goal.new_tables-requires-clause-fit
new_tables-requires-clause-fit c =
    let at = goal.at.new_tables-requires-clause-fit c in
    let light : IsTooHeavy c.in_ok-program.program.elf c.in_ok-map.map → ⊥ = c.in_ok-weighed.ensures.light in
    record {
      eh = eh_fits c.in_ok-program.program.elf c.as_slice-funcs.result.now c.in_ok-program.program.refs
          c.as_slice-blocks.result.now (given at.After-as_slice-blocks) (all_bytes c.args.file.now c.type_inv.file)
          (standing at.In_ok-start) c.in_ok-start.start (starting at.In_ok-start) c.in_ok-plan.plan.order.items
          c.in_ok-map.map c.in_ok-map.emitted c.in_ok-map.ensures (c.in_ok-plan.ensures.all c.in_ok-parts.ensures.all)
          c.in_ok-tables.tables c.in_ok-tables.ensures.come;
      df = λ runs are. df_fits c.in_ok-program.program.elf c.in_ok-tables.tables.df c.in_ok-tables.ensures.come.df
          (file_fits c.in_ok-program.ensures.program);
      lines = lines_fit c.in_ok-program.program.elf c.in_ok-tables.tables c.in_ok-tables.ensures.come
          (file_fits c.in_ok-program.ensures.program) c.in_ok-map.map light;
      ranges = ranges_fit c.in_ok-program.program.elf c.in_ok-tables.tables c.in_ok-tables.ensures.come
          (file_fits c.in_ok-program.ensures.program) c.in_ok-map.map light;
      places = places_fit c.in_ok-program.program.elf c.in_ok-tables.tables c.in_ok-tables.ensures.come
          (file_fits c.in_ok-program.ensures.program) c.in_ok-map.map light;
      aranges = aranges_fit c.in_ok-program.program.elf c.in_ok-tables.tables c.in_ok-tables.ensures.come
          (file_fits c.in_ok-program.ensures.program) c.in_ok-map.map light;
    }

pub new_tables-requires-clause-weighed : goal.new_tables-requires-clause-weighed
new_tables-requires-clause-weighed c = c.in_ok-weighed.ensures.weighed

pub new_tables-requires-clause-sound : goal.new_tables-requires-clause-sound
new_tables-requires-clause-sound c = sound_units c.in_ok-program.program.elf c.in_ok-tables.ensures.free

pub new_tables-requires-clause-light : goal.new_tables-requires-clause-light
new_tables-requires-clause-light c = light_declarations c.in_ok-program.program.elf c.in_ok-map.map c.in_ok-weighed.ensures.light

pub new_tables-requires-clause-stretch : goal.new_tables-requires-clause-stretch
new_tables-requires-clause-stretch c =
    subst (λ (n : ℕ). IsStretch c.in_ok-map.map c.in_ok-start.start (c.in_ok-start.start + n))
    (sym (c.len-code.ensures ∙ c.in_ok-map.emitted.code.ok.0))
    c.in_ok-map.ensures.stretch

pub new_tables-requires-clause-low : goal.new_tables-requires-clause-low
new_tables-requires-clause-low c =
    let at = goal.at.new_tables-requires-clause-low c in
    subst (λ (n : ℕ). c.in_ok-start.start + n ≤ address_end) (sym (c.len-code.ensures ∙ c.in_ok-map.emitted.code.ok.0))
    (low c.in_ok-program.program.elf c.as_slice-funcs.result.now c.in_ok-program.program.refs
    c.as_slice-blocks.result.now (given at.After-as_slice-blocks) (all_bytes c.args.file.now c.type_inv.file)
    (standing at.In_ok-start) c.in_ok-start.start (starting at.In_ok-start) c.in_ok-plan.plan.order.items
    c.in_ok-map.map c.in_ok-map.emitted c.in_ok-map.ensures (c.in_ok-plan.ensures.all c.in_ok-parts.ensures.all)
    c.in_ok-tables.tables c.in_ok-tables.ensures.come)

pub new_tables-requires-clause-few : goal.new_tables-requires-clause-few
new_tables-requires-clause-few c =
    let many : function_limit < length c.as_slice-funcs.result.now → ⊥ =
    λ over. c.in_ok-check_sizes.ensures.within 3 (large_code (many_functions refl over)) in
    omega (arith, many)

pub new_tables-requires-clause-room : goal.new_tables-requires-clause-room
new_tables-requires-clause-room c =
    let at = goal.at.new_tables-requires-clause-room c in
    subst (λ (n : ℕ). HasRoomBehind c.in_ok-tables.tables.eh c.in_ok-map.map (c.in_ok-start.start + n))
    (sym (c.len-code.ensures ∙ c.in_ok-map.emitted.code.ok.0))
    (behind c.in_ok-program.program.elf c.as_slice-funcs.result.now c.in_ok-program.program.refs
    c.as_slice-blocks.result.now (given at.After-as_slice-blocks) (all_bytes c.args.file.now c.type_inv.file)
    (standing at.In_ok-start) c.in_ok-start.start (starting at.In_ok-start) c.in_ok-plan.plan.order.items
    c.in_ok-map.map c.in_ok-map.emitted c.in_ok-map.ensures (c.in_ok-plan.ensures.all c.in_ok-parts.ensures.all)
    c.in_ok-tables.tables c.in_ok-tables.ensures.come)

pub write-requires-clause-read : goal.write-requires-clause-read
write-requires-clause-read c =
    read_again c.in_ok-program.ensures.program

pub write-requires-clause-sound : goal.write-requires-clause-sound
write-requires-clause-sound c =
    (sound_code c.in_ok-program.program.elf c.as_slice-funcs.result.now c.in_ok-program.program.refs
    c.as_slice-blocks.result.now (given (goal.at.write-requires-clause-sound c).After-as_slice-blocks)
    (all_bytes c.args.file.now c.type_inv.file)).sound

pub write-requires-clause-bytes : goal.write-requires-clause-bytes
write-requires-clause-bytes c =
    (sound_code c.in_ok-program.program.elf c.as_slice-funcs.result.now c.in_ok-program.program.refs
    c.as_slice-blocks.result.now (given (goal.at.write-requires-clause-bytes c).After-as_slice-blocks)
    (all_bytes c.args.file.now c.type_inv.file)).bytes

pub write-requires-clause-cells : goal.write-requires-clause-cells
write-requires-clause-cells c =
    let at = goal.at.write-requires-clause-cells c in
    cells_held c.in_ok-program.program.elf c.as_slice-funcs.result.now c.in_ok-program.program.refs
    c.as_slice-blocks.result.now (given at.After-as_slice-blocks) (all_bytes c.args.file.now c.type_inv.file)
    (standing at.In_ok-start) c.in_ok-start.start (starting at.In_ok-start) c.in_ok-plan.plan.order.items
    c.in_ok-map.map c.in_ok-map.emitted c.in_ok-map.ensures

pub write-requires-clause-apart : goal.write-requires-clause-apart
write-requires-clause-apart c =
    let at = goal.at.write-requires-clause-apart c in
    cells_apart c.in_ok-program.program.elf c.as_slice-funcs.result.now c.in_ok-program.program.refs
    c.as_slice-blocks.result.now (given at.After-as_slice-blocks) (all_bytes c.args.file.now c.type_inv.file)
    (standing at.In_ok-start) c.in_ok-start.start (starting at.In_ok-start) c.in_ok-plan.plan.order.items
    c.in_ok-map.map c.in_ok-map.emitted c.in_ok-map.ensures

pub write-requires-clause-laid_out : goal.write-requires-clause-laid_out
write-requires-clause-laid_out c =
    laid_program (given (goal.at.write-requires-clause-laid_out c).After-as_slice-blocks)

pub returns-clause-rewritten : goal.returns-clause-rewritten
returns-clause-rewritten c =
    let at = goal.at.returns-clause-rewritten c in
    let input = given at.After-as_slice-blocks in
    let bytes = all_bytes c.args.file.now c.type_inv.file in
    let stands = standing at.In_ok-start in
    let start_is = starting at.In_ok-start in
    let ordered = in_order at.In_ok-plan (parted at.In_ok-parts input) in
    rewritten c.in_ok-program.program.elf c.as_slice-funcs.result.now c.in_ok-program.program.refs
    c.as_slice-blocks.result.now input bytes stands c.in_ok-start.start start_is c.in_ok-plan.plan.order.items
    c.in_ok-map.map c.in_ok-map.emitted c.in_ok-map.ensures c.deref-5.result.now c.in_ok-tables.tables c.in_ok-tables.ensures.come
    (c.in_ok-plan.ensures.all c.in_ok-parts.ensures.all)
    (subst (AreNewTables c.in_ok-program.program.elf c.in_ok-tables.tables c.in_ok-map.map c.in_ok-start.start
    (length c.in_ok-map.emitted.code.items)) (sym c.deref-5.ensures.value)
    (subst (λ (n : ℕ). AreNewTables c.in_ok-program.program.elf c.in_ok-tables.tables c.in_ok-map.map c.in_ok-start.start n
    c.in_ok-given.given.items) (c.len-code.ensures ∙ c.in_ok-map.emitted.code.ok.0) c.in_ok-given.ensures))
    c.deref-4.result.now c.in_ok-written.written.items
    (subst (λ (bs : List ℕ). All (λ b. b < 256) bs) c.deref-6.ensures.value c.are_bytes.ensures)
    c.in_ok-written.ensures.written c.in_ok-written.ensures.tables c.in_ok-written.ensures.stand (pairs_of c.in_ok-counts.counts)
    c.in_ok-parts.parts ordered
    (c.deref-4.ensures.value ∙ c.in_ok-cold.ensures)
    (subst (λ (cs : List ℕ). (place : ℕ) → IsTooLarge c.in_ok-program.program.elf c.as_slice-funcs.result.now cs place → ⊥)
    (c.deref-3.ensures.value ∙ sym c.deref-4.ensures.value)
    c.in_ok-check_sizes.ensures.within)
    c.in_ok-weighed.ensures.light
    c.in_ok-instructions.instructions c.len-code.result c.count_hot.result c.ignored.result
    c.in_ok-instructions.ensures (c.len-code.ensures ∙ c.in_ok-map.emitted.code.ok.0)
    (hot_counted (pairs_of c.in_ok-counts.counts) c.as_slice-funcs.result.now c.as_slice-blocks.result.now c.deref-7.result.now
    c.in_ok-weights.weights.items c.count_hot.result c.deref-7.ensures.value
    c.in_ok-weights.ensures.weights c.count_hot.ensures) (c.ignored.ensures ∙ c.in_ok-counts.ensures.ignored)

pub returns-in_err-instructions-clause-refused : goal.returns-in_err-instructions-clause-refused
returns-in_err-instructions-clause-refused c =
    let p = err_from_is_err_and c.from_residual-in_err-instructions.result c.from_residual-in_err-instructions.ensures.1 in
    rw (p.1, p.2) tt
