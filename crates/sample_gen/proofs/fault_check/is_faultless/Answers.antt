use Rattle.std.proofs.Common.{◌∙◌, ◌≤◌, ap, sym, subst, refl, ℕ, List, length}
use Rattle.rb_bytes.specs.FirstFault.{IsFree}
use Rattle.rv_code.specs.declared.placed.Block.{Block}
use Rattle.rv_code.specs.declared.placed.Func.{Func}
use Rattle.rv_code.specs.layout.FunctionLists.{AreLaidOut}
use Rattle.rv_code.specs.layout.ProgramCode.{IsNamed}
use Rattle.elf_image.specs.declared.segment.Segment.{Segment}
use Rattle.elf_image.proofs.ReadLists.{length-segments_of}
use Rattle.answer_runs.specs.Weights.{weight_limit}
use Rattle.elf_plan.specs.NameWeight.{name_weight}
use Rattle.func_place.specs.Faults.{HasPlacementFault}
use Rattle.program.specs.Limits.{IsCodeTooLarge}
use Rattle.program.specs.Program.{program_seen}
use Rattle.program.proofs.Programs.{laid_out}
use Rattle.sample_gen.specs.internal.Light.{AreLightTables}
use Rattle.sample_gen.proofs.LightTables.{none_heavy}
use Rattle.sample_gen.proofs.fault_check.is_faultless.Goals as goal

pub has_light_names-requires : goal.has_light_names-requires
has_light_names-requires c =
    let is = c.requires in
    subst AreLaidOut (sym c.deref-4.ensures.value)
    (laid_out c.args.program.now.elf.file.now c.args.program.now.elf is.faultless c.args.program.now.funcs.items is.code_is.funcs)

pub new_start-requires-clause-laid : goal.new_start-requires-clause-laid
new_start-requires-clause-laid c =
    let is = c.requires in
    laid_out c.args.program.now.elf.file.now c.args.program.now.elf is.faultless c.args.program.now.funcs.items is.code_is.funcs

pub new_start-requires-clause-blocks : goal.new_start-requires-clause-blocks
new_start-requires-clause-blocks c = ((program_seen c.args.program.now).code, refl, c.requires.blocks_are)

pub returns : goal.returns
returns c = λ yes.
    let file : List ℕ = c.args.program.now.elf.file.now in
    let elf = c.requires.faultless.read in record {
      read = c.requires;
      profile_fits = c.is_small.ensures.profile c.if-not-is_small.false;
      placed =
          subst (λ (funcs : List Func). IsFree (HasPlacementFault funcs c.args.program.now.blocks.items)) c.deref.ensures.value
          (subst (λ (blocks : List Block). IsFree (HasPlacementFault c.deref.result.now blocks)) c.deref-2.ensures.value
          (c.can_be_placed.ensures c.if-not-can_be_placed.false));
      unregistered = c.in_ok-have_sound_tables.ensures.registered c.if-not-branch.false;
      tables = c.in_ok-have_sound_tables.ensures.tables;
      room = c.in_ok-new_start.ensures.room;
      code_fits = λ place.
          subst (λ (funcs : List Func). IsCodeTooLarge file funcs place → ⊥) c.deref-5.ensures.value
          (c.in_ok-check_code.ensures.within place);
      sections = sym elf.sections.count_is ∙ c.is_small.ensures.sections c.if-not-is_small.false;
      segments =
          sym (ap (λ (ps : List Segment). length ps) elf.segments ∙ length-segments_of file)
          ∙ c.is_small.ensures.segments c.if-not-is_small.false;
      names_fit =
          subst (λ (funcs : List Func). (cold : List ℕ) → length cold ≤ length funcs →
          name_weight c.args.program.now.elf funcs cold ≤ weight_limit)
          c.deref-4.ensures.value (c.in_ok-has_light_names.ensures c.if-not-branch-2.false);
      tables_fit =
          none_heavy c.args.program.now.elf c.args.program.now.funcs.items
          (subst (AreLightTables c.args.program.now.elf) c.deref-3.ensures.value
          (c.in_ok-have_sound_tables.ensures.light c.if-not-branch.false))
          (IsNamed (program_seen c.args.program.now).code);
    }
