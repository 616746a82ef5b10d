use Rattle.std.proofs.Common.{◌-◌, ◌∙◌, ℕ, ap, sym, arith, drop, is_none, length, List, ◌∷◌, refl, rules}
use Rattle.rb_bytes.specs.Readers.{Reading}
use Rattle.line_rewrite.specs.declared.effect.Effect.TheVariants.{Appends, Ends}
use Rattle.line_rewrite.specs.Keeping.{low_of}
use Rattle.line_rewrite.specs.KeptSequences.{sequence_at, sequences_at}
use Rattle.line_rewrite.specs.LineMachine.{Sequence}
use Rattle.line_rewrite.specs.SoundPrograms.{is_sound}
use Rattle.line_rewrite.specs.declared.kept.Kept.{Kept}
use Rattle.line_rewrite.proofs.Keeps.{way_sets, way_appends, way_ends, way_out, is_kept}
use Rattle.line_rewrite.proofs.Soundness.{sound_gap, sound_stops, sound_sets, sound_falls, sound_unfiled, sound_appends, sound_ends}
use Rattle.line_rewrite.proofs.Soundness.{sound_init, sound_out, sound_starts}
use Rattle.line_rewrite.proofs.program.sequence_at.Goals as goal

pub ops-init : goal.ops-init
ops-init c =
    let p = c.args.program.now in
    record {
      way = search rules;
      sound = sound_init p.coding.now c.args.files p.lengths.now (drop c.args.place p.bytes.now) c.new-cursor.result.left
          c.start-present.result (ap (λ (r : Reading). r.left) c.new-cursor.ensures ∙ c.split_at.ensures.back) c.start-present.ensures;
    }

pub returns-in_default-clause-unsound : goal.returns-in_default-clause-unsound
returns-in_default-clause-unsound c = sym (sound_gap _ _ _ _ _ _ _ _ c.in_default.ensures.gap (omega arith) c.ops.invariant.sound)

pub returns-then-not-step-clause-unsound : goal.returns-then-not-step-clause-unsound
returns-then-not-step-clause-unsound c =
    sym (sound_stops _ _ _ _ _ _ _ _ _ c.in-Ok.ensures.read (c.step.ensures.passes c.if-not-step.true) c.ops.invariant.sound)

pub ops-preserved-in-Sets : goal.ops-preserved-in-Sets
ops-preserved-in-Sets c =
    let after = c.step.ensures.stays c.if-not-step.false in
    record {
      way = way_sets _ _ _ _ _ _ _ _ _ _ _ _ _ _ c.ops.invariant.way c.in-Ok.ensures.read c.in-Sets.ensures after;
      sound = sound_sets _ _ _ _ _ _ _ _ _ _ c.in-Ok.ensures.read c.in-Sets.ensures after c.ops.invariant.sound;
    }

pub returns-then-not-follows-clause-unsound : goal.returns-then-not-follows-clause-unsound
returns-then-not-follows-clause-unsound c =
    sym (sound_falls _ _ _ _ c.step.new.registers _ _ _ _ Appends _ _ c.in-Ok.ensures.read c.in-Appends.ensures
    (λ e. cc) (c.step.ensures.stays c.if-not-step.false) c.follows.ensures c.if-not-follows.true c.ops.invariant.sound)

pub returns-then-present-files-clause-unsound : goal.returns-then-present-files-clause-unsound
returns-then-present-files-clause-unsound c =
    sym (sound_unfiled _ _ _ _ c.step.new.registers _ _ _ _ _ c.in-Ok.ensures.read c.in-Appends.ensures
    (c.step.ensures.stays c.if-not-step.false) (omega arith) c.ops.invariant.sound)

pub ops-preserved : goal.ops-preserved
ops-preserved c =
    let after = c.step.ensures.stays c.if-not-step.false in
    let follow = sym c.follows.ensures ∙ c.if-not-follows.false in
    record {
      way = way_appends _ _ _ _ _ _ _ _ _ _ _ _ _ _ _ _ _
          (record {
            place = length c.args.program.now.bytes.now - c.left-in-ops.result;
            index = c.ops.count;
            registers = c.ops.present;
            address = c.step.new.registers.address;
          })
          c.ops.invariant.way c.in-Ok.ensures.read c.in-Appends.ensures after c.after_row-present.ensures
          (let size = length c.args.program.now.bytes.now in
          let k : ℕ → Kept = λ n. record
          { place = size - n; index = c.ops.count; registers = c.ops.present; address = c.step.new.registers.address } in ap k
          c.left-in-ops.ensures) follow c.in_ok-due-in-Appends.ensures;
      sound = sound_appends _ _ _ _ c.step.new.registers _ _ _ _ _ _ _ c.in-Ok.ensures.read c.in-Appends.ensures after
          c.follows.ensures c.if-not-follows.false (omega arith) c.after_row-present.ensures c.ops.invariant.sound;
    }

pub returns-then-not-follows-2-clause-unsound : goal.returns-then-not-follows-2-clause-unsound
returns-then-not-follows-2-clause-unsound c =
    sym (sound_falls _ _ _ _ c.step.new.registers _ _ _ _ Ends _ _ c.in-Ok.ensures.read c.in-Ends.ensures
    (λ e. cc) (c.step.ensures.stays c.if-not-step.false) c.follows-in-Ends.ensures c.if-not-follows-2.true c.ops.invariant.sound)

pub returns-in-Ends-clause-sequences : goal.returns-in-Ends-clause-sequences
returns-in-Ends-clause-sequences c =
    let e = way_ends _ _ _ _ _ _ _ _ _ _ _ _ _ _ c.ops.invariant.way c.in-Ok.ensures.read c.in-Ends.ensures
    (c.step.ensures.stays c.if-not-step.false) in
    let p = c.args.program.now in
    let more : ℕ → List Sequence =
    λ n. sequence_at p.coding.now p.lengths.now p.bytes.now c.args.place c.step.new.registers.address
    ∷ sequences_at p (length p.bytes.now - n) in
    e.sequence ∙ sym (ap more c.left-in-Ends.ensures)

pub returns-in-Ends-clause-kept : goal.returns-in-Ends-clause-kept
returns-in-Ends-clause-kept c =
    let e = way_ends _ _ _ _ _ _ _ _ _ _ _ _ _ _ c.ops.invariant.way c.in-Ok.ensures.read c.in-Ends.ensures
    (c.step.ensures.stays c.if-not-step.false) in
    is_kept _ _ _ c.args.place c.step.new.registers.address _ _ c.ops.count c.ops.kept.items _ _ e refl refl refl
    (c.low_of.ensures ∙ ap (λ (l : List Kept). low_of l c.step.new.registers.address) c.deref.ensures.value) refl refl

pub returns-in-Ends-clause-sound : goal.returns-in-Ends-clause-sound
returns-in-Ends-clause-sound c =
    let after = c.step.ensures.stays c.if-not-step.false in
    let e = way_ends _ _ _ _ _ _ _ _ _ _ _ _ _ _ c.ops.invariant.way c.in-Ok.ensures.read c.in-Ends.ensures after in
    let p = c.args.program.now in
    let at : List ℕ → _ = is_sound p.coding.now c.args.files p.lengths.now in
    ap at (ap (λ (n : ℕ). drop (length p.bytes.now - n) p.bytes.now) c.left-in-Ends.ensures ∙ sym e.behind)
    ∙ sym (sound_starts p.coding.now c.args.files p.lengths.now c.read_op.new.cursor.left)
    ∙ sound_ends _ _ _ _ c.step.new.registers _ _ _ _ _ _ _ c.in-Ok.ensures.read c.in-Ends.ensures after
    c.follows-in-Ends.ensures c.if-not-follows-2.false refl c.ops.invariant.sound

pub returns-in-Some-clause-unsound : goal.returns-in-Some-clause-unsound
returns-in-Some-clause-unsound c =
    sym (sound_out _ _ c.ops.last _ _ _ _ (omega arith) c.ops.invariant.sound) ∙ ap is_none c.in-Some.is

pub returns-clause-sequences : goal.returns-clause-sequences
returns-clause-sequences c = way_out _ _ _ _ _ _ _ _ _ _ _ c.ops.invariant.way (omega arith)

pub returns-clause-sound : goal.returns-clause-sound
returns-clause-sound c =
    sym (sound_out _ _ c.ops.last _ _ _ _ (omega arith) c.ops.invariant.sound) ∙ ap is_none c.in-None.is
