use Rattle.std.specs.Prelude.{All}
use Rattle.std.proofs.Common.{◌∙◌, sym, subst}
use Rattle.std.proofs.lemmas.List.Elements.{All-push}
use Rattle.line_rewrite.specs.KeptSequences.{IsKept}
use Rattle.line_rewrite.proofs.Keeps.{sequences_more, sequences_stop, sequences_out}
use Rattle.line_rewrite.proofs.Soundness.{sound_end}
use Rattle.line_rewrite.proofs.program.sequences_of.Goals as goal

pub sequences-preserved : goal.sequences-preserved
sequences-preserved c =
    let follows = rw c.in-Some.is at c.in_ok-sequence.ensures.sequences in
    let kept = rw c.in-Some.is at c.in_ok-sequence.ensures.kept in
    let next = rw c.in-Some.is at c.in_ok-sequence.ensures.next in
    let p = c.args.program.now in
    let P = IsKept p.coding.now p.lengths.now p.bytes.now in
    record {
      same = sequences_more _ _ _ c.sequences.list.items c.push.new.self.items c.in-Some.sequence c.sequences.place c.in-Some.next _
          c.sequences.invariant.same follows c.in_ok-push-in-Some.ensures.items;
      kept = subst (All P) (sym c.in_ok-push-in-Some.ensures.items)
          (All-push P c.sequences.list.items c.in-Some.sequence c.sequences.invariant.kept kept);
      sound = rw c.in-Some.is at c.in_ok-sequence.ensures.sound ∙ c.sequences.invariant.sound;
      within = next.1;
    }

pub returns-in-None-clause-sequences : goal.returns-in-None-clause-sequences
returns-in-None-clause-sequences c =
    let stops = rw c.in-None.is at c.in_ok-sequence.ensures.sequences in
    record {
      are = sequences_stop _ _ _ c.sequences.list.items c.sequences.place _ c.sequences.invariant.same stops;
      kept = c.sequences.invariant.kept;
    }

pub returns-clause-sequences : goal.returns-clause-sequences
returns-clause-sequences c = record {
  are = sequences_stop _ _ _ c.sequences.list.items c.sequences.place _ c.sequences.invariant.same
      (sequences_out _ _ _ c.sequences.place c.sequences-test.false);
  kept = c.sequences.invariant.kept;
}

pub returns-in-None-clause-sound : goal.returns-in-None-clause-sound
returns-in-None-clause-sound c =
    let sound = rw c.in-None.is at c.in_ok-sequence.ensures.sound in
    sym c.sequences.invariant.sound ∙ sound

pub returns-clause-sound : goal.returns-clause-sound
returns-clause-sound c =
    let p = c.args.program.now in
    sym c.sequences.invariant.sound
    ∙ sound_end p.coding.now c.args.files p.lengths.now p.bytes.now c.sequences.place c.sequences-test.false
