use Rattle.std.proofs.Common.{arith, length, length-append, ◌++◌, ◌≡◌, ◌+◌, ◌<◌}
use Rattle.std.proofs.lemmas.List.Elements.{All-take}
use Rattle.run_core.proofs.Filling.{are_bytes, prepend_known-more}
use Rattle.run_core.proofs.input_end.InputEnd.fill.Goals as goal

pub loop-done-preserved : goal.loop-done-preserved
loop-done-preserved g c = record {
  unended = c.loop-done.invariant.unended;
  within =
      let e : length (c.split_at_mut-rest.result.0.now ++ c.read.new.buf)
      ≡ length c.split_at_mut-rest.result.0.now + length c.read.new.buf = length-append _ _ in
      omega (arith, e, c.split_at_mut-rest.ensures.front_len, c.in-Bytes.ensures.within);
  moved = prepend_known-more _ _ _ c.split_at_mut-rest.result.0.now _ c.read.new.buf c.loop-done.done c.in-Bytes.count
      c.split_at_mut-rest.ensures.front_len c.split_at_mut-rest.ensures.front c.loop-done.invariant.moved
      c.in-Bytes.ensures.moved;
  bytes = All-take (λ b. b < 256) (c.loop-done.done + c.in-Bytes.count) _ (are_bytes _ c.type_inv.buffer);
  never_falls = omega (arith, c.loop-done.invariant.never_falls, c.read.ensures.never_falls);
}

pub returns-in-Failed-clause-rightly : goal.returns-in-Failed-clause-rightly
returns-in-Failed-clause-rightly g c = λ rightly ended. let unended = c.loop-done.invariant.unended in absurd (cc)

pub returns-clause-rightly : goal.returns-clause-rightly
returns-clause-rightly g c = λ rightly ended. let unended = c.loop-done.invariant.unended in absurd (cc)
