use Rattle.std.proofs.Common.{◌≡◌, ◌+◌, ◌<◌, ◌^◌, arith}
use Rattle.std.proofs.lemmas.Grind.{common_steps}
use Rattle.branch_fixup.specs.Growth.{end_at, block_offset}
use Rattle.branch_fixup.proofs.Rounds.{place-more, place_low, pushed}
use Rattle.branch_fixup.proofs.growth.places.Goals as goal

pub overflow_add-at-in-loop-k : goal.overflow_add-at-in-loop-k
overflow_add-at-in-loop-k c =
    let ts = c.args.block_ends.now in
    let fs = c.args.forms.now in
    let k = c.loop-k.k in
    let one = c.requires.one_each in
    let at = c.loop-k.invariant.1 in
    let value = c.piece_length.ensures in
    let more = place-more ts fs k in
    let low : block_offset ts fs (k + 1) < 2 ^ 62 = place_low ts fs c.requires.block_ends (k + 1) (omega (arith, one)) in
    omega (arith, at, value, more, low)

pub loop-k-preserved : goal.loop-k-preserved
loop-k-preserved c =
    let i = c.loop-k.invariant in
    let len = i.0 in
    let at = i.1 in
    let value = c.piece_length.ensures in
    let ts = c.args.block_ends.now in
    let fs = c.args.forms.now in
    let more = place-more ts fs c.loop-k.k in
    let next : c.loop-k.at + ((end_at ts c.loop-k.k).before + c.piece_length.result) ≡ block_offset ts fs (c.loop-k.k + 1) =
    omega (arith, at, value, more) in
    let new_len = c.in_ok-push-2.ensures.len in (
      omega (arith, len, new_len),
      next,
      pushed ts fs c.loop-k.places.items c.push-in-loop-k.new.self.items c.loop-k.k
          (c.loop-k.at + ((end_at ts c.loop-k.k).before + c.piece_length.result)) len i.2 next c.in_ok-push-2.ensures.items,
    )

pub returns-clause-low : goal.returns-clause-low
returns-clause-low c = place_low c.args.block_ends.now c.args.forms.now c.requires.block_ends

pub overflow_add-at : goal.overflow_add-at
overflow_add-at c = grind (arith, common_steps)
