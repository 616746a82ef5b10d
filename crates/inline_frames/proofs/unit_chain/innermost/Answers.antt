use Rattle.std.proofs.Common.{◌∙◌, ◌+◌, Bool, Some, ap, subst, sym}
use Rattle.std.specs.Prelude.{if◌then◌else◌}
use Rattle.inline_frames.specs.UnitChains.{is_function}
use Rattle.inline_frames.proofs.UnitChains.{IsInner, inner_more, within_more}
use Rattle.inline_frames.proofs.unit_chain.innermost.Goals as goal

pub loop-number-preserved : goal.loop-number-preserved
loop-number-preserved c =
    let es = c.args.entries.now in
    let covering = c.args.covering.now in
    let i = c.loop-number.number in
    let found = c.loop-number.found in
    let counts = c.is_function-counts.ensures ∙ ap (is_function covering) c.index-entries-number.is in
    let is = c.later-found.ensures ∙ ap (λ (b : Bool). if b then Some i else found) counts in
    record {
      inner = subst (IsInner covering es (i + 1)) (sym is)
          (inner_more covering es i c.index-entries-number.result found c.loop-number-test.true c.loop-number.invariant.inner);
      within = within_more es i c.is_function-counts.result found c.later-found.result c.loop-number-test.true
          c.loop-number.invariant.within c.later-found.ensures;
    }
