use Rattle.std.proofs.Common.{◌∙◌}
use Rattle.branch_fixup.proofs.Ways.{fewer_no, fewer_yes}
use Rattle.branch_fixup.proofs.settling.Settling.grow_blocks.Goals as goal
use Rattle.branch_fixup.proofs.settling.Settling.grow_blocks.Goals.{then-grown, else-grown}

pub loop-k-preserved : goal.loop-k-preserved
loop-k-preserved c =
    let i = c.loop-k.invariant in
    let e = c.in_ok-grown.ensures in
    let olds = c.args.forms.now in
    let fs = c.loop-k.forms in
    let news = c.grow_block.new.forms in
    elim c.if-grown.branch [
      | then-grown w ↦ rw w.grew-is (record {
        settling = e.settling;
        same = e.same ∙ i.same;
        fewer = fewer_yes c.loop-k.grew olds fs news i.fewer (rw w.if-grown.true at e.fewer);
        listed = e.listed;
      })
      | else-grown w ↦ rw w.grew-is (record {
        settling = e.settling;
        same = e.same ∙ i.same;
        fewer = fewer_no c.loop-k.grew olds fs news (rw w.if-grown.false at e.fewer) i.fewer;
        listed = e.listed;
      })
    ]
