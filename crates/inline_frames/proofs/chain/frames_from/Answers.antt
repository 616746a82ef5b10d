use Rattle.inline_frames.specs.Positions.{link_frames}
use Rattle.inline_frames.proofs.LinkFrames.{framed_end, framed_next}
use Rattle.inline_frames.proofs.chain.frames_from.Goals as goal

pub loop-number-preserved : goal.loop-number-preserved
loop-number-preserved c = λ s info str line_str.
    let lines = c.args.lines.now in
    let links = c.args.links.now in
    let namings = c.args.namings.now in
    let n = c.loop-number.number in
    framed_next lines s links namings (link_frames lines s c.args.first links namings) n c.loop-number.position _ _ c.in_ok-frame.frame
    c.in_ok-next.next c.loop-number.frames.items c.push.new.self.items c.loop-number-test.true c.requires
    (c.loop-number.invariant s info str line_str) (c.in_ok-frame.ensures s info str line_str) c.in_ok-next.ensures
    c.in_ok-push.ensures.items

pub returns : goal.returns
returns c = λ s info str line_str.
    framed_end c.args.lines.now s c.args.links.now c.args.namings.now
    (link_frames c.args.lines.now s c.args.first c.args.links.now c.args.namings.now) c.loop-number.number c.loop-number.position
    c.loop-number.frames.items c.loop-number-test.false (c.loop-number.invariant s info str line_str)
