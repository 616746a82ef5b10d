use Rattle.std.proofs.Common.{◌≡◌, ◌≤◌, ◌∙◌, length, arith}
use Rattle.addr_map.proofs.Texts.{piece_is, appended}
use Rattle.addr_map.proofs.text.append_lines.Goals as goal

pub loop-first-preserved : goal.loop-first-preserved
loop-first-preserved c =
    let l = c.loop-first.invariant in
    let buf = c.write_lines-start.new.buf in
    let start = c.write_lines-start.result in
    let long : length buf ≡ 2432 = omega arith in
    let piece = piece_is buf 2432 start long ∙ c.write_lines-start.ensures.written in
    let le : c.loop-first.first ≤ c.piece_end-last.result = omega (arith, c.piece_end-last.ensures.rises) in
    record {
      inside = omega (arith, c.piece_end-last.ensures.inside, c.len-in-loop-first.ensures.count);
      text = c.in_ok-extend_from_slice.ensures.items
          ∙ appended c.args.into.now.items c.loop-first.into.items _ c.args.map.now c.loop-first.first c.piece_end-last.result
          l.text piece le;
    }
