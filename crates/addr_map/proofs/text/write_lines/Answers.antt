use Rattle.std.proofs.Common.{◌≡◌, ◌+◌, ◌-◌, ◌∙◌, ◌++◌, arith, sym, ap}
use Rattle.addr_map.specs.MapText.{span_line}
use Rattle.addr_map.proofs.Texts.{text_cons}
use Rattle.addr_map.proofs.text.write_lines.Goals as goal

pub loop-i-preserved : goal.loop-i-preserved
loop-i-preserved c =
    let l = c.loop-i.invariant in
    let i = c.loop-i.i - 1 in
    let next : i + 1 ≡ c.loop-i.i = omega arith in
    let line = span_line c.line.result in
    let lines = c.args.map.now in
    record {
      low = omega arith;
      high = omega arith;
      room = omega (arith, l.room, c.write_line-start.ensures.short);
      inside = omega (arith, l.inside, c.write_line-start.ensures.start);
      short = omega (arith, l.short, c.write_line-start.ensures.short);
      written = c.write_line-start.ensures.written ∙ ap (λ text. line ++ text) l.written
          ∙ sym (rw next at (text_cons lines i c.args.last c.line.result (omega arith) c.requires.inside c.line.ensures));
    }
