use Rattle.std.proofs.Common.{◌≡◌, ◌-◌, ◌≤◌, ◌∙◌, length, take, drop, ap, arith, refl, length-append}
use Rattle.std.proofs.lemmas.List.{length-take}
use Rattle.std.proofs.lemmas.Grind.{common_steps}
use Rattle.addr_map.proofs.Texts.{piece_is, taken_more, taken_front, text_more}
use Rattle.addr_map.proofs.text.print_text.Goals as goal

pub returns-in-Failed-clause-front : goal.returns-in-Failed-clause-front
returns-in-Failed-clause-front g c _ =
    let l = c.loop-first.invariant in
    let buf = c.write_lines-start.new.buf in
    let start = c.write_lines-start.result in
    let long : length buf ≡ 2432 = omega arith in
    let piece = piece_is buf 2432 start long ∙ c.write_lines-start.ensures.written in
    let le : c.loop-first.first ≤ c.piece_end-last.result = omega (arith, c.piece_end-last.ensures.rises) in
    taken_front _ _ _ _ c.args.map.now c.loop-first.first c.piece_end-last.result l.taken (c.in-Failed.ensures.front refl)
    piece le

pub loop-first-preserved : goal.loop-first-preserved
loop-first-preserved g c =
    let l = c.loop-first.invariant in
    let buf = c.write_lines-start.new.buf in
    let start = c.write_lines-start.result in
    let long : length buf ≡ 2432 = omega arith in
    let piece = piece_is buf 2432 start long ∙ c.write_lines-start.ensures.written in
    let le : c.loop-first.first ≤ c.piece_end-last.result = omega (arith, c.piece_end-last.ensures.rises) in
    let count : c.in-Took.count ≡ length (take (2432 - start) (drop start buf)) = c.in-Took.ensures.whole in
    let small : c.in-Took.count ≤ 2432 - start = omega (arith, count, length-take (2432 - start) (drop start buf)) in
    let first = c.loop-first.first in
    let last = c.piece_end-last.result in
    let lines = c.args.map.now in
    let longer = simp length-append at (ap length (text_more lines first last le)) in
    record {
      inside = omega (arith, c.piece_end-last.ensures.inside, c.len-in-loop-first.ensures.count);
      short = omega (arith, small, l.short, c.write_lines-start.ensures.short);
      count = omega (arith, longer, l.count, count, ap length piece);
      taken = taken_more _ _ _ _ lines first last l.taken c.in-Took.ensures.all piece le;
      never_falls = omega arith;
    }

pub returns-clause-whole : goal.returns-clause-whole
returns-clause-whole c = grind (arith, common_steps)

pub returns-clause-all : goal.returns-clause-all
returns-clause-all c = grind (arith, common_steps)
