use Rattle.std.proofs.Common.{ap, arith, ◌∙◌, ◌≡◌, ◌*◌, ◌++◌, Bool, length}
use Rattle.frame_rewrite.specs.SpelledFrames.{is_debug, cie_entries, end_mark, spelled_entries}
use Rattle.frame_rewrite.proofs.EntrySteps.{cies-put, cies-room, spelled-table}
use Rattle.frame_rewrite.proofs.put_table.written.Goals as goal

pub put_fdes-requires-clause-behind : goal.put_fdes-requires-clause-behind
put_fdes-requires-clause-behind c =
    let put = cies-put (is_debug c.args.form) c.args.keys.now c.new-out.result.items c.put_cies.new.out.items
    c.new-out.ensures.items (c.in_ok-put_cies.ensures ∙ ap (λ (d : Bool). c.new-out.result.items
    ++ spelled_entries (cie_entries d 0 c.args.keys.now)) c.is_debug.ensures) in
    let room : length c.put_cies.new.out.items ≡ 32 * length c.args.keys.now = cies-room (is_debug c.args.form)
    c.args.keys.now c.put_cies.new.out.items put in
    omega arith

pub returns : goal.returns
returns c =
    spelled-table c.args.form c.args.map.now c.args.keys.now c.args.runs.now c.put_cies.new.out.items
    c.put_fdes.new.out.items c.put_end.new.out.items
    (cies-put (is_debug c.args.form) c.args.keys.now c.new-out.result.items c.put_cies.new.out.items
    c.new-out.ensures.items (c.in_ok-put_cies.ensures ∙ ap (λ (d : Bool). c.new-out.result.items
    ++ spelled_entries (cie_entries d 0 c.args.keys.now)) c.is_debug.ensures))
    c.in_ok-put_fdes.ensures.written (c.in_ok-put_end.ensures
    ∙ ap (λ (d : Bool). c.put_fdes.new.out.items ++ end_mark d) c.is_debug-2.ensures) c.in_ok-put_fdes.ensures.writes
