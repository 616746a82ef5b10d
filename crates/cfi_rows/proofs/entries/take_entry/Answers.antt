use Rattle.std.proofs.Common.{rules, ◌≡◌, ◌∙◌, false, sym, ap}
use Rattle.cfi_rows.specs.Entries.{frames_from, is_cie}
use Rattle.cfi_rows.specs.KeptTables.{said, joined}
use Rattle.cfi_rows.proofs.TableParts.{fde-next}
use Rattle.cfi_rows.proofs.entries.take_entry.Goals as goal

pub returns-in_ok-push-in-Ok-clause-taken : goal.returns-in_ok-push-in-Ok-clause-taken
returns-in_ok-push-in-Ok-clause-taken c = λ es rest broken kept.
    let e = c.args.entry.now in
    let n = c.args.listed.now.cies in
    let b : is_cie c.args.debug e ≡ false = search rules in
    fde-next c.args.debug c.args.address es broken e rest n c.args.listed.now.list.items c.in-Ok.fde b (c.in-Ok.ensures.ok es kept)
    ∙ ap (λ xs. joined n xs (said (frames_from c.args.debug c.args.address es broken rest))) (sym c.in_ok-push-in-Ok.ensures.items)
