use Rattle.std.proofs.Common.{◌≡◌, ◌∙◌, ◌*◌, ◌++◌}
use Rattle.std.proofs.lemmas.Result.{on_ok_weaker}
use Rattle.frame_rewrite.specs.SpelledFrames.{cie_body, cie_fields, spelled_entry}
use Rattle.frame_rewrite.proofs.Appends.{cie-put}
use Rattle.frame_rewrite.proofs.put_cie.put_cie_entry.Goals as goal

pub returns : goal.returns
returns c =
    let body : c.deref.result.now ≡ cie_body c.args.debug c.args.key.now =
    c.deref.ensures.value ∙ cie-put c.clear.new.self.items c.put_fields.new.out.items c.fill.new.body.items
    (cie_fields c.args.debug c.args.key.now) c.clear.ensures.items c.in_ok-put_fields.ensures c.in_ok-fill.ensures in
    on_ok_weaker c.put_entry.result (λ e i. e ∙ (λ j. c.args.out.now.items
    ++ spelled_entry (record { place = 32 * i; id = c.cie_id.ensures j; body = body j }))) c.put_entry.ensures.written
