use Rattle.std.proofs.Common.{[], ◌∷◌}
use Rattle.std.proofs.lemmas.Result.{on_ok_weaker}
use Rattle.frame_rewrite.specs.SpelledFrames.{cie_code, cie_data, cie_text}
use Rattle.frame_rewrite.proofs.Appends.{five-fields}
use Rattle.frame_rewrite.proofs.put_cie.put_fields.Goals as goal

pub returns : goal.returns
returns c =
    let k = c.args.key.now in
    on_ok_weaker c.put_code.result (λ e. five-fields c.args.out.now.items _ _ _ _ _ (1 ∷ []) (cie_text c.args.debug k)
    (1 ∷ 0x7f ∷ k.ra ∷ []) (cie_data c.args.debug k) (cie_code k.signal)
    c.in_ok-put_byte.ensures c.in_ok-put_text.ensures c.in_ok-put_bytes.ensures c.in_ok-put_data.ensures e) c.put_code.ensures
