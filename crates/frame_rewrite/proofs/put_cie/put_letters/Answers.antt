use Rattle.std.proofs.Common.{[], ◌∷◌, ap, ◌∙◌, ◌++◌, Bool}
use Rattle.std.proofs.lemmas.Result.{on_ok_weaker}
use Rattle.frame_rewrite.specs.SpelledFrames.{bytes_if}
use Rattle.frame_rewrite.proofs.Appends.{four-fields}
use Rattle.frame_rewrite.proofs.put_cie.put_letters.Goals as goal

pub returns : goal.returns
returns c =
    on_ok_weaker c.put_if-4.result (λ e. four-fields c.args.out.now.items c.put_if.new.out.items c.put_if-2.new.out.items
    c.put_if-3.new.out.items c.put_if-4.new.out.items _ _ _ _
    (c.in_ok-put_if.ensures ∙ ap (λ (b : Bool). c.args.out.now.items ++ bytes_if b (0x50 ∷ [])) c.has_handler.ensures)
    c.in_ok-put_if-2.ensures c.in_ok-put_if-3.ensures e) c.put_if-4.ensures
