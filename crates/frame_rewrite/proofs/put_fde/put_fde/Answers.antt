use Rattle.std.proofs.Common.{ap, ◌∙◌, ◌++◌, ℕ, Bool, ◌≡◌, length, arith}
use Rattle.std.specs.List.{position_or_len}
use Rattle.frame_rewrite.specs.declared.cie_key.CieKey.{CieKey}
use Rattle.frame_rewrite.specs.SpelledFrames.{is_debug, fde_fields, fde_id, is_key, key_index, padding, zeros}
use Rattle.frame_rewrite.proofs.Appends.{entry-put}
use Rattle.frame_rewrite.proofs.put_fde.put_fde.Goals as goal

pub returns-clause-written : goal.returns-clause-written
returns-clause-written c =
    let place : c.len-place.result ≡ length c.args.out.now.items = omega (arith, c.len-place.ensures, c.args.out.now.ok.0) in
    let index : c.in_ok-index.index ≡ key_index c.args.map.now c.args.keys.now c.args.first.now =
    c.in_ok-index.ensures.index ∙ ap (λ (k : CieKey). position_or_len (is_key k) c.args.keys.now)
    c.key_of-key.ensures.key in
    let form = c.args.form in
    entry-put (is_debug form) c.args.out.now.items c.put_entry.new.out.items c.clear.new.self.items c.put_fields.new.out.items
    c.pad.new.out.items c.deref.result.now
    (fde_fields form (length c.args.out.now.items) c.args.map.now c.args.first.now c.args.more.now)
    (length c.args.out.now.items) c.fde_id-id.result
    (fde_id (is_debug form) (length c.args.out.now.items) (key_index c.args.map.now c.args.keys.now c.args.first.now))
    c.in_ok-put_entry.ensures.written c.deref.ensures.value
    (c.fde_id-id.ensures ∙ (λ i. fde_id (c.is_debug-2.ensures i) (place i) (index i)))
    c.clear.ensures.items
    (c.in_ok-put_fields.ensures.written
    ∙ ap (λ (n : ℕ). c.clear.new.self.items ++ fde_fields form n c.args.map.now c.args.first.now c.args.more.now) place)
    (c.in_ok-pad.ensures ∙ ap (λ (d : Bool). c.put_fields.new.out.items ++ zeros (padding d (length c.put_fields.new.out.items)))
    c.is_debug.ensures)
