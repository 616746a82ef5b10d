use Rattle.std.proofs.Common.{◌≡◌, ◌∙◌, ◌*◌, ◌+◌, ◌/◌, ◌%◌, sym, ap, Some, None, get_or}
use Rattle.rv_memory.specs.PageIndex.{place_of}
use Rattle.sym_machine.proofs.Groups.{other_byte-some, other_byte-none}
use Rattle.sym_machine.proofs.other_bytes.OtherBytes.byte.Goals as goal

pub returns : goal.returns
returns c =
    let p = c.args.self.now in
    let found : place_of p.index (c.args.address / 8) ≡ Some c.in_ok-place.place = sym c.place.ensures ∙ c.in_ok-place.was in
    c.slot_at.ensures ∙ ap (λ xs. get_or xs (c.in_ok-place.place * 8 + c.args.address % 8) None) c.deref.ensures.value
    ∙ sym (other_byte-some p c.args.address c.in_ok-place.place found)

pub returns-in_err-place : goal.returns-in_err-place
returns-in_err-place c =
    rw c.from_residual.ensures (sym (other_byte-none c.args.self.now c.args.address (sym c.place.ensures ∙ c.in_err-place.was)))
