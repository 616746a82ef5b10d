use Rattle.std.proofs.Common.{◌≡◌, ◌∙◌, ◌*◌, ◌+◌, ◌/◌, ◌%◌, [], ◌∷◌, sym, arith, Some}
use Rattle.std.proofs.lemmas.Grind.{common_steps}
use Rattle.rv_memory.specs.PageIndex.{place_of}
use Rattle.rv_memory.proofs.PatchedBytes.{set_one}
use Rattle.rv_memory.proofs.PageBytes.{page_byte-none, page_written, byte_put-one, in_pages}
use Rattle.rv_memory.proofs.pages.Pages.put_byte.Goals as goal

pub returns-in-Some : goal.returns-in-Some
returns-in-Some c = λ q.
    let p = c.args.self.now in
    let a = c.args.address in
    let found : place_of p.index (a / 4096) ≡ Some c.in-Some.place = sym c.place.ensures ∙ c.in-Some.is in
    let within = in_pages p a c.in-Some.place 1 found (omega arith) in
    page_written p _ (c.args.byte ∷ []) a c.in-Some.place found (omega arith)
    (set_one (c.in-Some.place * 4096 + a % 4096) c.args.byte p.bytes.items within) q ∙ byte_put-one p a c.args.byte q

pub returns-in_default : goal.returns-in_default
returns-in_default c = grind (arith, common_steps, page_byte-none)
