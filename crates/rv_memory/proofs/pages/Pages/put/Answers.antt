use Rattle.std.proofs.Common.{◌≡◌, ◌∙◌, ◌*◌, ◌+◌, ◌/◌, ◌%◌, ◌≤◌, sym, ap, arith, Some, length}
use Rattle.std.specs.Prelude.{is_some}
use Rattle.rv_code.specs.machine.Machine.{low_bytes}
use Rattle.rv_memory.specs.PageIndex.{place_of}
use Rattle.rv_memory.specs.Patches.{patched}
use Rattle.rv_code.proofs.machine.LowBytes.{length_low_bytes}
use Rattle.rv_memory.proofs.PageBytes.{vector_written, page_byte-some, page_byte-none}
use Rattle.rv_memory.proofs.pages.Pages.put.Goals as goal

pub returns-in-Some-clause-put : goal.returns-in-Some-clause-put
returns-in-Some-clause-put c = λ put q.
    let p = c.args.self.now in
    let a = c.args.address in
    let low = low_bytes c.args.count c.args.number in
    let found : place_of p.index (a / 4096) ≡ Some c.in-Some.place = sym c.place.ensures ∙ c.in-Some.is in
    let in_page : a % 4096 + length low ≤ 4096 = omega (arith, c.requires.within, length_low_bytes c.args.count c.args.number) in
    vector_written p c.put_number.new.bytes low a c.in-Some.place found in_page
    (c.put_number.ensures ∙ ap (patched (c.in-Some.place * 4096 + a % 4096) low) c.deref_mut.ensures.value) q

pub returns-in-Some-clause-there : goal.returns-in-Some-clause-there
returns-in-Some-clause-there c =
    let p = c.args.self.now in
    let a = c.args.address in
    let found : place_of p.index (a / 4096) ≡ Some c.in-Some.place = sym c.place.ensures ∙ c.in-Some.is in
    ap is_some (sym (page_byte-some p a c.in-Some.place found))

pub returns-in-None-clause-there : goal.returns-in-None-clause-there
returns-in-None-clause-there c =
    ap is_some (sym (page_byte-none c.args.self.now c.args.address (sym c.place.ensures ∙ c.in-None.is)))
