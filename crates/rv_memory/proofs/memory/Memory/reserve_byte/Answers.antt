use Rattle.std.proofs.Common.{◌≡◌, ◌∙◌, ◌/◌, None, ap, sym, get_or, arith}
use Rattle.std.specs.Option.{is_some}
use Rattle.std.proofs.lemmas.Grind.{common_steps}
use Rattle.rv_memory.specs.Memory.{unwritten_byte}
use Rattle.rv_memory.specs.PageIndex.{place_of}
use Rattle.rv_memory.specs.Pages.{page_byte}
use Rattle.rv_memory.proofs.PageBytes.{place-none, page_byte-none}
use Rattle.rv_memory.proofs.AddressRuns.{page_taken}
use Rattle.rv_memory.proofs.CodeKept.{code_taken}
use Rattle.rv_memory.proofs.memory.Memory.reserve_byte.Goals as goal

pub add-requires-clause-new : goal.add-requires-clause-new
add-requires-clause-new c = grind (arith, common_steps, place-none)

pub returns-clause-kept : goal.returns-clause-kept
returns-clause-kept c =
    let m = c.args.self.now in
    let n = c.args.address / 4096 in
    let none : place_of m.pages.index n ≡ None =
    place-none m.pages c.args.address (ap is_some (sym c.byte.ensures) ∙ sym c.is_some.ensures ∙ c.if-is_some.false) in
    page_taken c.add.result (page_byte m.pages) (page_byte c.add.new.self)
    (unwritten_byte m) n c.deref.result.now c.add.ensures.added c.add.ensures.kept
    (λ k within. ap (λ xs. get_or xs k 0) c.deref.ensures.value ∙ c.in_ok-page.ensures.bytes k within)
    (λ q same. page_byte-none m.pages q (ap (place_of m.pages.index) same ∙ none))

pub invariant_of-self-clause-code_stays : goal.invariant_of-self-clause-code_stays
invariant_of-self-clause-code_stays c =
    code_taken c.args.self.now c.add.result (page_byte c.add.new.self)
    (c.args.address / 4096) c.deref.result.now c.add.ensures.added c.add.ensures.kept
    (λ k within. ap (λ xs. get_or xs k 0) c.deref.ensures.value ∙ c.in_ok-page.ensures.bytes k within)
