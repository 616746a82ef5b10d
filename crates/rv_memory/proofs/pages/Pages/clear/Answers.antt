use Rattle.std.proofs.Common.{◌≡◌, ◌∙◌, ◌*◌, ◌+◌, ◌/◌, ◌%◌, ◌≤◌, ℕ, sym, ap, arith, Some, None, length, rules}
use Rattle.std.specs.Prelude.{replicate}
use Rattle.std.proofs.lemmas.List.{length-replicate}
use Rattle.rv_memory.specs.PageIndex.{place_of}
use Rattle.rv_memory.specs.Patches.{patched}
use Rattle.rv_memory.proofs.PageBytes.{vector_written, byte_put-zeros, byte_cleared-none}
use Rattle.rv_memory.proofs.pages.Pages.clear.Goals as goal

pub returns-in-Some : goal.returns-in-Some
returns-in-Some c = λ q.
    let p = c.args.self.now in
    let a = c.args.address in
    let found : place_of p.index (a / 4096) ≡ Some c.in-Some.place = sym c.place.ensures ∙ c.in-Some.is in
    let in_page : a % 4096 + length (replicate c.args.count 0) ≤ 4096 =
    omega (arith, c.requires, length-replicate {A = ℕ} c.args.count 0) in
    vector_written p c.clear_bytes.new.bytes (replicate c.args.count 0) a c.in-Some.place found in_page
    (c.clear_bytes.ensures
    ∙ ap (patched (c.in-Some.place * 4096 + a % 4096) (replicate c.args.count 0)) c.deref_mut.ensures.value) q
    ∙ byte_put-zeros p a c.args.count c.in-Some.place found c.requires q

pub returns-in_default : goal.returns-in_default
returns-in_default c = λ q.
    let none : place_of c.args.self.now.index (c.args.address / 4096) ≡ None = search rules in
    byte_cleared-none c.args.self.now c.args.address c.args.count none c.requires q
