use Rattle.std.proofs.Common.{◌≡◌, ◌∙◌, ℕ, List, subst}
use Rattle.std.proofs.lemmas.Result.{err_from_is_err_and}
use Rattle.rb_bytes.specs.FirstFault.{IsFree, IsRefusalBy}
use Rattle.dw_unit.specs.Faults.{HasDwarfFault}
use Rattle.addr_rewrite.specs.ArangesReading.{AreKept}
use Rattle.addr_rewrite.specs.Tables.{aranges_of, places_by}
use Rattle.addr_rewrite.proofs.unit_ranges.Aranges.read_behind.Goals as goal

pub returns-in_err-index-clause-fault : goal.returns-in_err-index-clause-fault
returns-in_err-index-clause-fault c =
    let p = err_from_is_err_and c.from_residual-in_err-index.result c.from_residual-in_err-index.ensures.1 in
    let same : c.deref.result.now ≡ aranges_of c.args.elf.now =
    c.deref.ensures.value ∙ c.in_ok-section.ensures.items ∙ c.contents_of.ensures in
    rw (p.1, p.2) (λ units are. subst (λ (s : List ℕ). IsRefusalBy (HasDwarfFault (places_by units s)) c.in_err-index.field-0.0) same
    (c.in_err-index.ensures.fault units are))

pub invariant_of-result : goal.invariant_of-result
invariant_of-result c = subst (λ (s : List ℕ). AreKept s c.in_ok-index.index) c.deref.ensures.value c.in_ok-index.ensures.kept

pub returns-clause-free : goal.returns-clause-free
returns-clause-free c = λ units are.
    let same : c.deref.result.now ≡ aranges_of c.args.elf.now =
    c.deref.ensures.value ∙ c.in_ok-section.ensures.items ∙ c.contents_of.ensures in
    subst (λ (s : List ℕ). IsFree (HasDwarfFault (places_by units s))) same (c.in_ok-index.ensures.free units are)

pub returns-clause-comes : goal.returns-clause-comes
returns-clause-comes c = c.in_ok-section.ensures.items ∙ c.contents_of.ensures
