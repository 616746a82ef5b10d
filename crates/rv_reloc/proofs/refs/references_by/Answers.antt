use Rattle.std.proofs.Common.{sym, subst}
use Rattle.std.proofs.lemmas.Result.{err_from_is_err_and}
use Rattle.rb_bytes.specs.FirstFault.{IsAnswered}
use Rattle.elf_code.specs.ReferenceFaults.{HasReferenceFault}
use Rattle.code_starts.specs.Parts.{ArePartsApart}
use Rattle.rv_reloc.specs.Cells.{HasAddresses}
use Rattle.rv_reloc.proofs.ReferenceFaultOrder.{asked, lacks_all, no_misfit, no_mismatch, all_addresses, passed_on, passed_from}
use Rattle.code_starts.proofs.WholeLookup.{AreApart-wholes}
use Rattle.rv_reloc.proofs.refs.references_by.Goals as goal

pub counted_fields-requires-clause-wholes : goal.counted_fields-requires-clause-wholes
counted_fields-requires-clause-wholes c =
    subst ArePartsApart (sym c.deref.ensures.value) (AreApart-wholes c.args.elf.now c.args.whole.now _ c.in_ok-wholes.ensures)

pub check-requires-clause-wholes : goal.check-requires-clause-wholes
check-requires-clause-wholes c =
    subst ArePartsApart (sym c.deref-4.ensures.value) (AreApart-wholes c.args.elf.now c.args.whole.now _ c.in_ok-wholes.ensures)

pub returns-in_err-check-clause-fault : goal.returns-in_err-check-clause-fault
returns-in_err-check-clause-fault c =
    let all = asked c.args.elf.now c.args.whole.now _ _ _ _ _ c.deref.ensures.value c.deref-4.ensures.value
    c.deref-5.ensures.value c.in_ok-wholes.ensures (c.in_ok-counted.ensures c.args.whole.now) in
    let fault : IsAnswered (HasReferenceFault c.args.elf.now c.args.whole.now) c.in_err-check.field-0.0 =
    c.in_err-check.ensures.fault c.args.whole.now all in
    let p = err_from_is_err_and c.from_residual-in_err-check.result c.from_residual-in_err-check.ensures.1 in
    rw (p.1, p.2) fault

pub roles-requires-clause-fits : goal.roles-requires-clause-fits
roles-requires-clause-fits c =
    let all = asked c.args.elf.now c.args.whole.now _ _ _ _ _ c.deref.ensures.value c.deref-4.ensures.value
    c.deref-5.ensures.value c.in_ok-wholes.ensures (c.in_ok-counted.ensures c.args.whole.now) in
    no_misfit c.args.elf.now c.args.whole.now (c.in_ok-check.ensures.lacks c.args.whole.now all)

pub roles-requires-clause-alike : goal.roles-requires-clause-alike
roles-requires-clause-alike c =
    let all = asked c.args.elf.now c.args.whole.now _ _ _ _ _ c.deref.ensures.value c.deref-4.ensures.value
    c.deref-5.ensures.value c.in_ok-wholes.ensures (c.in_ok-counted.ensures c.args.whole.now) in
    no_mismatch c.args.elf.now c.args.whole.now (c.in_ok-check.ensures.lacks c.args.whole.now all)

pub cells-requires : goal.cells-requires
cells-requires c =
    let all = asked c.args.elf.now c.args.whole.now _ _ _ _ _ c.deref.ensures.value c.deref-4.ensures.value
    c.deref-5.ensures.value c.in_ok-wholes.ensures (c.in_ok-counted.ensures c.args.whole.now) in
    passed_on HasAddresses _ _ c.deref-6.ensures.value
    (passed_from HasAddresses _ _ c.deref-5.ensures.value
    (all_addresses c.args.elf.now c.args.whole.now _ all.counted_are (c.in_ok-check.ensures.lacks c.args.whole.now all)))

pub returns-clause-refs : goal.returns-clause-refs
returns-clause-refs c =
    let all = asked c.args.elf.now c.args.whole.now _ _ _ _ _ c.deref.ensures.value c.deref-4.ensures.value
    c.deref-6.ensures.value c.in_ok-wholes.ensures (c.in_ok-counted.ensures c.args.whole.now) in
    record { roles = c.in_ok-roles.ensures; cells = c.in_ok-cells.ensures c.args.elf.now c.args.whole.now all.counted_are }

pub returns-clause-free : goal.returns-clause-free
returns-clause-free c =
    let all = asked c.args.elf.now c.args.whole.now _ _ _ _ _ c.deref.ensures.value c.deref-4.ensures.value
    c.deref-5.ensures.value c.in_ok-wholes.ensures (c.in_ok-counted.ensures c.args.whole.now) in
    lacks_all c.args.elf.now c.args.whole.now (c.in_ok-check.ensures.lacks c.args.whole.now all)
