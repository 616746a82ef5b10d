use Rattle.std.proofs.Common.{rules, ◌≡◌, ◌∙◌, Some, sym, ap, subst, nat_cmp}
use Rattle.std.specs.Prelude.{IfOk, IfErr, IsOkAnd, Err}
use Rattle.std.specs.BTreeMap.{get}
use Rattle.cfi_rows.specs.Reads.{Fails}
use Rattle.cfi_rows.specs.ReadEntries.{fde_of}
use Rattle.cfi_rows.specs.declared.instruction.Malformed.TheVariants.{Entry}
use Rattle.cfi_rows.specs.Entries.{fde_at, entry_named}
use Rattle.cfi_rows.specs.KeptCies.{cie_of}
use Rattle.cfi_rows.specs.KeptTables.{KeptFor}
use Rattle.cfi_rows.proofs.TableParts.{found, fde-is}
use Rattle.cfi_rows.proofs.entries.fde_among.Goals as goal

pub returns-in-Some-Some-clause-ok : goal.returns-in-Some-Some-clause-ok
returns-in-Some-Some-clause-ok c = λ es kept.
    let k = c.in-Some-Some.cie in
    let e = c.args.entry.now in
    let g : get nat_cmp c.args.cies.now c.in-Some.place ≡ Some (Some k) = search rules in
    let f = found c.args.debug c.args.address es c.in-Some.place k
    (subst (λ o. KeptFor c.args.address o (entry_named c.args.debug es (Some c.in-Some.place))) g (kept c.in-Some.place)) in
    let is = fde-is c.args.debug c.args.address es e c.in-Some.place k (sym c.cie_place.ensures ∙ c.in-Some.is) f in
    subst (λ r. IfOk c.read_fde.result (λ f. IsOkAnd r (λ x. f ≡ fde_of x)))
    (ap (λ n. fde_at (cie_of k f.cie.instructions f.cie.known) n e) c.end.ensures.is ∙ sym is)
    (c.read_fde.ensures.ok f.cie.instructions f.cie.known f.kept.kept)

pub returns-in-Some-Some-clause-err : goal.returns-in-Some-Some-clause-err
returns-in-Some-Some-clause-err c = λ es kept.
    let k = c.in-Some-Some.cie in
    let e = c.args.entry.now in
    let g : get nat_cmp c.args.cies.now c.in-Some.place ≡ Some (Some k) = search rules in
    let f = found c.args.debug c.args.address es c.in-Some.place k
    (subst (λ o. KeptFor c.args.address o (entry_named c.args.debug es (Some c.in-Some.place))) g (kept c.in-Some.place)) in
    let is = fde-is c.args.debug c.args.address es e c.in-Some.place k (sym c.cie_place.ensures ∙ c.in-Some.is) f in
    subst (λ r. IfErr c.read_fde.result (λ x. Fails x (r ≡ Err Entry)))
    (ap (λ n. fde_at (cie_of k f.cie.instructions f.cie.known) n e) c.end.ensures.is ∙ sym is)
    (c.read_fde.ensures.err f.cie.instructions f.cie.known f.kept.kept)
