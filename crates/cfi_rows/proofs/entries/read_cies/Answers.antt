use Rattle.std.proofs.Common.{rules, ◌≡◌, ◌∙◌, ◌-◌, ◌∷◌, arith, sym, ap, subst, drop, get_or, length}
use Rattle.cfi_rows.specs.KeptTables.{AreKept}
use Rattle.cfi_rows.proofs.TableParts.{last-is}
use Rattle.cfi_rows.proofs.entries.read_cies.Goals as goal

pub loop-count-preserved : goal.loop-count-preserved
loop-count-preserved c =
    let es = c.args.entries.now in
    let e = c.index-entries-entries.result in
    let item : e ≡ get_or es (length es - 1 - c.loop-count.count) e = search rules in
    subst (λ xs. AreKept c.args.debug c.args.address xs c.add_cie.new.cies)
    (ap (λ x. x ∷ drop (length es - c.loop-count.count) es) item ∙ sym (last-is es c.loop-count.count e c.loop-count-test.true))
    (c.in_ok-add_cie.ensures (drop (length es - c.loop-count.count) es) c.loop-count.invariant)

pub returns : goal.returns
returns c =
    let es = c.args.entries.now in
    let none : length es - c.loop-count.count ≡ 0 = omega arith in
    subst (λ n. AreKept c.args.debug c.args.address (drop n es) c.loop-count.cies) none c.loop-count.invariant
