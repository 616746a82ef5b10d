use Rattle.std.proofs.Common.{subst, ap, ◌≡◌, ◌∙◌, ℕ, ℤ, ◌↔◌, IsTrue, FitsSigned, rules}
use Rattle.std.specs.Int.{w64}
use Rattle.std.proofs.lemmas.Int.{to_z-of_z}
use Rattle.rv_code.specs.isa.TwosComplement.{unsigned64}
use Rattle.rv_code.specs.machine.Machine.{plus}
use Rattle.map_check.specs.internal.InstRows.{Leads}
use Rattle.map_check.proofs.CheckedRows.{same_sense, other_sense, other_inst, no_branch, same_bool, other_bool}
use Rattle.map_check.proofs.found.keeps_branch.Goals as goal

pub returns-then-same-wanted : goal.returns-then-same-wanted
returns-then-same-wanted c = λ r ch nx.
    let fits : FitsSigned w64 c.in-Some-branch_of.imm = search rules in
    let there : c.moved_by-there.result ≡ plus c.in-Some.f.out (unsigned64 c.in-Some-branch_of.imm) =
    c.moved_by-there.ensures ∙ ap (λ (z : ℤ). plus c.in-Some.f.out (unsigned64 z)) (to_z-of_z w64 c.in-Some-branch_of.imm fits) in
    same_sense r c.args.output.now c.args.table.now ch c.args.p.now c.args.test c.args.wanted c.args.rs1 c.args.rs2 c.args.target
    c.in-Some.f c.in-Some-branch_of.imm c.in-Some-branch_of.same c.leads.result (c.in-Some.ensures r ch) c.in-Some-branch_of.ensures
    (same_bool c.in-Some-branch_of.same c.args.wanted c.if-same-wanted.true)
    (subst (λ (q : ℕ). IsTrue c.leads.result ↔ Leads r c.args.p.now q (plus c.in-Some.f.out c.in-Some.f.width) c.args.target)
    there (c.leads.ensures r c.args.p.now ch nx))

pub returns-else-same-wanted : goal.returns-else-same-wanted
returns-else-same-wanted c = λ r ch nx.
    let fits : FitsSigned w64 c.in-Some-branch_of.imm = search rules in
    let there : c.moved_by-there.result ≡ plus c.in-Some.f.out (unsigned64 c.in-Some-branch_of.imm) =
    c.moved_by-there.ensures ∙ ap (λ (z : ℤ). plus c.in-Some.f.out (unsigned64 z)) (to_z-of_z w64 c.in-Some-branch_of.imm fits) in
    other_sense r c.args.output.now c.args.table.now ch c.args.p.now c.args.test c.args.wanted c.args.rs1 c.args.rs2 c.args.target
    c.in-Some.f c.in-Some-branch_of.imm c.in-Some-branch_of.same c.leads-else-same-wanted.result (c.in-Some.ensures r ch)
    c.in-Some-branch_of.ensures
    (other_bool c.in-Some-branch_of.same c.args.wanted c.if-same-wanted.false)
    (subst (λ (q : ℕ). IsTrue c.leads-else-same-wanted.result
    ↔ Leads r c.args.p.now (plus c.in-Some.f.out c.in-Some.f.width) q c.args.target)
    there (c.leads-else-same-wanted.ensures r c.args.p.now ch nx))

pub returns-in_default-branch_of : goal.returns-in_default-branch_of
returns-in_default-branch_of c = λ r ch nx.
    other_inst r c.args.output.now c.args.table.now ch c.args.p.now c.args.test c.args.wanted c.args.rs1 c.args.rs2 c.args.target
    c.in-Some.f (c.in-Some.ensures r ch) c.in_default-branch_of.ensures

pub returns-in_default : goal.returns-in_default
returns-in_default c = λ r ch nx.
    no_branch r c.args.output.now c.args.table.now ch c.args.p.now c.args.test c.args.wanted c.args.rs1 c.args.rs2 c.args.target
    (c.in_default.ensures r ch)
