use Rattle.std.proofs.Common.{◌≡◌, ◌∙◌, sym, ap, ℕ, ℤ, Some, FitsSigned, w64, rules}
use Rattle.std.specs.Int.{w128}
use Rattle.std.proofs.lemmas.Int.{to_z-of_z}
use Rattle.elf_code.specs.Roles.{pair_target}
use Rattle.rv_reloc.specs.declared.instructions.Upper.{Upper}
use Rattle.rb_bytes.proofs.Options.{same_some, not_found}
use Rattle.rv_reloc.proofs.pairs.low_target.Goals as goal

kept : (hi : ℕ) (r r' u u' l l' : ℤ) → r' ≡ r → r ≡ pair_target hi u' l' → u' ≡ u → l' ≡ l → r' ≡ pair_target hi u l
kept hi r r' u u' l l' same is a b = same ∙ is ∙ (λ i. pair_target hi (a i) (b i))

pub returns-clause-is : goal.returns-clause-is
returns-clause-is c =
    let number : FitsSigned w128 c.pair_target.result = search rules in
    let upper : FitsSigned w64 c.in_ok-auipc.auipc.imm = search rules in
    let lower : FitsSigned w64 c.args.low.now.imm = search rules in
    record {
      rd = c.in_ok-auipc.auipc.rd;
      upper = c.in_ok-auipc.auipc.imm;
      auipc = c.in_ok-auipc.ensures.there;
      target_is =
          kept _ _ _ _ _ _ _ (to_z-of_z w128 _ number) c.pair_target.ensures (to_z-of_z w64 _ upper) (to_z-of_z w64 _ lower);
    }

pub returns-clause-only : goal.returns-clause-only
returns-clause-only c = λ z is.
    let number : FitsSigned w128 c.pair_target.result = search rules in
    let upper : FitsSigned w64 c.in_ok-auipc.auipc.imm = search rules in
    let lower : FitsSigned w64 c.args.low.now.imm = search rules in
    let same = ap (λ (u : Upper). u.imm) (same_some _ _ _ c.in_ok-auipc.was (c.auipc_at.ensures.only is.rd is.upper is.auipc)) in
    ap Some (kept _ _ _ _ _ _ _ (to_z-of_z w128 _ number) c.pair_target.ensures
    (to_z-of_z w64 _ upper ∙ same) (to_z-of_z w64 _ lower)
    ∙ sym is.target_is)

pub returns-in_err-auipc-clause-only : goal.returns-in_err-auipc-clause-only
returns-in_err-auipc-clause-only c = λ z is. absurd (not_found _ _ c.in_err-auipc.was (c.auipc_at.ensures.only is.rd is.upper is.auipc))
