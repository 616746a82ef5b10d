use Rattle.std.proofs.Common.{◌≡◌, ◌∙◌, ℕ, List, Option, Some, None, option_map, arith, refl, subst, sym}
use Rattle.addr_rewrite.specs.Aranges.{unit_at}
use Rattle.addr_rewrite.specs.ArangesReading.{unit_found}
use Rattle.addr_rewrite.proofs.unit_ranges.ArangesByAddress.find.Goals as goal

itself : (o : Option ℕ) → option_map (λ (u : ℕ). u) o ≡ o
itself None = refl
itself (Some u) = refl

pub returns-clause-said : goal.returns-clause-said
returns-clause-said c =
    let found : (y : ℕ) → unit_found c.self.inside.index y ≡ unit_at c.args.self.now y =
    subst (λ (s : List ℕ). (y : ℕ) → unit_found c.self.inside.index y ≡ unit_at s y) c.self.view_is c.self.invariant.found in
    itself c.piece.result.0 ∙ c.piece.ensures.unit c.args.a (omega arith) c.piece.ensures.last ∙ found c.args.a

pub returns-clause-last : goal.returns-clause-last
returns-clause-last c = λ x from to.
    let found : (y : ℕ) → unit_found c.self.inside.index y ≡ unit_at c.args.self.now y =
    subst (λ (s : List ℕ). (y : ℕ) → unit_found c.self.inside.index y ≡ unit_at s y) c.self.view_is c.self.invariant.found in
    sym (found x) ∙ sym (c.piece.ensures.unit x from to)
    ∙ c.piece.ensures.unit c.args.a (omega arith) c.piece.ensures.last ∙ found c.args.a
