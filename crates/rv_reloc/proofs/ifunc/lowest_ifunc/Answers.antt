use Rattle.std.proofs.Common.{◌≡◌, ◌∙◌, refl, sym, length, arith}
use Rattle.std.proofs.lemmas.List.{get_or_default}
use Rattle.rv_reloc.proofs.Places.{IsPlaceOf-begin, IsPlaceOf-next, IsPlaceOf-all}
use Rattle.std.proofs.lemmas.Bool.{eqb-true, eq-eqb}
use Rattle.rv_reloc.proofs.ifunc.lowest_ifunc.Goals as goal

pub loop-symbol-init : goal.loop-symbol-init
loop-symbol-init c = IsPlaceOf-begin _ _

pub loop-symbol-preserved : goal.loop-symbol-preserved
loop-symbol-preserved c =
    IsPlaceOf-next _ _ c.args.symbols.now c.loop-symbol.symbol-index _ _ _ _ _ _ c.loop-symbol-test.true
    (get_or_default _ _ _ _ c.loop-symbol-test.true) c.lower-lowest.ensures c.loop-symbol.invariant c.place_if.ensures refl
    (λ is. sym c.kind.ensures ∙ eqb-true _ _ is, λ is. eq-eqb _ _ (c.kind.ensures ∙ is))

pub returns : goal.returns
returns c =
    let all : c.loop-symbol.symbol-index ≡ length c.args.symbols.now = omega arith in
    IsPlaceOf-all _ _ _ _ _ all c.loop-symbol.invariant
