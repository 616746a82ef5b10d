use Rattle.std.proofs.Common.{◌∙◌, ◌++◌, ◌∷◌, [], ◌+◌, ℕ, List, Option, Some, refl, ap, sym, arith, take}
use Rattle.std.specs.Global.{Vec}
use Rattle.std.specs.List.{cons_option}
use Rattle.std.specs.Prelude.{filter_map}
use Rattle.std.proofs.lemmas.List.{map_more, take_all}
use Rattle.cover_lists.specs.KeptLists.{items_in, expression_of}
use Rattle.cover_lists.proofs.ByNumbers.{picked_more}
use Rattle.cover_lists.proofs.kept_lists.are_expressions.Goals as goal

abbrev items : Vec ℕ → List ℕ
items v = v.items

pub loop-i-preserved : goal.loop-i-preserved
loop-i-preserved c =
    let xs : List (Vec ℕ) = c.args.xs.now in
    let i : ℕ = c.loop-i.i in
    let f = expression_of c.args.expressions.now in
    picked_more f c.args.numbers.now i _ (items_in (take i xs)) (items_in (take (i + 1) xs)) (omega arith) c.loop-i.invariant
    (map_more items xs i c.index-xs-i.result c.loop-i-test.true
    ∙ ap (λ (v : Vec ℕ). items_in (take i xs) ++ items v ∷ []) (sym c.index-xs-i.is)
    ∙ ap (λ (o : Option (List ℕ)). items_in (take i xs) ++ cons_option o [])
    (ap Some (sym c.as_slice.ensures.value) ∙ sym (c.if-not-is_expression.ensures refl)))

pub returns : goal.returns
returns c = λ _.
    let xs : List (Vec ℕ) = c.args.xs.now in
    let f = expression_of c.args.expressions.now in
    sym (ap items_in (take_all c.loop-i.i xs c.loop-i-test.false)) ∙ c.loop-i.invariant
    ∙ ap (filter_map f) (take_all c.loop-i.i c.args.numbers.now (omega (arith, c.if-xs-numbers.false, c.loop-i-test.false)))
