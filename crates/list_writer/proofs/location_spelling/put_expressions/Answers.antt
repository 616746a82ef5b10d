use Rattle.std.proofs.Common.{◌≡◌, ◌∙◌, ◌++◌, ◌∷◌, [], ℕ, List, ap, sym, subst, get_or, append-nil}
use Rattle.std.specs.Global.{Vec}
use Rattle.std.proofs.lemmas.List.Elements.{All-nil}
use Rattle.list_writer.specs.WrittenLocations.{over, entries_bytes}
use Rattle.list_writer.proofs.SpelledLists.{spelled_more}
use Rattle.list_writer.proofs.SpelledLocations.{expression_bytes, expressions_done, Fits, over_fits, over_all}
use Rattle.list_writer.proofs.location_spelling.put_expressions.Goals as goal

abbrev items : Vec ℕ → List ℕ
items v = v.items

pub loop-expression-init : goal.loop-expression-init
loop-expression-init c = (sym (append-nil c.args.out.now.items), All-nil Fits)

pub loop-expression-preserved : goal.loop-expression-preserved
loop-expression-preserved c =
    let xs : List (Vec ℕ) = c.args.expressions.now in
    let i : ℕ = c.loop-expression.expression-index in
    let x : Vec ℕ = c.expression-item.result in
    let is : c.as_slice.result.now ≡ (get_or xs i x).items = c.as_slice.ensures.value ∙ ap items c.expression-item.is in (
      spelled_more (expression_bytes c.args.start c.args.len) xs i x c.args.out.now.items c.loop-expression.out.items
          c.put_expression.new.out.items
          c.loop-expression-test.true c.loop-expression.invariant.0
          (c.in_ok-put_expression.ensures.written
          ∙ ap (λ (l : List ℕ). c.loop-expression.out.items ++ entries_bytes (over c.args.start c.args.len (l ∷ []))) is),
      over_fits c.args.start c.args.len xs i x c.loop-expression-test.true c.loop-expression.invariant.1
          (subst (λ (l : List ℕ). Fits (record { start = c.args.start; len = c.args.len; expression = l })) is
          c.in_ok-put_expression.ensures.fits),
    )

pub returns-clause-written : goal.returns-clause-written
returns-clause-written c =
    expressions_done c.args.start c.args.len c.args.expressions.now c.loop-expression.expression-index c.args.out.now.items
    c.loop-expression.out.items
    c.loop-expression-test.false c.loop-expression.invariant.0

pub returns-clause-fits : goal.returns-clause-fits
returns-clause-fits c =
    over_all c.args.start c.args.len c.args.expressions.now c.loop-expression.expression-index c.loop-expression-test.false
    c.loop-expression.invariant.1
