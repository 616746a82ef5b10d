use Rattle.std.proofs.Common.{ℕ, sym, subst, ◌∙◌}
use Rattle.std.proofs.lemmas.Option.{same_Some}
use Rattle.func_place.specs.internal.TieList.{TiesAt}
use Rattle.rb_bytes.proofs.Gains.{gains_same}
use Rattle.func_place.proofs.TieSets.{TiesTo}
use Rattle.func_place.proofs.ties.put_tie.Goals as goal

pub returns-in_ok-put_tie_at : goal.returns-in_ok-put_tie_at
returns-in_ok-put_tie_at c = gains_same c.args.ties.now.items c.put_tie_at.new.ties.items
    (TiesAt c.args.funcs.now c.args.place c.in-Some.address) (TiesTo c.args.funcs.now c.args.place c.args.to)
    (λ t. (
      (λ ties. (c.in-Some.address, c.in-Some.is, ties)),
      (λ (a, is, ties). subst (λ (b : ℕ). TiesAt c.args.funcs.now c.args.place b t)
          (same_Some a c.in-Some.address (sym is ∙ c.in-Some.is)) ties),
    ))
    c.in_ok-put_tie_at.ensures
