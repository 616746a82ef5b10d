use Rattle.std.proofs.Common.{ℕ, ◌≡◌, ◌≤◌, length, arith, refl, ap, subst}
use Rattle.std.proofs.lemmas.List.{get_or_default}
use Rattle.std.proofs.lemmas.Option.{slice_get_read}
use Rattle.rv_code.specs.declared.placed.Func.{Func}
use Rattle.rv_code.specs.layout.WorstSizes.{near_limit}
use Rattle.func_place.proofs.faults.first_long.Goals as goal

pub returns-then-size-gt-NEAR_LIMIT : goal.returns-then-size-gt-NEAR_LIMIT
returns-then-size-gt-NEAR_LIMIT c =
    let lt = c.loop-unit-test.true in
    let len = c.requires in
    record {
      unit = c.loop-unit.unit;
      func = c.index-funcs-unit.result;
      is_func =
          slice_get_read c.args.funcs.now _ c.loop-unit.unit c.index-funcs-unit.result refl (omega arith) c.index-funcs-unit.is;
      start = ap (λ (f : Func). f.start) c.index-funcs-unit.is;
      long = c.if-size-gt-NEAR_LIMIT.true;
      earlier = c.loop-unit.invariant;
    }

pub returns : goal.returns
returns c = λ k d lt.
    let end : c.loop-unit.unit ≡ length c.args.sizes.now = omega arith in
    subst (λ (n : ℕ). n ≤ near_limit) (get_or_default c.args.sizes.now k 0 d lt) (c.loop-unit.invariant k (omega arith))
