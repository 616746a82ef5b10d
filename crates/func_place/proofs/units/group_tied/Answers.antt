use Rattle.std.proofs.Common.{ℕ, ◌≡◌, ◌≤◌, ◌<◌, length, arith, refl, ◌∙◌}
use Rattle.func_place.specs.internal.Groups.{grouping_of}
use Rattle.func_place.specs.internal.TieList.{tie_at, Agrees}
use Rattle.func_place.proofs.TieGroups.{agrees_first, numbers_agree}
use Rattle.func_place.proofs.units.group_tied.Goals as goal

pub loop-a-init : goal.loop-a-init
loop-a-init c = let e = c.in_ok-groups.ensures in
    (e.len, e.grouped, agrees_first c.args.ties.now (grouping_of c.in_ok-groups.groups) (λ u lt. e.number u (rw (← e.len) lt)))

pub loop-a-preserved : goal.loop-a-preserved
loop-a-preserved c =
    let e = c.in_ok-tie.ensures in
    let len = c.loop-a.invariant.0 in
    let inside : (k : ℕ) → k ≤ c.loop-a.a-index → ((tie_at c.args.ties.now k).0 < length (grouping_of c.loop-a.groups).lists)
    × ((tie_at c.args.ties.now k).1 < length (grouping_of c.loop-a.groups).lists) =
    λ k le. let lt = c.loop-a-test.true in let h = c.requires k (0, 0) (omega arith) in (rw len h.0, rw len h.1) in (
      e.len ∙ len,
      e.grouped,
      e.agrees c.args.ties.now c.loop-a.a-index (record { is = refl; inside = inside }) c.loop-a.invariant.2,
    )

pub returns-clause-classes : goal.returns-clause-classes
returns-clause-classes c = λ f h f_in h_in.
    let end : c.loop-a.a-index ≡ length c.args.ties.now = omega arith in
    let agrees : Agrees c.args.ties.now (length c.args.ties.now) (grouping_of c.loop-a.groups) =
    rw (← end) c.loop-a.invariant.2 in
    let len = c.loop-a.invariant.0 in
    (λ e. agrees.together f h (rw len f_in) (rw len h_in) e, λ r. numbers_agree agrees h r)
