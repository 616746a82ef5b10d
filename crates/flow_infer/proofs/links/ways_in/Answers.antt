use Rattle.std.proofs.Common.{◌≡◌, ◌∙◌, ◌+◌, ◌-◌, ◌++◌, ap, refl, subst, ℕ, Option, Some, None, arith}
use Rattle.std.specs.Option.{option_to_list}
use Rattle.flow_infer.specs.declared.flow.Link.{Link}
use Rattle.flow_infer.specs.Heights.{IsAmong}
use Rattle.flow_infer.specs.Sources.{AreLinksUpto}
use Rattle.flow_infer.proofs.LinkLists.{all_pushed, step_upto}
use Rattle.flow_infer.proofs.links.ways_in.Goals as goal

pub loop-block-preserved : goal.loop-block-preserved
loop-block-preserved c =
    let first = c.args.first in
    let end = c.args.end in
    let block = c.loop-block.block in
    let way = c.way_in.result in
    let links = c.loop-block.links.items in
    let (from, to, among, counted, upto) = c.loop-block.invariant in
    let within = c.loop-block-test.true in
    let pushed = c.in_ok-push_some.ensures.is ∙ ap (λ (o : Option Link). links ++ option_to_list o) c.link_if.ensures in (
      omega arith,
      omega arith,
      all_pushed (IsAmong first (end - first + 1)) None (Some block) way links _
          (λ n. record { from = tt; to = (omega arith, omega arith) }) pushed among,
      all_pushed (λ (l : Link). l.flow ≡ l.count) None (Some block) way links _ (λ n. refl) pushed counted,
      step_upto c.args.source.now first end c.requires.function 0 (block + 1) None (Some block) way links _ refl refl from within
          c.way_in.ensures pushed upto,
    )

pub returns-clause-links : goal.returns-clause-links
returns-clause-links c =
    let (from, to, among, counted, upto) = c.loop-block.invariant in
    let done = c.loop-block-test.false in
    let last : c.loop-block.block ≡ c.args.end = omega arith in
    subst (λ (b : ℕ). AreLinksUpto c.args.source.now c.args.first c.args.end 0 (b + 1) c.loop-block.links.items) last upto
