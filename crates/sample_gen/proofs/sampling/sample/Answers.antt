use Rattle.std.proofs.Common.{rules, subst, ℕ, List}
use Rattle.sample_gen.specs.Sample.{IsSample}
use Rattle.sample_gen.proofs.sampling.sample.Goals as goal

pub returns-in-Ok-true : goal.returns-in-Ok-true
returns-in-Ok-true c =
    subst (λ (profile : List ℕ). IsSample c.args.n c.in_ok-file.file.items profile) c.deref-2.ensures.value
    (subst (λ (file : List ℕ). IsSample c.args.n file c.deref-2.result.now) c.deref.ensures.value (c.in-Ok-true.ensures (search rules)))
