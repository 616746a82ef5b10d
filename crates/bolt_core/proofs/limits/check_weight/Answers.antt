use Rattle.std.proofs.Common.{subst, Option}
use Rattle.std.specs.Prelude.{IfNone, IfSome}
use Rattle.table_set.specs.TableLimits.{IsTooHeavy}
use Rattle.table_set.specs.WeighedTables.{AreWeighed}
use Rattle.table_set.specs.declared.weights.Weighed.{Weighed}
use Rattle.bolt_core.proofs.limits.check_weight.Goals as goal

pub returns-in-None-clause-refused : goal.returns-in-None-clause-refused
returns-in-None-clause-refused c = record {
  heavy = subst (λ (o : Option Weighed). IfNone o (IsTooHeavy c.args.elf.now c.args.map.now)) c.in-None.is c.in_ok-weighed.ensures.heavy;
  fault_is = c.at.ensures;
}

pub returns-in-Some-clause-light : goal.returns-in-Some-clause-light
returns-in-Some-clause-light c =
    subst (λ (o : Option Weighed). IfSome o (λ w. IsTooHeavy c.args.elf.now c.args.map.now → ⊥)) c.in-Some.is c.in_ok-weighed.ensures.light

pub returns-in-Some-clause-weighed : goal.returns-in-Some-clause-weighed
returns-in-Some-clause-weighed c =
    subst (λ (o : Option Weighed). IfSome o (AreWeighed c.args.tables.now c.args.map.now)) c.in-Some.is c.in_ok-weighed.ensures.weighed
