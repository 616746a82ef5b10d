-- A refusal for the weight of tables.
use Rattle.std.specs.Prelude.{◌≡◌, List}
use Rattle.rb_bytes.specs.Fault.{fault_at}
use Rattle.rb_bytes.specs.declared.fault.Fault.{Fault}
use Rattle.rb_bytes.specs.declared.fault.FaultKind.TheVariants.{TooLarge}
use Rattle.rb_bytes.specs.declared.limit.TheConstants.{WEIGHTS}
use Rattle.elf_image.specs.declared.elf.Elf.{Elf}
use Rattle.addr_map.specs.declared.span.Span.{Span}
use Rattle.table_set.specs.TableLimits.{IsTooHeavy}

pub record IsHeavy (elf : Elf) (spans : List Span) (fault : Fault) : Type 0 where
  pub heavy : IsTooHeavy elf spans
  pub fault_is : fault ≡ fault_at TooLarge WEIGHTS
