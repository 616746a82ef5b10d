-- Repairing functions one after another.
use Rattle.std.specs.Prelude.{◌≤◌, length}
use Rattle.flow_infer.specs.declared.flow.Flow.{Flow}
use Rattle.flow_infer.specs.declared.source.Source.{Source}
use Rattle.flow_infer.specs.Heights.{IsSettled}
use Rattle.flow_infer.specs.Sources.{AreLinksWithin, PartsFunctions}

-- The flows of the first functions, and the prices of their blocks.
pub record AreRepaired (s : Source) (flow : Flow) : Type 0 where
  pub settled : IsSettled flow.links.items flow.prices.items
  pub listed : AreLinksWithin s 0 (length flow.prices.items) flow.links.items
  pub within : length flow.prices.items ≤ length s.blocks.now
  pub parted : PartsFunctions s.blocks.now (length flow.prices.items)
