use Rattle.std.proofs.Common.{None, refl}
use Rattle.std.proofs.lemmas.Result.{MatchResult-weaker, on_ok_weaker}
use Rattle.dw_unit.specs.Faults.{FaultPlaces}
use Rattle.addr_rewrite.proofs.unit_ranges.Aranges.read_alone.Goals as goal

abbrev no_places : FaultPlaces
no_places = record { version = None; form = None; high = None; bad = None }

pub returns-clause-fault : goal.returns-clause-fault
returns-clause-fault c =
    MatchResult-weaker c.read_behind.result c.read_behind.ensures.fault (λ _ ok. ok) (λ e refused. refused no_places refl)

pub returns-clause-free : goal.returns-clause-free
returns-clause-free c = on_ok_weaker c.read_behind.result (λ free. free no_places refl) c.read_behind.ensures.free
