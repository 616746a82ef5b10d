use Rattle.std.proofs.Common.{◌≡◌, map, take, All}
use Rattle.cover_lists.specs.KeptLists.{items_in}
use Rattle.list_writer.specs.WrittenLocations.{runs_bytes, CanBeWritten}
use Rattle.list_writer.proofs.location_spelling.spelled_locations.Given as goal

abbrev pub invariant-loop-runs : goal.invariant-loop-runs
invariant-loop-runs l = (items_in l.all.items ≡ map runs_bytes (take l.runs-index l.lists)) × All CanBeWritten (take l.runs-index l.lists)
