use Rattle.std.proofs.Common.{◌≡◌, ◌++◌, take, All}
use Rattle.std.specs.Prelude.{flat_map}
use Rattle.cover_lists.specs.KeptLists.{items_in}
use Rattle.list_writer.specs.WrittenLocations.{over}
use Rattle.list_writer.proofs.SpelledLocations.{expression_bytes, Fits}
use Rattle.list_writer.proofs.location_spelling.put_expressions.Given as goal

abbrev pub invariant-loop-expression : goal.invariant-loop-expression
invariant-loop-expression l =
    (l.out.items ≡ l.fn.out.items ++ flat_map (expression_bytes l.start l.len) (take l.expression-index l.expressions))
    × All Fits (over l.start l.len (items_in (take l.expression-index l.expressions)))
