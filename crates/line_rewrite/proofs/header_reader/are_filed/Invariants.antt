use Rattle.std.proofs.Common.{◌≡◌, drop}
use Rattle.line_rewrite.specs.KeptUnits.{are_filed}
use Rattle.line_rewrite.proofs.header_reader.are_filed.Given as goal

abbrev pub invariant-loop-file : goal.invariant-loop-file
invariant-loop-file l = are_filed l.directories (drop l.file-index l.files) ≡ are_filed l.directories l.files
