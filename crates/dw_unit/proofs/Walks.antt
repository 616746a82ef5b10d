-- Lists that are partly read.
use Rattle.dw_unit.specs.Declarations.{Declaration, Table}
use Rattle.std.proofs.Common.{◌++◌, List, Ok, Err, Result, ℕ}

-- The elements read, followed by those still to be read.
abbrev pub with_front : {X E : Type 0} → List X → Result (List X × List ℕ) E → Result (List X × List ℕ) E
with_front xs (Ok read) = Ok (xs ++ read.0, read.1)
with_front xs (Err e) = Err e

-- The declarations read, followed by a table.
abbrev pub with_before : List Declaration → Table → Table
with_before ds t = record { list = ds ++ t.list; end = t.end }
