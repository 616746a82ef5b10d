-- Reading that fails.
use Rattle.std.specs.Prelude.{Result, Ok, Err}
use Rattle.line_rewrite.specs.declared.trouble.Trouble.{Trouble}
use Rattle.line_rewrite.specs.declared.trouble.Trouble.TheVariants.{Malformed, Memory}

abbrev pub Tells : Trouble → Type 0 → Type 0
Tells Malformed P = P
Tells Memory P = Unit {0}

-- If the bytes are malformed, `P` holds.
abbrev pub IfMalformed : {X : Type 0} → Result X Trouble → Type 0 → Type 0
IfMalformed (Ok x) P = Unit {0}
IfMalformed (Err e) P = Tells e P
