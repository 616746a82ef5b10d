-- The line of the usage.
use Rattle.std.specs.Prelude.{ℕ, List, ◌++◌, codes}

abbrev pub usage_line : List ℕ
usage_line =
    codes "usage: rewrite IN PROFILE OUT MAP, map IN PROFILE, run [--symbols] [--steps N] FILE [WORDS], "
    ++ codes "lookup FILE ADDR, sample N OUT PROFILE, record [--steps N] FILE OUT [WORDS], "
    ++ codes "repair IN PROFILE OUT, verify IN OUT MAP, frames FILE ADDR\n"
