-- The line of a rewrite.
use Rattle.std.specs.Prelude.{ℕ, List, ◌++◌, codes, decimal}
use Rattle.bolt_core.specs.RewriteCounts.{RewriteCounts}

-- the counts of the rewrite
abbrev pub summary_line : RewriteCounts → List ℕ
summary_line counts =
    codes "moved " ++ decimal counts.functions ++ codes " functions, " ++ decimal counts.instructions
    ++ codes " instructions, " ++ decimal counts.bytes ++ codes " bytes; " ++ decimal counts.hot
    ++ codes " hot blocks; "
    ++ decimal counts.ignored ++ codes " profile lines ignored\n"
