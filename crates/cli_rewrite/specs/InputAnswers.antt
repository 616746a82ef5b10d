-- The rewrite of an input by its profile.
use Rattle.std.specs.Prelude.{ℕ, List, IsTrue}
use Rattle.rb_io.specs.Views.{FilesSeen}
use Rattle.addr_map.specs.declared.span.Span.{Span}
use Rattle.bolt_core.specs.RewriteCounts.{RewriteCounts, counts_seen}
use Rattle.bolt_core.specs.RewrittenFile.{IsRewritten}
use Rattle.bolt_core.specs.declared.rewriting.Rewritten.{Rewritten}
use Rattle.cli_base.specs.Inputs.{AreRead}
use Rattle.cli_args.specs.Args.{InputNames}

-- the result of a rewrite: the bytes of the output, the map, and the counts
pub record MadeRewrite : Type 0 where
  pub written : List ℕ
  pub spans : List Span
  pub counts : RewriteCounts

-- a rewrite, in the terms of the code
abbrev pub made_by : Rewritten → MadeRewrite
made_by r = record { written = r.file.items; spans = r.map; counts = counts_seen r }

-- both files were read, and this is a rewrite of them
pub record IsMadeOf (names : InputNames) (files : FilesSeen) (made : MadeRewrite) : Type 0 where
  pub file : List ℕ
  pub profile : List ℕ
  pub are_read : IsTrue files.told → AreRead files.content names file profile
  pub rewritten : IsRewritten file profile made.written made.spans made.counts
