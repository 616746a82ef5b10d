-- The counts in the summary of a rewrite.
use Rattle.std.specs.Prelude.{ℕ}
use Rattle.bolt_core.specs.declared.rewriting.Rewritten.{Rewritten}

pub record RewriteCounts : Type 0 where
  pub functions : ℕ
  pub instructions : ℕ
  pub bytes : ℕ
  pub hot : ℕ
  pub ignored : ℕ

-- the counts of a rewrite, in the terms of the code
abbrev pub counts_seen : Rewritten → RewriteCounts
counts_seen r = record {
  functions = r.functions;
  instructions = r.instructions;
  bytes = r.bytes;
  hot = r.hot;
  ignored = r.ignored;
}
