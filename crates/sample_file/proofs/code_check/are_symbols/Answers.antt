use Rattle.std.proofs.Common.{rules, sym}
use Rattle.elf_image.specs.file.Cuts.{names_function}
use Rattle.sample_file.specs.SampleCode.{sample_symbol}
use Rattle.sample_file.specs.FoundCode.{symbol_shape}
use Rattle.sample_file.proofs.Ranges.{kept_more}
use Rattle.sample_file.proofs.code_check.are_symbols.Goals as goal

pub loop-s-preserved : goal.loop-s-preserved
loop-s-preserved c = record {
  seen = kept_more symbol_shape names_function (sample_symbol c.args.n) c.args.symbols.now c.loop-s.s-index c.loop-s.k _
      (search rules) (sym c.if-not-names_function.ensures) c.loop-s.invariant.seen
      (c.in_ok-is_function_symbol.ensures (search rules));
  few = search rules;
}
