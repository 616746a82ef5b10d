use Rattle.std.proofs.Common.{◌<◌, rules, sym}
use Rattle.std.proofs.Math.Nat.{mod-eq_of_lt}
use Rattle.elf_parts.proofs.Spellings.{symbol_bytes-joined}
use Rattle.elf_parts.proofs.spell.symbol_bytes.Goals as goal

pub returns-clause-bytes : goal.returns-clause-bytes
returns-clause-bytes c =
    let info : c.args.s.info < 256 = search rules in
    let other : c.args.s.other < 256 = search rules in
    symbol_bytes-joined c.args.s _ _ _ _ c.args.s.info c.args.s.other c.to_le_bytes-n.ensures
    (sym (mod-eq_of_lt info)) (sym (mod-eq_of_lt other)) c.to_le_bytes-e.ensures c.to_le_bytes-v.ensures c.to_le_bytes-z.ensures

pub returns-clause-fits : goal.returns-clause-fits
returns-clause-fits c = record {
  name = search rules;
  info = search rules;
  other = search rules;
  section = search rules;
  value = search rules;
  size = search rules;
}
