use Rattle.std.proofs.Common.{◌≡◌, ◌∙◌, ◌+◌, ◌-◌, ap, arith, ℕ, Some, Option}
use Rattle.std.specs.Prelude.{◌&&◌, ◌==◌, nat_le, nat_lt, if◌then◌else◌, option_map}
use Rattle.sym_machine.specs.declared.other_bytes.OtherByte.TheVariants as other
use Rattle.sym_machine.specs.declared.value.MemoryByte.{MemoryByte}
use Rattle.sym_machine.specs.declared.value.MemoryByte.TheVariants.{SymbolByte}
use Rattle.sym_machine.specs.internal.Memory.{as_byte}
use Rattle.sym_machine.specs.internal.OtherBytes.{other_byte}
use Rattle.sym_machine.specs.internal.SpecialBytes.{special}
use Rattle.sym_machine.proofs.StartRuns.{run_none, run_more}
use Rattle.sym_machine.proofs.Groups.{map_if}
use Rattle.sym_machine.proofs.other_bytes.OtherBytes.add_symbol.Goals as goal

pub loop-index-init : goal.loop-index-init
loop-index-init c =
    λ q. run_none (Some (SymbolByte c.args.symbol c.args.width (q - c.args.start))) (special c.args.self.now q) c.args.start q

pub loop-index-preserved : goal.loop-index-preserved
loop-index-preserved c = λ q.
    let i = c.loop-index.index in
    let here : q ≡ c.args.start + i → (◌≡◌ {A = Option MemoryByte} (Some (SymbolByte c.args.symbol c.args.width i))
    (Some (SymbolByte c.args.symbol c.args.width (q - c.args.start)))) =
    λ same. let index : i ≡ q - c.args.start = omega arith in
    ap (λ (k : ℕ). Some (SymbolByte c.args.symbol c.args.width k)) index in
    ap (option_map as_byte) (c.in_ok-add_byte.ensures q)
    ∙ map_if (q == c.args.start + i) (other.Symbol c.args.symbol c.args.width i) (other_byte c.loop-index.self q)
    ∙ ap (λ (o : Option MemoryByte). if q == c.args.start + i then Some (SymbolByte c.args.symbol c.args.width i) else o)
    (c.loop-index.invariant q)
    ∙ run_more (Some (SymbolByte c.args.symbol c.args.width i)) (Some (SymbolByte c.args.symbol c.args.width (q - c.args.start)))
    (special c.args.self.now q) c.args.start i q here

pub returns : goal.returns
returns c = λ q.
    let end : c.loop-index.index ≡ c.args.width = omega arith in
    c.loop-index.invariant q ∙ ap (λ (n : ℕ). if nat_le c.args.start q && nat_lt q (c.args.start + n)
    then Some (SymbolByte c.args.symbol c.args.width (q - c.args.start)) else special c.args.self.now q) end
