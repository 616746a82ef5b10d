use Rattle.std.proofs.Common.{◌≡◌, ◌∙◌, sym, ap, Some, Ok, Err, Result, List, ℕ, Option}
use Rattle.std.specs.Prelude.{IfOk, Vec}
use Rattle.std.specs.declared.alloc.Global.{Global}
use Rattle.rb_bytes.specs.declared.fault.NoMemory.{NoMemory}
use Rattle.rv_memory.specs.Memory.{memory_of}
use Rattle.sym_machine.specs.internal.OtherBytes.{other_byte}
use Rattle.sym_machine.proofs.SymbolMemory.{numbers_all}
use Rattle.sym_machine.proofs.memory.SymMemory.numbers.Goals as goal

these : (r : Result (Vec ℕ Global) NoMemory) (ns : Option (List ℕ)) (xs : List ℕ) → ns ≡ Some xs →
    IfOk r (λ bytes. bytes.items ≡ xs) → IfOk r (λ bytes. ns ≡ Some bytes.items)
these (Ok bytes) ns xs all is = all ∙ ap Some (sym is)
these (Err e) ns xs all is = tt

pub returns : goal.returns
returns c =
    let m = c.args.self.now in
    these c.bytes.result _ _
    (numbers_all (other_byte m.others) (memory_of m.bytes) c.args.address c.args.count c.requires) c.bytes.ensures
