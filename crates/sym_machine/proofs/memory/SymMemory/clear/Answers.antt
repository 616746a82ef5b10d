use Rattle.std.proofs.Common.{◌≡◌, ◌∙◌, sym, true}
use Rattle.rv_code.specs.machine.Machine.{all_may}
use Rattle.sym_machine.specs.internal.OtherBytes.{other_byte}
use Rattle.sym_machine.specs.internal.Memory.{is_number_at}
use Rattle.sym_machine.proofs.SymbolMemory.{put_none_same}
use Rattle.sym_machine.proofs.memory.SymMemory.clear.Goals as goal

pub returns-then-are_numbers-clause-cleared : goal.returns-then-are_numbers-clause-cleared
returns-then-are_numbers-clause-cleared c = λ q.
    let m = c.args.self.now in
    let all : all_may (is_number_at m) c.args.address c.args.count ≡ true = sym c.are_numbers.ensures ∙ c.if-are_numbers.true in
    put_none_same (other_byte m.others) c.args.address c.args.count q all
