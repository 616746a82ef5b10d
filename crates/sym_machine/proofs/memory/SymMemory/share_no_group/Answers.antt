use Rattle.std.proofs.Common.{◌≡◌, ap, arith, false, rules}
use Rattle.std.specs.Prelude.{is_none}
use Rattle.rv_memory.proofs.AddressRuns.{all_may-run}
use Rattle.sym_machine.specs.internal.OtherBytes.{has_group}
use Rattle.sym_machine.specs.internal.Memory.{is_number_at}
use Rattle.sym_machine.proofs.Groups.{no_group}
use Rattle.sym_machine.proofs.memory.SymMemory.share_no_group.Goals as goal

pub returns-then-address-count : goal.returns-then-address-count
returns-then-address-count c = λ yes.
    let m = c.args.self.now in
    let none : has_group m.others c.args.address ≡ false = search rules in
    all_may-run (is_number_at m) c.args.address c.args.count (omega arith)
    (λ q from to. ap is_none (no_group m.others c.args.address q none (omega arith)))
