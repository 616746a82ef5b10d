use Rattle.std.proofs.Common.{◌≡◌, ◌≤◌, ◌+◌, ap, arith, length}
use Rattle.std.proofs.lemmas.Result.{IfOk-weaker}
use Rattle.program.specs.Limits.{function_limit}
use Rattle.frame_rewrite.proofs.CodeEnd.{comes-after}
use Rattle.bolt_core.proofs.GivenRoom.{can_index}
use Rattle.bolt_core.proofs.carrying.new_tables.Goals as goal

pub carry_all-requires-clause-few : goal.carry_all-requires-clause-few
carry_all-requires-clause-few c =
    let few : length c.args.funcs.now ≤ function_limit = c.requires.few in
    let same : length c.deref.result.now ≡ length c.in_ok-starts.starts.items = ap length c.deref.ensures.value in
    omega (arith, few, same, c.in_ok-starts.ensures)

pub listed-requires : goal.listed-requires
listed-requires c = λ indexed.
    can_index c.args.elf.now c.args.tables.now c.requires.come c.args.map.now c.args.start c.args.code c.requires.stretch
    c.requires.low c.requires.room c.in_ok-written.written c.in_ok-written.ensures indexed

pub returns : goal.returns
returns c = IfOk-weaker c.listed.result _ _ (λ given are. record {
  written = c.in_ok-written.written;
  are_carried = c.in_ok-written.ensures;
  are_listed = are;
  after = comes-after c.args.map.now c.args.start (c.args.start + c.args.code) c.requires.stretch;
}) c.listed.ensures
