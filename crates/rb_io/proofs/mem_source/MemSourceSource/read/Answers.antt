use Rattle.std.proofs.Common.{ap, Some}
use Rattle.rb_io.proofs.Reading.{drop-take-drop}
use Rattle.rb_io.proofs.mem_source.MemSourceSource.read.Goals as goal

pub returns-clause-moved : goal.returns-clause-moved
returns-clause-moved c =
    ap Some (drop-take-drop c.args.self.now.place c.copy_prefix-count.result c.args.self.now.bytes.items _
    (rw (c.split_at.ensures.back, c.deref.ensures.value) at c.copy_prefix-count.ensures.front))
