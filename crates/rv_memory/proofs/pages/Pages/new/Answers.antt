use Rattle.std.proofs.Common.{◌/◌, refl}
use Rattle.rv_memory.specs.Pages.{byte_in}
use Rattle.rv_memory.proofs.pages.Pages.new.Goals as goal

pub returns : goal.returns
unfolding byte_in
returns c = λ q. rw (c.new-3.ensures (q / 4096)) refl
