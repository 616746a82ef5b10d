use Rattle.std.proofs.Common.{◌≡◌, ℕ, List, None, [], length, refl, rules}
use Rattle.std.proofs.lemmas.List.{nil_from_length}
use Rattle.table_core.specs.DebugUnits.{units_from}
use Rattle.addr_rewrite.specs.Aranges.{unit_at}
use Rattle.addr_rewrite.proofs.unit_ranges.ArangesByAddress.is_silent.Goals as goal

silent : (s : List ℕ) → s ≡ [] → (a : ℕ) → unit_at s a ≡ None
unfolding units_from
silent s e a = rw e refl

pub returns : goal.returns
returns c = λ t a.
    let section : List ℕ = c.self.inside.section.items in
    let empty : length section ≡ 0 = search rules in
    rw (← c.self.view_is) (silent section (nil_from_length section empty) a)
