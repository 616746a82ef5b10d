use Rattle.std.proofs.Common.{◌≡◌, ◌∙◌, ◌-◌, ◌^◌, ℕ, List, sym, ap, min}
use Rattle.std.specs.Prelude.{sum_by}
use Rattle.dw_unit.specs.AbbrevWeight.{table_weight}
use Rattle.dw_unit.specs.CompUnits.{Sections}
use Rattle.dw_unit.specs.Changes.{table_offsets}
use Rattle.dw_unit.specs.ListedUnits.{sections}
use Rattle.dw_unit.specs.NamedOffsets.{is_named_by}
use Rattle.dw_unit.proofs.NamedOffsets.{offsets_are}
use Rattle.dw_unit.proofs.weight.weigh_tables.Goals as goal

pub returns : goal.returns
returns c =
    let s : Sections = sections c.args.info.now c.args.abbrevs.now c.args.addr.now in
    let named = λ (q : ℕ). c.in_ok-offsets.ensures.named q ∙ ap (is_named_by q) (c.deref.ensures.value ∙ c.in_ok-units.ensures) in
    let offsets : table_offsets s ≡ c.in_ok-offsets.offsets.items = offsets_are s c.in_ok-offsets.offsets.items c.requires.sound
    c.in_ok-offsets.ensures.rising named in
    c.sum_weights.ensures s (sym c.in_ok-tables.ensures.section)
    ∙ ap (λ (os : List ℕ). min (sum_by (table_weight s) os) (2 ^ 64 - 1)) (c.deref-3.ensures.value ∙ sym offsets)
