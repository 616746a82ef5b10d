use Rattle.std.proofs.Common.{◌≡◌, ◌∙◌, ℕ, List, [], ◌∷◌, Option, Some, None, ap, sym, map}
use Rattle.std.specs.Prelude.{option_and_then, unwrap_or, slice_get}
use Rattle.std.specs.Option.{option_copied}
use Rattle.answer_runs.specs.Choices.{first_of}
use Rattle.dw_unit.specs.CompUnits as units
use Rattle.dw_unit.specs.ListedEntries.{ListedEntry}
use Rattle.dw_unit.specs.ListedUnits.{plain, plain_unit}
use Rattle.dw_lists.proofs.unit_lists.base_address.Goals as goal

first_plain : (es : List ListedEntry) (x : ListedEntry) → slice_get es 0 ≡ Some x → first_of (map plain es) ≡ Some (plain x)
first_plain [] x e = absurd (cc)
first_plain (y ∷ es) x e = ap (λ (o : Option ListedEntry). first_of (map plain (some_list o))) e
  where
    some_list : Option ListedEntry → List ListedEntry
    some_list None = []
    some_list (Some x) = x ∷ []

pub returns-in-Some : goal.returns-in-Some
returns-in-Some c = λ base.
    let es : List ListedEntry = c.args.entries.now in
    let x : ListedEntry = c.in-Some.own.now in
    let there : slice_get es 0 ≡ Some x = sym c.first.ensures.value ∙ ap option_copied c.in-Some.is in
    let attrs = sym (c.deref.ensures.value ∙ ap (λ (e : ListedEntry). e.attrs) c.own.view_is) in
    c.unwrap_or.ensures
    ∙ ap (λ (o : Option ℕ). unwrap_or o 0) (c.low_pc.ensures (plain_unit es) (plain x) base attrs
    ∙ sym (ap (λ (o : Option units.Entry). option_and_then (units.low_pc c.args.addresses.now.section.now (plain_unit es)) o) (first_plain
    es x there)))
