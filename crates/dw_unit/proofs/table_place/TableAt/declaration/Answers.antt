use Rattle.std.proofs.Common.{rules, ◌≡◌, ◌∙◌, Bool, List, Some, None, sym, ap}
use Rattle.std.specs.Prelude.{slice_get}
use Rattle.std.specs.Option.{option_copied}
use Rattle.dw_unit.specs.Codes.{first_from}
use Rattle.dw_unit.specs.Told.{told_declaration}
use Rattle.dw_unit.specs.ToldLists.{codes_of, told_once}
use Rattle.dw_unit.specs.Trouble.{when}
use Rattle.dw_unit.proofs.DeclaredPlaces.{no_place, no_item, one_item}
use Rattle.dw_unit.proofs.table_place.TableAt.declaration.Goals as goal

pub returns-in_default-clause-trouble : goal.returns-in_default-clause-trouble
returns-in_default-clause-trouble c =
    let t = c.args.self.now.table.now in
    let xs = t.table.list.items in
    let place : c.first_from.result ≡ first_from (codes_of xs) c.args.code c.args.self.now.index = c.first_from.ensures (codes_of xs)
    (search rules) in
    no_place xs t.table.end c.args.code c.args.self.now.index (sym c.in_default.is ∙ place)

pub returns-in_default-item-clause-trouble : goal.returns-in_default-item-clause-trouble
returns-in_default-item-clause-trouble c =
    let t = c.args.self.now.table.now in
    let xs = t.table.list.items in
    let place : c.first_from.result ≡ first_from (codes_of xs) c.args.code c.args.self.now.index = c.first_from.ensures (codes_of xs)
    (search rules) in
    let none : slice_get xs c.in-Some.index ≡ None = sym c.item.ensures ∙ ap option_copied c.in_default-item.is in
    no_item xs t.table.end c.args.code c.args.self.now.index c.in-Some.index (sym c.in-Some.is ∙ place) none

pub returns-then-not-once-clause-trouble : goal.returns-then-not-once-clause-trouble
returns-then-not-once-clause-trouble c =
    let t = c.args.self.now.table.now in
    let xs = t.table.list.items in
    let place : c.first_from.result ≡ first_from (codes_of xs) c.args.code c.args.self.now.index = c.first_from.ensures (codes_of xs)
    (search rules) in
    let there : slice_get xs c.in-Some.index ≡ Some c.in-Some-item.declaration.now = sym c.item.ensures
    ∙ ap option_copied c.in-Some-item.is in
    let once_is : slice_get t.once.items c.in-Some.index ≡ Some c.in-Some-is_once.once = sym c.is_once.ensures ∙ c.in-Some-is_once.is in
    let once : slice_get (told_once xs) c.in-Some.index ≡ Some c.in-Some-is_once.once =
    ap (λ (bs : List Bool). slice_get bs c.in-Some.index) (sym t.once_is) ∙ once_is in
    one_item xs t.table.end c.args.code c.args.self.now.index c.in-Some.index c.in-Some-item.declaration.now c.in-Some-is_once.once
    (sym c.in-Some.is ∙ place) there once
    ∙ ap (λ (b : Bool). when b (told_declaration c.in-Some-item.declaration.now)) c.if-not-once.true

pub returns-clause-read : goal.returns-clause-read
returns-clause-read c =
    let t = c.args.self.now.table.now in
    let xs = t.table.list.items in
    let place : c.first_from.result ≡ first_from (codes_of xs) c.args.code c.args.self.now.index = c.first_from.ensures (codes_of xs)
    (search rules) in
    let there : slice_get xs c.in-Some.index ≡ Some c.in-Some-item.declaration.now = sym c.item.ensures
    ∙ ap option_copied c.in-Some-item.is in
    let once_is : slice_get t.once.items c.in-Some.index ≡ Some c.in-Some-is_once.once = sym c.is_once.ensures ∙ c.in-Some-is_once.is in
    let once : slice_get (told_once xs) c.in-Some.index ≡ Some c.in-Some-is_once.once =
    ap (λ (bs : List Bool). slice_get bs c.in-Some.index) (sym t.once_is) ∙ once_is in
    one_item xs t.table.end c.args.code c.args.self.now.index c.in-Some.index c.in-Some-item.declaration.now c.in-Some-is_once.once
    (sym c.in-Some.is ∙ place) there once
    ∙ ap (λ (b : Bool). when b (told_declaration c.in-Some-item.declaration.now)) c.if-not-once.false
