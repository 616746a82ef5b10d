use Rattle.std.proofs.Common.{◌∙◌, ◌∷◌, [], ℕ, List, Option, ap, reverse}
use Rattle.std.specs.Option.{option_or}
use Rattle.std.proofs.lemmas.List.{reverse-append}
use Rattle.list_units.specs.declared.open_entries.OpenEntry.{OpenEntry}
use Rattle.list_units.specs.OpenEntries.{nearest}
use Rattle.list_units.proofs.open_entries.enter.Goals as goal

pub returns-clause-opened : goal.returns-clause-opened
returns-clause-opened c =
    let o : OpenEntry = record { depth = c.args.depth; nearest = c.or-group.result } in
    ap (λ (l : List OpenEntry). reverse l) c.in_ok-push.ensures.items
    ∙ reverse-append c.close.new.entries.items (o ∷ []) ∙ ap (λ (l : List OpenEntry). o ∷ l) c.close.ensures

pub returns-clause-nearest : goal.returns-clause-nearest
returns-clause-nearest c =
    c.or-group.ensures ∙ ap (λ (n : Option ℕ). option_or c.args.own n)
    (c.nearest-outer.ensures ∙ ap (λ (l : List OpenEntry). nearest (reverse l)) c.deref.ensures.value ∙ ap nearest c.close.ensures)
