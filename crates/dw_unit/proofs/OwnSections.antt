-- The declarations of units' own entries.
use Rattle.std.proofs.Common.{◌≡◌, ◌∙◌, ℕ, List, ap, sym, is_some, nat_cmp}
use Rattle.std.specs.BTreeMap.{get}
use Rattle.table_core.specs.DebugUnits.{Walked, walked}
use Rattle.dw_unit.specs.declared.own_declarations.OwnDeclarations.{OwnDeclarations}
use Rattle.dw_unit.specs.CompUnits.{Sections}
use Rattle.dw_unit.specs.OwnPlaces.{AreOwn, names_own}

pub are_own : (s : Sections) (own : OwnDeclarations) (section : List ℕ) (ws : List Walked) → s.abbrevs ≡ section → ws ≡ walked 5 s.info →
    ((q : ℕ) → is_some (get nat_cmp own.places q) ≡ names_own section ws q) → AreOwn s own
are_own s own section ws e f named = λ d.
    ap (λ (l : List ℕ). names_own l (walked 5 s.info) d.place) e ∙ ap (λ (l : List Walked). names_own section l d.place) (sym f)
    ∙ sym (named d.place)
