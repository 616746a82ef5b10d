use Rattle.std.proofs.Common.{rules, ◌≡◌, ◌<◌, ◌^◌, ◌+◌, ◌∙◌, ◌++◌, ◌∷◌, [], ℕ, Bool, true, false, List, refl, Ok, Option, None, ap, sym}
use Rattle.std.proofs.Common.{subst, take, is_some, nat_cmp, option_map}
use Rattle.std.specs.Prelude.{◌||◌}
use Rattle.std.specs.BTreeMap.{get}
use Rattle.std.proofs.lemmas.List.{take_more}
use Rattle.table_core.specs.DebugUnits.{Walked}
use Rattle.dw_unit.specs.declared.own_entry.OwnEntry.{OwnEntry}
use Rattle.dw_unit.specs.Changes.{is_own_of}
use Rattle.dw_unit.specs.CompUnits.{Unit, end_of, own_entry, unit_of}
use Rattle.dw_unit.specs.EntryChanges.{own_places}
use Rattle.dw_unit.specs.OwnPlaces.{names_own}
use Rattle.dw_unit.proofs.MapKeys.{offset_key}
use Rattle.dw_unit.proofs.SpelledSteps.{key_more, own_by, own_more, own_test}
use Rattle.dw_unit.proofs.WalkSteps.{read_at}
use Rattle.dw_unit.proofs.own_declarations.own_declarations.Goals as goal
use Rattle.dw_unit.proofs.own_declarations.own_declarations.Goals.{in-Some+in_ok-insert, in_default}

or_nothing : (b : Bool) → (b || false) ≡ b
or_nothing true = refl
or_nothing false = refl

pub loop-unit-preserved : goal.loop-unit-preserved
loop-unit-preserved c = λ q.
    let ws : List Walked = c.args.units.now in
    let i : ℕ = c.loop-unit.unit-index in
    let w : Walked = c.unit-item.result in
    let section : List ℕ = c.args.tables.now.section.now in
    let r = read_at section ws i w c.requires.read c.loop-unit-test.true in
    let u : Unit = r.0 in
    let read : unit_of section w ≡ Ok u = ap (unit_of section) c.unit-item.is ∙ r.1 in
    let found : Option OwnEntry = c.in_ok-own.field-0 in
    let own : found ≡ option_map own_places (own_entry u) = c.in_ok-own.ensures u read in
    let before : Bool = is_some (get nat_cmp c.loop-unit.places q) in
    let same : before ≡ names_own section (take i ws) q = c.loop-unit.invariant q in
    let step : names_own section (take (i + 1) ws) q ≡ (before || own_test q found) =
    ap (λ (l : List Walked). names_own section l q) (take_more ws i w c.loop-unit-test.true
    ∙ ap (λ (x : Walked). take i ws ++ x ∷ []) (sym c.unit-item.is))
    ∙ own_more section (take i ws) w u q read ∙ ap (λ (b : Bool). b || is_own_of q u) (sym same)
    ∙ ap (λ (b : Bool). before || b) (own_by q u found own) in
    elim c.match-branch-2.branch [
      | in-Some+in_ok-insert v ↦
          ap (λ m. is_some (get nat_cmp m q)) v.places-is
          ∙ key_more c.loop-unit.places v.insert.new.self v.in-Some.own.declaration _ (λ q. v.in_ok-insert.ensures.updates.0 q) q
          ∙ ap (λ (o : Option OwnEntry). before || own_test q o) (sym v.in-Some.is)
          ∙ sym step
      | in_default v ↦
          let none : found ≡ None = search rules in
          ap (λ m. is_some (get nat_cmp m q)) v.places-is ∙ sym (ap (λ (o : Option OwnEntry). before || own_test q o) none
          ∙ or_nothing before) ∙ sym step
    ]

pub own_entry-requires-clause-read : goal.own_entry-requires-clause-read
own_entry-requires-clause-read c =
    let section : List ℕ = c.args.tables.now.section.now in
    let r = read_at section c.args.units.now c.loop-unit.unit-index c.unit-item.result c.requires.read c.loop-unit-test.true in
    (r.0, ap (unit_of section) c.unit-item.is ∙ r.1)

pub own_entry-requires-clause-named : goal.own_entry-requires-clause-named
own_entry-requires-clause-named c =
    offset_key c.args.tables.now.starts c.args.units.now c.loop-unit.unit-index c.unit-item.result c.unit-item.result c.requires.named
    c.loop-unit-test.true c.unit-item.is

pub own_entry-requires-clause-within : goal.own_entry-requires-clause-within
own_entry-requires-clause-within c =
    subst (λ (w : Walked). end_of w < 2 ^ 64) (sym c.unit-item.is)
    (c.requires.within c.loop-unit.unit-index c.unit-item.result c.loop-unit-test.true)
