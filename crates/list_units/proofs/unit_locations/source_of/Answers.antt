use Rattle.std.proofs.Common.{◌≡◌, ◌∙◌, None, Some, List, ℕ, Option, ap, sym, subst}
use Rattle.cover_lists.specs.KeptLists.{IsNumberOf}
use Rattle.dw_lists.specs.KnownLists.{location_list}
use Rattle.dw_lists.specs.Lists.{locations_kind, list_offset}
use Rattle.dw_lists.specs.Locations.{block_of}
use Rattle.list_units.proofs.LocationFacts.{read_none, direct_source, no_source, number_source, unread_source}
use Rattle.list_units.proofs.ListingFacts.{unnumbered, names_block, names_one, lacks_offset}
use Rattle.list_units.proofs.ReadListFacts.{listed_still, names_list}
use Rattle.list_units.proofs.unit_locations.source_of.Goals as goal

pub returns-then-is_block-clause-read : goal.returns-then-is_block-clause-read
returns-then-is_block-clause-read c = λ s u r k. (
  read_none s u c.args.lists.now.items c.args.known.now k,
  direct_source s u c.args.lists.now.items c.args.attr c.in_ok-expression.expression (sym c.is_block.ensures ∙ c.if-is_block.true)
      (c.in_ok-expression.ensures.items ∙ c.expression_in.ensures ∙ ap (λ (l : List ℕ). block_of l c.args.attr) r.info),
)

pub returns-in_default-clause-read : goal.returns-in_default-clause-read
returns-in_default-clause-read c = λ s u r k. (
  read_none s u c.args.lists.now.items c.args.known.now k,
  no_source s u c.args.lists.now.items c.args.attr (sym c.is_block.ensures ∙ c.if-is_block.false)
      (ap (λ (l : List ℕ). list_offset locations_kind l u c.args.attr) (sym r.section) ∙ sym (c.list_offset.ensures u r.lists.lists)
      ∙ c.in_default.is),
)

pub returns-in-Some-2-clause-read : goal.returns-in-Some-2-clause-read
returns-in-Some-2-clause-read c = λ s u r k.
    let p = c.in_ok-number.ensures.read s u r k in
    let offset : list_offset locations_kind s.locations u c.args.attr ≡ Some c.in-Some.at =
    ap (λ (l : List ℕ). list_offset locations_kind l u c.args.attr) (sym r.section) ∙ sym (c.list_offset.ensures u r.lists.lists)
    ∙ c.in-Some.is in (
      p.0,
      number_source s u c.number_at.new.lists.items c.args.attr c.in-Some.at c.in-Some-2.number (sym c.is_block.ensures
          ∙ c.if-is_block.false) offset
          (subst (λ (o : Option ℕ). IsNumberOf c.number_at.new.lists.items o (location_list s u c.in-Some.at)) c.in-Some-2.is p.1),
    )

pub returns-in-None-clause-read : goal.returns-in-None-clause-read
returns-in-None-clause-read c = λ s u r k.
    let p = c.in_ok-number.ensures.read s u r k in
    let offset : list_offset locations_kind s.locations u c.args.attr ≡ Some c.in-Some.at =
    ap (λ (l : List ℕ). list_offset locations_kind l u c.args.attr) (sym r.section) ∙ sym (c.list_offset.ensures u r.lists.lists)
    ∙ c.in-Some.is in (
      p.0,
      unread_source s u c.number_at.new.lists.items c.args.attr c.in-Some.at (sym c.is_block.ensures ∙ c.if-is_block.false) offset
          (subst (λ (o : Option ℕ). IsNumberOf c.number_at.new.lists.items o (location_list s u c.in-Some.at)) c.in-None.is p.1),
    )

pub returns-in-Some-2-clause-listed : goal.returns-in-Some-2-clause-listed
returns-in-Some-2-clause-listed c = λ s u offsets first r among x.
    let offset : list_offset locations_kind s.locations u c.args.attr ≡ Some c.in-Some.at =
    ap (λ (l : List ℕ). list_offset locations_kind l u c.args.attr) (sym r.section) ∙ sym (c.list_offset.ensures u r.lists.lists)
    ∙ c.in-Some.is in
    listed_still s u offsets first c.number_at.new.lists.items c.number_at.new.known c.in-Some.at
    (among (sym c.is_block.ensures ∙ c.if-is_block.false) c.in-Some.at offset) (c.in_ok-number.ensures.listed s u offsets first r x)

pub returns-in-None-clause-listed : goal.returns-in-None-clause-listed
returns-in-None-clause-listed c = λ s u offsets first r among x.
    let offset : list_offset locations_kind s.locations u c.args.attr ≡ Some c.in-Some.at =
    ap (λ (l : List ℕ). list_offset locations_kind l u c.args.attr) (sym r.section) ∙ sym (c.list_offset.ensures u r.lists.lists)
    ∙ c.in-Some.is in
    listed_still s u offsets first c.number_at.new.lists.items c.number_at.new.known c.in-Some.at
    (among (sym c.is_block.ensures ∙ c.if-is_block.false) c.in-Some.at offset) (c.in_ok-number.ensures.listed s u offsets first r x)

pub returns-then-is_block-clause-number : goal.returns-then-is_block-clause-number
returns-then-is_block-clause-number c = λ s u r located formed k.
    unnumbered c.args.lists.now.items _ (names_block s u c.args.attr located (sym c.is_block.ensures ∙ c.if-is_block.true))

pub returns-in_default-clause-number : goal.returns-in_default-clause-number
returns-in_default-clause-number c = λ s u r located formed k.
    unnumbered c.args.lists.now.items _ (lacks_offset s u c.args.attr
    (ap (λ (l : List ℕ). list_offset locations_kind l u c.args.attr) (sym r.section) ∙ sym (c.list_offset.ensures u r.lists.lists)
    ∙ c.in_default.is))

pub returns-in-Some-2-clause-number : goal.returns-in-Some-2-clause-number
returns-in-Some-2-clause-number c = λ s u r located formed k.
    let p = c.in_ok-number.ensures.read s u r k in
    let offset : list_offset locations_kind s.locations u c.args.attr ≡ Some c.in-Some.at =
    ap (λ (l : List ℕ). list_offset locations_kind l u c.args.attr) (sym r.section) ∙ sym (c.list_offset.ensures u r.lists.lists)
    ∙ c.in-Some.is in
    subst (IsNumberOf c.number_at.new.lists.items (Some c.in-Some-2.number))
    (sym (names_one s u c.args.attr c.in-Some.at
    (names_list s u c.args.attr located formed (sym c.is_block.ensures ∙ c.if-is_block.false)) offset))
    (subst (λ (o : Option ℕ). IsNumberOf c.number_at.new.lists.items o (location_list s u c.in-Some.at)) c.in-Some-2.is p.1)

pub returns-in-None-clause-number : goal.returns-in-None-clause-number
returns-in-None-clause-number c = λ s u r located formed k.
    let p = c.in_ok-number.ensures.read s u r k in
    let offset : list_offset locations_kind s.locations u c.args.attr ≡ Some c.in-Some.at =
    ap (λ (l : List ℕ). list_offset locations_kind l u c.args.attr) (sym r.section) ∙ sym (c.list_offset.ensures u r.lists.lists)
    ∙ c.in-Some.is in
    subst (IsNumberOf c.number_at.new.lists.items None)
    (sym (names_one s u c.args.attr c.in-Some.at
    (names_list s u c.args.attr located formed (sym c.is_block.ensures ∙ c.if-is_block.false)) offset))
    (subst (λ (o : Option ℕ). IsNumberOf c.number_at.new.lists.items o (location_list s u c.in-Some.at)) c.in-None.is p.1)
