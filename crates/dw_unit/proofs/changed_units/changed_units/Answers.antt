use Rattle.std.proofs.Common.{◌≡◌, ◌≤◌, ◌+◌, ◌∙◌, ◌++◌, ◌∷◌, [], ℕ, List, Ok, ap, arith, sym, subst, drop, length, map, append_assoc}
use Rattle.std.specs.Prelude.{flat_map}
use Rattle.std.specs.List.{list_any}
use Rattle.std.proofs.lemmas.List.{append-nil, drop_more, drop_all}
use Rattle.std.proofs.lemmas.Grind.{common_steps}
use Rattle.table_core.specs.DebugUnits.{Walked}
use Rattle.table_core.specs.ReadSteps.{oks}
use Rattle.dw_unit.specs.Changes.{Patch, patched, unit_patches}
use Rattle.dw_unit.specs.CompUnits.{Unit, end_of, unit_of}
use Rattle.dw_unit.specs.Declarations.{has_bad_high}
use Rattle.dw_unit.specs.EntryChanges.{AreBehind}
use Rattle.dw_unit.specs.Faults.{declarations_of}
use Rattle.dw_unit.proofs.MapKeys.{offset_key}
use Rattle.dw_unit.proofs.NoFaults.{none_at, none_of}
use Rattle.dw_unit.proofs.WalkSteps.{behind_less, oks_step, read_at}
use Rattle.dw_unit.proofs.changed_units.changed_units.Goals as goal

pub loop-unit-preserved : goal.loop-unit-preserved
loop-unit-preserved c =
    let units : List Walked = c.args.units.now in
    let i : ℕ = c.loop-unit.unit-index in
    let w : Walked = c.unit-item.result in
    let size : ℕ = length c.args.change.now.info.now in
    let rest : List Walked = drop (i + 1) units in
    let step : drop i units ≡ w ∷ rest = drop_more units i w c.loop-unit-test.true ∙ ap (λ (x : Walked). x ∷ rest) (sym c.unit-item.is) in
    let here : AreBehind c.loop-unit.to size (w ∷ rest) = subst (λ (ws : List Walked). AreBehind c.loop-unit.to size ws) step
    c.loop-unit.invariant.behind in
    record {
      behind = behind_less (end_of w) c.in_ok-to.to size rest c.in_ok-to.ensures.to here.2;
      put = λ s m ps x.
          let r = read_at c.args.change.now.tables.now.section.now units i w c.requires.read c.loop-unit-test.true in
          let read : unit_of s.abbrevs w ≡ Ok r.0 =
          ap (λ (l : List ℕ). unit_of l w) x.abbrevs ∙ ap (unit_of c.args.change.now.tables.now.section.now) c.unit-item.is ∙ r.1 in
          let f : Unit → List Patch = unit_patches s m in
          let of : List Walked → List Unit = λ ws. oks (map (unit_of s.abbrevs) ws) in
          let whole : f r.0 ++ (flat_map f (of rest) ++ ps) ≡ flat_map f (of (drop i units)) ++ ps =
          sym (append_assoc (f r.0) (flat_map f (of rest)) ps)
          ∙ ap (λ (us : List Unit). flat_map f us ++ ps) (sym (oks_step s.abbrevs w rest r.0 read) ∙ ap of (sym step)) in
          c.in_ok-to.ensures.put s m r.0 (flat_map f (of rest) ++ ps) x read
          ∙ ap (λ (l : List Patch). c.loop-unit.out.items ++ patched c.loop-unit.to l (drop c.loop-unit.to c.args.change.now.info.now))
          whole
          ∙ c.loop-unit.invariant.put s m ps x;
    }

pub returns : goal.returns
returns c = λ s m x.
    let units : List Walked = c.args.units.now in
    let i : ℕ = c.loop-unit.unit-index in
    let info : List ℕ = c.args.change.now.info.now in
    let f : Unit → List Patch = unit_patches s m in
    let of : List Walked → List Unit = λ ws. oks (map (unit_of s.abbrevs) ws) in
    let all : length units ≤ i = omega arith in
    c.in_ok-extend_from_slice.ensures.items
    ∙ ap (λ (l : List ℕ). c.loop-unit.out.items ++ l) c.split_at.ensures.back
    ∙ sym (ap (λ (ws : List Walked). c.loop-unit.out.items ++ patched c.loop-unit.to (flat_map f (of ws) ++ [])
    (drop c.loop-unit.to info)) (drop_all i units all))
    ∙ c.loop-unit.invariant.put s m [] x
    ∙ ap (λ (ps : List Patch). patched 0 ps info) (append-nil (flat_map f (of units)))

pub put_unit-requires-clause-read : goal.put_unit-requires-clause-read
put_unit-requires-clause-read c =
    let section : List ℕ = c.args.change.now.tables.now.section.now in
    let r = read_at section c.args.units.now c.loop-unit.unit-index c.unit-item.result c.requires.read c.loop-unit-test.true in
    (r.0, ap (unit_of section) c.unit-item.is ∙ r.1)

pub put_unit-requires-clause-fine : goal.put_unit-requires-clause-fine
put_unit-requires-clause-fine c =
    let of = declarations_of c.args.change.now.tables.now.section.now in
    ap (λ (w : Walked). list_any has_bad_high (of w)) c.unit-item.is
    ∙ none_at has_bad_high of c.args.units.now c.loop-unit.unit-index c.unit-item.result c.loop-unit-test.true
    (none_of has_bad_high of c.args.units.now c.requires.fine)

pub put_unit-requires-clause-named : goal.put_unit-requires-clause-named
put_unit-requires-clause-named c =
    offset_key c.args.change.now.tables.now.starts c.args.units.now c.loop-unit.unit-index c.unit-item.result c.unit-item.result
    c.requires.named c.loop-unit-test.true c.unit-item.is

pub put_unit-requires-clause-written : goal.put_unit-requires-clause-written
put_unit-requires-clause-written c =
    offset_key c.args.change.now.new_tables.now.offsets c.args.units.now c.loop-unit.unit-index c.unit-item.result c.unit-item.result
    c.requires.written c.loop-unit-test.true c.unit-item.is

pub put_unit-requires-clause-behind : goal.put_unit-requires-clause-behind
put_unit-requires-clause-behind c = grind (arith, common_steps)

pub put_unit-requires-clause-within : goal.put_unit-requires-clause-within
put_unit-requires-clause-within c = grind (arith, common_steps)

pub split_at-requires : goal.split_at-requires
split_at-requires c = grind (arith, common_steps)
