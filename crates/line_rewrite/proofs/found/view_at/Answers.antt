use Rattle.std.proofs.Common.{◌≡◌, Some, refl}
use Rattle.std.specs.Prelude.{slice_get}
use Rattle.line_rewrite.proofs.LineLookups.{are_kept, begins_there, item_at, none_at, sequence_ascends, sequence_kept}
use Rattle.line_rewrite.proofs.found.view_at.Goals as goal

pub returns-in_err-unit-clause-none : goal.returns-in_err-unit-clause-none
returns-in_err-unit-clause-none c =
    let us = c.args.units.now in
    rw (c.from_residual.ensures, none_at us us c.args.place.unit c.in_err-unit.ensures.lookup.3 refl) refl

pub returns-in_err-sequence-clause-none : goal.returns-in_err-sequence-clause-none
returns-in_err-sequence-clause-none c =
    let us = c.args.units.now in
    let p = c.args.place in
    let u = c.in_ok-unit.unit.now in
    rw (
      c.from_residual-in_err-sequence.ensures,
      item_at us us p.unit u c.in_ok-unit.ensures.lookup.0 c.in_ok-unit.ensures.lookup.1 refl,
      none_at c.deref.result.now u.sequences.items p.sequence c.in_err-sequence.ensures.lookup.3 c.deref.ensures.value,
    ) refl

pub returns-clause-found : goal.returns-clause-found
returns-clause-found c =
    let us = c.args.units.now in
    let p = c.args.place in
    let u = c.in_ok-unit.unit.now in
    let k = c.in_ok-sequence.sequence.now in
    let at : slice_get us p.unit ≡ Some u = item_at us us p.unit u c.in_ok-unit.ensures.lookup.0 c.in_ok-unit.ensures.lookup.1 refl in
    let on : slice_get u.sequences.items p.sequence ≡ Some k =
    item_at c.deref.result.now u.sequences.items p.sequence k c.in_ok-sequence.ensures.lookup.0 c.in_ok-sequence.ensures.lookup.1
    c.deref.ensures.value in
    record {
      unit = u;
      unit_is = at;
      sequence = k;
      sequence_is = on;
      has = record {
        kept = are_kept u k p.sequence on _ _ _ c.deref-2.ensures.value c.deref-3.ensures.value c.deref-4.ensures.value;
        count = (sequence_kept u k p.sequence on).count;
        ascend = sequence_ascends u k p.sequence on;
      };
      begins = begins_there u k p.sequence on _ _ _ c.deref-2.ensures.value c.deref-3.ensures.value c.deref-4.ensures.value;
    }
