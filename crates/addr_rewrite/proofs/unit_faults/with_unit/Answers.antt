use Rattle.std.proofs.Common.{◌≡◌, ◌∙◌, Ok, ap, sym}
use Rattle.std.specs.Option.{option_or}
use Rattle.answer_runs.specs.Choices.{lower}
use Rattle.dw_unit.specs.CompUnits.{unit_of}
use Rattle.dw_unit.specs.Declarations.{has_bad_form, has_bad_high}
use Rattle.dw_unit.specs.Faults.{fails, is_sound_unit}
use Rattle.dw_unit.specs.ListedUnits.{listed_unit}
use Rattle.dw_unit.proofs.UnitReadings.{places_more, unformed_more}
use Rattle.addr_rewrite.proofs.FirstPlaces.{first_read}
use Rattle.addr_rewrite.proofs.unit_faults.with_unit.Goals as goal

pub returns : goal.returns
returns c = λ abbrevs addr ws w place are is. record {
  form = c.lower.ensures ∙ (λ i. lower (are.form i) (is.form i)) ∙ sym (places_more has_bad_form abbrevs ws w);
  high = c.lower-2.ensures ∙ (λ i. lower (are.high i) (is.high i)) ∙ sym (places_more has_bad_high abbrevs ws w);
  unformed_are = c.lower-3.ensures ∙ (λ i. lower (are.unformed_are i) (is.behind.unformed i)) ∙ sym (unformed_more abbrevs ws w);
  bad = c.or.ensures ∙ ap (option_or c.args.so_far.bad) c.bad_place.ensures
      ∙ first_read (λ w. fails (is_sound_unit addr) (unit_of abbrevs w)) ws w (λ es. listed_unit (unit_of abbrevs w) ≡ Ok es.items)
      c.args.reading.now.entries c.args.so_far.bad c.args.place place are.bad is.behind.entries;
}
