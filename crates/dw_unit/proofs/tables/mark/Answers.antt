use Rattle.std.proofs.Common.{rules, ◌≡◌, ◌<◌, ◌+◌, ◌-◌, ◌∙◌, ℕ, Some, List, sym, ap, refl, arith, length, get_or, map, option_map}
use Rattle.std.specs.Prelude.{slice_get}
use Rattle.std.proofs.lemmas.Option.{slice_get-map, slice_get_read, slice_get_within, same_Some}
use Rattle.dw_unit.specs.declared.declaration as code
use Rattle.dw_unit.specs.declared.start.Start.{Start}
use Rattle.dw_unit.specs.Declarations.{Declaration, Table, has_bad_form, has_bad_high}
use Rattle.dw_unit.specs.Lowest.{lower_if}
use Rattle.dw_unit.specs.TableStarts.{IsMark}
use Rattle.dw_unit.specs.Told.{told_declaration, told_table}
use Rattle.dw_unit.proofs.Leasts.{least_with}
use Rattle.dw_unit.proofs.MapKeys.{keys_kept}
use Rattle.dw_unit.proofs.Starts.{mark_more}
use Rattle.dw_unit.proofs.tables.mark.Goals as goal

told_at : (items : List code.Declaration.Declaration) (i : ℕ) (x : code.Declaration.Declaration) → i < length items →
    x ≡ get_or items i x →
    slice_get (map told_declaration items) i ≡ Some (told_declaration x)
told_at items i x h e = slice_get-map told_declaration items i ∙ ap (λ o. option_map told_declaration o)
    (slice_get_read items (length items) i x refl h e)

pub marks-preserved : goal.marks-preserved
marks-preserved c =
    let items = c.args.table.now.list.items in
    let i : ℕ = c.marks.index - 1 in
    let x = c.index-declaration.result.now in
    let h : i < length items = omega (arith, c.marks-test.true, c.marks.auto.index) in
    let next : c.marks.index ≡ i + 1 = omega (arith, c.marks-test.true) in
    let item : x ≡ get_or items i x = search rules in
    let there = told_at items i x h item in
    record {
      form = c.lower_of-form.ensures ∙ ap (λ b. lower_if b x.place c.marks.form) c.has_bad_form.ensures
          ∙ least_with has_bad_form (map told_declaration items) i c.marks.index (told_declaration x) c.marks.form next there
          c.marks.invariant.form;
      high = c.lower_of-high.ensures ∙ ap (λ b. lower_if b x.place c.marks.high) c.has_bad_high.ensures
          ∙ least_with has_bad_high (map told_declaration items) i c.marks.index (told_declaration x) c.marks.high next there
          c.marks.invariant.high;
      marks = c.marks.invariant.marks;
      keeps = c.marks.invariant.keeps;
    }

pub marks-preserved-in_ok-insert : goal.marks-preserved-in_ok-insert
marks-preserved-in_ok-insert c =
    let items = c.args.table.now.list.items in
    let i : ℕ = c.marks.index - 1 in
    let x = c.index-declaration.result.now in
    let h : i < length items = omega (arith, c.marks-test.true, c.marks.auto.index) in
    let next : c.marks.index ≡ i + 1 = omega (arith, c.marks-test.true) in
    let item : x ≡ get_or items i x = search rules in
    let there = told_at items i x h item in
    let form_is = c.lower_of-form.ensures ∙ ap (λ b. lower_if b x.place c.marks.form) c.has_bad_form.ensures
    ∙ least_with has_bad_form (map told_declaration items) i c.marks.index (told_declaration x) c.marks.form next there
    c.marks.invariant.form in
    let high_is = c.lower_of-high.ensures ∙ ap (λ b. lower_if b x.place c.marks.high) c.has_bad_high.ensures
    ∙ least_with has_bad_high (map told_declaration items) i c.marks.index (told_declaration x) c.marks.high next there
    c.marks.invariant.high in
    let t : Table = told_table c.args.table.now in
    let s0 : Start = record { number = c.args.number; index = i; form = c.lower_of-form.result; high = c.lower_of-high.result } in
    let is : IsMark t c.args.number x.place s0 = record {
      number_is = refl;
      within = slice_get_within (map told_declaration items) i (told_declaration x) there;
      there = λ d e. ap (λ (d : Declaration). d.place) (same_Some d (told_declaration x) (sym e ∙ there));
      from = record { form = form_is; high = high_is };
    } in
    record {
      form = form_is;
      high = high_is;
      marks = mark_more t c.args.number c.args.starts.now c.marks.starts c.insert.new.self x.place s0 c.marks.invariant.marks
          (λ q. c.in_ok-insert.ensures.updates.0 q) is;
      keeps = λ q h. keys_kept c.marks.starts c.insert.new.self x.place s0 (λ q. c.in_ok-insert.ensures.updates.0 q) q
          (c.marks.invariant.keeps q h);
    }
