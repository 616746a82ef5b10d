use Rattle.std.proofs.Common.{rules, ◌≡◌, ◌∙◌, ℕ, Bool, true, false, List, sym, ap, arith, length, take}
use Rattle.std.proofs.Math.Seq.{take-length}
use Rattle.std.specs.List.{list_all}
use Rattle.std.proofs.lemmas.List.Folds.{list_all_at}
use Rattle.dw_unit.specs.declared.entry.Attr.{Attr}
use Rattle.dw_unit.specs.Faults.{is_sound_attr}
use Rattle.dw_unit.specs.ListedEntries.{ListedEntry}
use Rattle.dw_unit.specs.ListedUnits.{plain_unit}
use Rattle.dw_unit.proofs.SoundUnits.{plain_sound}
use Rattle.dw_unit.proofs.soundness.is_sound_unit.Goals as goal

pub returns-then-not-are_sound_attrs : goal.returns-then-not-are_sound_attrs
returns-then-not-are_sound_attrs c =
    let es : List ListedEntry = c.args.entries.now in
    let test : Attr → Bool = is_sound_attr c.args.addr.now (plain_unit es) in
    let sound : ListedEntry → Bool = λ e. list_all test e.attrs in
    let e : ListedEntry = c.entry-item.result in
    let attrs_are : c.deref.result.now ≡ e.attrs = search (rules, c.deref.ensures.value, c.entry.view_is) in
    let here : sound e ≡ false = ap (list_all test) (sym attrs_are)
    ∙ sym (c.are_sound_attrs.ensures (plain_unit es) c.bases-bases.ensures) ∙ c.if-not-are_sound_attrs.true in
    sym (plain_sound test es ∙ list_all_at sound es c.loop-entry.entry-index e c.loop-entry-test.true (ap sound (sym c.entry-item.is)
    ∙ here))

pub returns : goal.returns
returns c =
    let es : List ListedEntry = c.args.entries.now in
    let test : Attr → Bool = is_sound_attr c.args.addr.now (plain_unit es) in
    let sound : ListedEntry → Bool = λ e. list_all test e.attrs in
    let done : c.loop-entry.entry-index ≡ length es = omega (arith, c.loop-entry-test.false, c.loop-entry.auto.entry-index-end) in
    let all : list_all sound es ≡ true = ap (list_all sound) (sym (take-length es) ∙ ap (λ (n : ℕ). take n es) (sym done))
    ∙ c.loop-entry.invariant in
    sym (plain_sound test es ∙ all)
