use Rattle.std.proofs.Common.{◌≡◌, ◌∙◌, ap, refl, sym}
use Rattle.rv_code.specs.layout.ProgramCode.{ProgramCode}
use Rattle.elf_image.specs.declared.elf.Elf.{Elf}
use Rattle.elf_image.specs.memory.Executables.{Executable}
use Rattle.move_law.specs.FaithfulRewrite.{GoesOn, KeepsInst}
use Rattle.move_law.specs.Rewrite.{Goes, out}
use Rattle.map_check.specs.declared.clause.Clause.TheVariants as clause
use Rattle.map_check.proofs.CheckedRows.{new_is}
use Rattle.map_check.proofs.Judgements.{all_in_code, first_at, first_false, holds_next, judged_of, lowest_in_code, nowhere}
use Rattle.map_check.proofs.checking.check_code.Goals as goal

pub returns-in-Some : goal.returns-in-Some
returns-in-Some c = λ r ch of map before.
    first_false r 2 clause.SpanBytes c.in-Some.a refl before
    (lowest_in_code r c.args.output.now c.args.table.now ch _ c.in-Some.ensures.lowest)

pub returns-in-Some-lowest_unmet : goal.returns-in-Some-lowest_unmet
returns-in-Some-lowest_unmet c = λ r ch of map before.
    let same = ap (λ (k : ProgramCode). k.funcs) of.code_is in
    let three = holds_next r 2 3 clause.SpanBytes refl refl before
    (lowest_in_code r c.args.output.now c.args.table.now ch _ c.in_default.ensures.lowest) in
    first_false r 3 clause.Instruction c.in-Some-lowest_unmet.a refl three
    (judged_of (KeepsInst r (Goes r.output)) c.args.funcs.now r.code.funcs _ same
    (c.in-Some-lowest_unmet.ensures r ch map c.requires.laid same)).lowest

pub returns-in-Some-lowest_unmet-2 : goal.returns-in-Some-lowest_unmet-2
returns-in-Some-lowest_unmet-2 c = λ r ch of map before.
    let same = ap (λ (k : ProgramCode). k.funcs) of.code_is in
    let three = holds_next r 2 3 clause.SpanBytes refl refl before
    (lowest_in_code r c.args.output.now c.args.table.now ch _ c.in_default.ensures.lowest) in
    let four = holds_next r 3 4 clause.Instruction refl refl three
    (judged_of (KeepsInst r (Goes r.output)) c.args.funcs.now r.code.funcs _ same
    (c.in_default-lowest_unmet.ensures r ch map c.requires.laid same)).lowest in
    first_false r 4 clause.Next c.in-Some-lowest_unmet-2.a refl four
    (judged_of (GoesOn r (Goes r.output)) c.args.funcs.now r.code.funcs _ same
    (c.in-Some-lowest_unmet-2.ensures r ch map c.requires.laid same)).lowest

pub returns-then-output-new_of : goal.returns-then-output-new_of
returns-then-output-new_of c = λ r ch of map before.
    let same = ap (λ (k : ProgramCode). k.funcs) of.code_is in
    let three = holds_next r 2 3 clause.SpanBytes refl refl before
    (lowest_in_code r c.args.output.now c.args.table.now ch _ c.in_default.ensures.lowest) in
    let four = holds_next r 3 4 clause.Instruction refl refl three
    (judged_of (KeepsInst r (Goes r.output)) c.args.funcs.now r.code.funcs _ same
    (c.in_default-lowest_unmet.ensures r ch map c.requires.laid same)).lowest in
    let five = holds_next r 4 5 clause.Next refl refl four
    (judged_of (GoesOn r (Goes r.output)) c.args.funcs.now r.code.funcs _ same
    (c.in_default-lowest_unmet-2.ensures r ch map c.requires.laid same)).lowest in
    let entry = ap (λ (x : Executable). x.entry) ch.output_is in
    let moved = new_is r c.args.output.now c.args.table.now ch c.args.input.now.entry
    ∙ ap (λ (e : Elf). out r e.entry) (sym of.input_is) in
    first_at r 5 clause.Entry c.args.output.now.entry refl five
    ((λ equal. c.if-output-new_of.true (sym entry ∙ equal ∙ sym moved ∙ sym c.new_of.ensures)), sym entry)
    (λ p wrong. wrong.1 ∙ entry)

pub returns : goal.returns
returns c = λ r ch of map before.
    let same = ap (λ (k : ProgramCode). k.funcs) of.code_is in
    let kept = judged_of (KeepsInst r (Goes r.output)) c.args.funcs.now r.code.funcs _ same
    (c.in_default-lowest_unmet.ensures r ch map c.requires.laid same) in
    let followed = judged_of (GoesOn r (Goes r.output)) c.args.funcs.now r.code.funcs _ same
    (c.in_default-lowest_unmet-2.ensures r ch map c.requires.laid same) in
    let three = holds_next r 2 3 clause.SpanBytes refl refl before
    (lowest_in_code r c.args.output.now c.args.table.now ch _ c.in_default.ensures.lowest) in
    let four = holds_next r 3 4 clause.Instruction refl refl three kept.lowest in
    let five = holds_next r 4 5 clause.Next refl refl four followed.lowest in
    let entry : r.output.entry ≡ out r r.input.entry =
    ap (λ (x : Executable). x.entry) ch.output_is ∙ c.if-output-new_of.false ∙ c.new_of.ensures
    ∙ new_is r c.args.output.now c.args.table.now ch c.args.input.now.entry
    ∙ ap (λ (e : Elf). out r e.entry) (sym of.input_is) in
    c.check_memory.ensures r ch of.input_is of.tight_is (ap (λ (k : ProgramCode). k.cells) of.code_is)
    (record {
      map = map;
      span_bytes = all_in_code r c.args.output.now c.args.table.now ch c.in_default.ensures.all;
      insts = kept.all;
      goes_on = followed.all;
      entry = entry;
    })
    (nowhere r 5 6 clause.Entry refl refl five (λ place wrong. wrong.0 entry))
