use Rattle.std.proofs.Common.{◌<◌, ◌≤◌, length, rules, arith}
use Rattle.std.proofs.lemmas.Result.{err_from_is_err_and}
use Rattle.elf_write.specs.NameWeight.{name_weight}
use Rattle.answer_runs.specs.Weights.{weight_limit}
use Rattle.bolt_core.specs.Limits.{header_limit}
use Rattle.bolt_core.proofs.PassedLimits.{at_code, at_names, at_sections, at_segments, segment_count, within}
use Rattle.bolt_core.proofs.limits.check_sizes.Goals as goal

pub returns-in_err-check_code-clause-refused : goal.returns-in_err-check_code-clause-refused
returns-in_err-check_code-clause-refused c =
    let p = err_from_is_err_and c.from_residual.result c.from_residual.ensures.1 in
    rw (p.1, p.2) (at_code c.args.elf.now c.args.funcs.now c.args.cold.now c.in_err-check_code.field-0.0
    c.in_err-check_code.ensures.refused)

pub returns-then-len-gt-HEADER_LIMIT-clause-refused : goal.returns-then-len-gt-HEADER_LIMIT-clause-refused
returns-then-len-gt-HEADER_LIMIT-clause-refused c =
    let count = c.requires.fields.sections.count_is in
    let over : header_limit < length c.args.elf.now.sections.items = search rules in
    at_sections c.args.elf.now c.args.funcs.now c.args.cold.now c.in_ok-check_code.ensures.within
    (omega (arith, count, over)) _ c.at.ensures

pub returns-then-len-gt-HEADER_LIMIT-2-clause-refused : goal.returns-then-len-gt-HEADER_LIMIT-2-clause-refused
returns-then-len-gt-HEADER_LIMIT-2-clause-refused c =
    let segments = segment_count c.args.elf.now c.requires.fields in
    let over : header_limit < length c.args.elf.now.segments.items = search rules in
    at_segments c.args.elf.now c.args.funcs.now c.args.cold.now c.in_ok-check_code.ensures.within
    (omega (arith, segments, over)) _ c.at-then-len-gt-HEADER_LIMIT-2.ensures

pub returns-then-weight-gt-WEIGHT_LIMIT-clause-refused : goal.returns-then-weight-gt-WEIGHT_LIMIT-clause-refused
returns-then-weight-gt-WEIGHT_LIMIT-clause-refused c =
    let count = c.requires.fields.sections.count_is in
    let segments = segment_count c.args.elf.now c.requires.fields in
    let few_sections : length c.args.elf.now.sections.items ≤ header_limit = search rules in
    let few_segments : length c.args.elf.now.segments.items ≤ header_limit = search rules in
    let long : weight_limit < name_weight c.args.elf.now c.args.funcs.now c.args.cold.now = search rules in
    at_names c.args.elf.now c.args.funcs.now c.args.cold.now c.in_ok-check_code.ensures.within
    (omega (arith, count, few_sections)) (omega (arith, segments, few_segments)) long _
    c.at-then-weight-gt-WEIGHT_LIMIT.ensures

pub returns-clause-within : goal.returns-clause-within
returns-clause-within c =
    let count = c.requires.fields.sections.count_is in
    let segments = segment_count c.args.elf.now c.requires.fields in
    let few_sections : length c.args.elf.now.sections.items ≤ header_limit = search rules in
    let few_segments : length c.args.elf.now.segments.items ≤ header_limit = search rules in
    let short : name_weight c.args.elf.now c.args.funcs.now c.args.cold.now ≤ weight_limit = search rules in
    within c.args.elf.now c.args.funcs.now c.args.cold.now c.in_ok-check_code.ensures.within
    (omega (arith, count, few_sections)) (omega (arith, segments, few_segments)) short
