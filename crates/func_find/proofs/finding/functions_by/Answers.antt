use Rattle.std.proofs.Common.{sym, subst, refl, List, None, Some, arith}
use Rattle.std.proofs.lemmas.Result.{err_from_is_err_and}
use Rattle.rb_bytes.specs.declared.fault.FaultKind.TheVariants.{BadEntry, BadTarget}
use Rattle.rv_code.specs.declared.placed.Func.{Func}
use Rattle.rb_bytes.specs.FirstFault.{IsAnswered}
use Rattle.elf_code.specs.FunctionFaults.{HasFunctionFault}
use Rattle.elf_image.specs.faults.LowestPlace.{IsLowest}
use Rattle.elf_image.proofs.FaultOrder.{IsAnswered-first}
use Rattle.code_starts.specs.Parts.{ArePartsApart}
use Rattle.code_starts.specs.WholeParts.{AreWholeParts}
use Rattle.code_starts.proofs.WholeLookup.{AreApart-wholes}
use Rattle.func_find.specs.FunctionParts.{AreFunctionParts}
use Rattle.func_find.specs.Targets.{HasMisled}
use Rattle.func_find.proofs.FunctionLists.{AreApart-functions, code_parts_of, IsLowest-entry, IsLowest-target, IsAnswered-target}
use Rattle.func_find.proofs.FunctionLists.{IsRefusalBy-first, AreFunctions-made, no_bad, lacks, lacks_all, lacks_below_entry}
use Rattle.func_find.proofs.FunctionLists.{lacks_below_target}
use Rattle.func_find.proofs.finding.functions_by.Goals as goal

pub lowest_bad_start-requires-clause-parts : goal.lowest_bad_start-requires-clause-parts
lowest_bad_start-requires-clause-parts c =
    let functions = c.in_ok-function_parts.ensures c.args.whole.now c.requires.refs in
    subst ArePartsApart (sym c.as_slice-kept.ensures.value) (AreApart-functions c.args.elf.now c.args.whole.now _ functions)

pub returns-in-Some-clause-fault : goal.returns-in-Some-clause-fault
returns-in-Some-clause-fault c =
    let elf = c.args.elf.now in
    let whole = c.args.whole.now in
    let functions =
    subst (AreFunctionParts elf whole) (sym c.as_slice-kept.ensures.value)
    (c.in_ok-function_parts.ensures whole c.requires.refs) in
    let lowest =
    IsLowest-entry elf whole c.args.starts.now c.as_slice-kept.result.now
    (Some c.in-Some.place) c.requires.starts functions c.in-Some.ensures in
    subst (IsAnswered (HasFunctionFault elf whole)) (sym c.at.ensures)
    (IsAnswered-first (HasFunctionFault elf whole) BadEntry c.in-Some.place (omega arith) (lacks_below_entry elf whole) lowest)

pub functions_of-requires-clause-parts : goal.functions_of-requires-clause-parts
functions_of-requires-clause-parts c =
    let elf = c.args.elf.now in
    let whole = c.args.whole.now in
    code_parts_of elf whole c.as_slice-kept.result.now
    (subst (AreFunctionParts elf whole) (sym c.as_slice-kept.ensures.value)
    (c.in_ok-function_parts.ensures whole c.requires.refs))

pub functions_of-requires-clause-ordered : goal.functions_of-requires-clause-ordered
functions_of-requires-clause-ordered c =
    let elf = c.args.elf.now in
    let whole = c.args.whole.now in
    let functions =
    subst (AreFunctionParts elf whole) (sym c.as_slice-kept.ensures.value)
    (c.in_ok-function_parts.ensures whole c.requires.refs) in
    functions.ordered

pub functions_of-requires-clause-wholes : goal.functions_of-requires-clause-wholes
functions_of-requires-clause-wholes c =
    subst ArePartsApart (sym c.as_slice-wholes.ensures.value)
    (AreApart-wholes c.args.elf.now c.args.whole.now _ c.in_ok-whole_parts.ensures)

pub returns-in_err-funcs-clause-fault : goal.returns-in_err-funcs-clause-fault
returns-in_err-funcs-clause-fault c =
    let elf = c.args.elf.now in
    let whole = c.args.whole.now in
    let kept = c.as_slice-kept.result.now in
    let functions =
    subst (AreFunctionParts elf whole) (sym c.as_slice-kept.ensures.value)
    (c.in_ok-function_parts.ensures whole c.requires.refs) in
    let no_entry =
    lacks (HasFunctionFault elf whole BadEntry) None refl
    (IsLowest-entry elf whole c.args.starts.now kept None c.requires.starts functions c.in_default.ensures) in
    let p = err_from_is_err_and c.from_residual-in_err-funcs.result c.from_residual-in_err-funcs.ensures.1 in
    rw (p.1, p.2) (IsRefusalBy-first elf whole kept c.in_err-funcs.field-0.0 functions no_entry c.in_err-funcs.ensures.fault)

pub lowest_misled-requires-clause-parts : goal.lowest_misled-requires-clause-parts
lowest_misled-requires-clause-parts c =
    let functions = c.in_ok-function_parts.ensures c.args.whole.now c.requires.refs in
    subst ArePartsApart (sym c.as_slice-kept.ensures.value) (AreApart-functions c.args.elf.now c.args.whole.now _ functions)

pub returns-in-Some-lowest_misled-clause-fault : goal.returns-in-Some-lowest_misled-clause-fault
returns-in-Some-lowest_misled-clause-fault c =
    let elf = c.args.elf.now in
    let whole = c.args.whole.now in
    let starts = c.args.starts.now in
    let kept = c.as_slice-kept.result.now in
    let wholes = c.as_slice-wholes.result.now in
    let funcs = c.in_ok-funcs.funcs.items in
    let place = c.in-Some-lowest_misled.place in
    let functions =
    subst (AreFunctionParts elf whole) (sym c.as_slice-kept.ensures.value)
    (c.in_ok-function_parts.ensures whole c.requires.refs) in
    let no_entry =
    lacks (HasFunctionFault elf whole BadEntry) None refl
    (IsLowest-entry elf whole starts kept None c.requires.starts functions c.in_default.ensures) in
    let (no_bad_inst, no_bare) = no_bad elf whole wholes kept funcs functions c.in_ok-funcs.ensures.made in
    let misled =
    subst (λ (fs : List Func). IsLowest (HasMisled starts kept fs)
    (Some place)) c.deref-2.ensures.value c.in-Some-lowest_misled.ensures in
    let lowest =
    IsLowest-target elf whole starts c.args.refs.now.roles.items wholes kept funcs
    (Some place) c.requires.starts c.requires.refs.roles functions c.in_ok-funcs.ensures.made misled in
    subst (IsAnswered (HasFunctionFault elf whole)) (sym c.at-in-Some-lowest_misled.ensures)
    (IsAnswered-target elf whole place (lacks_below_target elf whole no_entry no_bad_inst no_bare) lowest)

pub returns-clause-functions : goal.returns-clause-functions
returns-clause-functions c =
    let elf = c.args.elf.now in
    let whole = c.args.whole.now in
    let functions =
    subst (AreFunctionParts elf whole) (sym c.as_slice-kept.ensures.value)
    (c.in_ok-function_parts.ensures whole c.requires.refs) in
    let wholes = subst (AreWholeParts elf whole) (sym c.as_slice-wholes.ensures.value) c.in_ok-whole_parts.ensures in
    AreFunctions-made elf whole c.as_slice-wholes.result.now c.as_slice-kept.result.now c.in_ok-funcs.funcs.items wholes
    functions c.in_ok-funcs.ensures.made

pub returns-clause-free : goal.returns-clause-free
returns-clause-free c =
    let elf = c.args.elf.now in
    let whole = c.args.whole.now in
    let starts = c.args.starts.now in
    let kept = c.as_slice-kept.result.now in
    let wholes = c.as_slice-wholes.result.now in
    let funcs = c.in_ok-funcs.funcs.items in
    let functions =
    subst (AreFunctionParts elf whole) (sym c.as_slice-kept.ensures.value)
    (c.in_ok-function_parts.ensures whole c.requires.refs) in
    let no_entry =
    lacks (HasFunctionFault elf whole BadEntry) None refl
    (IsLowest-entry elf whole starts kept None c.requires.starts functions c.in_default.ensures) in
    let (no_bad_inst, no_bare) = no_bad elf whole wholes kept funcs functions c.in_ok-funcs.ensures.made in
    let misled =
    subst
    (λ (fs : List Func). IsLowest (HasMisled starts kept fs) None) c.deref-2.ensures.value c.in-None.ensures in
    let no_target =
    lacks (HasFunctionFault elf whole BadTarget) None refl
    (IsLowest-target elf whole starts c.args.refs.now.roles.items wholes kept funcs None c.requires.starts c.requires.refs.roles
    functions c.in_ok-funcs.ensures.made misled) in
    lacks_all elf whole no_entry no_bad_inst no_bare no_target
