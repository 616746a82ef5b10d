use Rattle.rv_code.specs.layout.ProgramCode.{program_code}
use Rattle.map_check.proofs.NamedSpans.{bad_lowest, bad_lowest_permuted, map_if_none}
use Rattle.map_check.proofs.spans.lowest_bad_span.Goals as goal

pub returns-clause-lowest : goal.returns-clause-lowest
returns-clause-lowest c = λ spans same.
    let code = program_code c.args.funcs.now c.args.roles.now c.args.cells.now c.args.entry in
    bad_lowest_permuted code spans c.args.sorted.now c.lower.result same
    (bad_lowest code c.args.sorted.now c.in_ok-miscounted.miscounted c.lowest_misplaced-misplaced.result c.in_ok-sharing.sharing
    c.lowest_left_out-left_out.result c.lower-shared.result c.lower-placed.result c.lower.result
    c.lower-shared.ensures c.lower-placed.ensures c.lower.ensures c.in_ok-miscounted.ensures c.lowest_misplaced-misplaced.ensures
    c.in_ok-sharing.ensures (c.lowest_left_out-left_out.ensures c.args.funcs.now))

pub returns-clause-map : goal.returns-clause-map
returns-clause-map c = λ spans same.
    let code = program_code c.args.funcs.now c.args.roles.now c.args.cells.now c.args.entry in
    map_if_none code spans c.lower.result
    (bad_lowest_permuted code spans c.args.sorted.now c.lower.result same
    (bad_lowest code c.args.sorted.now c.in_ok-miscounted.miscounted c.lowest_misplaced-misplaced.result c.in_ok-sharing.sharing
    c.lowest_left_out-left_out.result c.lower-shared.result c.lower-placed.result c.lower.result
    c.lower-shared.ensures c.lower-placed.ensures c.lower.ensures c.in_ok-miscounted.ensures c.lowest_misplaced-misplaced.ensures
    c.in_ok-sharing.ensures (c.lowest_left_out-left_out.ensures c.args.funcs.now)))
