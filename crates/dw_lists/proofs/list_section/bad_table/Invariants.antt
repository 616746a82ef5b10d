use Rattle.std.proofs.Common.{◌≡◌, map, filter, take, not, false}
use Rattle.std.specs.Option.{option_map_or}
use Rattle.answer_runs.specs.Choices.{least}
use Rattle.dw_lists.specs.Faults.{is_list_table}
use Rattle.dw_lists.proofs.list_section.bad_table.Given as goal

abbrev pub invariant-loop-table : goal.invariant-loop-table
invariant-loop-table l =
    l.bad ≡ least (map (λ w. w.place) (filter (λ w. not (option_map_or is_list_table w.bytes false)) (take l.table-index l.tables)))
