use Rattle.edge_profile.proofs.function_names.values_by_name.Goals as goal

pub loop-name-preserved : goal.loop-name-preserved
loop-name-preserved c = λ symbols are.
    c.in_ok-insert_value.ensures symbols (c.value_of.ensures symbols are) (c.loop-name.invariant symbols are)
