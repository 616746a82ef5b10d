use Rattle.rv_memory.proofs.memory.Memory.+number_of_bytes.Given as goal

abbrev pub decreases-number_of_bytes : goal.decreases-number_of_bytes
decreases-number_of_bytes l = l.count
