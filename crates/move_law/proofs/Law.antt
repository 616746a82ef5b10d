-- The law of faithful rewrites.
use Rattle.std.proofs.Common.{rules}
use Rattle.move_law.specs.Laws.{SimulationLaw}
use Rattle.move_law.proofs.map.SymbolNumbers.{rewrite_facts}
use Rattle.move_law.proofs.steps.Matching.{endings_matched, steps_matched}
use Rattle.move_law.proofs.steps.Runs.{runs_kept, runs_kept_so_far}
use Rattle.move_law.proofs.steps.Start.{starts_related}

pub simulation_law : SimulationLaw
simulation_law = search (rules, starts_related, steps_matched, rewrite_facts, endings_matched, runs_kept, runs_kept_so_far)
