-- The result of a step of a machine. The result of a run is that of its last step.
use Rattle.std.specs.Prelude.{ℕ}

-- The machine halts for causes of type C.
pub data Answer (C : Type 0) : Type 0 where
  -- The machine goes on. For a run: the steps are used up.
  Going : Answer C
  -- The program ended with this status.
  Ended : ℕ → Answer C
  -- The machine halted at this pc.
  Halted : ℕ → C → Answer C
  -- Standard input could not be read.
  ReadFault : Answer C
  -- The output could not be written.
  WriteFault : Answer C
  -- Memory ran out.
  Memory : Answer C
