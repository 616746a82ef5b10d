use Rattle.std.proofs.Common.{◌≡◌, ◌++◌, drop}
use Rattle.frame_rewrite.specs.SpelledFrames.{spelled_entries, cie_entries}
use Rattle.frame_rewrite.proofs.put_cie.put_cies.Given as goal

abbrev pub invariant-loop-i : goal.invariant-loop-i
invariant-loop-i l =
    l.out.items ++ spelled_entries (cie_entries l.debug l.i (drop l.i l.keys))
    ≡ l.fn.out.items ++ spelled_entries (cie_entries l.debug 0 l.keys)
