-- The lines of refusals and of runs.
use Rattle.std.specs.Prelude.{ℕ, List, ◌++◌, codes, decimal}
use Rattle.rb_bytes.specs.Fault.{number_of, name_of}
use Rattle.rb_bytes.specs.Text.{hexadecimal}
use Rattle.rb_bytes.specs.declared.fault.Fault.{Fault}
use Rattle.rb_bytes.specs.declared.fault.FaultKind.{FaultKind}
use Rattle.rb_bytes.specs.declared.fault.FaultKind.TheVariants.{NoRoom}
use Rattle.rv_code.specs.declared.cause.Cause.{Cause}
use Rattle.rv_code.specs.declared.cause.Cause.TheVariants.{Fetch, Illegal, Load, Store, Break}
use Rattle.sym_machine.specs.declared.outcome.Reason.{Reason}
use Rattle.sym_machine.specs.declared.outcome.Reason.TheVariants as reason

-- the end of a refusal: for NoRoom, the bytes that are needed and that there are
abbrev pub refused_end : FaultKind → ℕ → ℕ → List ℕ
refused_end NoRoom need room = codes ": need " ++ decimal need ++ codes " room " ++ decimal room ++ codes "\n"
refused_end _ need room = codes "\n"

-- the line of a refusal up to the place of the fault
abbrev pub refused_front : Fault → List ℕ
refused_front fault =
    codes "refused " ++ decimal (number_of fault.kind) ++ codes " " ++ name_of fault.kind ++ codes " at "
    ++ hexadecimal fault.place

abbrev pub refused_line : Fault → List ℕ
refused_line fault = refused_front fault ++ refused_end fault.kind fault.need fault.room

-- the end of a run, after this number of steps

abbrev pub after_steps : ℕ → List ℕ
after_steps steps = codes " after " ++ decimal steps ++ codes " steps]\n"

abbrev pub ended_line : ℕ → ℕ → List ℕ
ended_line status steps = codes "[ended " ++ decimal status ++ after_steps steps

abbrev pub cause_name : Cause → List ℕ
cause_name Fetch = codes "Fetch"
cause_name Illegal = codes "Illegal"
cause_name Load = codes "Load"
cause_name Store = codes "Store"
cause_name Break = codes "Break"

-- a trap at an address
abbrev pub trapped_line : ℕ → Cause → ℕ → List ℕ
trapped_line pc cause steps = codes "[trapped " ++ cause_name cause ++ codes " at " ++ hexadecimal pc
    ++ after_steps steps

abbrev pub reason_name : Reason → List ℕ
reason_name reason.NotCode = codes "NotCode"
reason_name reason.EndOfFunction = codes "EndOfFunction"
reason_name reason.FellOff = codes "FellOff"
reason_name reason.Operate = codes "Operate"
reason_name reason.Compare = codes "Compare"
reason_name reason.Mixed = codes "Mixed"
reason_name reason.Hidden = codes "Hidden"
reason_name reason.Access = codes "Access"
reason_name reason.CallArg = codes "CallArg"
reason_name reason.Break = codes "Break"

-- the symbol machine is stuck at an address
abbrev pub stuck_line : ℕ → Reason → ℕ → List ℕ
stuck_line pc why steps = codes "[stuck " ++ reason_name why ++ codes " at " ++ hexadecimal pc ++ after_steps steps

abbrev pub out_of_steps_line : ℕ → List ℕ
out_of_steps_line steps = codes "[out of steps" ++ after_steps steps
