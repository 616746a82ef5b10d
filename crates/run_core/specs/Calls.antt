-- The system calls of the code as the calls of the definition.
use Rattle.rv_code.specs.machine.Machine.{Call, Read, Write, Exit, Brk, Unknown}
use Rattle.run_core.specs.declared.calls.SystemCall.{SystemCall}
use Rattle.run_core.specs.declared.calls.SystemCall.TheVariants as system_call

abbrev pub call : SystemCall → Call
call system_call.Read = Read
call system_call.Write = Write
call system_call.Exit = Exit
call system_call.Brk = Brk
call system_call.Unknown = Unknown
