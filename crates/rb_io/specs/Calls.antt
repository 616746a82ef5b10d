-- The calls of an in-memory object, numbered from 1.
use Rattle.std.specs.Prelude.{ℕ, Bool, ◌==◌, if◌then◌else◌}
use Rattle.std.specs.List.{list_any}
use Rattle.std.specs.Prelude.{Vec}
use Rattle.std.specs.declared.alloc.Global.{Global}
use Rattle.rb_io.specs.FaultCounts.{one_more}
use Rattle.rb_io.specs.declared.calls.Calls.{Calls}

-- No call and no fault yet. `fail` has the numbers of the calls that are to fail.
abbrev pub no_calls : Vec ℕ Global → Calls
no_calls fail = record { fail = fail; made = 0; faults = 0 }

-- The number of the next call is in `fail`.
abbrev pub fails_next : Calls → Bool
fails_next calls = list_any (λ number. number == one_more calls.made) calls.fail.items

-- The counts after one more call. It is a fault if it failed.
abbrev pub after_call : Calls → Bool → Calls
after_call calls failed = record calls {
  made = one_more calls.made;
  faults = if failed then one_more calls.faults else calls.faults;
}
