-- Examples of arguments that are commands, and of arguments that aren't.
use Rattle.std.proofs.Common.{◌≡◌, ℕ, List, [], ◌∷◌, Option, Some, None, codes, refl}
use Rattle.cli_args.specs.CommandLine.{Command, Frames, Lookup, Record, Repair, Run, Sample, Verify, command_of}

run : List ℕ
run = codes "run"

-- a run of `f` with one argument
run_of_f : List ℕ → ℕ → Option Command
run_of_f arg limit = Some (Run (record { file = codes "f"; args = arg ∷ []; limit = limit }))

no_option : command_of (run ∷ codes "f" ∷ codes "a" ∷ []) ≡ run_of_f (codes "a") 100000000
unfolding run run_of_f
no_option = refl

option_before : command_of (run ∷ codes "--steps" ∷ codes "7" ∷ codes "f" ∷ codes "a" ∷ []) ≡ run_of_f (codes "a") 7
unfolding run run_of_f
option_before = refl

option_between : command_of (run ∷ codes "f" ∷ codes "--steps=007" ∷ codes "-" ∷ []) ≡ run_of_f (codes "-") 7
unfolding run run_of_f
option_between = refl

option_behind : command_of (run ∷ codes "f" ∷ codes "a" ∷ codes "--steps" ∷ codes "0" ∷ []) ≡ run_of_f (codes "a") 0
unfolding run run_of_f
option_behind = refl

options_ended : command_of (run ∷ codes "--" ∷ codes "f" ∷ codes "--steps=7" ∷ []) ≡ run_of_f (codes "--steps=7") 100000000
unfolding run run_of_f
options_ended = refl

hyphens_twice : command_of (run ∷ codes "f" ∷ codes "--" ∷ codes "--" ∷ []) ≡ run_of_f (codes "--") 100000000
unfolding run run_of_f
hyphens_twice = refl

-- the option takes the two hyphens as its value, which isn't a number
hyphens_taken : command_of (run ∷ codes "--steps" ∷ codes "--" ∷ codes "f" ∷ []) ≡ None
unfolding run
hyphens_taken = refl

no_value : command_of (run ∷ codes "f" ∷ codes "--steps" ∷ []) ≡ None
unfolding run
no_value = refl

option_twice : command_of (run ∷ codes "--steps" ∷ codes "7" ∷ codes "--steps=7" ∷ codes "f" ∷ []) ≡ None
unfolding run
option_twice = refl

no_file : command_of (run ∷ codes "--steps" ∷ codes "f" ∷ []) ≡ None
unfolding run
no_file = refl

too_large : command_of (run ∷ codes "--steps=18446744073709551616" ∷ codes "f" ∷ []) ≡ None
unfolding run
too_large = refl

zero_byte : command_of (run ∷ codes "f" ∷ (97 ∷ 0 ∷ []) ∷ []) ≡ None
unfolding run
zero_byte = refl

record_of_f : Option Command
record_of_f = Some (Record (record { run = record { file = codes "f"; args = codes "a" ∷ []; limit = 7 }; out = codes "o" }))

recorded_run : command_of (codes "record" ∷ codes "f" ∷ codes "--steps=7" ∷ codes "o" ∷ codes "a" ∷ []) ≡ record_of_f
unfolding record_of_f
recorded_run = refl

recorded_over : command_of (codes "record" ∷ codes "f" ∷ codes "f" ∷ []) ≡ None
recorded_over = refl

recorded_on_symbols : command_of (codes "record" ∷ codes "--symbols" ∷ codes "f" ∷ codes "o" ∷ []) ≡ None
recorded_on_symbols = refl

repaired_profile : command_of (codes "repair" ∷ codes "f" ∷ codes "p" ∷ codes "o" ∷ [])
    ≡ Some (Repair (record { inputs = record { file = codes "f"; profile = codes "p" }; out = codes "o" }))
repaired_profile = refl

repaired_over : command_of (codes "repair" ∷ codes "f" ∷ codes "p" ∷ codes "p" ∷ []) ≡ None
repaired_over = refl

-- an address has digits in upper or lower case, at least one
address_prefixed : command_of (codes "lookup" ∷ codes "f" ∷ codes "0x1Fa" ∷ []) ≡
    Some (Lookup (record { file = codes "f"; address = 0x1fa }))
address_prefixed = refl

frames_at : command_of (codes "frames" ∷ codes "f" ∷ codes "10" ∷ []) ≡ Some (Frames (record { file = codes "f"; address = 0x10 }))
frames_at = refl

no_digits : command_of (codes "lookup" ∷ codes "f" ∷ codes "0x" ∷ []) ≡ None
no_digits = refl

-- samples have numbers from 1 to 1000
last_sample : command_of (codes "sample" ∷ codes "01000" ∷ codes "f" ∷ codes "p" ∷ []) ≡
    Some (Sample (record { number = 1000; file = codes "f"; profile = codes "p" }))
last_sample = refl

sample_beyond : command_of (codes "sample" ∷ codes "1001" ∷ codes "f" ∷ codes "p" ∷ []) ≡ None
sample_beyond = refl

no_sample : command_of (codes "sample" ∷ codes "0" ∷ codes "f" ∷ codes "p" ∷ []) ≡ None
no_sample = refl

one_file : command_of (codes "sample" ∷ codes "1" ∷ codes "f" ∷ codes "f" ∷ []) ≡ None
one_file = refl

verified_rewrite : command_of (codes "verify" ∷ codes "f" ∷ codes "o" ∷ codes "m" ∷ [])
    ≡ Some (Verify (record { input = codes "f"; output = codes "o"; map = codes "m" }))
verified_rewrite = refl

verified_with_option : command_of (codes "verify" ∷ codes "f" ∷ codes "-o" ∷ codes "m" ∷ []) ≡ None
verified_with_option = refl
