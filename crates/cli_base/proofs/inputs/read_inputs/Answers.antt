use Rattle.std.proofs.Common.{refl}
use Rattle.std.proofs.lemmas.Result.{err_from_is_err_and}
use Rattle.cli_base.specs.Inputs.{IsTooLong}
use Rattle.cli_args.specs.Args.{InputNames, inputs_read}
use Rattle.cli_base.specs.World.{World, world}
use Rattle.cli_base.proofs.InputAnswering.{are_both, of_long_file, of_long_profile, refuses, unread}
use Rattle.cli_base.proofs.inputs.read_inputs.Goals as goal

pub returns-in_err-file-clause-stopped : goal.returns-in_err-file-clause-stopped
returns-in_err-file-clause-stopped g c = λ input.
    let old : World = world (g.F.Files.seen c.args.files.now) input (g.O.Sink.seen c.args.out.now) in
    let new : World = world (g.F.Files.seen c.read_both.new.files) input (g.O.Sink.seen c.args.out.now) in
    let p = err_from_is_err_and c.from_residual.result c.from_residual.ensures.1 in
    rw (p.1, p.2) (unread IsTooLong c.in_err-file.field-0.0 (inputs_read c.args.args.now) old new c.in_err-file.ensures.unread
    (record { unprinted = refl; unwritten = c.in_err-file.ensures.kept }))

pub returns-in_default-clause-stopped : goal.returns-in_default-clause-stopped
returns-in_default-clause-stopped g c = λ input.
    let names : InputNames = inputs_read c.args.args.now in
    let old : World = world (g.F.Files.seen c.args.files.now) input (g.O.Sink.seen c.args.out.now) in
    let new : World = world (g.F.Files.seen c.read_both.new.files) input (g.O.Sink.seen c.refuse.new.out) in
    refuses IsTooLong c.refuse.result c.at-fault.result names old new c.refuse.ensures.refused c.in_ok-file.ensures.kept
    (λ told. let both = rw c.in_default.is at (c.in_ok-file.ensures.read told) in
    of_long_file (old.files.content names.file) (old.files.content names.profile) c.in_ok-file.profile c.at-fault.result
    c.at-fault.ensures both.file_given both.profile_given)

pub returns-in_default-profile-clause-stopped : goal.returns-in_default-profile-clause-stopped
returns-in_default-profile-clause-stopped g c = λ input.
    let names : InputNames = inputs_read c.args.args.now in
    let old : World = world (g.F.Files.seen c.args.files.now) input (g.O.Sink.seen c.args.out.now) in
    let new : World = world (g.F.Files.seen c.read_both.new.files) input (g.O.Sink.seen c.refuse-in_default-profile.new.out) in
    refuses IsTooLong c.refuse-in_default-profile.result c.at-fault-in_default-profile.result names old new
    c.refuse-in_default-profile.ensures.refused c.in_ok-file.ensures.kept
    (λ told. let both = rw (c.in-Some.is, c.in_default-profile.is) at (c.in_ok-file.ensures.read told) in
    of_long_profile (old.files.content names.file) (old.files.content names.profile) c.in-Some.file
    c.at-fault-in_default-profile.result c.at-fault-in_default-profile.ensures both.file_given both.profile_given)

pub returns-clause-read : goal.returns-clause-read
returns-clause-read g c = λ told.
    are_both (g.F.Files.seen c.args.files.now).content (inputs_read c.args.args.now) c.in-Some.file c.in-Some-profile.profile
    (rw (c.in-Some.is, c.in-Some-profile.is) at (c.in_ok-file.ensures.read told))
