use Rattle.std.proofs.Common.{refl}
use Rattle.std.proofs.lemmas.Result.{err_from_is_err_and}
use Rattle.cli_base.specs.Reading.{too_long}
use Rattle.cli_base.proofs.FileReading.{unread}
use Rattle.cli_base.proofs.reading.read_file.Goals as goal

pub returns-in_err-file-clause-unread : goal.returns-in_err-file-clause-unread
returns-in_err-file-clause-unread g c =
    let p = err_from_is_err_and c.from_residual.result c.from_residual.ensures.1 in
    rw (p.1, p.2) (unread c.args.name.now c.args.limit (g.F.Files.seen c.args.files.now) (g.F.Files.seen c.read_within.new.files)
    (g.O.Sink.seen c.args.out.now) (g.O.Sink.seen c.args.out.now) c.in_err-file.field-0.0 c.in_err-file.ensures.unread refl)

pub returns-in-None-clause-unread : goal.returns-in-None-clause-unread
returns-in-None-clause-unread g c =
    too_long c.at-fault.result c.at-fault.ensures (λ told. rw c.in-None.is at (c.in_ok-file.ensures.given told)) c.refuse.ensures.refused
