use Rattle.std.proofs.Common.{◌∙◌, sym, ap}
use Rattle.std.proofs.lemmas.Result.{IfOk-weaker}
use Rattle.cfi_rows.specs.KeptTables.{SaidFrames}
use Rattle.cfi_rows.proofs.reader.frames.Goals as goal

pub returns-clause-section : goal.returns-clause-section
returns-clause-section c =
    IfOk-weaker c.table_of.result _ _ (λ t is. is ∙ c.section_of-held.ensures) c.table_of.ensures.section

pub returns-clause-list : goal.returns-clause-list
returns-clause-list c =
    IfOk-weaker c.table_of.result _ _ (λ t read. sym (ap (λ (s : SaidFrames). s.list) read)) c.table_of.ensures.read

pub returns-clause-cies : goal.returns-clause-cies
returns-clause-cies c =
    IfOk-weaker c.table_of.result _ _ (λ t read. sym (ap (λ (s : SaidFrames). s.cies) read)) c.table_of.ensures.read

pub returns-clause-bad : goal.returns-clause-bad
returns-clause-bad c =
    IfOk-weaker c.table_of.result _ _ (λ t read. sym (ap (λ (s : SaidFrames). s.bad) read)) c.table_of.ensures.read
