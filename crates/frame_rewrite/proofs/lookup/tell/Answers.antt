use Rattle.std.proofs.Common.{◌≡◌, ◌≤◌, ◌∙◌, ℕ, None, Some, ap, sym, arith}
use Rattle.std.proofs.lemmas.Bool.Decides.{nat_tests}
use Rattle.std.proofs.lemmas.Grind.{common_steps}
use Rattle.std.specs.Prelude.{slice_get, map}
use Rattle.cfi_rows.specs.ReadEntries.{fde_of}
use Rattle.cfi_rows.specs.ReadFrames.{read_as}
use Rattle.cfi_rows.specs.KeptTables.{SaidFrames}
use Rattle.answer_runs.specs.FirstRanges.{first_range}
use Rattle.frame_rewrite.specs.FrameLookups.{told_at}
use Rattle.frame_rewrite.proofs.ToldEntries.{told-none, told-alike, item-at, some-row, no-row}
use Rattle.frame_rewrite.proofs.lookup.tell.Goals as goal
use Rattle.frame_rewrite.proofs.lookup.tell.Goals.{In_default, After-min-last}

none-there : (c : In_default) (x : ℕ) → c.args.a ≤ x → x ≤ c.piece-found.result.1 → told_at (read_as c.args.frames.now).list x ≡ None
none-there c x from to =
    told-none c.args.index.now (read_as c.args.frames.now).list x (c.requires x)
    (sym (c.piece-found.ensures.first x from to) ∙ c.in_default.is)

pub returns-in_default-clause-told : goal.returns-in_default-clause-told
returns-in_default-clause-told c =
    sym (none-there (goal.at.returns-in_default-clause-told c).In_default c.args.a (omega arith) c.piece-found.ensures.last)

pub returns-in_default-clause-last : goal.returns-in_default-clause-last
returns-in_default-clause-last c = λ x from to.
    let there = none-there (goal.at.returns-in_default-clause-last c).In_default in
    there x from to ∙ sym (there c.args.a (omega arith) c.piece-found.ensures.last)

pub returns-in_default-get-clause-told : goal.returns-in_default-get-clause-told
returns-in_default-get-clause-told c = grind (arith, common_steps)

pub returns-in_default-get-clause-last : goal.returns-in_default-get-clause-last
returns-in_default-get-clause-last c = λ x from to. ap (told_at (read_as c.args.frames.now).list) (omega (arith, from, to))

-- the same entry and row up to the last address
same-there : (c : After-min-last) (x : ℕ) → c.args.a ≤ x → x ≤ c.min-last.result →
    told_at (read_as c.args.frames.now).list x ≡ told_at (read_as c.args.frames.now).list c.args.a
same-there c x from to =
    let in_piece : x ≤ c.piece-found.result.1 = grind (arith, nat_tests, c.min-last.ensures, to) in
    let in_row : x ≤ c.last_alike.result = grind (arith, nat_tests, c.min-last.ensures, to) in
    told-alike c.args.index.now (read_as c.args.frames.now).list x c.args.a c.in-Some.i c.requires
    (sym (c.piece-found.ensures.first x from in_piece) ∙ c.in-Some.is)
    (sym (c.piece-found.ensures.first c.args.a (omega arith) c.piece-found.ensures.last) ∙ c.in-Some.is)
    (c.last_alike.ensures x from in_row)

pub returns-in-Some-2-clause-told : goal.returns-in-Some-2-clause-told
returns-in-Some-2-clause-told c =
    let t = c.args.frames.now in
    let i = c.in-Some.i in
    let fde = c.in-Some-get.fde.now in
    let listed : map fde_of (read_as t).list ≡ t.list.items = ap (λ (x : SaidFrames). x.list) t.read in
    let item : slice_get t.list.items i ≡ Some fde =
    item-at c.deref.result.now t.list.items i fde c.in-Some-get.ensures.lookup.0 c.in-Some-get.ensures.lookup.1 c.deref.ensures.value in
    let found : first_range c.args.index.now c.args.a ≡ Some i =
    sym (c.piece-found.ensures.first c.args.a (omega arith) c.piece-found.ensures.last) ∙ c.in-Some.is in
    some-row c.args.index.now (read_as t).list c.args.a i fde c.in-Some-2.row (c.requires c.args.a) found
    (ap (λ xs. slice_get xs i) listed ∙ item) (c.in_ok-row.ensures ∙ c.in-Some-2.is)

pub returns-in-Some-2-clause-last : goal.returns-in-Some-2-clause-last
returns-in-Some-2-clause-last c = same-there (goal.at.returns-in-Some-2-clause-last c).After-min-last

pub returns-in-None-clause-told : goal.returns-in-None-clause-told
returns-in-None-clause-told c =
    let found : first_range c.args.index.now c.args.a ≡ Some c.in-Some.i =
    sym (c.piece-found.ensures.first c.args.a (omega arith) c.piece-found.ensures.last) ∙ c.in-Some.is in
    sym (no-row c.args.index.now (read_as c.args.frames.now).list c.args.a c.in-Some.i (c.requires c.args.a) found
    (c.in_ok-row.ensures ∙ c.in-None.is))

pub returns-in-None-clause-last : goal.returns-in-None-clause-last
returns-in-None-clause-last c = same-there (goal.at.returns-in-None-clause-last c).After-min-last
