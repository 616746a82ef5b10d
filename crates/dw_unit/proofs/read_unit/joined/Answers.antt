use Rattle.std.proofs.Common.{rules, ◌≡◌, ◌++◌, Some, sym, ap, refl}
use Rattle.dw_unit.proofs.UnitReadings.{bad_stays, bad_first, good_more}
use Rattle.dw_unit.proofs.read_unit.joined.Goals as goal

pub returns-in-Some : goal.returns-in-Some
returns-in-Some c = λ abbrevs addr ws w place are is.
    bad_stays abbrevs addr ws w c.args.so_far c.args.reading _ are is c.lower-bad_form.ensures c.lower-bad_high.ensures
    c.lower-unformed.ensures
    c.in-Some.bad c.in-Some.is refl

pub returns-in-None : goal.returns-in-None
returns-in-None c = λ abbrevs addr ws w place are is.
    bad_first abbrevs addr ws w c.args.so_far c.args.reading _ are is c.lower-bad_form.ensures c.lower-bad_high.ensures
    c.lower-unformed.ensures
    c.in_default.is c.in-None.is (ap (λ n. Some n) (sym place))

pub returns-in_ok-all-in-Some-entries : goal.returns-in_ok-all-in-Some-entries
returns-in_ok-all-in-Some-entries c = λ abbrevs addr ws w place are is.
    let old = c.args.so_far.entries.items in
    let all : c.in_ok-all-in-Some-entries.all.items ≡ old ++ c.in-Some-entries.more.items =
    search (rules, c.in_ok-all-in-Some-entries.ensures, c.in-Some-entries.more-is) in
    good_more abbrevs addr ws w c.args.so_far c.args.reading _ are is c.lower-bad_form.ensures c.lower-bad_high.ensures
    c.lower-unformed.ensures
    c.in-Some-entries.more c.in_default.is c.in-Some-entries.is refl all
