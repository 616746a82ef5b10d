use Rattle.std.proofs.Common.{◌≡◌, ◌∙◌, ◌+◌, ◌-◌, ℕ, suc, None, ap, arith, map, nat_cmp, sym}
use Rattle.std.specs.Prelude.{if◌then◌else◌, is_some}
use Rattle.std.specs.BTreeMap.{get}
use Rattle.std.specs.List.{list_any}
use Rattle.inline_frames.specs.FileChains.{listed_units}
use Rattle.inline_frames.specs.Following.{file_naming, followed_by, followed_times, refers_to, target_of}
use Rattle.inline_frames.specs.declared.naming.Naming.{Naming}
use Rattle.inline_frames.proofs.Followings.{all_stay, no_rounds, round_more}
use Rattle.inline_frames.proofs.follow.resolved.Goals as goal

pub returns-then-not-is_any_left : goal.returns-then-not-is_any_left
returns-then-not-is_any_left c =
    let units = listed_units c.args.reader.now.abbrevs c.args.reader.now.units in
    all_stay c.args.str_offsets.now units (16 - c.loop-round.round) c.loop-round.now.items
    (sym (c.is_any_left.ensures ∙ ap (list_any (λ (n : Naming). is_some (target_of n))) c.deref.ensures.value) ∙ c.if-not-is_any_left.true)
    ∙ c.loop-round.invariant

pub loop-round-preserved : goal.loop-round-preserved
loop-round-preserved c =
    let units = listed_units c.args.reader.now.abbrevs c.args.reader.now.units in
    let texts = c.args.str_offsets.now in
    let now = c.loop-round.now.items in
    let found = get nat_cmp c.in_ok-found.found in
    let left : suc (16 - (c.loop-round.round + 1)) ≡ 16 - c.loop-round.round = omega (arith, c.loop-round-test.true) in
    round_more texts units (16 - (c.loop-round.round + 1)) now c.in_ok-now.now.items found
    (λ q. c.in_ok-found.ensures q ∙ ap (λ b. if b then file_naming texts units q else None)
    (c.in_ok-wanted.ensures q ∙ ap (list_any (refers_to q)) c.deref-in-loop-round.ensures.value))
    (c.in_ok-now.ensures ∙ ap (map (followed_by found)) c.deref-in-loop-round-2.ensures.value)
    ∙ ap (λ (k : ℕ). map (followed_times texts units k) now) left ∙ c.loop-round.invariant

pub returns : goal.returns
returns c =
    let units = listed_units c.args.reader.now.abbrevs c.args.reader.now.units in
    let texts = c.args.str_offsets.now in
    let now = c.loop-round.now.items in
    let none : 0 ≡ 16 - c.loop-round.round = omega (arith, c.loop-round-test.false) in
    sym (no_rounds texts units now) ∙ ap (λ (k : ℕ). map (followed_times texts units k) now) none ∙ c.loop-round.invariant
