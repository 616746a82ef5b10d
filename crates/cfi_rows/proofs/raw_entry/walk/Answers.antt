use Rattle.std.proofs.Common.{rules, ◌≡◌, ◌∙◌, ◌<◌, ◌≤◌, ◌+◌, ◌-◌, ◌++◌, [], ◌∷◌, arith, length, ap, sym}
use Rattle.cfi_rows.specs.FrontEnds.{front_without}
use Rattle.cfi_rows.specs.Entries.{walk}
use Rattle.cfi_rows.proofs.RawEntries.{after, next, ends, breaks, stops, runs_out}
use Rattle.cfi_rows.proofs.raw_entry.walk.Goals as goal

pub returns-then-is_empty : goal.returns-then-is_empty
returns-then-is_empty c =
    let z : length c.loop-count.left.now ≡ 0 = search rules in c.loop-count.invariant.0 ∙ stops _ _ _ _ _ z

pub returns-in-Err-Ends : goal.returns-in-Err-Ends
returns-in-Err-Ends c =
    let z : 0 < length c.loop-count.left.now = search rules in
    c.loop-count.invariant.0
    ∙ ends _ _ _ _ _ _ c.loop-count-test.true z (c.in-Err-Ends.ensures.none ∙ ap front_without c.in-Err-Ends.field-0-is)

pub returns-in-Err-Breaks : goal.returns-in-Err-Breaks
returns-in-Err-Breaks c =
    let z : 0 < length c.loop-count.left.now = search rules in
    c.loop-count.invariant.0
    ∙ breaks _ _ _ _ _ _ c.loop-count-test.true z (c.in-Err-Breaks.ensures.none ∙ ap front_without c.in-Err-Breaks.field-0-is)

pub loop-count-preserved : goal.loop-count-preserved
loop-count-preserved c =
    let z : 0 < length c.loop-count.left.now = search rules in
    let body : length c.entry.inside.body.now ≡ length c.in-Ok.entry.body = search rules in
    let place : c.loop-count.place + 8 + length c.in-Ok.entry.body ≡ c.loop-count.place + (8 + length c.entry.inside.body.now) = omega
    arith in
    let count = length c.args.table.now - (c.loop-count.count + 1) in (
      c.loop-count.invariant.0 ∙ next _ _ _ _ _ _ _ _ c.loop-count-test.true z c.in-Ok.ensures.entry
          ∙ ap (λ n. after (c.loop-count.entries.items ++ c.in-Ok.entry ∷ []) (walk c.args.debug count n c.in-Ok.rest.now)) place
          ∙ ap (λ xs. after xs (walk c.args.debug count (c.loop-count.place + (8 + length c.entry.inside.body.now)) c.in-Ok.rest.now))
          (sym c.in_ok-push-in-Ok.ensures.items),
      let size = c.in-Ok.ensures.size in let all = c.loop-count.invariant.1 in omega arith,
    )

pub returns-then-is_empty-2 : goal.returns-then-is_empty-2
returns-then-is_empty-2 c =
    let z : length c.loop-count.left.now ≡ 0 = search rules in c.loop-count.invariant.0 ∙ stops _ _ _ _ _ z

pub returns : goal.returns
returns c =
    let z : 0 < length c.loop-count.left.now = search rules in
    let h : length c.args.table.now ≤ c.loop-count.count = search rules in
    c.loop-count.invariant.0 ∙ runs_out _ _ _ _ _ _ h z
