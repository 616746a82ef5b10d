use Rattle.std.proofs.Common.{◌∙◌, ◌≡◌, ◌≤◌, ◌+◌, ◌-◌, ◌++◌, ◌∷◌, ◌^◌, ℕ, List, ap, sym, subst, arith, take, drop, length}
use Rattle.std.proofs.lemmas.List.{nil_from_length}
use Rattle.std.specs.Prelude.{All}
use Rattle.answer_runs.specs.declared.run.Run.{Run}
use Rattle.answer_runs.specs.AnswerRuns.{IsWithin}
use Rattle.frame_rewrite.specs.FrameAnswers.{FrameAnswer}
use Rattle.frame_rewrite.specs.SpelledFits.{EndFits, IsAbove, RunAscends, Writes, WritesAll}
use Rattle.frame_rewrite.specs.SpelledFrames.{more_count, start_of, last_end, spelled_entry, spelled_entries, fde_entry, fde_entries}
use Rattle.frame_rewrite.proofs.EntrySteps.{no-entries, no-writes, out-of-fuel, out-of-writes, group-ends, group-start, group-more}
use Rattle.frame_rewrite.proofs.EntrySteps.{writes-more, within-behind, before-behind, ascend-behind, group-ascends, longer, group-above, all-end}
use Rattle.frame_rewrite.proofs.TableBack.{Before}
use Rattle.frame_rewrite.proofs.put_fde.put_fdes.Goals as goal

abbrev Runs : Type 0
Runs = List (Run FrameAnswer)

pub returns-in-None-clause-written : goal.returns-in-None-clause-written
returns-in-None-clause-written c = no-entries _ _ _ _ _ c.loop-count.rest.now c.loop-count.out.items _
    (nil_from_length c.loop-count.rest.now c.in-None.ensures.cases) c.loop-count.invariant.written

pub returns-in-None-clause-writes : goal.returns-in-None-clause-writes
returns-in-None-clause-writes c = no-writes _ _ _ _ _ c.loop-count.rest.now _
    (nil_from_length c.loop-count.rest.now c.in-None.ensures.cases) c.loop-count.invariant.writes

pub returns-clause-written : goal.returns-clause-written
returns-clause-written c = out-of-fuel _ _ _ _ c.loop-count.count _ c.loop-count.rest.now c.loop-count.out.items _
    c.loop-count-test.false c.loop-count.invariant.written

pub returns-clause-writes : goal.returns-clause-writes
returns-clause-writes c = out-of-writes _ _ _ _ c.loop-count.count _ c.loop-count.rest.now _ c.loop-count-test.false
    c.loop-count.invariant.writes

pub put_fde-requires-clause-ends : goal.put_fde-requires-clause-ends
put_fde-requires-clause-ends c =
    subst (λ (m : Runs). All EndFits (c.in-Some.first.now ∷ m)) (sym c.split_at.ensures.front)
    (group-ends c.more_count.result c.in-Some.first.now c.in-Some.others.now c.loop-count.rest.now (2 ^ 64 - 1)
    c.in-Some.ensures.cases.0 (omega arith) c.loop-count.invariant.within)

pub put_fde-requires-clause-start : goal.put_fde-requires-clause-start
put_fde-requires-clause-start c =
    subst (λ (m : Runs). start_of c.args.map.now c.in-Some.first.now ≤ last_end
    (c.in-Some.first.now.start + c.in-Some.first.now.len) m) (sym c.split_at.ensures.front)
    (group-start c.args.map.now c.more_count.result c.in-Some.first.now c.in-Some.others.now c.loop-count.rest.now
    (2 ^ 64 - 1) c.in-Some.ensures.cases.0
    c.loop-count.invariant.within c.loop-count.invariant.before)

pub more_count-requires : goal.more_count-requires
more_count-requires c = all-end c.in-Some.first.now c.in-Some.others.now c.loop-count.rest.now (2 ^ 64 - 1)
    c.in-Some.ensures.cases.0 (omega arith) c.loop-count.invariant.within

pub put_fde-requires-clause-follow : goal.put_fde-requires-clause-follow
put_fde-requires-clause-follow c =
    subst (IsAbove (start_of c.args.map.now c.in-Some.first.now)) (sym c.split_at.ensures.front)
    (group-above c.args.map.now c.more_count.result c.in-Some.first.now c.in-Some.others.now c.loop-count.rest.now
    (2 ^ 64 - 1) c.in-Some.ensures.cases.0 c.loop-count.invariant.within c.loop-count.invariant.before)

pub put_fde-requires-clause-ascend : goal.put_fde-requires-clause-ascend
put_fde-requires-clause-ascend c =
    subst (λ (m : Runs). All RunAscends (c.in-Some.first.now ∷ m)) (sym c.split_at.ensures.front)
    (group-ascends c.more_count.result c.in-Some.first.now c.in-Some.others.now c.loop-count.rest.now
    c.in-Some.ensures.cases.0 c.loop-count.invariant.ascend)

pub loop-count-preserved : goal.loop-count-preserved
loop-count-preserved c =
    let is = c.in-Some.ensures.cases.0 in
    let front : c.split_at.result.0.now ≡ take (more_count c.in-Some.first.now c.in-Some.others.now) c.in-Some.others.now =
    c.split_at.ensures.front ∙ ap (λ (n : ℕ). take n c.in-Some.others.now) c.more_count.ensures.count in
    let back : c.split_at.result.1.now ≡ drop (more_count c.in-Some.first.now c.in-Some.others.now) c.in-Some.others.now =
    c.split_at.ensures.back ∙ ap (λ (n : ℕ). drop n c.in-Some.others.now) c.more_count.ensures.count in
    let written = subst (λ (m : Runs). c.put_fde.new.out.items ≡ c.loop-count.out.items
    ++ spelled_entry (fde_entry c.args.form c.args.map.now c.args.keys.now (length c.loop-count.out.items)
    c.in-Some.first.now m)) front c.in_ok-put_fde-in-Some.ensures.written in
    let writes = subst (λ (m : Runs). Writes c.args.form c.args.map.now c.args.keys.now (length c.loop-count.out.items)
    c.in-Some.first.now m) front c.in_ok-put_fde-in-Some.ensures.writes in
    record {
      written = subst (λ (l : Runs). c.put_fde.new.out.items
          ++ spelled_entries (fde_entries c.args.form c.args.map.now c.args.keys.now
          (length c.args.runs.now - (c.loop-count.count + 1)) (length c.put_fde.new.out.items) l)
          ≡ c.args.out.now.items ++ spelled_entries (fde_entries c.args.form c.args.map.now c.args.keys.now
          (length c.args.runs.now) (length c.args.out.now.items) c.args.runs.now)) (sym back)
          (group-more c.args.form c.args.map.now c.args.keys.now (length c.args.runs.now) c.loop-count.count
          c.in-Some.first.now c.in-Some.others.now c.loop-count.rest.now
          c.loop-count.out.items c.put_fde.new.out.items _ c.loop-count-test.true is written c.loop-count.invariant.written);
      writes = λ more. writes-more c.args.form c.args.map.now c.args.keys.now (length c.args.runs.now)
          c.loop-count.count c.in-Some.first.now c.in-Some.others.now c.loop-count.rest.now
          c.loop-count.out.items c.put_fde.new.out.items _ c.loop-count-test.true is written writes
          c.loop-count.invariant.writes
          (subst (λ (l : Runs). WritesAll c.args.form c.args.map.now c.args.keys.now
          (length c.args.runs.now - (c.loop-count.count + 1)) (length c.put_fde.new.out.items) l) back more);
      within = subst (λ (l : Runs). IsWithin 0 l (2 ^ 64 - 1)) (sym back)
          (within-behind (more_count c.in-Some.first.now c.in-Some.others.now) c.in-Some.first.now c.in-Some.others.now
          c.loop-count.rest.now (2 ^ 64 - 1) is c.loop-count.invariant.within);
      before = subst (All (Before c.args.map.now)) (sym back)
          (before-behind c.args.map.now (more_count c.in-Some.first.now c.in-Some.others.now) c.in-Some.first.now
          c.in-Some.others.now c.loop-count.rest.now is c.loop-count.invariant.before);
      ascend = subst (All RunAscends) (sym back)
          (ascend-behind (more_count c.in-Some.first.now c.in-Some.others.now) c.in-Some.first.now c.in-Some.others.now
          c.loop-count.rest.now is c.loop-count.invariant.ascend);
      behind = longer c.loop-count.out.items c.put_fde.new.out.items _
          (fde_entry c.args.form c.args.map.now c.args.keys.now (length c.loop-count.out.items) c.in-Some.first.now
          (take (more_count c.in-Some.first.now c.in-Some.others.now) c.in-Some.others.now)) written
          c.loop-count.invariant.behind;
    }
