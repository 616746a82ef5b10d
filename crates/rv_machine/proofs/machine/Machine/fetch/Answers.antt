use Rattle.std.proofs.Common.{◌≡◌, ◌≢◌, ◌∙◌, ◌%◌, ℕ, Some, None, sym, ap}
use Rattle.rv_code.specs.machine.Machine.{plus}
use Rattle.rv_code.specs.machine.Step.{halfword}
use Rattle.rv_machine.specs.State.{state_of}
use Rattle.rv_machine.proofs.Fetches.{fetched_half, fetched_full}
use Rattle.rv_machine.proofs.machine.Machine.fetch.Goals as goal

pub returns-then-half-ne3 : goal.returns-then-half-ne3
returns-then-half-ne3 c = λ input.
    let s = state_of c.args.self.now input in
    let half : c.in-Some.half ≡ halfword s s.pc = c.in-Some.ensures.first in
    let low : halfword s s.pc % 4 ≢ 3 = λ e. c.if-half-ne3.true (ap (λ (h : ℕ). h % 4) half ∙ e) in
    ap (λ h. Some (h, None)) half ∙ sym (fetched_half s c.if-self-eq0.true c.in-Some.ensures.first_runs low)

pub returns-in-Some : goal.returns-in-Some
returns-in-Some c = λ input.
    let s = state_of c.args.self.now input in
    let half : c.in-Some.half ≡ halfword s s.pc = c.in-Some.ensures.first in
    let next : c.in-Some.next ≡ halfword s (plus s.pc 2) = c.in-Some.ensures.second in
    let low : halfword s s.pc % 4 ≡ 3 = ap (λ (h : ℕ). h % 4) (sym half) ∙ c.if-half-ne3.false in
    ap (λ h. Some (h, Some c.in-Some.next)) half ∙ ap (λ k. Some (halfword s s.pc, Some k)) next
    ∙ sym (fetched_full s c.if-self-eq0.true c.in-Some.ensures.first_runs low c.in-Some.ensures.second_runs)
