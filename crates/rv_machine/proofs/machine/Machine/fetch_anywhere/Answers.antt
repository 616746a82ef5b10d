use Rattle.std.proofs.Common.{◌≡◌, ◌≢◌, ◌∙◌, ◌%◌, ℕ, Some, None, sym, ap, true}
use Rattle.rv_code.specs.machine.Machine.{plus, all_may, may_execute}
use Rattle.rv_code.specs.machine.Step.{halfword}
use Rattle.rv_machine.specs.State.{state_of}
use Rattle.rv_machine.proofs.Fetches.{fetched_half, fetched_full, fetched_cut}
use Rattle.rv_machine.proofs.machine.Machine.fetch_anywhere.Goals as goal

pub returns-then-half-ne3 : goal.returns-then-half-ne3
returns-then-half-ne3 c = λ input.
    let s = state_of c.args.self.now input in
    let may : all_may (may_execute s) s.pc 2 ≡ true = sym c.may_all.ensures ∙ c.if-not-may_all.false in
    let half : c.halfword-half.result ≡ halfword s s.pc = c.halfword-half.ensures input in
    let low : halfword s s.pc % 4 ≢ 3 = λ e. c.if-half-ne3.true (ap (λ (h : ℕ). h % 4) half ∙ e) in
    ap (λ h. Some (h, None)) half ∙ sym (fetched_half s c.if-self-ne0.false may low)

pub returns-then-not-may_all-2 : goal.returns-then-not-may_all-2
returns-then-not-may_all-2 c = λ input.
    let s = state_of c.args.self.now input in
    let may : all_may (may_execute s) s.pc 2 ≡ true = sym c.may_all.ensures ∙ c.if-not-may_all.false in
    let half : c.halfword-half.result ≡ halfword s s.pc = c.halfword-half.ensures input in
    let low : halfword s s.pc % 4 ≡ 3 = ap (λ (h : ℕ). h % 4) (sym half) ∙ c.if-half-ne3.false in
    sym (fetched_cut s c.if-self-ne0.false may low (sym c.may_all-2.ensures ∙ c.if-not-may_all-2.true))

pub returns : goal.returns
returns c = λ input.
    let s = state_of c.args.self.now input in
    let may : all_may (may_execute s) s.pc 2 ≡ true = sym c.may_all.ensures ∙ c.if-not-may_all.false in
    let half : c.halfword-half.result ≡ halfword s s.pc = c.halfword-half.ensures input in
    let next : c.halfword.result ≡ halfword s (plus s.pc 2) = c.halfword.ensures input in
    let low : halfword s s.pc % 4 ≡ 3 = ap (λ (h : ℕ). h % 4) (sym half) ∙ c.if-half-ne3.false in
    let more : all_may (may_execute s) (plus s.pc 2) 2 ≡ true = sym c.may_all-2.ensures ∙ c.if-not-may_all-2.false in
    ap (λ h. Some (h, Some c.halfword.result)) half ∙ ap (λ k. Some (halfword s s.pc, Some k)) next
    ∙ sym (fetched_full s c.if-self-ne0.false may low more)
