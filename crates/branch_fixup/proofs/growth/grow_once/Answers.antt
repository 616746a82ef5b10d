use Rattle.std.proofs.Common.{◌≡◌, ℕ, ◌<◌, ◌≤◌, length, true, false, arith, refl, sym, ◌∙◌, ap}
use Rattle.std.specs.Prelude.{sum_by}
use Rattle.branch_fixup.specs.Growth.{is_enough, form_at, end_at, left_of}
use Rattle.branch_fixup.proofs.Rounds.{IsRound, grow_step, stay_step, grows, left-grow, no_more_left, enough_more, same_ends}
use Rattle.branch_fixup.proofs.growth.grow_once.Goals as goal
use Rattle.branch_fixup.proofs.growth.grow_once.Goals.{then-not-is_enough, else-not-is_enough}

pub loop-i-preserved : goal.loop-i-preserved
loop-i-preserved c =
    let ts = c.args.block_ends.now in
    let olds = c.args.forms.now in
    let i = c.loop-i.i in
    let fs = c.loop-i.forms in
    let one = c.requires.sound.one_each in
    let i_in : i < length ts = omega (arith, one) in
    let to_in = c.requires.block_ends.to_block i i_in in
    let here = c.requires.placed i (omega (arith, i_in)) in
    let there = c.requires.placed (end_at ts i).to (omega (arith, to_in)) in
    let r : IsRound ts olds fs i = c.loop-i.invariant.0 in
    let same : form_at fs i ≡ form_at olds i = r.rest i (omega arith) in
    let at : c.is_enough.result ≡ is_enough ts olds i (form_at fs i) = c.is_enough.ensures ∙ rw (here, there) refl in
    let at_old : c.is_enough.result ≡ is_enough ts olds i (form_at olds i) = at ∙ ap (is_enough ts olds i) same in
    elim c.if-not-is_enough.branch [
      | then-not-is_enough w ↦
          let short : is_enough ts olds i (form_at olds i) ≡ false = sym at_old ∙ w.if-not-is_enough.true in
          let short_f : is_enough ts olds i (form_at fs i) ≡ false = sym at ∙ w.if-not-is_enough.true in
          let g = grows ts olds i (end_at ts i).len (form_at fs i) (r.fits i i_in) short_f in
          let len = r.len in
          let down = left-grow ts olds fs i (omega (arith, i_in, len)) g in
          let le : sum_by left_of fs ≤ sum_by left_of olds = no_more_left c.loop-i.grew olds fs
          ((k : ℕ) → k < i → is_enough ts olds k (form_at olds k) ≡ true) c.loop-i.invariant.1 in
          rw (w.forms-is, w.grew-is, w.longer.ensures) (
            grow_step ts olds fs i c.requires.block_ends i_in short r,
            omega (arith, down, le),
            same_ends fs i (omega (arith, i_in, len)) ∙ c.loop-i.invariant.2,
          )
      | else-not-is_enough w ↦
          let long : is_enough ts olds i (form_at olds i) ≡ true = sym at_old ∙ w.if-not-is_enough.false in
          rw (w.forms-is, w.grew-is) (
            stay_step ts olds fs i r,
            enough_more c.loop-i.grew
                (sum_by left_of fs < sum_by left_of olds) (fs ≡ olds) (λ k. is_enough ts olds k (form_at olds k) ≡ true) i
                long c.loop-i.invariant.1,
            c.loop-i.invariant.2,
          )
    ]
