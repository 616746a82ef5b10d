use Rattle.std.proofs.Common.{◌≡◌, ℕ, ◌+◌, ◌<◌, [], ◌∷◌, ◌++◌, length, arith, sym, ◌∙◌, slice_index, true}
use Rattle.std.specs.Prelude.{slice_set}
use Rattle.std.proofs.lemmas.List.{length-set}
use Rattle.std.proofs.lemmas.List.Elements.{All-push, All-same}
use Rattle.branch_fixup.specs.Ways.{crosses}
use Rattle.branch_fixup.proofs.Ways.{add_longer, longer_low, rest_over, later_over}
use Rattle.branch_fixup.proofs.settling.Settling.lengthen.Goals as goal
use Rattle.branch_fixup.proofs.settling.Settling.lengthen.Goals.{then-crosses+else-reached}
use Rattle.branch_fixup.proofs.settling.Settling.lengthen.Goals.{then-crosses+then-reached+then-not-is_enough_by+in_ok-push, else-crosses}

pub loop-k-init : goal.loop-k-init
loop-k-init c = record {
  count = c.requires.count;
  longer = c.requires.longer;
  over = λ j le. c.requires.over j (omega arith);
  listed = c.requires.listed;
}

pub is_enough_by-reached-requires-clause-low : goal.is_enough_by-reached-requires-clause-low
is_enough_by-reached-requires-clause-low c =
    let v = c.args.self.now in
    let k = c.loop-k.k in
    longer_low v.block_ends.now v.places.now c.args.forms.now k (slice_index c.loop-k.more k) v.fit v.begin (omega arith)
    (c.loop-k.invariant.longer k (omega arith))

pub overflow_add-more : goal.overflow_add-more
overflow_add-more c =
    let v = c.args.self.now in
    let k = c.loop-k.k in
    let over : crosses v.block_ends.now k c.args.p ≡ true = sym c.crosses.ensures ∙ c.if-crosses.true in
    let k_in : k < length v.block_ends.now = omega arith in
    let low = longer_low v.block_ends.now v.places.now c.args.forms.now k (slice_index c.loop-k.more k + c.args.bytes)
    v.fit v.begin k_in (c.loop-k.invariant.over k (omega arith) k_in over) in
    omega (arith, low)

pub is_enough_by-requires-clause-low : goal.is_enough_by-requires-clause-low
is_enough_by-requires-clause-low c =
    let v = c.args.self.now in
    let k = c.loop-k.k in
    let over : crosses v.block_ends.now k c.args.p ≡ true = sym c.crosses.ensures ∙ c.if-crosses.true in
    let k_in : k < length v.block_ends.now = omega arith in
    let i = c.loop-k.invariant in
    let more = slice_set c.loop-k.more k (slice_index c.loop-k.more k + c.args.bytes) in
    longer_low v.block_ends.now v.places.now c.args.forms.now k (slice_index more k) v.fit v.begin k_in
    (add_longer v.block_ends.now v.places.now c.args.forms.now c.loop-k.more c.args.p c.args.bytes k i.count k_in over
    i.longer i.over k k_in)

pub loop-k-preserved : goal.loop-k-preserved
loop-k-preserved c =
    let v = c.args.self.now in
    let i = c.loop-k.invariant in
    let ts = v.block_ends.now in
    let places = v.places.now in
    let fs = c.args.forms.now in
    let more = c.loop-k.more in
    let k = c.loop-k.k in
    let k_in : k < length ts = omega arith in
    let new = slice_set more k (slice_index more k + c.args.bytes) in
    let count : length new ≡ length ts = length-set more k (slice_index more k + c.args.bytes) ∙ i.count in
    elim c.if-crosses.branch [
      | then-crosses+else-reached w ↦
          let over : crosses ts k c.args.p ≡ true = sym c.crosses.ensures ∙ w.if-crosses.true in
          rw (w.more-is, w.short-is) (record {
            count = count;
            longer = add_longer ts places fs more c.args.p c.args.bytes k i.count k_in over i.longer i.over;
            over = rest_over ts places fs more c.args.p c.args.bytes k (slice_index more k + c.args.bytes) i.over;
            listed = i.listed;
          })
      | then-crosses+then-reached+then-not-is_enough_by+in_ok-push w ↦
          let over : crosses ts k c.args.p ≡ true = sym c.crosses.ensures ∙ w.if-crosses.true in
          rw (w.more-is, w.short-is) (record {
            count = count;
            longer = add_longer ts places fs more c.args.p c.args.bytes k i.count k_in over i.longer i.over;
            over = rest_over ts places fs more c.args.p c.args.bytes k (slice_index more k + c.args.bytes) i.over;
            listed = All-same (λ (j : ℕ). j < length ts) _ (c.loop-k.short.items ++ k ∷ []) w.in_ok-push.ensures.items
                (All-push (λ (j : ℕ). j < length ts) c.loop-k.short.items k i.listed k_in);
          })
      | else-crosses w ↦ rw (w.more-is, w.short-is) (record {
        count = i.count;
        longer = i.longer;
        over = later_over ts places fs more c.args.p c.args.bytes k i.over;
        listed = i.listed;
      })
    ]
