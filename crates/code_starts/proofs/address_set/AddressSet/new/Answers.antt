use Rattle.std.proofs.Common.{◌≡◌, sym, subst, arith, ℕ, List, take}
use Rattle.std.specs.Prelude.{Contains}
use Rattle.std.proofs.lemmas.List.Kept.{AllPairs-from_increasing}
use Rattle.std.proofs.lemmas.List.{take_all}
use Rattle.code_starts.proofs.AddressSets.{in-next, in-nothing, in-same}
use Rattle.code_starts.proofs.address_set.AddressSet.new.Goals as goal

pub loop-address-init : goal.loop-address-init
loop-address-init c =
    in-nothing c.args.low c.args.width c.in_ok-marks.marks.items c.new-others.result.items
    (c.in_ok-marks.ensures.items_if_clones_equal (λ y same. same)) c.new-others.ensures.items

pub loop-address-preserved : goal.loop-address-preserved
loop-address-preserved c =
    in-next c.args.low c.loop-address.marks.items c.put.new.marks.items c.loop-address.others.items c.put.new.others.items
    c.args.addresses.now c.loop-address.address-index c.loop-address-test.true c.in_ok-put.ensures c.loop-address.invariant

pub invariant_of-result : goal.invariant_of-result
invariant_of-result c = record { rises = AllPairs-from_increasing _ c.make_ascending.ensures.ascending }

pub returns : goal.returns
returns c a =
    let xs = c.args.addresses.now in
    let all : take c.loop-address.address-index xs ≡ xs =
    take_all c.loop-address.address-index xs (let upto = c.loop-address.auto.address-index-end in omega arith) in
    let same = in-same c.args.low c.loop-address.marks.items c.loop-address.others.items _ c.make_ascending.ensures.same a in (
      (λ h. subst (λ (ys : List ℕ). Contains ys a) all ((c.loop-address.invariant a).0 (same.0 h))),
      (λ h. same.1 ((c.loop-address.invariant a).1 (subst (λ (ys : List ℕ). Contains ys a) (sym all) h))),
    )
