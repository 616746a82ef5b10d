use Rattle.std.proofs.Common.{◌≡◌, ◌∙◌, ◌+◌, ◌-◌, ◌/◌, ◌++◌, ◌∷◌, ℕ, List, sym, ap, arith, length, drop}
use Rattle.std.specs.Prelude.{unwrap_or}
use Rattle.byteorder.specs.Endian.{little_number, little_bytes}
use Rattle.addr_map.specs.declared.span.Span.{Span}
use Rattle.addr_map.specs.Spans.{moved}
use Rattle.dw_unit.specs.Changes.{Patch, address_patches, patched}
use Rattle.dw_unit.specs.EntryMoves.{moved_address}
use Rattle.addr_rewrite.proofs.AddressPatches.{address_patch, address_step, address_end}
use Rattle.addr_rewrite.proofs.addr_table.put_addresses.Goals as goal

pub addresses-preserved : goal.addresses-preserved
addresses-preserved c =
    let section : List ℕ = c.args.section.now in
    let old : List ℕ = c.addresses.out.items in
    let n : ℕ = length c.args.addresses.now / 8 in
    let count : ℕ = c.addresses.count in
    let to : ℕ = c.addresses.to in
    let at : ℕ = c.addresses.at in
    let left : List ℕ = c.addresses.left.now in
    let a : ℕ = little_number 8 left in
    record {
      put = λ m ps e.
          let more : List Patch = address_patches m (n - (count + 1)) (at + 8) c.split_at.result.1.now in
          let value : c.new_address-new.result ≡ unwrap_or (moved_address m a) a =
          c.new_address-new.ensures ∙ ap (λ (x : ℕ). unwrap_or (moved c.args.map.now x) x) c.read_u64-address.ensures
          ∙ ap (λ (spans : List Span). unwrap_or (moved spans a) a) (sym e) in
          let all : address_patches m (n - count) at left ≡ address_patch m at left ∷ more =
          address_step m n count at left c.addresses-test.true
          ∙ ap (λ (l : List ℕ). address_patch m at left ∷ address_patches m (n - (count + 1)) (at + 8) l) (sym c.split_at.ensures.back) in
          c.in_ok-to.ensures.put (more ++ ps)
          ∙ ap (λ (x : ℕ). old ++ patched to (record { place = at; bytes = little_bytes 8 x } ∷ (more ++ ps)) (drop to section)) value
          ∙ ap (λ (l : List Patch). old ++ patched to (l ++ ps) (drop to section)) (sym all)
          ∙ c.addresses.invariant.put m ps e;
      behind = omega (arith, c.in_ok-to.ensures.place);
      place = omega (arith, c.split_at.ensures.back_len, c.addresses.invariant.place, c.addresses.invariant.enough, c.addresses-test.true);
      enough = omega (arith, c.split_at.ensures.back_len, c.addresses.invariant.enough, c.addresses-test.true);
    }

pub returns-clause-put : goal.returns-clause-put
returns-clause-put c = λ m ps e.
    let n : ℕ = length c.args.addresses.now / 8 in
    let done : n - c.addresses.count ≡ 0 = omega (arith, c.addresses-test.false) in
    ap (λ (l : List Patch). c.addresses.out.items ++ patched c.addresses.to (l ++ ps) (drop c.addresses.to c.args.section.now))
    (sym (address_end m (n - c.addresses.count) c.addresses.at c.addresses.left.now done))
    ∙ c.addresses.invariant.put m ps e
