use Rattle.std.proofs.Common.{◌≡◌, ◌≤◌, ◌<◌, ◌∙◌, ℕ, true, false, length, get_or, ltb, ltb-true, le_refl, List, subst, sym, ap}
use Rattle.std.proofs.Common.{arith, rules}
use Rattle.std.specs.List.Sorted.{IsPartitionPoint}
use Rattle.std.proofs.lemmas.List.Sorted.{IsPartitionPoint-from_clause}
use Rattle.memchr.specs.Find.{is_byte, places}
use Rattle.elf_image.specs.internal.TextEnds.{IsTextEnd}
use Rattle.elf_image.proofs.ZeroPlaces.{zeros-partitioned, IsTextEnd-at, IsTextEnd-past}
use Rattle.elf_image.proofs.text.Names.far_end.Goals as goal

pub returns-in-Some : goal.returns-in-Some
returns-in-Some c =
    let table = c.args.self.now.table.now in
    let zs = c.deref.result.now in
    let index = c.args.index in
    let next = c.partition_point-next.result in
    let same : zs ≡ places (is_byte 0) table = c.deref.ensures.value ∙ c.args.self.now.zeros_are in
    let same_lists : zs ≡ c.deref-2.result.now = c.deref.ensures.value ∙ sym c.deref-2.ensures.value in
    let point : IsPartitionPoint (λ z. ltb z index ≡ true) (λ z. ltb z index ≡ false) zs next =
    IsPartitionPoint-from_clause (λ (z : ℕ). ltb z index) zs next c.partition_point-next.ensures.partitioned
    (zeros-partitioned table zs index same) (λ a r q k. search rules) in
    let lookup = c.in-Some.ensures.lookup in
    let sizes : length zs ≡ length c.deref-2.result.now = ap length same_lists in
    let listed : next < length c.deref-2.result.now = ltb-true _ _ (sym lookup.0) in
    let found : get_or zs next 0 ≡ c.in-Some.end.now =
    ap (λ (xs : List ℕ). get_or xs next 0) same_lists ∙ sym (lookup.4 (le_refl next) 0) in
    subst (IsTextEnd table index) found (IsTextEnd-at table zs index next same point (omega arith))

pub returns-in-None : goal.returns-in-None
returns-in-None c =
    let table = c.args.self.now.table.now in
    let zs = c.deref.result.now in
    let index = c.args.index in
    let next = c.partition_point-next.result in
    let same : zs ≡ places (is_byte 0) table = c.deref.ensures.value ∙ c.args.self.now.zeros_are in
    let same_lists : zs ≡ c.deref-2.result.now = c.deref.ensures.value ∙ sym c.deref-2.ensures.value in
    let point : IsPartitionPoint (λ z. ltb z index ≡ true) (λ z. ltb z index ≡ false) zs next =
    IsPartitionPoint-from_clause (λ (z : ℕ). ltb z index) zs next c.partition_point-next.ensures.partitioned
    (zeros-partitioned table zs index same) (λ a r q k. search rules) in
    let past : length c.deref-2.result.now ≤ next = c.in-None.ensures.lookup.3 in
    let sizes : length zs ≡ length c.deref-2.result.now = ap length same_lists in
    IsTextEnd-past table zs index next same point (omega arith)
