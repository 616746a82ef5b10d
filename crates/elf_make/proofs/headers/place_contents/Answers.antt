use Rattle.std.proofs.Common.{◌≡◌, ◌∙◌, sym, ap, subst, ℕ, ◌+◌, List, length, map, take, get_or}
use Rattle.elf_image.specs.declared.section.SectionHeader.{SectionHeader}
use Rattle.elf_make.specs.PlacedContents.{ArePlaced, IsPlaced, bytes_at}
use Rattle.elf_make.proofs.PlacedContents.{indices-fresh, indices-more, placed-more}
use Rattle.elf_make.proofs.headers.place_contents.Goals as goal

pub loop-entry-preserved : goal.loop-entry-preserved
loop-entry-preserved c =
    let bytes : ℕ → List ℕ = bytes_at c.args.new.now c.args.elf.now c.args.contents.now in
    let base : ℕ = c.args.tail.now.base in
    let start : ℕ = base + length c.args.tail.now.bytes.items in
    let done : ℕ = c.loop-entry.entry-index in
    let i : ℕ = (get_or c.args.order.now done (0, 0)).1 in
    let tail : List ℕ = c.loop-entry.tail.bytes.items in
    let longer : List ℕ = c.place_bytes.new.tail.bytes.items in
    let now : List SectionHeader = c.loop-entry.headers in
    let new : List SectionHeader = c.place_bytes.new.headers in
    let based : c.place_bytes.new.tail.base ≡ base = c.in_ok-place_bytes.ensures.base ∙ c.loop-entry.invariant.0 in
    let here : (d : SectionHeader) →
    IsPlaced base (base + length tail) (bytes i) longer (get_or now i d) (get_or new i d) =
    λ d. subst (λ (b : ℕ). IsPlaced b (b + length tail) (bytes i) longer (get_or now i d) (get_or new i d))
    c.loop-entry.invariant.0
    (subst (λ (bs : List ℕ). IsPlaced c.loop-entry.tail.base (c.loop-entry.tail.base + length tail) bs longer
    (get_or now i d) (get_or new i d)) c.bytes_at-bytes.ensures (c.in_ok-place_bytes.ensures.here d)) in (
      based,
      subst (λ (is : List ℕ). ArePlaced bytes is base start longer c.args.headers.now new)
          (sym (indices-more c.args.order.now done (0, 0) c.loop-entry-test.true))
          (placed-more bytes base start c.args.headers.now (map (λ (e : ℕ × ℕ). e.1) (take done c.args.order.now)) i tail longer
          now new (indices-fresh c.args.order.now done (0, 0) c.loop-entry-test.true c.requires.distinct)
          c.loop-entry.invariant.1 c.in_ok-place_bytes.ensures.count c.in_ok-place_bytes.ensures.others here
          (λ d. ap (λ (b : ℕ). b + length longer) (sym based) ∙ c.in_ok-place_bytes.ensures.end d)
          c.in_ok-place_bytes.ensures.keeps),
      λ o xs stands. c.in_ok-place_bytes.ensures.keeps o xs (c.loop-entry.invariant.2 o xs stands),
    )
