use Rattle.std.proofs.Common.{◌≡◌, ◌∙◌, sym, ap, subst, ℕ, ◌+◌, ◌-◌, ◌<◌, List, [], ◌∷◌, ◌++◌, Bool, true, length}
use Rattle.std.proofs.Common.{map, get_or, arith, rules}
use Rattle.std.specs.Prelude.{All}
use Rattle.std.proofs.lemmas.List.Elements.{All-map}
use Rattle.elf_image.specs.declared.section.SectionHeader.{SectionHeader}
use Rattle.elf_plan.specs.FileLayout.{added_ranges}
use Rattle.elf_make.specs.PlacedContents.{ArePlaced, IsPlaced, bytes_at}
use Rattle.elf_make.proofs.PlacedContents.{bytes_at-added, placed-more}
use Rattle.elf_make.proofs.headers.place_all.Goals as goal

pub returns-clause-placed : goal.returns-clause-placed
returns-clause-placed c =
    let bytes : ℕ → List ℕ = bytes_at c.args.new.now c.args.elf.now c.args.contents.now in
    let base : ℕ = c.args.tail.now.base in
    let start : ℕ = base + length c.args.tail.now.bytes.items in
    let indices : List ℕ = map (λ (e : ℕ × ℕ). e.1) c.args.order.now in
    let tail : List ℕ = c.place_contents.new.tail.bytes.items in
    let longer : List ℕ = c.place_last.new.tail.bytes.items in
    let old : List SectionHeader = c.args.headers.now in
    let now : List SectionHeader = c.place_contents.new.headers in
    let new : List SectionHeader = c.place_last.new.headers in
    let placed = c.in_ok-place_contents.ensures.placed in
    let count : length now ≡ length old = placed.count in
    let more = c.requires.more in
    let i : ℕ = length now - 1 in
    let based = c.in_ok-place_contents.ensures.base in
    let same : bytes i ≡ c.args.new.now.ranges.now =
    bytes_at-added c.args.new.now c.args.elf.now c.args.contents.now i (omega (arith, count, more)) in
    let within : All (λ (k : ℕ). k + 1 < length old) indices =
    All-map (λ (k : ℕ). k + 1 < length old) (λ (e : ℕ × ℕ). e.1) c.args.order.now c.requires.within in
    let here : (d : SectionHeader) → IsPlaced base (base + length tail) (bytes i) longer (get_or now i d) (get_or new i d) =
    λ d. subst (λ (b : ℕ). IsPlaced b (b + length tail) (bytes i) longer (get_or now i d) (get_or new i d)) based
    (subst (λ (bs : List ℕ). IsPlaced c.place_contents.new.tail.base (c.place_contents.new.tail.base + length tail) bs longer
    (get_or now i d) (get_or new i d)) (sym same) (c.in_ok-place_last.ensures.here d)) in
    let all : ArePlaced bytes (indices ++ i ∷ []) base start longer old new =
    placed-more bytes base start old indices i tail longer now new
    (λ j below is. let low = within j i below in omega (arith, low, is, count, more))
    placed c.in_ok-place_last.ensures.count c.in_ok-place_last.ensures.others here
    (λ d. ap (λ (b : ℕ). b + length longer) (sym based ∙ sym c.in_ok-place_last.ensures.base) ∙ c.in_ok-place_last.ensures.end d)
    c.in_ok-place_last.ensures.keeps in
    let adds : c.args.adds_ranges ≡ true = search rules in
    subst (λ (b : Bool). ArePlaced bytes (indices ++ added_ranges b (length old)) base start longer old new) (sym adds)
    (subst (λ (n : ℕ). ArePlaced bytes (indices ++ (n - 1) ∷ []) base start longer old new) count all)
