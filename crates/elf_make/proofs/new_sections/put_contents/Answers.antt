use Rattle.std.proofs.Common.{◌∙◌, sym, ap, subst, ℕ, ◌+◌, ◌<◌, List, ◌++◌, Bool, String, Vec, Global, length, map}
use Rattle.std.specs.Prelude.{All, AllPairs, ◌≢◌}
use Rattle.elf_image.specs.declared.section.SectionHeader.{SectionHeader}
use Rattle.elf_plan.specs.declared.sections.Contents.{Contents}
use Rattle.elf_plan.specs.FileLayout.{added_ranges}
use Rattle.elf_make.specs.PlacedContents.{ArePlaced, bytes_at}
use Rattle.elf_plan.specs.NewSections.{given_bytes}
use Rattle.elf_make.specs.SectionTable.{AreCapped, EndsWith}
use Rattle.elf_make.proofs.new_sections.put_contents.Goals as goal

pub place_all-requires-clause-within : goal.place_all-requires-clause-within
place_all-requires-clause-within c =
    subst (λ (order : List (ℕ × ℕ)). All (λ (e : ℕ × ℕ). e.1 + 1 < length c.args.headers.now) order)
    (sym c.deref-4.ensures.value) c.requires.within

pub place_all-requires-clause-distinct : goal.place_all-requires-clause-distinct
place_all-requires-clause-distinct c =
    subst (λ (order : List (ℕ × ℕ)). AllPairs (λ (e f : ℕ × ℕ). e.1 ≢ f.1) order) (sym c.deref-4.ensures.value)
    c.requires.distinct

pub returns-clause-put : goal.returns-clause-put
returns-clause-put c =
    let elf = c.args.source.now.elf.now in
    let new = c.args.new.now in
    let base : ℕ = c.args.tail.now.base in
    let start : ℕ = base + length c.args.tail.now.bytes.items in
    let front : List ℕ = c.place_all.new.tail.bytes.items in
    let set : List SectionHeader = c.args.headers.now in
    let placed : List SectionHeader = c.place_all.new.headers in
    let headers : List SectionHeader = c.put_table.new.headers in
    let tail : List ℕ = c.put_table.new.tail.bytes.items in
    let based = c.in_ok-place_all.ensures.base in
    let also = c.in_ok-place.ensures.base ∙ based in
    record {
      names = c.requires.names;
      symbols = c.requires.symbols;
      put = record {
        new = new;
        front = front;
        keeps = c.in_ok-place.ensures.keeps;
        set = set;
        placed = placed;
        given = λ t. ap (λ (tables : List (String Global × Vec ℕ Global)). given_bytes tables t) c.requires.tables;
        ranges = c.requires.ranges;
        are_set = c.requires.set;
        are_placed = subst (λ (b : Bool). ArePlaced (bytes_at new elf c.args.plan.now.contents.items)
            (map (λ (e : ℕ × ℕ). e.1) c.args.plan.now.order.items ++ added_ranges b (length set)) base start front set placed)
            c.requires.adds
            (subst (λ (cs : List Contents). ArePlaced (bytes_at new elf cs)
            (map (λ (e : ℕ × ℕ). e.1) c.args.plan.now.order.items ++ added_ranges c.args.adds_ranges (length set)) base start front
            set placed) c.deref-3.ensures.value
            (subst (λ (os : List (ℕ × ℕ)). ArePlaced (bytes_at new elf c.deref-3.result.now)
            (map (λ (e : ℕ × ℕ). e.1) os ++ added_ranges c.args.adds_ranges (length set)) base start front set placed)
            c.deref-4.ensures.value c.in_ok-place_all.ensures.placed));
        count = c.in_ok-place.ensures.count;
        are_capped = subst (λ (b : ℕ). AreCapped (b + length tail) placed headers) also c.in_ok-place.ensures.capped;
        ends = subst (λ (b : ℕ). EndsWith b (b + length front) tail c.in_ok-place.place headers) based c.in_ok-place.ensures.ends;
        more = c.requires.more;
      };
    }
