use Rattle.std.proofs.Common.{rules, ap, refl, false, ◌≡◌, ◌∙◌, ◌++◌, ◌∷◌, [], ◌+◌, ℕ, List, length, arith, flat_map}
use Rattle.std.proofs.lemmas.List.Sorted.{IsNonDecreasingBy-from_sort_by_key}
use Rattle.byteorder.specs.Endian.{little_bytes}
use Rattle.cfi_rows.specs.declared.frame_table.Fde.{Fde as ReadFde}
use Rattle.cfi_rows.specs.KeptTables.{SaidFrames}
use Rattle.cfi_rows.specs.Entries.{frames}
use Rattle.frame_rewrite.specs.Index.{distance}
use Rattle.frame_rewrite.proofs.Appends.{four-puts}
use Rattle.frame_rewrite.proofs.IndexBack.{index-of, index-size, pairs_of}
use Rattle.frame_rewrite.proofs.NumbersBack.{length-little}
use Rattle.frame_rewrite.proofs.index.header.Goals as goal

abbrev Written : List ℕ → ℕ → ℕ → List ReadFde → Type 0
Written bytes at index sorted =
    bytes ≡ (1 ∷ 0x1b ∷ 0x03 ∷ 0x3b ∷ []) ++ little_bytes 4 (distance at (index + 4)) ++ little_bytes 4 (length sorted)
    ++ flat_map (pairs_of at index) sorted

bytes_are : (c : goal.After-drop-fdes-2) → Written c.put_pairs.new.out.items c.args.at c.args.header_at
    c.sort_by_key.new.self.items
bytes_are c =
    let count : c.len-2.result ≡ length c.sort_by_key.new.self.items = omega
    (arith, c.len-2.ensures, c.sort_by_key.new.self.ok.0) in
    four-puts c.new-out.result.items c.put_bytes.new.out.items c.put_u32.new.out.items c.put_u32-2.new.out.items
    c.put_pairs.new.out.items _ _ _ _ c.new-out.ensures.items c.in_ok-put_bytes.ensures
    (c.in_ok-put_u32.ensures ∙ ap (λ (n : ℕ). c.put_bytes.new.out.items ++ little_bytes 4 n) c.distance.ensures)
    (c.in_ok-put_u32-2.ensures ∙ ap (λ (n : ℕ). c.put_u32.new.out.items ++ little_bytes 4 n) count)
    (c.in_ok-put_pairs.ensures ∙ ap (λ (l : List ReadFde). c.put_u32-2.new.out.items ++ flat_map
    (pairs_of c.args.at c.args.header_at) l) c.deref.ensures.value)

pub returns-clause-index : goal.returns-clause-index
returns-clause-index c =
    let list = ap (λ (s : SaidFrames). s.list) c.in_ok-table.ensures in
    let up = IsNonDecreasingBy-from_sort_by_key (λ (f : ReadFde). f.start) _ c.in_ok-sort_by_key.ensures.sorted
    (λ a r q k. search rules) in
    index-of c.args.at c.args.header_at (frames false c.args.at c.args.frames.now).list c.in_ok-table.table.list.items
    c.sort_by_key.new.self.items c.put_pairs.new.out.items list
    c.in_ok-sort_by_key.ensures.permutation up (bytes_are c)

pub returns-clause-size : goal.returns-clause-size
returns-clause-size c =
    let list = ap (λ (s : SaidFrames). s.list) c.in_ok-table.ensures in
    let same : length c.sort_by_key.new.self.items ≡ length c.in_ok-table.table.list.items =
    omega (arith, c.in_ok-sort_by_key.ensures.len, c.sort_by_key.new.self.ok.0, c.in_ok-table.table.list.ok.0) in
    index-size c.args.at c.args.header_at (frames false c.args.at c.args.frames.now).list c.in_ok-table.table.list.items
    c.sort_by_key.new.self.items
    (1 ∷ 0x1b ∷ 0x03 ∷ 0x3b ∷ []) (little_bytes 4 (distance c.args.at (c.args.header_at + 4)))
    (little_bytes 4 (length c.sort_by_key.new.self.items)) c.put_pairs.new.out.items list same
    refl (length-little 4 (distance c.args.at (c.args.header_at + 4)))
    (length-little 4 (length c.sort_by_key.new.self.items)) (bytes_are c)
