-- The bytes of blocks in the input: all of them are below the limit of code addresses.
use Rattle.std.proofs.Common.{◌≡◌, ℕ, suc, ◌+◌, ◌<◌, ◌≤◌, List, [], ◌∷◌, Option, Some, refl, ap, arith}
use Rattle.std.specs.Prelude.{slice_get, sum_by}
use Rattle.std.specs.Option.{option_map_or}
use Rattle.std.proofs.lemmas.List.Sums.{sum_by-cons}
use Rattle.rv_code.specs.declared.placed.Func.{Func}
use Rattle.rv_code.specs.declared.placed.Block.{Block}
use Rattle.rv_code.specs.layout.ProgramCode.{ProgramCode}
use Rattle.rv_code.specs.layout.Blocks.{AreBlocks}
use Rattle.rv_code.specs.layout.FunctionLists.{AreLaidOut, address_end}
use Rattle.branch_fixup.specs.Strips.{Strip, strip_of, first_in}
use Rattle.rv_code.proofs.lists.Follows.{before_of}
use Rattle.branch_fixup.proofs.Covered.{block_of}
use Rattle.branch_fixup.proofs.Falls.{below_limit}
use Rattle.branch_fixup.proofs.Holders.{first_there, last_there, blocks_up}
use Rattle.branch_fixup.proofs.Placed.{before_is}
use Rattle.branch_fixup.proofs.Planned.{StripOf, strip_for, strip_follows}

abbrev pub input_bytes : List Func → Block → ℕ
input_bytes funcs b = option_map_or (λ s. before_of s.inner + s.last.len) (strip_of funcs b) 0

abbrev first_address : List Func → Block → ℕ
first_address funcs b = option_map_or (λ s. first_in s.inner s.last) (strip_of funcs b) 0

-- disjoint stretches, one above another, between two ends
stretches_sum : (start size : Block → ℕ) (end low : ℕ) (bs : List Block) → low ≤ end → ((k : ℕ) (b : Block) →
    slice_get bs k ≡ Some b → (low ≤ start b) × (start b + size b ≤ end)) → ((i j : ℕ) (b c : Block) →
    slice_get bs i ≡ Some b → slice_get bs j ≡ Some c → i < j → start b + size b ≤ start c) → low + sum_by size bs ≤ end
stretches_sum start size end low [] upto each apart = omega (arith, upto)
stretches_sum start size end low (b ∷ bs) upto each apart =
    let here = each 0 b refl in
    let above = here.0 in
    let rest = stretches_sum start size end (start b + size b) bs here.1
    (λ k c at. (apart 0 (suc k) b c refl at (omega arith), (each (suc k) c at).1))
    (λ i j c d at_i at_j less. apart (suc i) (suc j) c d at_i at_j (omega (arith, less))) in
    let sum = sum_by-cons size b bs in
    omega (arith, above, rest, sum)

module _ (code : ProgramCode) (blocks : List Block) (laid : AreLaidOut code.funcs) (are : AreBlocks code blocks) where
  record BlockBytes (b : Block) (s : Strip) : Type 0 where
    pub first : first_address code.funcs b ≡ first_in s.inner s.last
    pub end : first_address code.funcs b + input_bytes code.funcs b ≡ s.last.addr + s.last.len
    pub low : s.last.addr + s.last.len ≤ address_end

  block_bytes : (b : Block) (s : Strip) → StripOf code b s → BlockBytes b s
  block_bytes b s x =
      let first : first_address code.funcs b ≡ first_in s.inner s.last =
      ap (λ (o : Option Strip). option_map_or (λ t. first_in t.inner t.last) o 0) x.strip_is in
      let size : input_bytes code.funcs b ≡ before_of s.inner + s.last.len =
      ap (λ (o : Option Strip). option_map_or (λ t. before_of t.inner + t.last.len) o 0) x.strip_is in
      let before = before_is (first_in s.inner s.last) (s.last.addr + s.last.len) s.inner s.last
      (strip_follows code b s laid x) in
      record {
        first = first;
        end = omega (arith, first, size, before);
        low = below_limit code.funcs b.func b.last x.func s.last laid x.at x.last_at;
      }

  pub input_total : sum_by (input_bytes code.funcs) blocks ≤ address_end
  input_total = let sum = stretches_sum (first_address code.funcs) (input_bytes code.funcs) address_end 0 blocks (omega arith)
      each apart in omega (arith, sum)
    where
      each : (k : ℕ) (b : Block) → slice_get blocks k ≡ Some b → (0 ≤ first_address code.funcs b)
          × (first_address code.funcs b + input_bytes code.funcs b ≤ address_end)
      each k b at =
          let (s, x) = strip_for code b (block_of code blocks k b are at) in
          let h = block_bytes b s x in
          let end = h.end in
          let low = h.low in
          (omega arith, omega (arith, end, low))

      apart : (i j : ℕ) (b c : Block) → slice_get blocks i ≡ Some b → slice_get blocks j ≡ Some c → i < j →
          first_address code.funcs b + input_bytes code.funcs b ≤ first_address code.funcs c
      apart i j b c at_i at_j less =
          let (s, x) = strip_for code b (block_of code blocks i b are at_i) in
          let (t, y) = strip_for code c (block_of code blocks j c are at_j) in
          let (q, has, at_first) = first_there t.inner t.last in
          let up = blocks_up code blocks i j b c s t laid are x y at_i at_j less s.last q (last_there s) has in
          let end = (block_bytes b s x).end in
          let first = (block_bytes c t y).first in
          omega (arith, up, end, first, at_first)
