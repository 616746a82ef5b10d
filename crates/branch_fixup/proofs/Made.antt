-- All facts of forms and spans, from block ends, growth and the plan.
use Rattle.std.proofs.Common.{◌≡◌, ℕ, zero, suc, ◌+◌, ◌*◌, ◌%◌, ◌<◌, ◌≤◌, List, [], ◌∷◌, ◌++◌, length, map, take, drop, Option}
use Rattle.std.proofs.Common.{Some, None, refl, sym, ap, ◌∙◌, subst, arith, get_or, zero-add, All}
use Rattle.std.specs.Prelude.{slice_get, IsTrue, sum_by}
use Rattle.std.specs.Option.{option_map_or}
use Rattle.std.proofs.Math.ListN.{get_or-map}
use Rattle.std.proofs.lemmas.Option.{slice_get_within, get_or_from_slice_get}
use Rattle.std.proofs.lemmas.List.{take_at}
use Rattle.rv_code.specs.declared.layout.Form.{Form}
use Rattle.rv_code.specs.declared.layout.Form.TheVariants as form
use Rattle.rv_code.specs.declared.placed.Func.{Func}
use Rattle.rv_code.specs.declared.placed.Block.{Block}
use Rattle.rv_code.specs.declared.placed.Role.{Role}
use Rattle.rv_code.specs.declared.cell.CodeCell.{CodeCell}
use Rattle.rv_code.specs.layout.ProgramCode.{ProgramCode, is_code_address, IsNamed, program_code}
use Rattle.rv_code.specs.layout.Blocks.{AreBlocks}
use Rattle.rv_code.specs.layout.FunctionLists.{AreLaidOut}
use Rattle.rv_code.specs.layout.WorstSizes.{worst_size_of_block}
use Rattle.rv_code.specs.layout.BlockOrders.{HasAllBlocks}
use Rattle.addr_map.specs.Spans.{IsMap}
use Rattle.branch_fixup.specs.declared.growth.BlockEnd.{BlockEnd}
use Rattle.branch_fixup.specs.Endings.{End, end_of_form}
use Rattle.branch_fixup.specs.Ends.{AreEnds, begins_of}
use Rattle.branch_fixup.specs.Forms.{AreForms, FitsLength, shorter, new_code_end}
use Rattle.branch_fixup.specs.Growth.{AreEnough, AreGrown, AreBlockEnds, IsNeeded, form_at, most_of, end_at, block_offset}
use Rattle.branch_fixup.specs.Inputs.{AreBlocksOf, AreDirect, AreNear, worst_total}
use Rattle.branch_fixup.specs.Strips.{Strip, spans_of, strips_of}
use Rattle.rv_code.proofs.lists.Follows.{before_of, some_length}
use Rattle.branch_fixup.proofs.Holders.{last_there}
use Rattle.branch_fixup.proofs.InputBytes.{input_bytes, input_total}
use Rattle.branch_fixup.proofs.Lands.{all_end, all_land}
use Rattle.branch_fixup.proofs.Map.{valid_map}
use Rattle.branch_fixup.proofs.Near.{places_between}
use Rattle.branch_fixup.proofs.Placed.{AreStrips, are_strips, short_spans}
use Rattle.branch_fixup.proofs.Planned.{planned, planned_length}
use Rattle.branch_fixup.proofs.Sizes.{block_ends_sum, order_sum, total_is}
use Rattle.branch_fixup.proofs.BlockEndFacts.{FallsAfter, IsOfTable, by_table, least, of_table, block_ends_are, block_ends_of}
use Rattle.branch_fixup.proofs.BlockEndsFound.{strip_fall}
use Rattle.rb_bytes.proofs.ListLemmas.{slice_get_found}

module _ (funcs : List Func) (blocks : List Block) (order : List ℕ) (laid : AreLaidOut funcs)
    (blocks_of : AreBlocksOf funcs blocks) (perm : HasAllBlocks blocks order) (base : ℕ)
    (ts : List BlockEnd) (zs : List Form) (made : AreEnds (strips_of funcs blocks order) (length order) ts zs) where
  abbrev ss : List Strip
  ss = strips_of funcs blocks order

  abbrev code : ProgramCode
  code = program_code funcs blocks_of.roles blocks_of.cells blocks_of.entry

  abbrev are : AreBlocks code blocks
  are = blocks_of.are

  strips : AreStrips ss
  strips = are_strips code blocks order laid are perm

  strips_length : length ss ≡ length order
  strips_length = planned_length code blocks are order perm

  ends : AreEnds ss (length ss) ts zs
  ends = subst (λ (n : ℕ). AreEnds ss n ts zs) (sym strips_length) made

  abbrev size : ℕ → ℕ
  size k = option_map_or (input_bytes funcs) (slice_get blocks k) 0

  most : (k m : ℕ) → slice_get order k ≡ Some m → most_of (end_at ts k) ≤ 7 * size m
  most k m at_m =
      let (s, at) = slice_get_found ss k (let w = slice_get_within order k m at_m in let l = strips_length in omega (arith, w, l)) in
      let plan = planned code blocks are order perm k s at in
      let within = slice_get_within ss k s at in
      let same_m : plan.m ≡ m = (let e : Some plan.m ≡ Some m = sym plan.place ∙ at_m in cc) in
      let bytes : size m ≡ before_of s.inner + s.last.len = ap size (sym same_m)
      ∙ ap (λ (o : Option Block). option_map_or (input_bytes funcs) o 0) plan.block
      ∙ ap (λ (o : Option Strip). option_map_or (λ t. before_of t.inner + t.last.len) o 0) plan.of.strip_is in
      let long = (some_length s.last ((strips.each k s at).lengths s.last (last_there s))).0 in
      let same : get_or ss k s ≡ s = get_or_from_slice_get ss k s s at in
      let before = (block_ends_of ss strips ts zs ends).before k s within ∙ ap (λ (z : Strip). before_of z.inner) same in
      omega (arith, bytes, long, before)

  pub are_block_ends : AreBlockEnds ts
  are_block_ends =
      let sum = block_ends_sum size ts order made.block_ends most in
      let total = order_sum (input_bytes funcs) blocks order perm in
      let low = input_total code blocks laid are in
      block_ends_are ss strips ts zs ends (omega (arith, sum, total, low))

  -- the shortest forms are a valid start of growing
  pub start : AreGrown ts zs
  start = record {
    one_each = let f = made.forms in let t = made.block_ends in omega (arith, f, t);
    needed = λ k within. needed k (let t = made.block_ends in omega (arith, within, t));
    fits = λ k within. fits k (let t = made.block_ends in omega (arith, within, t));
  }
    where
      fits : (k : ℕ) → k < length order → FitsLength (end_at ts k).len (form_at zs k)
      fits k within =
          let (s, at) = slice_get_found ss k (let l = strips_length in omega (arith, within, l)) in
          subst (λ (n : ℕ). FitsLength n (form_at zs k)) (sym (made.are_block_ends k s within at).len)
          (made.shortest k s within at).ends.fits

      needed : (k : ℕ) → k < length order → IsNeeded ts zs k
      needed k within =
          let (s, at) = slice_get_found ss k (let l = strips_length in omega (arith, within, l)) in
          let none : shorter (end_at ts k).len (form_at zs k) ≡ None =
          ap (λ (n : ℕ). shorter n (form_at zs k)) (made.are_block_ends k s within at).len
          ∙ (made.shortest k s within at).shortest in
          rw none tt

  module _ (fs : List Form) (grown : AreGrown ts fs) (same : map end_of_form fs ≡ map end_of_form zs) where
    pub one_each : length fs ≡ length ss
    one_each = let g = grown.one_each in let t = ends.block_ends in omega (arith, g, t)

    kinds : (k : ℕ) → k < length ss → end_of_form (form_at fs k) ≡ end_of_form (form_at zs k)
    kinds k within = sym (get_or-map end_of_form fs k form.Plain) ∙ ap
        (λ (es : List End). get_or es k (end_of_form form.Plain)) same ∙ get_or-map end_of_form zs k form.Plain

    after : (k : ℕ) (s : Strip) → slice_get ss k ≡ Some s → FallsAfter s
    after k s at a is = let plan = planned code blocks are order perm k s at in (strip_fall code plan.b s plan.of a is).1

    table : (k : ℕ) (s : Strip) → slice_get ss k ≡ Some s → IsOfTable s (begins_of ss (k + 1)) (form_at fs k)
    table = of_table ss strips ts zs ends fs base one_each kinds after

    module _ (direct : AreDirect funcs) (near : AreNear funcs blocks order) (enough : AreEnough ts fs) where
      pub are_forms : AreForms ss base fs
      are_forms = record {
        by_table = by_table ss strips ts zs ends fs base one_each kinds after grown;
        reach = all_land code blocks order laid are perm ts zs ends fs base one_each kinds table direct near enough;
        least = least ss strips ts zs ends fs base one_each kinds after grown;
      }

      pub in_room : new_code_end ss base fs ≤ base + sum_by (worst_size_of_block funcs) blocks
      in_room =
          let end = all_end code blocks order laid are perm ts zs ends fs base one_each kinds table direct near enough in
          let n : ℕ = length ss in
          let p = places_between code blocks order laid are perm ts zs ends fs base one_each table n 0
          (let z = zero-add n in omega (arith, z)) in
          let e : block_offset ts fs (0 + n) ≡ block_offset ts fs n = ap (block_offset ts fs) (zero-add n) in
          let all : take n order ≡ order = take_length n order (let l = strips_length in omega (arith, l)) in
          let part : worst_total funcs blocks (take n (drop 0 order)) ≡ worst_total funcs blocks order =
          ap (worst_total funcs blocks) all in
          let total = total_is funcs blocks order perm in
          omega (arith, end, p, e, part, total)
        where
          take_length : (n : ℕ) (xs : List ℕ) → length xs ≤ n → take n xs ≡ xs
          take_length zero [] h = refl
          take_length zero (x ∷ xs) h = absurd (omega (arith, h))
          take_length (suc n) [] h = refl
          take_length (suc n) (x ∷ xs) h = ap (λ (l : List ℕ). x ∷ l) (take_length n xs (omega (arith, h)))

    pub are_map : base % 2 ≡ 0 → 0 < base → (roles : List (ℕ × Role)) (cells : List CodeCell) (entry : ℕ) →
        AreBlocks (program_code funcs roles cells entry) blocks → IsMap (λ a. IsTrue (is_code_address funcs a))
        (IsNamed (program_code funcs roles cells entry)) (spans_of ss base fs)
    are_map even some roles cells entry blocks_are = valid_map (program_code funcs roles cells entry) blocks order laid
        blocks_are perm fs base one_each table even some

    pub are_short : All (λ s. s.len ≤ 12) (spans_of ss base fs)
    are_short = short_spans base ss fs strips

-- All facts together.
pub record IsMade (funcs : List Func) (blocks : List Block) (order : List ℕ) (base : ℕ) (fs : List Form) : Type 0 where
  pub count : length fs ≡ length order
  pub forms : AreForms (strips_of funcs blocks order) base fs
  pub map : (roles : List (ℕ × Role)) (cells : List CodeCell) (entry : ℕ) →
      AreBlocks (program_code funcs roles cells entry) blocks → IsMap (λ a. IsTrue (is_code_address funcs a))
      (IsNamed (program_code funcs roles cells entry)) (spans_of (strips_of funcs blocks order) base fs)
  pub room : new_code_end (strips_of funcs blocks order) base fs ≤ base + sum_by (worst_size_of_block funcs) blocks
  pub short : All (λ s. s.len ≤ 12) (spans_of (strips_of funcs blocks order) base fs)

-- the conditions on a plan for which there are forms
pub record IsGiven (funcs : List Func) (blocks : List Block) (order : List ℕ) (base : ℕ) : Type 0 where
  pub laid : AreLaidOut funcs
  pub direct : AreDirect funcs
  pub blocks_of : AreBlocksOf funcs blocks
  pub perm : HasAllBlocks blocks order
  pub near : AreNear funcs blocks order
  pub even : base % 2 ≡ 0
  pub some : 0 < base

pub block_ends_given : (funcs : List Func) (blocks : List Block) (order : List ℕ) (base : ℕ) →
    IsGiven funcs blocks order base → (slice : List ℕ) (ts now : List BlockEnd) (zs : List Form) → slice ≡ order →
    now ≡ ts → AreEnds (strips_of funcs blocks slice) (length slice) ts zs → AreBlockEnds now
block_ends_given funcs blocks order base g slice ts now zs e d made =
    subst AreBlockEnds (sym d) (are_block_ends funcs blocks order g.laid g.blocks_of g.perm base ts zs
    (subst (λ (o : List ℕ). AreEnds (strips_of funcs blocks o) (length o) ts zs) e made))

pub start_given : (funcs : List Func) (blocks : List Block) (order : List ℕ) (base : ℕ) →
    IsGiven funcs blocks order base → (slice : List ℕ) (ts now : List BlockEnd) (zs forms_now : List Form) → slice ≡ order →
    now ≡ ts → forms_now ≡ zs → AreEnds (strips_of funcs blocks slice) (length slice) ts zs → AreGrown now forms_now
start_given funcs blocks order base g slice ts now zs forms_now e d h made =
    subst (λ (us : List BlockEnd). AreGrown us forms_now) (sym d) (subst (λ (fs : List Form). AreGrown ts fs) (sym h)
    (start funcs blocks order g.laid g.blocks_of g.perm base ts zs
    (subst (λ (o : List ℕ). AreEnds (strips_of funcs blocks o) (length o) ts zs) e made)))

pub is_made : (funcs : List Func) (blocks : List Block) (order : List ℕ) (base : ℕ) → IsGiven funcs blocks order base →
    (slice : List ℕ) (ts now : List BlockEnd) (zs forms_now fs : List Form) → slice ≡ order → now ≡ ts → forms_now ≡ zs →
    AreEnds (strips_of funcs blocks slice) (length slice) ts zs → AreGrown now fs →
    map end_of_form fs ≡ map end_of_form forms_now → AreEnough now fs → IsMade funcs blocks order base fs
is_made funcs blocks order base g slice ts now zs forms_now fs e d h made grown same enough =
    let made_2 : AreEnds (strips_of funcs blocks order) (length order) ts zs =
    subst (λ (o : List ℕ). AreEnds (strips_of funcs blocks o) (length o) ts zs) e made in
    let grown_2 : AreGrown ts fs = subst (λ (us : List BlockEnd). AreGrown us fs) d grown in
    let enough_2 : AreEnough ts fs = subst (λ (us : List BlockEnd). AreEnough us fs) d enough in
    let same_2 : map end_of_form fs ≡ map end_of_form zs = same ∙ ap (map end_of_form) h in
    record {
      count = (let o = grown_2.one_each in let t = made_2.block_ends in omega (arith, o, t));
      forms = are_forms funcs blocks order g.laid g.blocks_of g.perm base ts zs made_2 fs grown_2 same_2 g.direct g.near enough_2;
      map = are_map funcs blocks order g.laid g.blocks_of g.perm base ts zs made_2 fs grown_2 same_2 g.even g.some;
      room = in_room funcs blocks order g.laid g.blocks_of g.perm base ts zs made_2 fs grown_2 same_2 g.direct g.near enough_2;
      short = are_short funcs blocks order g.laid g.blocks_of g.perm base ts zs made_2 fs grown_2 same_2;
    }

-- the forms that were found, and the vector that then holds them
pub record AreFound (funcs : List Func) (blocks : List Block) (order : List ℕ) (base : ℕ) (fs kept : List Form) : Type 0 where
  pub made : IsMade funcs blocks order base fs
  pub same : kept ≡ fs

pub are_found : (funcs : List Func) (blocks : List Block) (order : List ℕ) (base : ℕ) → IsGiven funcs blocks order base →
    (slice : List ℕ) (ts now : List BlockEnd) (zs forms_now fs : List Form) (len : ℕ) → slice ≡ order → now ≡ ts → forms_now ≡ zs →
    AreEnds (strips_of funcs blocks slice) (length slice) ts zs → AreGrown now fs →
    map end_of_form fs ≡ map end_of_form forms_now → AreEnough now fs → len ≡ length slice →
    AreFound funcs blocks order base fs (take len (fs ++ drop (length fs) zs))
are_found funcs blocks order base g slice ts now zs forms_now fs len e d h ends grown same enough old =
    let m : IsMade funcs blocks order base fs =
    is_made funcs blocks order base g slice ts now zs forms_now fs e d h ends grown same enough in
    let count = m.count in
    let as_many = ap length e in
    record { made = m; same = take_at fs (drop (length fs) zs) len (omega (arith, count, old, as_many)) }
