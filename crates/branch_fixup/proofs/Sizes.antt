-- Blocks take no more bytes than their worst sizes.
use Rattle.std.proofs.Common.{◌≡◌, ℕ, zero, suc, ◌+◌, ◌-◌, ◌*◌, ◌≤◌, List, [], ◌∷◌, ◌++◌, length, take, drop, Option, Some, None}
use Rattle.std.proofs.Common.{Bool, true, false, refl, sym, ap, ◌∙◌, subst, arith, inl, inr, ◌⊎◌, zero-add, ℤ}
use Rattle.std.specs.Prelude.{slice_get, Contains, sum_by, is_some, ◌&&◌, not, if◌then◌else◌}
use Rattle.std.specs.Option.{option_map_or}
use Rattle.std.specs.List.{range_with_len}
use Rattle.std.proofs.lemmas.List.Elements.{Contains-append_left}
use Rattle.std.proofs.lemmas.List.Sums.{sum_by-append, sum_by-cons}
use Rattle.std.proofs.lemmas.List.Sorted.{sum_by-IsPermutation}
use Rattle.rv_code.specs.declared.action.Action.{Action}
use Rattle.rv_code.specs.declared.action.Action.TheVariants.{Compute, Branch, Jump, JumpTo, Upper, UpperPc, Load, Store}
use Rattle.rv_code.specs.declared.action.Action.TheVariants.{SystemCall, Breakpoint}
use Rattle.rv_code.specs.declared.action.Action.TheVariants as action
use Rattle.rv_code.specs.declared.layout.Form.{Form}
use Rattle.rv_code.specs.declared.layout.Form.TheVariants as form
use Rattle.rv_code.specs.declared.layout.Size.TheVariants.{Half, Full, Long}
use Rattle.rv_code.specs.declared.placed.Placed.{Placed}
use Rattle.rv_code.specs.declared.placed.Func.{Func}
use Rattle.rv_code.specs.declared.placed.Block.{Block}
use Rattle.rv_code.specs.layout.ProgramCode.{ProgramCode, is_code_address}
use Rattle.rv_code.specs.layout.Blocks.{Begins, at_start, named, after_end, IsBlockOf}
use Rattle.rv_code.specs.layout.FunctionLists.{HasLength, AreLaidOut}
use Rattle.rv_code.specs.layout.Flow.{action_at, target_of, falls_at, is_branch}
use Rattle.rv_code.specs.layout.WorstSizes.{added_jump, worst_length, worst_size_of_block}
use Rattle.rv_code.specs.layout.BlockOrders.{HasAllBlocks}
use Rattle.branch_fixup.specs.Endings.{Kept, Goes, LeftOut, begins_at, ending, fall_of}
use Rattle.branch_fixup.specs.declared.growth.BlockEnd.{BlockEnd}
use Rattle.branch_fixup.specs.Growth.{most_of, end_at}
use Rattle.branch_fixup.specs.Inputs.{worst_total}
use Rattle.branch_fixup.specs.Pieces.{piece_length}
use Rattle.branch_fixup.specs.Strips.{Strip, first_in, insts_in, is_alone}
use Rattle.rv_code.proofs.lists.Follows.{before_of, follow_at, laid_func, some_length}
use Rattle.branch_fixup.proofs.Holders.{last_there}
use Rattle.rb_bytes.proofs.Members.{Contains-there}
use Rattle.branch_fixup.proofs.Placed.{IsStrip, before_is}
use Rattle.branch_fixup.proofs.Planned.{StripOf, in_block, insts_are, strip_follows, strip_length}
use Rattle.branch_fixup.proofs.BlockEndFacts.{IsOfTable, branch_end, goto_end}

-- The length of an instruction.

longest : ℕ → Action → ℕ
longest len (Branch test wanted rs1 rs2 imm) = 8
longest len (Jump rd imm) = 4
longest len x = len

worst_by : (p : Placed) (x : Action) → action_at p ≡ x → worst_length p ≡ longest p.len x
unfolding longest
worst_by p (Branch test wanted rs1 rs2 imm) e = rw e refl
worst_by p (Jump rd imm) e = rw e refl
worst_by p (JumpTo rd rs1 imm) e = rw e refl
worst_by p (Compute o rd left right) e = rw e refl
worst_by p (Upper rd imm) e = rw e refl
worst_by p (UpperPc rd imm) e = rw e refl
worst_by p (Load x rd rs1 imm) e = rw e refl
worst_by p (Store n rs1 rs2 imm) e = rw e refl
worst_by p action.Fence e = rw e refl
worst_by p SystemCall e = rw e refl
worst_by p Breakpoint e = rw e refl

long_enough : (len : ℕ) (x : Action) → len ≤ 4 → len ≤ longest len x
unfolding longest
long_enough len (Branch test wanted rs1 rs2 imm) h = omega (arith, h)
long_enough len (Jump rd imm) h = omega (arith, h)
long_enough len (JumpTo rd rs1 imm) h = omega arith
long_enough len (Compute o rd left right) h = omega arith
long_enough len (Upper rd imm) h = omega arith
long_enough len (UpperPc rd imm) h = omega arith
long_enough len (Load x rd rs1 imm) h = omega arith
long_enough len (Store n rs1 rs2 imm) h = omega arith
long_enough len action.Fence h = omega arith
long_enough len SystemCall h = omega arith
long_enough len Breakpoint h = omega arith

branch_long : (len : ℕ) (x : Action) → is_branch x ≡ true → longest len x ≡ 8
unfolding longest
branch_long len (Branch test wanted rs1 rs2 imm) h = refl
branch_long len (Jump rd imm) h = absurd (cc)
branch_long len (JumpTo rd rs1 imm) h = absurd (cc)
branch_long len (Compute o rd left right) h = absurd (cc)
branch_long len (Upper rd imm) h = absurd (cc)
branch_long len (UpperPc rd imm) h = absurd (cc)
branch_long len (Load x rd rs1 imm) h = absurd (cc)
branch_long len (Store n rs1 rs2 imm) h = absurd (cc)
branch_long len action.Fence h = absurd (cc)
branch_long len SystemCall h = absurd (cc)
branch_long len Breakpoint h = absurd (cc)

jump_long : (len : ℕ) (imm : ℤ) → longest len (Jump 0 imm) ≡ 4
unfolding longest
jump_long len imm = refl

pub inst_within : (p : Placed) → p.len ≤ 4 → p.len ≤ worst_length p
inst_within p h = let e = worst_by p (action_at p) refl in let l = long_enough p.len (action_at p) h in omega (arith, e, l)

-- the length of the jump that may be added for a block that falls through
abbrev extra : Option ℕ → ℕ
extra fall = if is_some fall then 4 else 0

extra_is : (fall : Option ℕ) → is_some fall ≡ true → extra fall ≡ 4
extra_is fall h = rw h refl

pub kept_falls : (whole alone : Bool) (x : Action) (fall t next : Option ℕ) →
    Kept true ≡ ending whole alone x fall t next → is_some fall ≡ true
kept_falls whole alone x (Some a) t next h = refl
kept_falls true alone x None t next h = absurd (cc)
kept_falls false alone (Branch test wanted rs1 rs2 imm) None t next h = absurd (cc)
kept_falls false alone (Jump zero imm) None t next h = by (begins_at next t && not alone) h
  where
    by : (c : Bool) → Kept true ≡ (if c then LeftOut else Goes) → false ≡ true
    by true h = absurd (cc)
    by false h = absurd (cc)
kept_falls false alone (Jump (suc rd) imm) None t next h = absurd (cc)
kept_falls false alone (JumpTo rd rs1 imm) None t next h = absurd (cc)
kept_falls false alone (Compute o rd left right) None t next h = absurd (cc)
kept_falls false alone (Upper rd imm) None t next h = absurd (cc)
kept_falls false alone (UpperPc rd imm) None t next h = absurd (cc)
kept_falls false alone (Load y rd rs1 imm) None t next h = absurd (cc)
kept_falls false alone (Store n rs1 rs2 imm) None t next h = absurd (cc)
kept_falls false alone action.Fence None t next h = absurd (cc)
kept_falls false alone SystemCall None t next h = absurd (cc)
kept_falls false alone Breakpoint None t next h = absurd (cc)

-- the last instruction, with the jump that is added after it
last_within : (s : Strip) (next : Option ℕ) (g : Form) → s.last.len ≤ 4 → IsOfTable s next g →
    piece_length s.last.len g ≤ worst_length s.last + extra s.fall
last_within s next form.Plain short h = let l = inst_within s.last short in omega (arith, l)
last_within s next form.Jump short h =
    let l = inst_within s.last short in
    let e = extra_is s.fall (kept_falls s.whole (is_alone s.inner) (action_at s.last) s.fall (target_of s.last) next h) in
    omega (arith, l, e)
last_within s next (form.Branch inverted size jump) short h =
    let b = branch_end s.whole (is_alone s.inner) (action_at s.last) s.fall (target_of s.last) next inverted jump h in
    let w : worst_length s.last ≡ 8 = worst_by s.last (action_at s.last) refl
    ∙ branch_long s.last.len (action_at s.last) b.branch in
    by size jump w b.falls_jump
  where
    by : (size : _) (jump : Bool) → worst_length s.last ≡ 8 → (jump ≡ true → is_some s.fall ≡ true) →
        piece_length s.last.len (form.Branch inverted size jump) ≤ worst_length s.last + extra s.fall
    by Half true w j = let e = extra_is s.fall (j refl) in omega (arith, w, e)
    by Half false w j = omega (arith, w)
    by Full true w j = let e = extra_is s.fall (j refl) in omega (arith, w, e)
    by Full false w j = omega (arith, w)
    by Long true w j = let e = extra_is s.fall (j refl) in omega (arith, w, e)
    by Long false w j = omega (arith, w)
last_within s next (form.Goto half) short h =
    let b = goto_end s.whole (is_alone s.inner) (action_at s.last) s.fall (target_of s.last) next h in
    by half (worst_by s.last (Jump 0 b.imm) b.jump ∙ jump_long s.last.len b.imm)
  where
    by : (half : Bool) → worst_length s.last ≡ 4 → piece_length s.last.len (form.Goto half) ≤ worst_length s.last + extra s.fall
    by true w = omega (arith, w)
    by false w = omega (arith, w)
last_within s next form.Dropped short h = omega arith

-- the last instruction of a block in a function that moves as one piece
whole_within : (s : Strip) (next : Option ℕ) (g : Form) → s.whole ≡ true → IsOfTable s next g →
    piece_length s.last.len g ≤ s.last.len + extra s.fall
whole_within s next g whole h = by g h
  where
    by : (g : Form) → IsOfTable s next g → piece_length s.last.len g ≤ s.last.len + extra s.fall
    by form.Plain h = omega arith
    by form.Jump h =
        let e = extra_is s.fall (kept_falls s.whole (is_alone s.inner) (action_at s.last) s.fall (target_of s.last) next h) in
        omega (arith, e)
    by (form.Branch inverted size jump) h =
        let b = (branch_end s.whole (is_alone s.inner) (action_at s.last) s.fall
        (target_of s.last) next inverted jump h).not_whole in
        absurd (let c : true ≡ false = sym whole ∙ b in cc)
    by (form.Goto half) h =
        let b = (goto_end s.whole (is_alone s.inner) (action_at s.last) s.fall (target_of s.last) next h).not_whole in
        absurd (let c : true ≡ false = sym whole ∙ b in cc)
    by form.Dropped h = omega arith

-- Blocks.

inner_worst : (ps : List Placed) → ((p : Placed) → Contains ps p → HasLength p) → before_of ps ≤ sum_by worst_length ps
inner_worst [] lens = omega arith
inner_worst (p ∷ ps) lens =
    let l = inst_within p (some_length p (lens p (0, omega arith, refl))).1 in
    let rest = inner_worst ps (λ q c. lens q (Contains-there p ps q c)) in
    let e = sum_by-cons worst_length p ps in
    omega (arith, l, rest, e)

added_is : (func : Func) (i : ℕ) (p : Placed) (funcs : List Func) → slice_get func.insts.items i ≡ Some p →
    extra (fall_of funcs func i p) ≤ added_jump func i
added_is func i p funcs at = by (falls_at func i p) (is_code_address funcs (p.addr + p.len)) refl refl
  where
    by : (b c : Bool) → falls_at func i p ≡ b → is_code_address funcs (p.addr + p.len) ≡ c →
        extra (fall_of funcs func i p) ≤ added_jump func i
    by true true e k = rw (at, e, k) (omega arith)
    by true false e k = rw (at, e, k) (omega arith)
    by false c e k = rw (at, e) (omega arith)

whole_last : (code : ProgramCode) (func : Func) (i : ℕ) → func.whole ≡ true → Begins code func (i + 1) → ⊥
whole_last code func i whole (at_start e) = absurd (omega (arith, e))
whole_last code func i whole (named other h) = let c : true ≡ false = sym whole ∙ other in absurd (cc)
whole_last code func i whole (after_end other j e h) = let c : true ≡ false = sym whole ∙ other in absurd (cc)

pub whole_end : (code : ProgramCode) (b : Block) (func : Func) → func.whole ≡ true →
    IsBlockOf code func b.first b.last → b.last + 1 ≡ length func.insts.items
whole_end code b func whole is = elim is.ends [
  | inl e ↦ e
  | inr begins ↦ absurd (whole_last code func b.last whole begins)
]

worst_of_whole : (code : ProgramCode) (b : Block) (s : Strip) → (x : StripOf code b s) → x.func.whole ≡ true →
    worst_size_of_block code.funcs b ≡ x.func.end - x.func.start + added_jump x.func b.last
worst_of_whole code b s x whole =
    let last = whole_end code b x.func whole x.is in
    let e : length x.func.insts.items - 1 ≡ b.last = omega (arith, last) in
    rw (x.at, whole, e) refl

worst_of_block : (code : ProgramCode) (b : Block) (s : Strip) → (x : StripOf code b s) → x.func.whole ≡ false →
    worst_size_of_block code.funcs b ≡ sum_by worst_length (take (b.last + 1 - b.first)
    (drop b.first x.func.insts.items)) + added_jump x.func b.last
worst_of_block code b s x whole = rw (x.at, whole) refl

-- at most n bytes for the last instruction
fits_in : (code : ProgramCode) (b : Block) (s : Strip) → AreLaidOut code.funcs → StripOf code b s → (n : ℕ) →
    (s.whole ≡ true → n ≤ s.last.len + extra s.fall) → n ≤ worst_length s.last + extra s.fall ⊎ (s.whole ≡ true) →
    before_of s.inner + n ≤ worst_size_of_block code.funcs b
fits_in code b s laid x n whole_n other_n = by x.func.whole refl
  where
    i : IsStrip s
    i = record { follow = strip_follows code b s laid x; lengths = strip_length code b s laid x }

    added : extra s.fall ≤ added_jump x.func b.last
    added = subst (λ (o : Option ℕ). extra o ≤ added_jump x.func b.last) (sym x.fall_is)
        (added_is x.func b.last s.last code.funcs x.last_at)

    by : (w : Bool) → x.func.whole ≡ w → before_of s.inner + n ≤ worst_size_of_block code.funcs b
    by true w =
        let e = worst_of_whole code b s x w in
        let l = whole_n (x.whole_is ∙ w) in
        let f = laid_func code.funcs b.func x.func laid x.at in
        let first = before_is (first_in s.inner s.last) (s.last.addr + s.last.len) s.inner s.last i.follow in
        let end = (follow_at x.func.start x.func.insts.items x.func.end b.last s.last f.follow x.last_at).1 in
        let start = first_low in
        let a = added in
        omega (arith, e, l, first, end, start, a)
      where
        first_low : x.func.start ≤ first_in s.inner s.last
        first_low = low s.inner (λ p c. c)
          where
            low : (inner : List Placed) → ((p : Placed) → Contains (inner ++ s.last ∷ []) p → Contains (insts_in s) p) →
                x.func.start ≤ first_in inner s.last
            low [] up = inside s.last (up s.last (0, omega arith, refl))
              where
                inside : (p : Placed) → Contains (insts_in s) p → x.func.start ≤ p.addr
                inside p has = let k = in_block code b s x p has in (follow_at x.func.start x.func.insts.items
                    x.func.end k.i p (laid_func code.funcs b.func x.func laid x.at).follow k.at).0
            low (q ∷ qs) up = inside q (up q (0, omega arith, refl))
              where
                inside : (p : Placed) → Contains (insts_in s) p → x.func.start ≤ p.addr
                inside p has = let k = in_block code b s x p has in (follow_at x.func.start x.func.insts.items
                    x.func.end k.i p (laid_func code.funcs b.func x.func laid x.at).follow k.at).0
    by false w =
        let e = worst_of_block code b s x w in
        let some = x.is.some in
        let n : b.last + 1 - b.first ≡ suc (b.last - b.first) = omega (arith, some) in
        let same : sum_by worst_length (take (b.last + 1 - b.first) (drop b.first x.func.insts.items)) ≡ sum_by
        worst_length (insts_in s) =
        ap (λ (m : ℕ). sum_by worst_length (take m (drop b.first x.func.insts.items))) n
        ∙ ap (sum_by worst_length) (sym (insts_are code b s x)) in
        let parts = sum_by-append worst_length s.inner (s.last ∷ []) in
        let one = sum_by-cons worst_length s.last [] in
        let inner = inner_worst s.inner (λ p c. i.lengths p (in_front s.inner (s.last ∷ []) p c)) in
        let l = other w in
        let a = added in
        omega (arith, e, same, parts, one, inner, l, a)
      where
        other : x.func.whole ≡ false → n ≤ worst_length s.last + extra s.fall
        other w = elim other_n [
          | inl h ↦ h
          | inr is ↦ absurd (let c : true ≡ false = sym is ∙ x.whole_is ∙ w in cc)
        ]

        in_front : (ps qs : List Placed) (p : Placed) → Contains ps p → Contains (ps ++ qs) p
        in_front ps qs p c = Contains-append_left ps qs p c

pub strip_within : (code : ProgramCode) (b : Block) (s : Strip) → AreLaidOut code.funcs → StripOf code b s →
    (next : Option ℕ) (g : Form) → IsOfTable s next g → before_of s.inner + piece_length s.last.len g ≤ worst_size_of_block
    code.funcs b
strip_within code b s laid x next g h =
    fits_in code b s laid x (piece_length s.last.len g) (λ w. whole_within s next g w h)
    (inl (last_within s next g (some_length s.last (strip_length code b s laid x s.last (last_there s))).1 h))

-- Totals.

range_sum : (w : Block → ℕ) (f : ℕ → ℕ) (a : ℕ) (bs : List Block) → ((i : ℕ) (b : Block) → slice_get bs i ≡ Some b →
    f (a + i) ≡ w b) → sum_by f (range_with_len a (length bs)) ≡ sum_by w bs
range_sum w f a [] h = refl
range_sum w f a (b ∷ bs) h =
    let zero_is : a ≡ a + 0 = omega arith in
    let here : f a ≡ w b = ap f zero_is ∙ h 0 b refl in
    let rest = range_sum w f (a + 1) bs (λ i c at. ap f (let e : a + 1 + i ≡ a + suc i = omega arith in e) ∙ h (suc i) c at) in
    let x = sum_by-cons f a (range_with_len (a + 1) (length bs)) in
    let y = sum_by-cons w b bs in
    omega (arith, here, rest, x, y)

-- a sum over all blocks in an order
pub order_sum : (w : Block → ℕ) (blocks : List Block) (order : List ℕ) → HasAllBlocks blocks order →
    sum_by (λ k. option_map_or w (slice_get blocks k) 0) order ≡ sum_by w blocks
order_sum w blocks order perm =
    sum_by-IsPermutation (λ (k : ℕ). option_map_or w (slice_get blocks k) 0) (range_with_len 0 (length blocks)) order perm
    ∙ range_sum w (λ (k : ℕ). option_map_or w (slice_get blocks k) 0) 0 blocks
    (λ i b at. ap (λ (k : ℕ). option_map_or w (slice_get blocks k) 0) (zero-add i)
    ∙ ap (λ (o : Option Block). option_map_or w o 0) at)

-- the blocks in an order have the same total as in any other order
pub total_is : (funcs : List Func) (blocks : List Block) (order : List ℕ) → HasAllBlocks blocks order →
    worst_total funcs blocks order ≡ sum_by (worst_size_of_block funcs) blocks
total_is funcs blocks order perm = order_sum (worst_size_of_block funcs) blocks order perm

-- the sum of the greatest lengths of block ends
pub block_ends_sum : (w : ℕ → ℕ) (ts : List BlockEnd) (order : List ℕ) → length ts ≡ length order →
    ((k m : ℕ) → slice_get order k ≡ Some m → most_of (end_at ts k) ≤ 7 * w m) → sum_by most_of ts ≤ 7 * sum_by w order
block_ends_sum w [] order l h = omega arith
block_ends_sum w (t ∷ ts) [] l h = absurd (omega (arith, l))
block_ends_sum w (t ∷ ts) (m ∷ ms) l h =
    let here = h 0 m refl in
    let rest = block_ends_sum w ts ms (omega (arith, l)) (λ k n at. h (suc k) n at) in
    let a = sum_by-cons most_of t ts in
    let b = sum_by-cons w m ms in
    omega (arith, here, rest, a, b)
