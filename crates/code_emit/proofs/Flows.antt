-- The blocks of a plan in the input: which instruction follows each of theirs.
use Rattle.std.proofs.Common.{◌≡◌, ℕ, suc, ◌+◌, ◌-◌, ◌^◌, ◌<◌, ◌≤◌, List, [], ◌∷◌, ◌++◌, Some, Bool, true, refl, sym, ap, ◌∙◌}
use Rattle.std.proofs.Common.{arith, take, drop}
use Rattle.std.specs.Prelude.{All, Contains, slice_get}
use Rattle.std.proofs.lemmas.List.Elements.{All-contains}
use Rattle.std.proofs.lemmas.Option.{slice_get_within}
use Rattle.rv_code.specs.declared.placed.Placed.{Placed}
use Rattle.rv_code.specs.declared.placed.Func.{Func}
use Rattle.rv_code.specs.declared.placed.Block.{Block}
use Rattle.rv_code.specs.layout.Blocks.{AreBlocks}
use Rattle.rv_code.specs.layout.Flow.{insts_of, target_of}
use Rattle.rv_code.specs.layout.FunctionLists.{AreLaidOut, address_end}
use Rattle.rv_code.specs.layout.ProgramCode.{ProgramCode, is_code_address}
use Rattle.rv_code.specs.layout.BlockOrders.{HasAllBlocks}
use Rattle.move_law.specs.Rewrite.{Rewrite, out}
use Rattle.move_law.specs.FaithfulRewrite.{next}
use Rattle.branch_fixup.specs.Inputs.{LeadsToCode}
use Rattle.branch_fixup.specs.Strips.{Strip, insts_in, strips_of}
use Rattle.branch_fixup.proofs.Falls.{below_limit, code_at}
use Rattle.rv_code.proofs.lists.Follows.{follow_next, laid_func, at_contains}
use Rattle.branch_fixup.proofs.Lists.{at_drop, at_take, flat_at, take_in}
use Rattle.branch_fixup.proofs.Planned.{StripOf, insts_are, inner_goes_on, planned}
use Rattle.code_emit.proofs.Next.{fall_address, falls_before, next_among, next_falls}
use Rattle.code_emit.proofs.StripEnds.{AllFlow, AllInner, FlowsAs, IsInner}

-- Addresses of code.

pub code_low : (funcs : List Func) (a : ℕ) → AreLaidOut funcs → is_code_address funcs a ≡ true → a ≤ address_end
code_low funcs a laid is =
    let c = code_at funcs a is in
    let low = below_limit funcs c.f c.i c.func c.p laid c.at_func c.at_inst in
    let addr = c.addr in
    omega (arith, low, addr)

pub target_low : (funcs : List Func) (p : Placed) (t : ℕ) → AreLaidOut funcs → All (LeadsToCode funcs) (insts_of funcs) →
    Contains (insts_of funcs) p → target_of p ≡ Some t → t ≤ address_end
target_low funcs p t laid direct is_in e =
    code_low funcs t laid ((All-contains (LeadsToCode funcs) (insts_of funcs) p direct is_in).to_code t e)

-- An instruction and the next one of its block.

all_inner : (r : Rewrite) (whole : Bool) (ps : List Placed) (last : Placed) →
    ((k : ℕ) (p q : Placed) → slice_get ps k ≡ Some p → slice_get (ps ++ last ∷ []) k ≡ Some p →
    slice_get (ps ++ last ∷ []) (suc k) ≡ Some q → IsInner r whole p q.addr) → AllInner r whole ps last
all_inner r whole [] last h = tt
all_inner r whole (p ∷ []) last h = (h 0 p last refl refl refl, tt)
all_inner r whole (p ∷ q ∷ qs) last h =
    (h 0 p q refl refl refl, all_inner r whole (q ∷ qs) last (λ k x y a b c. h (suc k) x y a b c))

pub strip_get : (code : ProgramCode) (b : Block) (s : Strip) (x : StripOf code b s) (k : ℕ) (p : Placed) →
    slice_get (insts_in s) k ≡ Some p → slice_get x.func.insts.items (b.first + k) ≡ Some p
strip_get code b s x k p at =
    let n : ℕ = suc (b.last - b.first) in
    let h : slice_get (take n (drop b.first x.func.insts.items)) k ≡ Some p =
    ap (λ (ps : List Placed). slice_get ps k) (sym (insts_are code b s x)) ∙ at in
    let less = take_in n (drop b.first x.func.insts.items) k p h in
    sym (at_drop b.first x.func.insts.items k (b.first + k) refl) ∙ sym (at_take n (drop b.first x.func.insts.items) k less) ∙ h

module _ (r : Rewrite) (code : ProgramCode) (laid : AreLaidOut code.funcs)
    (direct : All (LeadsToCode code.funcs) (insts_of code.funcs))
    (funcs_are : r.code.funcs ≡ code.funcs) (small : (t : ℕ) → t ≤ address_end → out r t < 2 ^ 63) where
  next_is : (p : Placed) → next r p ≡ next_among code.funcs p
  next_is p = ap (λ (funcs : List Func). next_among funcs p) funcs_are

  module _ (b : Block) (s : Strip) (x : StripOf code b s) where
    inst_in : (i : ℕ) (p : Placed) → slice_get x.func.insts.items i ≡ Some p → Contains (insts_of code.funcs) p
    inst_in i p at = flat_at (λ (g : Func). g.insts.items) code.funcs b.func x.func p x.at (at_contains x.func.insts.items i p at)

    low_end : (i : ℕ) (p : Placed) → slice_get x.func.insts.items i ≡ Some p → p.addr + p.len ≤ address_end
    low_end i p at = below_limit code.funcs b.func i x.func p laid x.at at

    is_inner : (k : ℕ) (p q : Placed) → slice_get s.inner k ≡ Some p → slice_get (insts_in s) k ≡ Some p →
        slice_get (insts_in s) (suc k) ≡ Some q → IsInner r s.whole p q.addr
    is_inner k p q inner at_p at_q =
        let i : ℕ = b.first + k in
        let at : slice_get x.func.insts.items i ≡ Some p = strip_get code b s x k p at_p in
        let sum : b.first + suc k ≡ suc i = omega arith in
        let at_next : slice_get x.func.insts.items (suc i) ≡ Some q = ap (slice_get x.func.insts.items) (sym sum)
        ∙ strip_get code b s x (suc k) q at_q in
        let e = follow_next x.func.start x.func.insts.items x.func.end i p q
        (laid_func code.funcs b.func x.func laid x.at).follow at at_next in
        let low = low_end i p at in
        let less = slice_get_within x.func.insts.items (suc i) q at_next in
        record {
          next_is = e;
          falls = λ plain. next_is p ∙ falls_before code.funcs laid b.func i x.func p x.at at less plain ∙ ap Some (sym e);
          end = omega (arith, low);
          small_goal = λ t goes. small t (target_low code.funcs p t laid direct (inst_in i p at) goes);
          small_fall = small (p.addr + p.len) low;
          goes_on = λ whole. inner_goes_on code b s x whole p (at_contains s.inner k p inner);
        }

    flows : FlowsAs r s
    flows =
        let low = low_end b.last s.last x.last_at in
        record {
          inner = all_inner r s.whole s.inner s.last is_inner;
          fall_is = λ n e. fall_address code.funcs x.func b.last s.last n (sym x.fall_is ∙ e);
          falls = λ plain. next_is s.last ∙ next_falls code.funcs laid b.func b.last x.func s.last x.at x.last_at plain
              ∙ sym x.fall_is;
          end = omega (arith, low);
          small_goal = λ t goes. small t (target_low code.funcs s.last t laid direct (inst_in b.last s.last x.last_at) goes);
          small_fall = small (s.last.addr + s.last.len) low;
        }

  each_flows : (ss : List Strip) → ((k : ℕ) (s : Strip) → slice_get ss k ≡ Some s → FlowsAs r s) → AllFlow r ss
  each_flows [] h = tt
  each_flows (s ∷ ss) h = (h 0 s refl, each_flows ss (λ k t at. h (suc k) t at))

  pub all_flow : (blocks : List Block) (order : List ℕ) → AreBlocks code blocks → HasAllBlocks blocks order →
      AllFlow r (strips_of code.funcs blocks order)
  all_flow blocks order are perm =
      each_flows (strips_of code.funcs blocks order)
      (λ k s at. let plan = planned code blocks are order perm k s at in flows plan.b s plan.of)
