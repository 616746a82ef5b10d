-- The pieces of blocks that end by the table end by the table.
use Rattle.std.proofs.Common.{◌≡◌, ℕ, zero, suc, ◌+◌, ◌^◌, ◌<◌, List, [], ◌∷◌, ◌++◌, Option, Some, Bool, true, false, refl, sym, ap, ◌∙◌}
use Rattle.std.specs.Prelude.{map, not}
use Rattle.std.proofs.lemmas.Bool.{eq-eqb}
use Rattle.rv_code.specs.declared.action.Action.{Action}
use Rattle.rv_code.specs.declared.action.Action.TheVariants.{Compute, Branch, Jump, JumpTo, Upper, UpperPc, Load, Store}
use Rattle.rv_code.specs.declared.action.Action.TheVariants.{SystemCall, Breakpoint}
use Rattle.rv_code.specs.declared.action.Action.TheVariants as action
use Rattle.rv_code.specs.declared.layout.Form.{Form}
use Rattle.rv_code.specs.declared.placed.Placed.{Placed}
use Rattle.rv_code.specs.layout.Flow.{action_at, is_branch, is_plain_jump, target_of}
use Rattle.move_law.specs.Rewrite.{Rewrite, out}
use Rattle.move_law.specs.FaithfulRewrite.{next}
use Rattle.branch_fixup.specs.Pieces.{Piece, as_it_is}
use Rattle.branch_fixup.specs.Endings.{Kept, ending, begins_at}
use Rattle.branch_fixup.specs.Strips.{Strip, is_alone, first_in, first_of, pieces_of}
use Rattle.branch_fixup.specs.Forms.{EndByTable}
use Rattle.code_emit.proofs.Walk.{first_of as first_piece, Ends, AllEnd}

-- An instruction before the last one of its block: the next one is at its end, and it ends a block only in a whole function.
pub record IsInner (r : Rewrite) (whole : Bool) (p : Placed) (n : ℕ) : Type 0 where
  pub next_is : n ≡ p.addr + p.len
  pub falls : is_plain_jump (action_at p) ≡ false → next r p ≡ Some n
  pub end : p.addr + p.len < 2 ^ 64
  pub small_goal : (t : ℕ) → target_of p ≡ Some t → out r t < 2 ^ 63
  pub small_fall : out r (p.addr + p.len) < 2 ^ 63
  pub goes_on : whole ≡ false → (is_branch (action_at p) ≡ false) × (is_plain_jump (action_at p) ≡ false)

abbrev pub AllInner : Rewrite → Bool → List Placed → Placed → Type 0
AllInner r whole [] last = Unit {0}
AllInner r whole (p ∷ ps) last = IsInner r whole p (first_in ps last) × AllInner r whole ps last

-- the flow of control of a block in the input
pub record FlowsAs (r : Rewrite) (s : Strip) : Type 0 where
  pub inner : AllInner r s.whole s.inner s.last
  pub fall_is : (n : ℕ) → s.fall ≡ Some n → n ≡ s.last.addr + s.last.len
  pub falls : is_plain_jump (action_at s.last) ≡ false → next r s.last ≡ s.fall
  pub end : s.last.addr + s.last.len < 2 ^ 64
  pub small_goal : (t : ℕ) → target_of s.last ≡ Some t → out r t < 2 ^ 63
  pub small_fall : out r (s.last.addr + s.last.len) < 2 ^ 63

abbrev pub AllFlow : Rewrite → List Strip → Type 0
AllFlow r [] = Unit {0}
AllFlow r (s ∷ ss) = FlowsAs r s × AllFlow r ss

not_apart : (n : ℕ) → not (begins_at (Some n) (Some n)) ≡ false
not_apart n = rw (eq-eqb n n refl) refl

inner_table : (whole alone : Bool) (x : Action) (n : ℕ) (t : Option ℕ) →
    (whole ≡ false → (is_branch x ≡ false) × (is_plain_jump x ≡ false)) → Kept false ≡ ending whole alone x (Some n) t (Some n)
inner_table true alone x n t h = ap Kept (sym (not_apart n))
inner_table false alone (Branch test wanted rs1 rs2 imm) n t h = absurd (let k = (h refl).0 in cc)
inner_table false alone (Jump zero imm) n t h = absurd (let k = (h refl).1 in cc)
inner_table false alone (Jump (suc rd) imm) n t h = ap Kept (sym (not_apart n))
inner_table false alone (JumpTo rd rs1 imm) n t h = ap Kept (sym (not_apart n))
inner_table false alone (Compute o rd left right) n t h = ap Kept (sym (not_apart n))
inner_table false alone (Upper rd imm) n t h = ap Kept (sym (not_apart n))
inner_table false alone (UpperPc rd imm) n t h = ap Kept (sym (not_apart n))
inner_table false alone (Load x rd rs1 imm) n t h = ap Kept (sym (not_apart n))
inner_table false alone (Store m rs1 rs2 imm) n t h = ap Kept (sym (not_apart n))
inner_table false alone action.Fence n t h = ap Kept (sym (not_apart n))
inner_table false alone SystemCall n t h = ap Kept (sym (not_apart n))
inner_table false alone Breakpoint n t h = ap Kept (sym (not_apart n))

first_is : (ps : List Placed) (last : Placed) (f : Form) (rest : List Piece) →
    first_piece ((map as_it_is ps ++ record { placed = last; form = f } ∷ []) ++ rest) ≡ Some (first_in ps last)
first_is [] last f rest = refl
first_is (p ∷ ps) last f rest = refl

inner_end : (r : Rewrite) (whole : Bool) (ps : List Placed) (last : Placed) (f : Form) (rest : List Piece) →
    AllInner r whole ps last → Ends r (record { placed = last; form = f }) (first_piece rest) → AllEnd r rest →
    AllEnd r ((map as_it_is ps ++ record { placed = last; form = f } ∷ []) ++ rest)
inner_end r whole [] last f rest inner e more = (e, more)
inner_end r whole (p ∷ ps) last f rest inner e more =
    let i = inner.0 in (
      rw (first_is ps last f rest) (record {
        whole = whole;
        alone = true;
        fall = Some (first_in ps last);
        fall_is = λ n k. let same : first_in ps last ≡ n = cc in sym same ∙ i.next_is;
        falls = i.falls;
        end = i.end;
        small_goal = i.small_goal;
        small_fall = i.small_fall;
        table = inner_table whole true (action_at p) (first_in ps last) (target_of p) i.goes_on;
      }),
      inner_end r whole ps last f rest inner.1 e more,
    )

first_strip : (ss : List Strip) (fs : List Form) → EndByTable ss fs → first_piece (pieces_of ss fs) ≡ first_of ss
first_strip [] [] h = refl
first_strip [] (f ∷ fs) h = absurd h
first_strip (s ∷ ss) [] h = absurd h
first_strip (s ∷ ss) (f ∷ fs) h = first_is s.inner s.last f (pieces_of ss fs)

pub strips_end : (r : Rewrite) (ss : List Strip) (fs : List Form) → EndByTable ss fs → AllFlow r ss → AllEnd r (pieces_of ss fs)
strips_end r [] [] h flow = tt
strips_end r [] (f ∷ fs) h flow = absurd h
strips_end r (s ∷ ss) [] h flow = absurd h
strips_end r (s ∷ ss) (f ∷ fs) h flow =
    let i = flow.0 in
    inner_end r s.whole s.inner s.last f (pieces_of ss fs) i.inner
    (rw (first_strip ss fs h.2)
    (record {
      whole = s.whole;
      alone = is_alone s.inner;
      fall = s.fall;
      fall_is = i.fall_is;
      falls = i.falls;
      end = i.end;
      small_goal = i.small_goal;
      small_fall = i.small_fall;
      table = h.0;
    }))
    (strips_end r ss fs h.2 flow.1)
