-- What growing needs of block ends, and that grown forms are locally the shortest.
use Rattle.std.proofs.Common.{◌≡◌, ℕ, zero, suc, ◌+◌, ◌<◌, ◌^◌, List, [], ◌∷◌, length, Option, Some, None, Bool, true, false}
use Rattle.std.proofs.Common.{refl, sym, ap, ◌∙◌, subst, arith, get_or, ℤ, add-one}
use Rattle.std.specs.Prelude.{slice_get, sum_by, is_some, ◌&&◌, not, if◌then◌else◌}
use Rattle.std.specs.Option.{option_map_or}
use Rattle.std.proofs.lemmas.Option.{slice_get_within, get_or_from_slice_get, slice_get-get_or}
use Rattle.rv_code.specs.declared.action.Action.{Action}
use Rattle.rv_code.specs.declared.action.Action.TheVariants.{Compute, Branch, Jump, JumpTo, Upper, UpperPc, Load, Store}
use Rattle.rv_code.specs.declared.action.Action.TheVariants.{SystemCall, Breakpoint}
use Rattle.rv_code.specs.declared.action.Action.TheVariants as action
use Rattle.rv_code.specs.declared.layout.Form.{Form}
use Rattle.rv_code.specs.declared.layout.Form.TheVariants as form
use Rattle.rv_code.specs.layout.Flow.{action_at, target, target_of, is_branch}
use Rattle.rv_code.proofs.lists.Follows.{some_length}
use Rattle.addr_map.specs.Spans.{new}
use Rattle.branch_fixup.specs.declared.growth.BlockEnd.{BlockEnd}
use Rattle.branch_fixup.specs.Endings.{End, Branches, Goes, LeftOut, end_of_form, ending, begins_at}
use Rattle.branch_fixup.specs.Ends.{AreEnds, IsAt, IsBlockEnd, begins_of, lead_of}
use Rattle.branch_fixup.specs.Forms.{EndByTable, FitsLength, IsLeast}
use Rattle.branch_fixup.specs.Growth.{AreGrown, AreBlockEnds, form_at, form_reach, most_of, end_at, to_at}
use Rattle.branch_fixup.specs.Strips.{Strip, first_in, first_of, is_alone, spans_of}
use Rattle.branch_fixup.proofs.Bridge.{AreBlockEndsOf, LeadAsBlockEnds, are_least, leads_to}
use Rattle.branch_fixup.proofs.Holders.{last_there}
use Rattle.branch_fixup.proofs.Placed.{AreStrips, address_at, at_place, before_is, strips_once, upto_last}

-- The last instruction of a block in a form.

pub record IsBranchEnd (whole : Bool) (x : Action) (fall : Option ℕ) (inverted jump : Bool) : Type 0 where
  pub not_whole : whole ≡ false
  pub branch : is_branch x ≡ true
  pub falls_inverted : inverted ≡ true → is_some fall ≡ true
  pub falls_jump : jump ≡ true → is_some fall ≡ true

pub branch_end : (whole alone : Bool) (x : Action) (fall t next : Option ℕ) (inverted jump : Bool) →
    Branches inverted jump ≡ ending whole alone x fall t next → IsBranchEnd whole x fall inverted jump
branch_end true alone x fall t next inverted jump h = absurd (cc)
branch_end false alone (Branch test wanted rs1 rs2 imm) None t next inverted jump h =
    record { not_whole = refl; branch = refl; falls_inverted = λ i. absurd (cc); falls_jump = λ i. absurd (cc) }
branch_end false alone (Branch test wanted rs1 rs2 imm) (Some a) t next inverted jump h =
    record { not_whole = refl; branch = refl; falls_inverted = λ i. refl; falls_jump = λ i. refl }
branch_end false alone (Jump zero imm) fall t next inverted jump h = by (begins_at next t && not alone) h
  where
    by : (c : Bool) → Branches inverted jump ≡ (if c then LeftOut else Goes) →
        IsBranchEnd false (Jump zero imm) fall inverted jump
    by true h = absurd (cc)
    by false h = absurd (cc)
branch_end false alone (Jump (suc rd) imm) fall t next inverted jump h = absurd (cc)
branch_end false alone (JumpTo rd rs1 imm) fall t next inverted jump h = absurd (cc)
branch_end false alone (Compute o rd left right) fall t next inverted jump h = absurd (cc)
branch_end false alone (Upper rd imm) fall t next inverted jump h = absurd (cc)
branch_end false alone (UpperPc rd imm) fall t next inverted jump h = absurd (cc)
branch_end false alone (Load x rd rs1 imm) fall t next inverted jump h = absurd (cc)
branch_end false alone (Store n rs1 rs2 imm) fall t next inverted jump h = absurd (cc)
branch_end false alone action.Fence fall t next inverted jump h = absurd (cc)
branch_end false alone SystemCall fall t next inverted jump h = absurd (cc)
branch_end false alone Breakpoint fall t next inverted jump h = absurd (cc)

-- a jump that is kept, or left out
pub record IsJumpEnd (whole alone : Bool) (x : Action) : Type 0 where
  pub not_whole : whole ≡ false
  pub imm : ℤ
  pub jump : x ≡ Jump 0 imm

pub goto_end : (whole alone : Bool) (x : Action) (fall t next : Option ℕ) → Goes ≡ ending whole alone x fall t next →
    IsJumpEnd whole alone x
goto_end true alone x fall t next h = absurd (cc)
goto_end false alone (Jump zero imm) fall t next h = record { not_whole = refl; imm = imm; jump = refl }
goto_end false alone (Branch test wanted rs1 rs2 imm) fall t next h = absurd (cc)
goto_end false alone (Jump (suc rd) imm) fall t next h = absurd (cc)
goto_end false alone (JumpTo rd rs1 imm) fall t next h = absurd (cc)
goto_end false alone (Compute o rd left right) fall t next h = absurd (cc)
goto_end false alone (Upper rd imm) fall t next h = absurd (cc)
goto_end false alone (UpperPc rd imm) fall t next h = absurd (cc)
goto_end false alone (Load x rd rs1 imm) fall t next h = absurd (cc)
goto_end false alone (Store n rs1 rs2 imm) fall t next h = absurd (cc)
goto_end false alone action.Fence fall t next h = absurd (cc)
goto_end false alone SystemCall fall t next h = absurd (cc)
goto_end false alone Breakpoint fall t next h = absurd (cc)

pub branch_target : (a : ℕ) (x : Action) → is_branch x ≡ true → (t : ℕ) × (target a x ≡ Some t)
branch_target a (Branch test wanted rs1 rs2 imm) h = (_, refl)
branch_target a (Jump rd imm) h = absurd (cc)
branch_target a (JumpTo rd rs1 imm) h = absurd (cc)
branch_target a (Compute o rd left right) h = absurd (cc)
branch_target a (Upper rd imm) h = absurd (cc)
branch_target a (UpperPc rd imm) h = absurd (cc)
branch_target a (Load x rd rs1 imm) h = absurd (cc)
branch_target a (Store n rs1 rs2 imm) h = absurd (cc)
branch_target a action.Fence h = absurd (cc)
branch_target a SystemCall h = absurd (cc)
branch_target a Breakpoint h = absurd (cc)

some_there : (o : Option ℕ) → is_some o ≡ true → (a : ℕ) × (o ≡ Some a)
some_there None h = absurd (cc)
some_there (Some a) h = (a, refl)

-- The target of a block's branch or jump.

abbrev pub IsOfTable : Strip → Option ℕ → Form → Type 0
IsOfTable s next f = end_of_form f ≡ ending s.whole (is_alone s.inner) (action_at s.last) s.fall (target_of s.last) next

abbrev pub FallsAfter : Strip → Type 0
FallsAfter s = (a : ℕ) → s.fall ≡ Some a → a ≡ s.last.addr + s.last.len

pub record Led (s : Strip) (g : Form) : Type 0 where
  pub a : ℕ
  pub is : lead_of s g ≡ Some a
  pub to : (f : ℕ → ℕ) → leads_to f s.last g ≡ f a

pub led_branch : (s : Strip) (next : Option ℕ) → FallsAfter s → (inverted : Bool) (size : _) (jump : Bool) →
    IsOfTable s next (form.Branch inverted size jump) → Led s (form.Branch inverted size jump)
led_branch s next after true size jump h =
    let e = branch_end s.whole (is_alone s.inner) (action_at s.last) s.fall (target_of s.last) next true jump h in
    let (a, is) = some_there s.fall (e.falls_inverted refl) in
    record { a = a; is = is; to = λ f. ap f (sym (after a is)) }
led_branch s next after false size jump h =
    let e = branch_end s.whole (is_alone s.inner) (action_at s.last) s.fall (target_of s.last) next false jump h in
    let (t, is) = branch_target s.last.addr (action_at s.last) e.branch in
    record { a = t; is = is; to = λ f. ap (λ (o : Option ℕ). option_map_or f o 0) is }

pub led_goto : (s : Strip) (next : Option ℕ) (half : Bool) → IsOfTable s next (form.Goto half) → Led s (form.Goto half)
led_goto s next half h =
    let e = goto_end s.whole (is_alone s.inner) (action_at s.last) s.fall (target_of s.last) next h in
    let is : target_of s.last ≡ target s.last.addr (Jump 0 e.imm) = ap (target s.last.addr) e.jump in
    record { a = _; is = is; to = λ f. ap (λ (o : Option ℕ). option_map_or f o 0) is }

pub led : (s : Strip) (next : Option ℕ) (g : Form) (reach : ℕ) → FallsAfter s → form_reach g ≡ Some reach →
    IsOfTable s next g → Led s g
led s next (form.Branch inverted size jump) reach after k h = led_branch s next after inverted size jump h
led s next (form.Goto short) reach after k h = led_goto s next short h
led s next form.Plain reach after k h = absurd (cc)
led s next form.Jump reach after k h = absurd (cc)
led s next form.Dropped reach after k h = absurd (cc)

-- the target by the block's ending
lead_by : Strip → End → Option ℕ
lead_by s (Branches true jump) = s.fall
lead_by s (Branches false jump) = target_of s.last
lead_by s Goes = target_of s.last
lead_by s _ = None

lead_is : (s : Strip) (f : Form) → lead_of s f ≡ lead_by s (end_of_form f)
unfolding lead_by
lead_is s (form.Branch true size jump) = refl
lead_is s (form.Branch false size jump) = refl
lead_is s (form.Goto half) = refl
lead_is s form.Plain = refl
lead_is s form.Jump = refl
lead_is s form.Dropped = refl

pub lead_same : (s : Strip) (f g : Form) → end_of_form f ≡ end_of_form g → lead_of s f ≡ lead_of s g
lead_same s f g e = lead_is s f ∙ ap (lead_by s) e ∙ sym (lead_is s g)

-- BlockEnds.

module _ (ss : List Strip) (are : AreStrips ss) (ts : List BlockEnd) (zs : List Form) (ends : AreEnds ss (length ss) ts zs) where
  pub block_ends_of : AreBlockEndsOf ts ss
  block_ends_of = record {
    one_each = ends.block_ends;
    before = λ k d within.
        let s : Strip = get_or ss k d in
        let at = slice_get-get_or ss k d within in
        let t = ends.are_block_ends k s within at in
        let i = are.each k s at in
        let e = before_is (first_in s.inner s.last) (s.last.addr + s.last.len) s.inner s.last i.follow in
        let b = t.before in
        omega (arith, e, b);
    len = λ k d within. (ends.are_block_ends k (get_or ss k d) within (slice_get-get_or ss k d within)).len;
  }

  at_some : (k : ℕ) (d : Strip) → k < length ss → (a : ℕ) × IsAt ss (end_at ts k).to (end_at ts k).offset a
  at_some k d within = by (lead_of (get_or ss k d) (form_at zs k)) refl
    where
      t : IsBlockEnd ss (get_or ss k d) (lead_of (get_or ss k d) (form_at zs k)) (end_at ts k)
      t = ends.are_block_ends k (get_or ss k d) within (slice_get-get_or ss k d within)

      by : (o : Option ℕ) → lead_of (get_or ss k d) (form_at zs k) ≡ o →
          (a : ℕ) × IsAt ss (end_at ts k).to (end_at ts k).offset a
      by None e = (first_in (get_or ss k d).inner (get_or ss k d).last, t.to_itself e)
      by (Some a) e = (a, t.leads a e)

  pub block_ends_are : sum_by most_of ts < 2 ^ 62 → AreBlockEnds ts
  block_ends_are low = record {
    to_block = λ k within.
        let len = ends.block_ends in
        let d = some_strip k (omega (arith, within, len)) in
        let (a, is) = at_some k d (omega (arith, within, len)) in
        let h = at_place ss (end_at ts k).to (end_at ts k).offset a is in
        let w = slice_get_within ss (end_at ts k).to h.s h.at in
        omega (arith, w, len);
    to_inside = λ k within.
        let len = ends.block_ends in
        let d = some_strip k (omega (arith, within, len)) in
        let (a, is) = at_some k d (omega (arith, within, len)) in
        let h = at_place ss (end_at ts k).to (end_at ts k).offset a is in
        let w = slice_get_within ss (end_at ts k).to h.s h.at in
        let t = (ends.are_block_ends (end_at ts k).to h.s w h.at).before in
        let u = (upto_last h.s (are.each (end_at ts k).to h.s h.at) h.p h.has).0 in
        let addr = h.addr in
        let sum = h.sum in
        omega (arith, t, u, addr, sum);
    short = λ k within.
        let len = ends.block_ends in
        let d = some_strip k (omega (arith, within, len)) in
        let s : Strip = get_or ss k d in
        let at = slice_get-get_or ss k d (omega (arith, within, len)) in
        let t = (ends.are_block_ends k s (omega (arith, within, len)) at).len in
        let l = (some_length s.last ((are.each k s at).lengths s.last (last_there s))).1 in
        omega (arith, t, l);
    low = low;
  }
    where
      some_strip : (k : ℕ) → k < length ss → Strip
      some_strip k within = by ss within
        where
          by : (xs : List Strip) → k < length xs → Strip
          by [] h = absurd (omega (arith, h))
          by (x ∷ xs) h = x

  -- forms with the same endings as those of `ends`
  module _ (fs : List Form) (base : ℕ) (len : length fs ≡ length ss) (same : (k : ℕ) → k < length ss →
      end_of_form (form_at fs k) ≡ end_of_form (form_at zs k)) (after : (k : ℕ) (s : Strip) → slice_get ss k ≡ Some s →
      FallsAfter s) where
    pub of_table : (k : ℕ) (s : Strip) → slice_get ss k ≡ Some s → IsOfTable s (begins_of ss (k + 1)) (form_at fs k)
    of_table k s at = let within = slice_get_within ss k s at in same k within ∙ (ends.shortest k s within at).ends.by_table

    -- the address to which the branch or jump of a form leads
    pub lead_place : (gs : List Form) → length gs ≡ length ss → (k : ℕ) (s : Strip) (g : Form) (a : ℕ) →
        slice_get ss k ≡ Some s → end_of_form g ≡ end_of_form (form_at zs k) → lead_of s g ≡ Some a →
        new (spans_of ss base gs) a ≡ base + to_at ts gs k
    lead_place gs gs_len k s g a at e is =
        let within = slice_get_within ss k s at in
        let t = ends.are_block_ends k s within at in
        address_at ts ss gs base are block_ends_of gs_len (end_at ts k).to (end_at ts k).offset a
        (t.leads a (lead_same s (form_at zs k) g (sym e) ∙ is))

    leads_as : LeadAsBlockEnds ts ss base (λ k. end_of_form (form_at zs k))
    leads_as k reach d gs g has within gs_len e =
        let s : Strip = get_or ss k d in
        let at = slice_get-get_or ss k d within in
        let l = led s (begins_of ss (k + 1)) g reach (after k s at) has (e ∙ (ends.shortest k s within at).ends.by_table) in
        l.to (new (spans_of ss base gs)) ∙ lead_place gs gs_len k s g l.a at e l.is

    pub least : AreGrown ts fs → (k : ℕ) (s : Strip) (f : Form) → slice_get ss k ≡ Some s → slice_get fs k ≡ Some f →
        IsLeast ss base fs k s f
    least grown k s f at_s at_f =
        let within = slice_get_within ss k s at_s in
        let one = ends.block_ends in
        let h = are_least ts ss base (λ j. end_of_form (form_at zs j)) fs s block_ends_of leads_as
        (strips_once ss are) len same k within (grown.needed k (omega (arith, within, one))) in
        let same_s : get_or ss k s ≡ s = get_or_from_slice_get ss k s s at_s in
        let same_f : form_at fs k ≡ f = get_or_from_slice_get fs k f form.Plain at_f in
        subst (λ (x : Form). IsLeast ss base fs k s x) same_f (subst (λ (x : Strip).
        IsLeast ss base fs k x (form_at fs k)) same_s h)

    pub by_table : AreGrown ts fs → EndByTable ss fs
    by_table grown = table ss fs len each
      where
        each : (k : ℕ) (s : Strip) → slice_get ss k ≡ Some s → IsOfTable s (begins_of ss (suc k))
            (form_at fs k) × FitsLength s.last.len (form_at fs k)
        each k s at =
            let within = slice_get_within ss k s at in
            let one = ends.block_ends in (
              subst (λ (n : ℕ). IsOfTable s (begins_of ss n) (form_at fs k)) (add-one k) (of_table k s at),
              subst (λ (n : ℕ). FitsLength n (form_at fs k)) (ends.are_block_ends k s within at).len
                  (grown.fits k (omega (arith, within, one))),
            )

        first_is : (s : Strip) (xs : List Strip) → begins_of (s ∷ xs) 1 ≡ first_of xs
        first_is s [] = refl
        first_is s (x ∷ xs) = refl

        table : (xs : List Strip) (gs : List Form) → length gs ≡ length xs →
            ((k : ℕ) (s : Strip) → slice_get xs k ≡ Some s → IsOfTable s (begins_of xs (suc k))
            (form_at gs k) × FitsLength s.last.len (form_at gs k)) → EndByTable xs gs
        table [] [] l h = tt
        table [] (g ∷ gs) l h = absurd (omega (arith, l))
        table (x ∷ xs) [] l h = absurd (omega (arith, l))
        table (x ∷ xs) (g ∷ gs) l h = (
          (h 0 x refl).0 ∙ ap (ending x.whole (is_alone x.inner) (action_at x.last) x.fall
              (target_of x.last)) (first_is x xs),
          (h 0 x refl).1,
          table xs gs (omega (arith, l))
              (λ k s at. h (suc k) s at),
        )
