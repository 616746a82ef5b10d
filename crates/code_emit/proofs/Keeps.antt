-- The new code for an instruction keeps it.
use Rattle.std.proofs.Common.{◌≡◌, ℕ, zero, suc, ◌+◌, ◌^◌, ◌<◌, ◌≤◌, List, [], ◌∷◌, ◌++◌, Option, Some, None, Bool, true, false}
use Rattle.std.proofs.Common.{refl, sym, ap, ◌∙◌, subst, arith, ℤ, pos}
use Rattle.std.specs.Prelude.{if◌then◌else◌, ◌==◌, ◌&&◌, not, IsTrue, IfSome, Any}
use Rattle.std.specs.Option.{option_map_or}
use Rattle.std.proofs.lemmas.Int.{ints}
use Rattle.std.proofs.lemmas.Bool.{eqb-true, ne_eqb, and_parts}
use Rattle.rv_code.specs.declared.inst.Inst.{Inst}
use Rattle.rv_code.specs.declared.inst.Inst.TheVariants.{Jal, Beq, Bne, Blt, Bge, Bltu, Bgeu}
use Rattle.rv_code.specs.declared.action.Action.{Action}
use Rattle.rv_code.specs.declared.action.Action.TheVariants.{Compute, Branch, Jump, JumpTo, Upper, UpperPc, Load, Store}
use Rattle.rv_code.specs.declared.action.Action.TheVariants.{SystemCall, Breakpoint}
use Rattle.rv_code.specs.declared.action.Action.TheVariants as action
use Rattle.rv_code.specs.declared.action.Test.{Test}
use Rattle.rv_code.specs.declared.layout.Form.{Form}
use Rattle.rv_code.specs.declared.layout.Form.TheVariants as form
use Rattle.rv_code.specs.declared.layout.Size.{Size}
use Rattle.rv_code.specs.declared.layout.Size.TheVariants.{Half, Full, Long}
use Rattle.rv_code.specs.declared.placed.Placed.{Placed}
use Rattle.rv_code.specs.isa.Action.{action_of}
use Rattle.rv_code.specs.layout.Flow.{action_at, is_plain_jump, target, target_of}
use Rattle.rv_code.specs.machine.Machine.{plus}
use Rattle.rv_code.specs.isa.TwosComplement.{unsigned64}
use Rattle.move_law.specs.Rewrite.{Rewrite, Goes, out, inst_end, stays, jumps}
use Rattle.move_law.specs.RelocatedValues.{distance}
use Rattle.move_law.specs.FaithfulRewrite.{next, GetsToNext, GoesOn, made_anew, HasInSpan, goes_on, KeepsBranch, same, opposite}
use Rattle.move_law.specs.FaithfulRewrite.{KeepsAction, KeepsInst}
use Rattle.move_law.proofs.steps.Fetching.{plus_inside}
use Rattle.branch_fixup.specs.Pieces.{piece_length, bytes_of_size, bytes_of_jump}
use Rattle.branch_fixup.specs.Endings.{Kept, Branches, LeftOut, end_of_form, begins_at, ending, Goes as EndGoes}
use Rattle.branch_fixup.specs.Distances.{new_target}
use Rattle.code_emit.specs.NewInsts.{Made, with_distance, opposite_of, kept, branch_to, added, made}
use Rattle.code_emit.proofs.Standing.{HasMade, HasAll, has_at, width_is}

abbrev pub apart_of : Option ℕ → Option ℕ → Bool
apart_of fall next = option_map_or (λ f. not (begins_at next (Some f))) fall false

-- An instruction at its address in the new code, with the address to which it falls through and the one that follows in the new code.
pub record Stands (r : Rewrite) (p : Placed) (form : Form) (fall after : Option ℕ) (a : ℕ) : Type 0 where
  pub out_is : out r p.addr ≡ a
  pub span : Any (λ s. (s.input ≡ p.addr) × (piece_length p.len form ≤ s.len)) r.spans
  pub stands : HasAll r.output a (made (out r) a p form)
  pub room : a + piece_length p.len form < 2 ^ 63
  pub small_goal : (t : ℕ) → target_of p ≡ Some t → out r t < 2 ^ 63
  pub small_fall : out r (p.addr + p.len) < 2 ^ 63
  pub end : p.addr + p.len < 2 ^ 64
  pub after_is : (n : ℕ) → after ≡ Some n → out r n ≡ a + piece_length p.len form
  pub fall_is : (n : ℕ) → fall ≡ Some n → n ≡ p.addr + p.len
  pub falls : is_plain_jump (action_at p) ≡ false → next r p ≡ fall

lead : (a t : ℕ) → a < 2 ^ 63 → t < 2 ^ 63 → plus a (unsigned64 (distance t a)) ≡ t
lead a t h k = omega (arith, ints, h, k)

not_zero : (n : ℕ) → (suc n == 0) ≡ false
not_zero n = ne_eqb (suc n) 0 (λ h. absurd (omega (arith, h)))

-- an added jump goes to its target
leads : (r : Rewrite) (a t n : ℕ) → HasMade r.output a (Jal 0 (distance t a)) n → a < 2 ^ 63 → t < 2 ^ 63 → Goes r.output a t
leads r a t n has h k = jumps (distance t a) (has_at r.output a (Jal 0 (distance t a)) n has) (lead a t h k)

-- the action of a branch with another distance, or with the opposite condition
branch_action : (i : Inst) (test : Test) (wanted : Bool) (rs1 rs2 : ℕ) (imm z : ℤ) →
    action_of i ≡ Branch test wanted rs1 rs2 imm → action_of (with_distance i z) ≡ Branch test wanted rs1 rs2 z
branch_action (Beq a b c) test wanted rs1 rs2 imm z e = cc
branch_action (Bne a b c) test wanted rs1 rs2 imm z e = cc
branch_action (Blt a b c) test wanted rs1 rs2 imm z e = cc
branch_action (Bge a b c) test wanted rs1 rs2 imm z e = cc
branch_action (Bltu a b c) test wanted rs1 rs2 imm z e = cc
branch_action (Bgeu a b c) test wanted rs1 rs2 imm z e = cc
branch_action _ test wanted rs1 rs2 imm z e = absurd (cc)

not_of : (b w : Bool) → b ≡ w → not b ≡ not w
not_of b w e = ap not e

turned_action : (i : Inst) (test : Test) (wanted : Bool) (rs1 rs2 : ℕ) (imm z : ℤ) →
    action_of i ≡ Branch test wanted rs1 rs2 imm →
    action_of (with_distance (opposite_of i) z) ≡ Branch test (not wanted) rs1 rs2 z
turned_action (Beq a b c) test wanted rs1 rs2 imm z e = let k = not_of true wanted (cc) in cc
turned_action (Bne a b c) test wanted rs1 rs2 imm z e = let k = not_of false wanted (cc) in cc
turned_action (Blt a b c) test wanted rs1 rs2 imm z e = let k = not_of true wanted (cc) in cc
turned_action (Bge a b c) test wanted rs1 rs2 imm z e = let k = not_of false wanted (cc) in cc
turned_action (Bltu a b c) test wanted rs1 rs2 imm z e = let k = not_of true wanted (cc) in cc
turned_action (Bgeu a b c) test wanted rs1 rs2 imm z e = let k = not_of false wanted (cc) in cc
turned_action _ test wanted rs1 rs2 imm z e = absurd (cc)

jump_inst : (i : Inst) (rd : ℕ) (imm z : ℤ) → action_of i ≡ Jump rd imm → with_distance i z ≡ Jal rd z
jump_inst (Jal a b) rd imm z e = cc
jump_inst _ rd imm z e = absurd (cc)

-- an action that goes on isn't a jump that saves no return address
not_plain : (x : Action) → IsTrue (goes_on x) → is_plain_jump x ≡ false
not_plain (Jump zero imm) h = absurd (cc)
not_plain (Jump (suc rd) imm) h = not_zero rd
not_plain (JumpTo zero rs1 imm) h = absurd (cc)
not_plain (JumpTo (suc rd) rs1 imm) h = not_zero rd
not_plain (Branch test wanted rs1 rs2 imm) h = refl
not_plain (Compute o rd left right) h = refl
not_plain (Upper rd imm) h = refl
not_plain (UpperPc rd imm) h = refl
not_plain (Load x rd rs1 imm) h = refl
not_plain (Store n rs1 rs2 imm) h = refl
not_plain action.Fence h = refl
not_plain SystemCall h = refl
not_plain Breakpoint h = refl

stays_away : (x : Action) → goes_on x ≡ false → IsTrue (goes_on x) → ⊥
stays_away x off goes = absurd (let e : true ≡ false = sym goes ∙ off in cc)

module _ (r : Rewrite) (p : Placed) (f : Form) (fall after : Option ℕ) (a : ℕ) (s : Stands r p f fall after a) where
  in_span : (inst : Inst) (bytes : ℕ) → bytes ≤ piece_length p.len f → HasMade r.output a inst bytes → HasInSpan r p inst
  in_span inst bytes h has =
      let (k, t, within, is, (e, fits)) = s.span in
      let there : HasMade r.output (out r p.addr) inst bytes =
      subst (λ (q : ℕ). HasMade r.output q inst bytes) (sym s.out_is) has in
      let width = width_is r.output (out r p.addr) inst bytes there in
      record {
        has = has_at r.output (out r p.addr) inst bytes there;
        inside = (k, t, within, is, (e, omega (arith, h, fits, width)));
      }

  -- the end of the instruction
  ends_at : (inst : Inst) (bytes : ℕ) → HasMade r.output a inst bytes → inst_end r p.addr ≡ plus (out r p.addr) bytes
  ends_at inst bytes has =
      ap (plus (out r p.addr))
      (width_is r.output (out r p.addr) inst bytes (subst (λ (q : ℕ). HasMade r.output q inst bytes) (sym s.out_is) has))

  on_from : (inst : Inst) (bytes : ℕ) → HasMade r.output a inst bytes →
      GetsToNext r (Goes r.output) p (plus (out r p.addr) bytes) → GetsToNext r (Goes r.output) p (inst_end r p.addr)
  on_from inst bytes has h = subst (λ (q : ℕ). GetsToNext r (Goes r.output) p q) (sym (ends_at inst bytes has)) h

  goes_from : (inst : Inst) (bytes to : ℕ) → HasMade r.output a inst bytes → Goes r.output (plus (out r p.addr) bytes) to →
      Goes r.output (inst_end r p.addr) to
  goes_from inst bytes to has h = subst (λ (q : ℕ). Goes r.output q to) (sym (ends_at inst bytes has)) h

  -- Control goes on from e, which has the added jump or is the start of the next block.
  on : (b : Bool) (e : ℕ) → apart_of fall after ≡ b → e + bytes_of_jump b ≡ a + piece_length p.len f →
      HasAll r.output e (added (out r) p b e) → is_plain_jump (action_at p) ≡ false → GetsToNext r (Goes r.output) p e
  on b e is at has plain = rw (s.falls plain) (by b fall refl is at has)
    where
      follows : (n : ℕ) (o : Option ℕ) → after ≡ o → not (begins_at o (Some n)) ≡ false → e ≡ a + piece_length p.len f →
          Goes r.output e (out r n)
      follows n None k h at = absurd (cc)
      follows n (Some m) k h at =
          let same : m ≡ n = eqb-true m n (flip (m == n) h) in
          stays (at ∙ sym (s.after_is m k) ∙ ap (out r) same)
        where
          flip : (b : Bool) → not b ≡ false → b ≡ true
          flip true h = refl
          flip false h = absurd (cc)

      by : (b : Bool) (o : Option ℕ) → fall ≡ o → apart_of o after ≡ b → e + bytes_of_jump b ≡ a + piece_length p.len f →
          HasAll r.output e (added (out r) p b e) → IfSome o (λ n. Goes r.output e (out r n))
      by b None k is at has = tt
      by true (Some n) k is at has =
          let room = s.room in
          subst (λ (q : ℕ). Goes r.output e (out r q)) (sym (s.fall_is n k))
          (leads r e (out r (p.addr + p.len)) 4 has.0 (omega (arith, at, room)) s.small_fall)
      by false (Some n) k is at has = follows n after refl is (omega (arith, at))

  wrapped : (n : ℕ) (b : Bool) → n + bytes_of_jump b ≡ piece_length p.len f → plus a n ≡ a + n
  wrapped n b e = let room = s.room in plus_inside a n (omega (arith, e, room))

  -- control goes on from the end of the instruction
  on_end : (b : Bool) (n : ℕ) → apart_of fall after ≡ b → n + bytes_of_jump b ≡ piece_length p.len f →
      HasAll r.output (a + n) (added (out r) p b (a + n)) → is_plain_jump (action_at p) ≡ false →
      GetsToNext r (Goes r.output) p (plus (out r p.addr) n)
  on_end b n is at has plain = rw (s.out_is, wrapped n b at) (on b (a + n) is (omega (arith, at)) has plain)

  goes_to : (t n : ℕ) → target_of p ≡ Some t → HasMade r.output a (Jal 0 (distance (out r t) a)) n →
      Goes r.output (out r p.addr) (out r t)
  goes_to t n h has = let room = s.room in rw s.out_is (leads r a (out r t) n has (omega (arith, room)) (s.small_goal t h))

  -- An instruction that keeps its width.
  kept_keeps : (b : Bool) → apart_of fall after ≡ b → p.len + bytes_of_jump b ≡ piece_length p.len f →
      HasMade r.output a (kept (out r) a p) p.len → HasAll r.output (a + p.len) (added (out r) p b (a + p.len)) →
      KeepsInst r (Goes r.output) p
  kept_keeps b is at has more = by (action_at p) refl
    where
      -- the instruction, by its target
      is_kept : (o : Option ℕ) (i : Inst) → target_of p ≡ o →
          option_map_or (λ t. with_distance p.inst (distance (out r t) a)) o (made_anew (out r) p.addr p.role p.inst) ≡ i →
          HasMade r.output a i p.len
      is_kept o i e k =
          subst (λ (i : Inst). HasMade r.output a i p.len)
          (ap (λ (o : Option ℕ). option_map_or (λ t. with_distance p.inst (distance (out r t) a)) o
          (made_anew (out r) p.addr p.role p.inst)) e ∙ k) has

      plain : target_of p ≡ None → HasInSpan r p (made_anew (out r) p.addr p.role p.inst)
      plain none =
          in_span (made_anew (out r) p.addr p.role p.inst) p.len (omega (arith, at))
          (is_kept None (made_anew (out r) p.addr p.role p.inst) none refl)

      at_target : (x : Action) (t : ℕ) (z : ℤ) (i : Inst) → action_at p ≡ x → target p.addr x ≡ Some t →
          with_distance p.inst (distance (out r t) a) ≡ i → HasMade r.output a i p.len
      at_target x t z i e k l = is_kept (Some t) i (ap (target p.addr) e ∙ k) l

      by : (x : Action) → action_at p ≡ x → KeepsAction r (Goes r.output) p x
      by (Jump zero imm) e =
          let t = plus p.addr (unsigned64 imm) in
          let z = distance (out r t) a in
          goes_to t p.len (ap (target p.addr) e) (at_target (Jump zero imm) t z (Jal 0 z) e refl (jump_inst p.inst 0 imm z e))
      by (Jump (suc rd) imm) e =
          let t = plus p.addr (unsigned64 imm) in
          let z = distance (out r t) a in
          let room = s.room in
          record {
            imm = z;
            has = in_span (Jal (suc rd) z) p.len (omega (arith, at))
                (at_target (Jump (suc rd) imm) t z (Jal (suc rd) z) e refl (jump_inst p.inst (suc rd) imm z e));
            goes_to = rw s.out_is (lead a (out r t) (omega (arith, room)) (s.small_goal t (ap (target p.addr) e)));
          }
      by (Branch test wanted rs1 rs2 imm) e =
          let t = plus p.addr (unsigned64 imm) in
          let z = distance (out r t) a in
          let room = s.room in
          same (with_distance p.inst z) z
          (in_span (with_distance p.inst z) p.len (omega (arith, at))
          (at_target (Branch test wanted rs1 rs2 imm) t z (with_distance p.inst z) e refl refl))
          (branch_action p.inst test wanted rs1 rs2 imm z e)
          (rw s.out_is (stays (lead a (out r t) (omega (arith, room)) (s.small_goal t (ap (target p.addr) e)))))
          (on_from (kept (out r) a p) p.len has (on_end b p.len is at more (ap is_plain_jump e)))
      by (JumpTo rd rs1 imm) e = plain (ap (target p.addr) e)
      by (Compute o rd left right) e = plain (ap (target p.addr) e)
      by (Upper rd imm) e = plain (ap (target p.addr) e)
      by (UpperPc rd imm) e = plain (ap (target p.addr) e)
      by (Load x rd rs1 imm) e = plain (ap (target p.addr) e)
      by (Store n rs1 rs2 imm) e = plain (ap (target p.addr) e)
      by action.Fence e = plain (ap (target p.addr) e)
      by SystemCall e = plain (ap (target p.addr) e)
      by Breakpoint e = plain (ap (target p.addr) e)

  -- Control goes on to the fall-through address.
  kept_goes_on : (b : Bool) → apart_of fall after ≡ b → p.len + bytes_of_jump b ≡ piece_length p.len f →
      HasMade r.output a (kept (out r) a p) p.len → HasAll r.output (a + p.len) (added (out r) p b (a + p.len)) →
      GoesOn r (Goes r.output) p
  kept_goes_on b is at has more goes =
      on_from (kept (out r) a p) p.len has (on_end b p.len is at more (not_plain (action_at p) goes))

  -- A branch.

  falls_to : (e : ℕ) → Goes r.output e (out r (p.addr + p.len)) → is_plain_jump (action_at p) ≡ false →
      GetsToNext r (Goes r.output) p e
  falls_to e goes plain = rw (s.falls plain) (by fall refl)
    where
      by : (o : Option ℕ) → fall ≡ o → IfSome o (λ n. Goes r.output e (out r n))
      by None k = tt
      by (Some n) k = subst (λ (q : ℕ). Goes r.output e (out r q)) (sym (s.fall_is n k)) goes

  module _ (test : Test) (wanted : Bool) (rs1 rs2 : ℕ) (imm : ℤ) (e : action_at p ≡ Branch test wanted rs1 rs2 imm) where
    -- a branch that leads to its target
    straight : (jump : Bool) (size : Size) → apart_of fall after ≡ jump →
        bytes_of_size size + bytes_of_jump jump ≡ piece_length p.len f →
        HasAll r.output a
        (branch_to (out r (plus p.addr (unsigned64 imm))) p.inst false size a
        ++ added (out r) p jump (a + bytes_of_size size)) →
        KeepsBranch r (Goes r.output) p test wanted rs1 rs2 (plus p.addr (unsigned64 imm))
    straight jump Half is len has =
        let t = plus p.addr (unsigned64 imm) in
        let z = distance (out r t) a in
        let room = s.room in
        same (with_distance p.inst z) z
        (in_span (with_distance p.inst z) 2 (omega (arith, len)) has.0)
        (branch_action p.inst test wanted rs1 rs2 imm z e)
        (rw s.out_is (stays (lead a (out r t) (omega (arith, room)) (s.small_goal t (ap (target p.addr) e)))))
        (on_from (with_distance p.inst z) 2 has.0 (on_end jump 2 is len has.1 (ap is_plain_jump e)))
    straight jump Full is len has =
        let t = plus p.addr (unsigned64 imm) in
        let z = distance (out r t) a in
        let room = s.room in
        same (with_distance p.inst z) z
        (in_span (with_distance p.inst z) 4 (omega (arith, len)) has.0)
        (branch_action p.inst test wanted rs1 rs2 imm z e)
        (rw s.out_is (stays (lead a (out r t) (omega (arith, room)) (s.small_goal t (ap (target p.addr) e)))))
        (on_from (with_distance p.inst z) 4 has.0 (on_end jump 4 is len has.1 (ap is_plain_jump e)))
    straight jump Long is len has =
        let t = plus p.addr (unsigned64 imm) in
        let room = s.room in
        let past : a + 4 + 4 ≡ a + 8 = omega arith in
        opposite (with_distance (opposite_of p.inst) (pos 8)) (pos 8)
        (in_span (with_distance (opposite_of p.inst) (pos 8)) 4 (omega (arith, len)) has.0)
        (turned_action p.inst test wanted rs1 rs2 imm (pos 8) e)
        (goes_from (with_distance (opposite_of p.inst) (pos 8)) 4 (out r t) has.0
        (rw (s.out_is, plus_inside a 4 (omega (arith, len, room)))
        (leads r (a + 4) (out r t) 4 has.1.0 (omega (arith, len, room)) (s.small_goal t (ap (target p.addr) e)))))
        (rw (s.out_is, plus_inside a 8 (omega (arith, len, room)))
        (on jump (a + 8) is (omega (arith, len))
        (subst (λ (q : ℕ). HasAll r.output q (added (out r) p jump (a + 8))) past has.1.1) (ap is_plain_jump e)))

    -- a branch that leads to its fall-through address, and is followed by its target
    inverted : (size : Size) → after ≡ Some (plus p.addr (unsigned64 imm)) → bytes_of_size size ≡ piece_length p.len f →
        HasAll r.output a (branch_to (out r (p.addr + p.len)) p.inst true size a) →
        KeepsBranch r (Goes r.output) p test wanted rs1 rs2 (plus p.addr (unsigned64 imm))
    inverted Half is len has =
        let z = distance (out r (p.addr + p.len)) a in
        let room = s.room in
        let there = s.after_is (plus p.addr (unsigned64 imm)) is in
        opposite (with_distance (opposite_of p.inst) z) z
        (in_span (with_distance (opposite_of p.inst) z) 2 (omega (arith, len)) has.0)
        (turned_action p.inst test wanted rs1 rs2 imm z e)
        (goes_from (with_distance (opposite_of p.inst) z) 2 (out r (plus p.addr (unsigned64 imm))) has.0
        (rw (s.out_is, plus_inside a 2 (omega (arith, len, room))) (stays (omega (arith, there, len)))))
        (rw s.out_is
        (falls_to (plus a (unsigned64 z)) (stays (lead a (out r (p.addr + p.len)) (omega (arith, room)) s.small_fall))
        (ap is_plain_jump e)))
    inverted Full is len has =
        let z = distance (out r (p.addr + p.len)) a in
        let room = s.room in
        let there = s.after_is (plus p.addr (unsigned64 imm)) is in
        opposite (with_distance (opposite_of p.inst) z) z
        (in_span (with_distance (opposite_of p.inst) z) 4 (omega (arith, len)) has.0)
        (turned_action p.inst test wanted rs1 rs2 imm z e)
        (goes_from (with_distance (opposite_of p.inst) z) 4 (out r (plus p.addr (unsigned64 imm))) has.0
        (rw (s.out_is, plus_inside a 4 (omega (arith, len, room))) (stays (omega (arith, there, len)))))
        (rw s.out_is
        (falls_to (plus a (unsigned64 z)) (stays (lead a (out r (p.addr + p.len)) (omega (arith, room)) s.small_fall))
        (ap is_plain_jump e)))
    inverted Long is len has =
        let room = s.room in
        let there = s.after_is (plus p.addr (unsigned64 imm)) is in
        same (with_distance p.inst (pos 8)) (pos 8)
        (in_span (with_distance p.inst (pos 8)) 4 (omega (arith, len)) has.0)
        (branch_action p.inst test wanted rs1 rs2 imm (pos 8) e)
        (rw (s.out_is, plus_inside a 8 (omega (arith, len, room))) (stays (omega (arith, there, len))))
        (on_from (with_distance p.inst (pos 8)) 4 has.0
        (rw (s.out_is, plus_inside a 4 (omega (arith, len, room)))
        (falls_to (a + 4) (leads r (a + 4) (out r (p.addr + p.len)) 4 has.1.0 (omega (arith, len, room)) s.small_fall)
        (ap is_plain_jump e))))

-- The table.

both : (x y : Bool) → x && y ≡ true → (x ≡ true) × (y ≡ true)
both x y h = and_parts x y h

kept_apart : (b whole alone : Bool) (x : Action) (fall t after : Option ℕ) → Kept b ≡ ending whole alone x fall t after →
    apart_of fall after ≡ b
kept_apart b true alone x fall t after h = cc
kept_apart b false alone (Branch test wanted rs1 rs2 imm) fall t after h = absurd (cc)
kept_apart b false alone (Jump zero imm) fall t after h = by (begins_at after t && not alone) h
  where
    by : (c : Bool) → Kept b ≡ (if c then LeftOut else EndGoes) → apart_of fall after ≡ b
    by true h = absurd (cc)
    by false h = absurd (cc)
kept_apart b false alone (Jump (suc rd) imm) fall t after h = cc
kept_apart b false alone (JumpTo rd rs1 imm) fall t after h = cc
kept_apart b false alone (Compute o rd left right) fall t after h = cc
kept_apart b false alone (Upper rd imm) fall t after h = cc
kept_apart b false alone (UpperPc rd imm) fall t after h = cc
kept_apart b false alone (Load x rd rs1 imm) fall t after h = cc
kept_apart b false alone (Store n rs1 rs2 imm) fall t after h = cc
kept_apart b false alone action.Fence fall t after h = cc
kept_apart b false alone SystemCall fall t after h = cc
kept_apart b false alone Breakpoint fall t after h = cc

begins_is : (after : Option ℕ) (t : ℕ) → begins_at after (Some t) ≡ true → after ≡ Some t
begins_is None t h = absurd (cc)
begins_is (Some n) t h = ap Some (eqb-true n t h)

pub record InvertedBy (fall t after : Option ℕ) (inverted jump : Bool) : Type 0 where
  pub inverted_is : inverted ≡ apart_of fall after && begins_at after t
  pub jump_is : jump ≡ apart_of fall after && not (apart_of fall after && begins_at after t)

-- a branch that isn't in a whole function
branches_by : (inverted jump whole alone : Bool) (test : Test) (wanted : Bool) (rs1 rs2 : ℕ) (imm : ℤ)
    (fall t after : Option ℕ) → Branches inverted jump ≡ ending whole alone (Branch test wanted rs1 rs2 imm) fall t after →
    InvertedBy fall t after inverted jump
branches_by inverted jump true alone test wanted rs1 rs2 imm fall t after h = absurd (cc)
branches_by inverted jump false alone test wanted rs1 rs2 imm fall t after h = record { inverted_is = cc; jump_is = cc }

goes_by : (whole alone : Bool) (x : Action) (fall t after : Option ℕ) → EndGoes ≡ ending whole alone x fall t after → (imm : ℤ)
    × (x ≡ Jump 0 imm)
goes_by true alone x fall t after h = absurd (cc)
goes_by false alone (Jump zero imm) fall t after h = (imm, refl)
goes_by false alone (Branch test wanted rs1 rs2 imm) fall t after h = absurd (cc)
goes_by false alone (Jump (suc rd) imm) fall t after h = absurd (cc)
goes_by false alone (JumpTo rd rs1 imm) fall t after h = absurd (cc)
goes_by false alone (Compute o rd left right) fall t after h = absurd (cc)
goes_by false alone (Upper rd imm) fall t after h = absurd (cc)
goes_by false alone (UpperPc rd imm) fall t after h = absurd (cc)
goes_by false alone (Load x rd rs1 imm) fall t after h = absurd (cc)
goes_by false alone (Store n rs1 rs2 imm) fall t after h = absurd (cc)
goes_by false alone action.Fence fall t after h = absurd (cc)
goes_by false alone SystemCall fall t after h = absurd (cc)
goes_by false alone Breakpoint fall t after h = absurd (cc)

pub left_by : (whole alone : Bool) (x : Action) (fall t after : Option ℕ) → LeftOut ≡ ending whole alone x fall t after →
    (imm : ℤ) × (x ≡ Jump 0 imm) × (begins_at after t && not alone ≡ true)
left_by true alone x fall t after h = absurd (cc)
left_by false alone (Jump zero imm) fall t after h = (imm, refl, by (begins_at after t && not alone) h)
  where
    by : (c : Bool) → LeftOut ≡ (if c then LeftOut else EndGoes) → c ≡ true
    by true h = refl
    by false h = absurd (cc)
left_by false alone (Branch test wanted rs1 rs2 imm) fall t after h = absurd (cc)
left_by false alone (Jump (suc rd) imm) fall t after h = absurd (cc)
left_by false alone (JumpTo rd rs1 imm) fall t after h = absurd (cc)
left_by false alone (Compute o rd left right) fall t after h = absurd (cc)
left_by false alone (Upper rd imm) fall t after h = absurd (cc)
left_by false alone (UpperPc rd imm) fall t after h = absurd (cc)
left_by false alone (Load x rd rs1 imm) fall t after h = absurd (cc)
left_by false alone (Store n rs1 rs2 imm) fall t after h = absurd (cc)
left_by false alone action.Fence fall t after h = absurd (cc)
left_by false alone SystemCall fall t after h = absurd (cc)
left_by false alone Breakpoint fall t after h = absurd (cc)

pub branch_by : (inverted jump whole alone : Bool) (x : Action) (fall t after : Option ℕ) →
    Branches inverted jump ≡ ending whole alone x fall t after → (test : Test) × (wanted : Bool) × (rs1 : ℕ) × (rs2 : ℕ)
    × (imm : ℤ) × (x ≡ Branch test wanted rs1 rs2 imm)
branch_by inverted jump true alone x fall t after h = absurd (cc)
branch_by inverted jump false alone (Branch test wanted rs1 rs2 imm) fall t after h = (test, wanted, rs1, rs2, imm, refl)
branch_by inverted jump false alone (Jump zero imm) fall t after h = by (begins_at after t && not alone) h
  where
    by : (c : Bool) → Branches inverted jump ≡ (if c then LeftOut else EndGoes) → (test : Test) × (wanted : Bool) × (rs1 : ℕ)
        × (rs2 : ℕ) × (imm' : ℤ) × (Jump zero imm ≡ Branch test wanted rs1 rs2 imm')
    by true h = absurd (cc)
    by false h = absurd (cc)
branch_by inverted jump false alone (Jump (suc rd) imm) fall t after h = absurd (cc)
branch_by inverted jump false alone (JumpTo rd rs1 imm) fall t after h = absurd (cc)
branch_by inverted jump false alone (Compute o rd left right) fall t after h = absurd (cc)
branch_by inverted jump false alone (Upper rd imm) fall t after h = absurd (cc)
branch_by inverted jump false alone (UpperPc rd imm) fall t after h = absurd (cc)
branch_by inverted jump false alone (Load x rd rs1 imm) fall t after h = absurd (cc)
branch_by inverted jump false alone (Store n rs1 rs2 imm) fall t after h = absurd (cc)
branch_by inverted jump false alone action.Fence fall t after h = absurd (cc)
branch_by inverted jump false alone SystemCall fall t after h = absurd (cc)
branch_by inverted jump false alone Breakpoint fall t after h = absurd (cc)

straight_jump : (x y j : Bool) → false ≡ x && y → j ≡ x && not (x && y) → x ≡ j
straight_jump true true j h k = absurd (cc)
straight_jump true false j h k = sym k
straight_jump false y j h k = sym k

inverted_jump : (x y j : Bool) → true ≡ x && y → j ≡ x && not (x && y) → (y ≡ true) × (j ≡ false)
inverted_jump true true j h k = (refl, k)
inverted_jump true false j h k = absurd (cc)
inverted_jump false y j h k = absurd (cc)

first_all : (r : Rewrite) (a : ℕ) (xs ys : List Made) → HasAll r.output a (xs ++ ys) → HasAll r.output a xs
first_all r a [] ys h = tt
first_all r a (x ∷ xs) ys h = (h.0, first_all r (a + x.bytes) xs ys h.1)

branch_keeps : (inverts jump : Bool) (size : Size) (r : Rewrite) (p : Placed) (fall after : Option ℕ) (a : ℕ) →
    Stands r p (form.Branch inverts size jump) fall after a → (test : Test) (wanted : Bool) (rs1 rs2 : ℕ) (imm : ℤ) →
    action_at p ≡ Branch test wanted rs1 rs2 imm → InvertedBy fall (Some (plus p.addr (unsigned64 imm))) after inverts jump →
    KeepsBranch r (Goes r.output) p test wanted rs1 rs2 (plus p.addr (unsigned64 imm))
branch_keeps false jump size r p fall after a s test wanted rs1 rs2 imm e by_table =
    let t : ℕ = plus p.addr (unsigned64 imm) in
    let goal_is : new_target (out r) p ≡ out r t = ap (λ (x : Action). option_map_or (out r) (target p.addr x) 0) e in
    straight r p (form.Branch false size jump) fall after a s test wanted rs1 rs2 imm e jump size
    (straight_jump (apart_of fall after) (begins_at after (Some t)) jump by_table.inverted_is by_table.jump_is) refl
    (subst (λ (g : ℕ). HasAll r.output a
    (branch_to g p.inst false size a ++ added (out r) p jump (a + bytes_of_size size))) goal_is s.stands)
branch_keeps true jump size r p fall after a s test wanted rs1 rs2 imm e by_table =
    let t : ℕ = plus p.addr (unsigned64 imm) in
    let k = inverted_jump (apart_of fall after) (begins_at after (Some t)) jump by_table.inverted_is by_table.jump_is in
    let none : bytes_of_jump jump ≡ 0 = ap bytes_of_jump k.1 in
    inverted r p (form.Branch true size jump) fall after a s test wanted rs1 rs2 imm e size
    (begins_is after t k.0) (omega (arith, none))
    (first_all r a (branch_to (out r (p.addr + p.len)) p.inst true size a)
    (added (out r) p jump (a + bytes_of_size size)) s.stands)

-- An instruction in a form of the table is kept.
pub keeps : (r : Rewrite) (p : Placed) (f : Form) (whole alone : Bool) (fall after : Option ℕ) (a : ℕ) →
    Stands r p f fall after a → end_of_form f ≡ ending whole alone (action_at p) fall (target_of p) after →
    KeepsInst r (Goes r.output) p
keeps r p form.Plain whole alone fall after a s table =
    kept_keeps r p form.Plain fall after a s false (kept_apart false whole alone (action_at p) fall (target_of p) after table)
    (omega arith) s.stands.0 s.stands.1
keeps r p form.Jump whole alone fall after a s table =
    kept_keeps r p form.Jump fall after a s true (kept_apart true whole alone (action_at p) fall (target_of p) after table)
    (omega arith) s.stands.0 s.stands.1
keeps r p (form.Goto half) whole alone fall after a s table =
    let (imm, e) = goes_by whole alone (action_at p) fall (target_of p) after table in
    let goal_is : new_target (out r) p ≡ out r (plus p.addr (unsigned64 imm)) =
    ap (λ (x : Action). option_map_or (out r) (target p.addr x) 0) e in
    subst (λ (x : Action). KeepsAction r (Goes r.output) p x) (sym e)
    (goes_to r p (form.Goto half) fall after a s (plus p.addr (unsigned64 imm)) (if half then 2 else 4) (ap (target p.addr) e)
    (subst (λ (g : ℕ). HasMade r.output a (Jal 0 (distance g a)) (if half then 2 else 4)) goal_is s.stands.0))
keeps r p form.Dropped whole alone fall after a s table =
    let (imm, e, there) = left_by whole alone (action_at p) fall (target_of p) after table in
    let t : ℕ = plus p.addr (unsigned64 imm) in
    let begins : begins_at after (Some t) ≡ true = ap (λ (x : Action). begins_at after (target p.addr x)) (sym e)
    ∙ (both (begins_at after (target_of p)) (not alone) there).0 in
    let next_is : out r t ≡ a + 0 = s.after_is t (begins_is after t begins) in
    subst (λ (x : Action). KeepsAction r (Goes r.output) p x) (sym e) (stays (s.out_is ∙ omega (arith, next_is)))
keeps r p (form.Branch inverts jump_size jump) whole alone fall after a s table =
    let (test, wanted, rs1, rs2, imm, e) = branch_by inverts jump whole alone (action_at p) fall (target_of p) after table in
    subst (λ (x : Action). KeepsAction r (Goes r.output) p x) (sym e)
    (branch_keeps inverts jump jump_size r p fall after a s test wanted rs1 rs2 imm e
    (branches_by inverts jump whole alone test wanted rs1 rs2 imm fall (Some (plus p.addr (unsigned64 imm))) after
    (subst (λ (x : Action). Branches inverts jump ≡ ending whole alone x fall (target p.addr x) after) e table)))

-- Control goes on after it.
pub keeps_on : (r : Rewrite) (p : Placed) (f : Form) (whole alone : Bool) (fall after : Option ℕ) (a : ℕ) →
    Stands r p f fall after a → end_of_form f ≡ ending whole alone (action_at p) fall (target_of p) after →
    GoesOn r (Goes r.output) p
keeps_on r p form.Plain whole alone fall after a s table =
    kept_goes_on r p form.Plain fall after a s false
    (kept_apart false whole alone (action_at p) fall (target_of p) after table) (omega arith) s.stands.0 s.stands.1
keeps_on r p form.Jump whole alone fall after a s table =
    kept_goes_on r p form.Jump fall after a s true (kept_apart true whole alone (action_at p) fall (target_of p) after table)
    (omega arith) s.stands.0 s.stands.1
keeps_on r p (form.Goto half) whole alone fall after a s table =
    let (imm, e) = goes_by whole alone (action_at p) fall (target_of p) after table in
    λ goes. absurd (stays_away (action_at p) (ap goes_on e) goes)
keeps_on r p form.Dropped whole alone fall after a s table =
    let (imm, e, there) = left_by whole alone (action_at p) fall (target_of p) after table in
    λ goes. absurd (stays_away (action_at p) (ap goes_on e) goes)
keeps_on r p (form.Branch inverts jump_size jump) whole alone fall after a s table =
    let (test, wanted, rs1, rs2, imm, e) = branch_by inverts jump whole alone (action_at p) fall (target_of p) after table in
    λ goes. absurd (stays_away (action_at p) (ap goes_on e) goes)
