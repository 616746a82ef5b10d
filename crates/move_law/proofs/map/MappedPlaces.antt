-- The new addresses of named instructions and of the ends of calls.
use Rattle.std.proofs.Common.{◌≡◌, ◌≢◌, ℕ, zero, suc, ◌+◌, ◌-◌, ◌%◌, ◌<◌, ◌≤◌, Option, Some, None, true, false, refl, sym, ap, rules}
use Rattle.std.proofs.Common.{◌∙◌, subst, arith, inl, inr}
use Rattle.std.specs.Prelude.{nat_le, nat_lt, IsTrue, IsSomeAnd, option_map, unwrap_or}
use Rattle.std.specs.List.{Contains, find}
use Rattle.std.proofs.lemmas.Bool.{and_from, eqb-true, eq-eqb, le-leb, lt-ltb}
use Rattle.std.proofs.lemmas.List.Elements.{All-contains}
use Rattle.std.proofs.lemmas.Grind.{common_steps}
use Rattle.rv_code.specs.declared.inst.Inst.{Inst}
use Rattle.rv_code.specs.declared.inst.Inst.TheVariants.{Jal}
use Rattle.rv_code.specs.declared.action.Action.{Action}
use Rattle.rv_code.specs.declared.action.Action.TheVariants.{Compute, Branch, Jump, JumpTo, Upper, UpperPc, Load, Store}
use Rattle.rv_code.specs.declared.action.Action.TheVariants.{SystemCall, Breakpoint}
use Rattle.rv_code.specs.declared.action.Action.TheVariants as action
use Rattle.rv_code.specs.declared.placed.Placed.{Placed}
use Rattle.rv_code.specs.layout.ProgramCode.{is_code_address, IsNamed}
use Rattle.rv_code.specs.layout.Flow.{insts_of, placed_at, action_at, is_call}
use Rattle.rv_code.specs.machine.Machine.{plus}
use Rattle.rv_code.specs.layout.FunctionLists.{address_end}
use Rattle.rb_bytes.proofs.Searches.{find-found}
use Rattle.addr_map.specs.declared.span.Span.{Span}
use Rattle.addr_map.specs.Spans.{is_of, has_byte, IsPlaced, ShareNoByte}
use Rattle.sym_machine.specs.declared.value.Pointer.{Pointer}
use Rattle.sym_machine.specs.declared.value.Pointer.TheVariants.{Code, Ret}
use Rattle.move_law.specs.Rewrite.{Rewrite, width_at, out, inst_end, HasAt, Goes}
use Rattle.elf_image.specs.memory.Executables.{AreCodeBytes}
use Rattle.move_law.specs.RelocatedValues.{number_of_pointer}
use Rattle.move_law.specs.SimulationRelation.{IsGivenPointer}
use Rattle.move_law.specs.FaithfulRewrite.{made_anew, HasInSpan, KeepsAction, KeepsInst}
use Rattle.move_law.specs.Laws.{KeepsCode}
use Rattle.move_law.proofs.values.Arithmetic.{IsPlace}
use Rattle.move_law.proofs.steps.Instructions.{width_even, width_some}
use Rattle.move_law.proofs.steps.Matching.{code_is_low}
use Rattle.rb_bytes.proofs.ListLemmas.{find_none, one_of}
use Rattle.move_law.proofs.code.InstLists.{found_at}

module _ (r : Rewrite) (keeps : KeepsCode r) where
  -- a span's output address is the new address of its instruction
  pub span_out : (s : Span) → Contains r.spans s → out r s.input ≡ s.out
  span_out s is_in = by (find (is_of s.input) r.spans) refl
    where
      by : (o : Option Span) → find (is_of s.input) r.spans ≡ o → unwrap_or (option_map (λ s. s.out) o) s.input ≡ s.out
      by None e = absurd (find_none (is_of s.input) r.spans s e is_in (eq-eqb s.input s.input refl))
      by (Some t) e =
          let found = find-found (is_of s.input) r.spans t e in
          let same : t.input ≡ s.input = eqb-true t.input s.input found.0 in
          ap (λ (t : Span). t.out) (one_of (λ s t. s.input ≢ t.input) r.spans t s keeps.faithful.map.once found.1 is_in
          (λ n. n same) (λ n. n (sym same)))

  -- an address without an instruction is its own new address
  pub stays_put : (a : ℕ) → is_code_address r.code.funcs a ≡ false → out r a ≡ a
  stays_put a not_code = by (find (is_of a) r.spans) refl
    where
      by : (o : Option Span) → find (is_of a) r.spans ≡ o → unwrap_or (option_map (λ s. s.out) o) a ≡ a
      by None e = refl
      by (Some t) e =
          let found = find-found (is_of a) r.spans t e in
          let same : t.input ≡ a = eqb-true t.input a found.0 in
          let code : is_code_address r.code.funcs t.input ≡ true =
          All-contains (λ s. IsTrue (is_code_address r.code.funcs s.input)) r.spans t keeps.faithful.map.only found.1 in
          absurd (let h : false ≡ true = sym not_code ∙ sym (ap (is_code_address r.code.funcs) same) ∙ code in cc)

  -- a span that isn't empty is at an even address above 0, and its last byte is low
  pub placed : (s : Span) → Contains r.spans s → 0 < s.len → (s.out % 2 ≡ 0) × (0 < s.out) × (s.out + s.len ≤ address_end)
  placed s is_in some =
      let last = All-contains (λ s. AreCodeBytes r.output s.out s.len) r.spans s keeps.faithful.span_bytes is_in
      (s.len - 1) (omega (arith, some)) in
      let low = code_is_low r keeps (s.out + (s.len - 1)) last in
      elim (All-contains IsPlaced r.spans s keeps.faithful.map.placed is_in) [
        | inl none ↦ absurd (omega (arith, some, none))
        | inr (even, above) ↦ (even, above, omega (arith, low, some))
      ]

  -- spans that share a byte are one
  pub one_span : (s t : Span) (p : ℕ) → Contains r.spans s → Contains r.spans t → s.out ≤ p → p < s.out + s.len →
      t.out ≤ p → p < t.out + t.len → s ≡ t
  one_span s t p s_in t_in a b c d =
      let in_s : has_byte p s ≡ true = and_from (nat_le s.out p) (nat_lt p (s.out + s.len)) (le-leb s.out p a)
      (lt-ltb p (s.out + s.len) b) in
      let in_t : has_byte p t ≡ true = and_from (nat_le t.out p) (nat_lt p (t.out + t.len)) (le-leb t.out p c)
      (lt-ltb p (t.out + t.len) d) in
      one_of ShareNoByte r.spans s t keeps.faithful.map.disjoint s_in t_in (λ n. n p in_s in_t) (λ n. n p in_t in_s)

  -- The span of an instruction, which has room for n bytes of it.
  pub record HasSpan (a n : ℕ) : Type 0 where
    pub span : Span
    pub contains : Contains r.spans span
    pub input : span.input ≡ a
    pub fits : n ≤ span.len

  pub named_span : (a : ℕ) → IsNamed r.code a → HasSpan a 1
  named_span a named =
      let (k, s, within, is, (e, some)) = keeps.faithful.map.named a named in
      record { span = s; contains = (k, within, is); input = e; fits = some }

  pub out_is : (a n : ℕ) (h : HasSpan a n) → out r a ≡ h.span.out
  out_is a n h = ap (λ (x : ℕ). out r x) (sym h.input) ∙ span_out h.span h.contains

  pub code_place : (a n : ℕ) → HasSpan a n → 0 < n → IsPlace (out r a) × (out r a + n ≤ address_end)
  code_place a n h some =
      let fits = h.fits in
      let at = placed h.span h.contains (omega (arith, fits, some)) in
      let is = out_is a n h in
      let low = at.2 in
      let above = at.1 in (
        record { above = omega (arith, is, above); even = rw is at.0; low = omega (arith, is, low, fits, some) },
        omega (arith, is, low, fits),
      )

  pub code_once : (a b : ℕ) → IsNamed r.code a → IsNamed r.code b → out r a ≡ out r b → a ≡ b
  code_once a b ha hb e =
      let s = named_span a ha in
      let t = named_span b hb in
      let fs = s.fits in
      let ft = t.fits in
      let is = out_is a 1 s in
      let it = out_is b 1 t in
      let same = one_span s.span t.span (out r a) s.contains t.contains (omega (arith, is)) (omega (arith, is, fs))
      (omega (arith, it, e)) (omega (arith, it, e, ft)) in
      sym s.input ∙ ap (λ (s : Span). s.input) same ∙ t.input

  -- an instruction of the input that has one in the output, within its span
  pub record IsThere (a : ℕ) : Type 0 where
    pub inst : Inst
    pub has : HasAt r.output (out r a) inst
    pub span : HasSpan a (width_at r.output (out r a))

  pub in_span : (p : Placed) (inst : Inst) → HasInSpan r p inst → IsThere p.addr
  in_span p inst h = grind (arith, common_steps)

  pub call_there : (p : Placed) → Contains (insts_of r.code.funcs) p → is_call (action_at p) ≡ true → IsThere p.addr
  call_there p contains call =
      by (action_at p) refl (All-contains (KeepsInst r (Goes r.output)) (insts_of r.code.funcs) p keeps.faithful.insts contains)
    where
      none : (a : Action) → action_at p ≡ a → is_call a ≡ false → IsThere p.addr
      none a e f = absurd (let h : false ≡ true = sym f ∙ sym (ap is_call e) ∙ call in cc)

      by : (a : Action) → action_at p ≡ a → KeepsAction r (Goes r.output) p a → IsThere p.addr
      by (Jump zero imm) e k = none (Jump zero imm) e refl
      by (Jump (suc rd) imm) e k = in_span p (Jal (suc rd) k.imm) k.has
      by (JumpTo rd rs1 imm) e k = in_span p (made_anew (out r) p.addr p.role p.inst) k
      by (Branch test wanted rs1 rs2 imm) e k = none (Branch test wanted rs1 rs2 imm) e refl
      by (Compute o rd left right) e k = none (Compute o rd left right) e refl
      by (Upper rd imm) e k = none (Upper rd imm) e refl
      by (UpperPc rd imm) e k = none (UpperPc rd imm) e refl
      by (Load x rd rs1 imm) e k = none (Load x rd rs1 imm) e refl
      by (Store n rs1 rs2 imm) e k = none (Store n rs1 rs2 imm) e refl
      by action.Fence e k = none action.Fence e refl
      by SystemCall e k = none SystemCall e refl
      by Breakpoint e k = none Breakpoint e refl

  ret_there : (a : ℕ) → IsGivenPointer r (Ret a) → IsThere a
  ret_there a given = by (placed_at r.code.funcs a) refl given
    where
      by : (o : Option Placed) → placed_at r.code.funcs a ≡ o → IsSomeAnd o (λ p. IsTrue (is_call (action_at p))) → IsThere a
      by None e h = absurd h
      by (Some p) e h = let f = found_at r.code.funcs a p e in subst IsThere f.at (call_there p f.contains h)

  -- the end of an instruction in the output
  record EndIs (a : ℕ) : Type 0 where
    width : ℕ
    some : 0 < width
    even : width % 2 ≡ 0
    span : HasSpan a width
    place : IsPlace (out r a)
    low : out r a + width ≤ address_end
    end : inst_end r a ≡ out r a + width

  end_is : (a : ℕ) → IsThere a → EndIs a
  end_is a t =
      let some = width_some r.output (out r a) t.inst t.has in
      let at = code_place a (width_at r.output (out r a)) t.span some in
      let low = at.1 in
      record {
        width = width_at r.output (out r a);
        some = some;
        even = width_even r.output (out r a) t.inst t.has;
        span = t.span;
        place = at.0;
        low = low;
        end = no_wrap (out r a) (width_at r.output (out r a)) low;
      }
    where
      no_wrap : (a n : ℕ) → a + n ≤ address_end → plus a n ≡ a + n
      no_wrap a n low = omega (arith, low)

  ret_place : (a : ℕ) → IsGivenPointer r (Ret a) → IsPlace (inst_end r a)
  ret_place a given = of (end_is a (ret_there a given))
    where
      both_even : (x y : ℕ) → x % 2 ≡ 0 → y % 2 ≡ 0 → (x + y) % 2 ≡ 0
      both_even x y h k = omega (arith, h, k)

      of : EndIs a → IsPlace (inst_end r a)
      of t = search rules

  pub ret_once : (a b : ℕ) → IsGivenPointer r (Ret a) → IsGivenPointer r (Ret b) → inst_end r a ≡ inst_end r b → a ≡ b
  ret_once a b ha hb e = of (end_is a (ret_there a ha)) (end_is b (ret_there b hb))
    where
      of : EndIs a → EndIs b → a ≡ b
      of c d =
          let some_c = c.some in
          let some_d = d.some in
          let ec = c.end in
          let ed = d.end in
          let is = out_is a c.width c.span in
          let it = out_is b d.width d.span in
          let fc = c.span.fits in
          let fd = d.span.fits in
          let same = one_span c.span.span d.span.span (inst_end r a - 1) c.span.contains d.span.contains
          (omega (arith, is, ec, some_c)) (omega (arith, is, ec, some_c, fc))
          (omega (arith, it, ed, e, some_d)) (omega (arith, it, ed, e, some_d, fd)) in
          sym c.span.input ∙ ap (λ (s : Span). s.input) same ∙ d.span.input

  pub place : (p : Pointer) → IsGivenPointer r p → IsPlace (number_of_pointer r p)
  place (Code a) given = (code_place a 1 (named_span a given) (omega arith)).0
  place (Ret a) given = ret_place a given
