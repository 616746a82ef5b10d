-- Single instructions of a rewrite, by what a check found for them.
use Rattle.std.proofs.Common.{◌≡◌, ◌≢◌, ◌<◌, ◌≤◌, ◌∙◌, ℕ, ℤ, Bool, true, false, not, List, length, get_or, refl, ap, sym, subst, arith}
use Rattle.std.proofs.Common.{⊎_elim, ◌↔◌, Option, Some, None, IfSome, IsTrue, unwrap_or, option_map, if◌then◌else◌, find, rules}
use Rattle.std.proofs.lemmas.Bool.{cases_lt, cases_eq}
use mathlib.Core.Bool.{beq}
use Rattle.std.proofs.lemmas.List.{get_or_default}
use Rattle.rv_code.specs.declared.inst.Inst.{Inst}
use Rattle.rv_code.specs.declared.placed.Placed.{Placed}
use Rattle.rv_code.specs.declared.action.Test.{Test}
use Rattle.rv_code.specs.declared.action.Action.TheVariants.{Branch}
use Rattle.rv_code.specs.isa.Action.{action_of}
use Rattle.rv_code.specs.isa.TwosComplement.{unsigned64}
use Rattle.rv_code.specs.machine.Machine.{plus}
use Rattle.elf_image.specs.declared.elf.Elf.{Elf}
use Rattle.addr_map.specs.declared.span.Span.{Span}
use Rattle.addr_map.specs.Spans.{is_of, new}
use Rattle.elf_image.specs.memory.Executables.{Executable, executable_read}
use Rattle.move_law.specs.Rewrite.{Rewrite, width_at, out, inst_end, HasAt, Goes}
use Rattle.move_law.specs.FaithfulRewrite.{HasInSpan, GetsToNext, KeepsBranch, same, opposite, next, made_anew}
use Rattle.map_check.specs.internal.OutputCode.{IsOnlyAt, FindsAt}
use Rattle.map_check.specs.internal.InstRows.{IsChecked, IsInSpan, Leads}
use Rattle.map_check.specs.declared.found.Found.{Found}
use Rattle.map_check.proofs.NamedSpans.{find_some, find_not_none}

pub same_bool : (a b : Bool) → beq a b ≡ true → a ≡ b
same_bool true true is = refl
same_bool true false is = absurd (let never : false ≡ true = is in cc)
same_bool false true is = absurd (let never : false ≡ true = is in cc)
same_bool false false is = refl

pub other_bool : (a b : Bool) → beq a b ≡ false → a ≢ b
other_bool true true is = absurd (let never : true ≡ false = is in cc)
other_bool true false is = λ e. cc
other_bool false true is = λ e. cc
other_bool false false is = absurd (let never : true ≡ false = is in cc)

differs : (v : Bool) → v ≡ not v → ⊥
differs true e = cc
differs false e = cc

module _ (r : Rewrite) (output : Elf) (table : List Span) (ch : IsChecked r output table) where
  abbrev x : Executable
  x = executable_read output

  pub new_is : (a : ℕ) → new table a ≡ out r a
  new_is a = ap (λ (o : Option Span). unwrap_or (option_map (λ s. s.out) o) a) (sym (ch.finds a))

  pub goes_same : (p q : ℕ) (b : Bool) → IsTrue b ↔ Goes x p q → IsTrue b ↔ Goes r.output p q
  goes_same p q b test = subst (λ (y : Executable). IsTrue b ↔ Goes y p q) (sym ch.output_is) test

  pub gets_some : (p : Placed) (from a n : ℕ) (b : Bool) → next r p ≡ Some a → n ≡ new table a → IsTrue b ↔ Goes x from n →
      IsTrue b ↔ GetsToNext r (Goes r.output) p from
  gets_some p from a n b is at test =
      subst (λ (o : Option ℕ). IsTrue b ↔ IfSome o (λ c. Goes r.output from (out r c))) (sym is)
      (subst (λ (q : ℕ). IsTrue b ↔ Goes r.output from q) (at ∙ new_is a) (goes_same from n b test))

  pub gets_none : (p : Placed) (from : ℕ) → next r p ≡ None → IsTrue true ↔ GetsToNext r (Goes r.output) p from
  gets_none p from is = subst (λ (o : Option ℕ). IsTrue true ↔ IfSome o (λ c. Goes r.output from (out r c))) (sym is) (search rules)

  pub leads_is : (p : Placed) (yes_place no_place target n : ℕ) (a b : Bool) → n ≡ new table target → IsTrue a ↔ Goes x yes_place n →
      IsTrue b ↔ GetsToNext r (Goes r.output) p no_place → (c : Bool) → c ≡ (if a then b else false) →
      IsTrue c ↔ Leads r p yes_place no_place target
  leads_is p yes_place no_place target n a b at one two c is =
      let first : IsTrue a ↔ Goes r.output yes_place (out r target) =
      subst (λ (q : ℕ). IsTrue a ↔ Goes r.output yes_place q) (at ∙ new_is target) (goes_same yes_place n a one) in
      by a first is
    where
      by : (t : Bool) → IsTrue t ↔ Goes r.output yes_place (out r target) → c ≡ (if t then b else false) →
          IsTrue c ↔ Leads r p yes_place no_place target
      by true first is =
          (λ yes_it. record { to_target = first.0 refl; to_next = two.0 (sym is ∙ yes_it) }, λ l. is ∙ two.1 l.to_next)
      by false first is = (
        λ yes_it. absurd (let never : false ≡ true = sym is ∙ yes_it in cc),
        λ l. absurd (let never : false ≡ true = first.1 l.to_target in cc),
      )

  -- The instruction in a span.
  module _ (p : Placed) where
    out_of : (s : Span) → find (is_of p.addr) table ≡ Some s → s.out ≡ out r p.addr
    out_of s found = ap (λ (o : Option Span). unwrap_or (option_map (λ t. t.out) o) p.addr) (sym (ch.finds p.addr ∙ found))

    to_x : (s : Span) (inst : Inst) → find (is_of p.addr) table ≡ Some s → HasAt r.output (out r p.addr) inst → HasAt x s.out inst
    to_x s inst found has =
        subst (λ (y : Executable). HasAt y s.out inst) ch.output_is
        (subst (λ (q : ℕ). HasAt r.output q inst) (sym (out_of s found)) has)

    from_x : (s : Span) (inst : Inst) → find (is_of p.addr) table ≡ Some s → HasAt x s.out inst → HasAt r.output (out r p.addr) inst
    from_x s inst found has =
        subst (λ (q : ℕ). HasAt r.output q inst) (out_of s found)
        (subst (λ (y : Executable). HasAt y s.out inst) (sym ch.output_is) has)

    width_same : (s : Span) (w : ℕ) → find (is_of p.addr) table ≡ Some s → w ≡ width_at x s.out → w ≡ width_at r.output (out r p.addr)
    width_same s w found is =
        is ∙ ap (λ (y : Executable). width_at y s.out) (sym ch.output_is) ∙ ap (width_at r.output) (out_of s found)

    pub nowhere : find (is_of p.addr) table ≡ None → (inst : Inst) → HasInSpan r p inst → ⊥
    nowhere none inst has =
        let (k, s, within, at, (input, wide)) = has.inside in
        find_not_none p.addr r.spans k s within (ap (λ (t : Span). t.input) at ∙ input) (ch.finds p.addr ∙ none)

    pub no_inst_there : (s : Span) → find (is_of p.addr) table ≡ Some s → FindsAt x s.out None → (inst : Inst) → HasInSpan r p inst → ⊥
    no_inst_there s found none inst has = none inst (to_x s inst found has.has)

    -- the span with an input is the one that is looked up
    one_span : (s : Span) → find (is_of p.addr) table ≡ Some s → (k : ℕ) (t : Span) → k < length r.spans → get_or r.spans k t ≡ t →
        t.input ≡ p.addr → t.len ≡ s.len
    one_span s found k t within at input =
        let (j, inside, there, s_input) = find_some p.addr r.spans s (ch.finds p.addr ∙ found) in
        let s_at : get_or r.spans j t ≡ s = get_or_default r.spans j t s inside ∙ there in
        let t_in : (get_or r.spans k t).input ≡ p.addr = ap (λ (u : Span). u.input) at ∙ input in
        let s_in : (get_or r.spans j t).input ≡ p.addr = ap (λ (u : Span). u.input) s_at ∙ s_input in
        ⊎_elim
        (λ (e : k ≡ j). ap (λ (u : Span). u.len) (sym at ∙ ap (λ (i : ℕ). get_or r.spans i t) e ∙ s_at))
        (λ (apart : k ≢ j). absurd (⊎_elim
        (λ (less : k < j). ch.once k j t less inside (t_in ∙ sym s_in))
        (λ (more : j ≤ k). let less : j < k = differ j k more (λ e. apart (sym e)) in ch.once j k t less within (s_in ∙ sym t_in))
        (cases_lt k j)))
        (cases_eq k j)
      where
        differ : (j k : ℕ) → j ≤ k → j ≢ k → j < k
        differ j k le ne = ⊎_elim (λ (less : j < k). less) (λ (more : k ≤ j). absurd (ne (omega arith))) (cases_lt j k)

    pub too_wide : (s : Span) (inst : Inst) (w : ℕ) → find (is_of p.addr) table ≡ Some s → IsOnlyAt x s.out inst w → s.len < w →
        (other : Inst) → HasInSpan r p other → ⊥
    too_wide s inst w found is wide other has =
        let (k, t, within, at, (input, fits)) = has.inside in
        let len = one_span s found k t within at input in
        let same_width = width_same s w found is.width_is in
        let fit : width_at r.output (out r p.addr) ≤ t.len = fits in
        omega (arith, len, same_width, fit, wide)

    pub in_span : (s : Span) (inst : Inst) (w : ℕ) → find (is_of p.addr) table ≡ Some s → IsOnlyAt x s.out inst w → w ≤ s.len →
        IsInSpan r p (record { out = s.out; inst = inst; width = w })
    in_span s inst w found is fits =
        let (k, inside, at, input) = find_some p.addr r.spans s (ch.finds p.addr ∙ found) in
        let same_width = width_same s w found is.width_is in
        let le : width_at r.output (out r p.addr) ≤ s.len = omega (arith, same_width, fits) in record {
          has = record { has = from_x s inst found is.has; inside = (k, s, inside, at, (input, le)) };
          out_is = out_of s found;
          width_is = same_width;
          only = λ other has. is.only other (to_x s other found has.has);
        }

  -- Branches.
  module _ (p : Placed) (test : Test) (wanted : Bool) (rs1 rs2 target : ℕ) where
    pub no_branch : ((inst : Inst) → HasInSpan r p inst → ⊥) → IsTrue false ↔ KeepsBranch r (Goes r.output) p test wanted rs1 rs2 target
    no_branch none = ((λ is. absurd (let never : false ≡ true = is in cc)), from)
      where
        from : KeepsBranch r (Goes r.output) p test wanted rs1 rs2 target → false ≡ true
        from (same inst imm has act one two) = absurd (none inst has)
        from (opposite inst imm has act one two) = absurd (none inst has)

    pub other_inst : (f : Found) → IsInSpan r p f →
        ((w : Bool) (imm : ℤ) → action_of f.inst ≡ Branch test w rs1 rs2 imm → ⊥) →
        IsTrue false ↔ KeepsBranch r (Goes r.output) p test wanted rs1 rs2 target
    other_inst f is none = ((λ is. absurd (let never : false ≡ true = is in cc)), from)
      where
        from : KeepsBranch r (Goes r.output) p test wanted rs1 rs2 target → false ≡ true
        from (same inst imm has act one two) = absurd (none wanted imm (ap action_of (sym (is.only inst has)) ∙ act))
        from (opposite inst imm has act one two) = absurd (none (not wanted) imm (ap action_of (sym (is.only inst has)) ∙ act))

    there_is : (f : Found) (imm : ℤ) → IsInSpan r p f → plus f.out (unsigned64 imm) ≡ plus (out r p.addr) (unsigned64 imm)
    there_is f imm is = ap (λ (q : ℕ). plus q (unsigned64 imm)) is.out_is

    end_is : (f : Found) → IsInSpan r p f → plus f.out f.width ≡ inst_end r p.addr
    end_is f is = ap (λ (q : ℕ). plus q f.width) is.out_is ∙ ap (plus (out r p.addr)) is.width_is

    pub same_sense : (f : Found) (imm : ℤ) (w : Bool) (b : Bool) → IsInSpan r p f → action_of f.inst ≡ Branch test w rs1 rs2 imm →
        w ≡ wanted → IsTrue b ↔ Leads r p (plus f.out (unsigned64 imm)) (plus f.out f.width) target →
        IsTrue b ↔ KeepsBranch r (Goes r.output) p test wanted rs1 rs2 target
    same_sense f imm w b is act sense leads = (to, from)
      where
        leads_there : IsTrue b ↔ Leads r p (plus (out r p.addr) (unsigned64 imm)) (inst_end r p.addr) target
        leads_there = subst (λ (q : ℕ). IsTrue b ↔ Leads r p q (inst_end r p.addr) target) (there_is f imm is)
            (subst (λ (q : ℕ). IsTrue b ↔ Leads r p (plus f.out (unsigned64 imm)) q target) (end_is f is) leads)

        to : IsTrue b → KeepsBranch r (Goes r.output) p test wanted rs1 rs2 target
        to yes_it =
            let l = leads_there.0 yes_it in
            same f.inst imm is.has (act ∙ ap (λ (v : Bool). Branch test v rs1 rs2 imm) sense) l.to_target l.to_next

        from : KeepsBranch r (Goes r.output) p test wanted rs1 rs2 target → IsTrue b
        from (same inst imm2 has act2 one two) =
            let equal : Branch test w rs1 rs2 imm ≡ Branch test wanted rs1 rs2 imm2 = sym act ∙ ap action_of (sym (is.only inst has)) ∙
            act2 in
            let distance : imm2 ≡ imm = cc in
            leads_there.1 (record {
              to_target = subst (λ (z : ℤ). Goes r.output (plus (out r p.addr) (unsigned64 z)) (out r target)) distance one;
              to_next = two;
            })
        from (opposite inst imm2 has act2 one two) =
            let equal : Branch test w rs1 rs2 imm ≡ Branch test (not wanted) rs1 rs2 imm2 = sym act ∙ ap action_of (sym (is.only inst has))
            ∙ act2 in
            let turned : w ≡ not wanted = cc in absurd (differs wanted (sym sense ∙ turned))

    pub other_sense : (f : Found) (imm : ℤ) (w : Bool) (b : Bool) → IsInSpan r p f → action_of f.inst ≡ Branch test w rs1 rs2 imm →
        w ≢ wanted → IsTrue b ↔ Leads r p (plus f.out f.width) (plus f.out (unsigned64 imm)) target →
        IsTrue b ↔ KeepsBranch r (Goes r.output) p test wanted rs1 rs2 target
    other_sense f imm w b is act sense leads = (to, from)
      where
        leads_there : IsTrue b ↔ Leads r p (inst_end r p.addr) (plus (out r p.addr) (unsigned64 imm)) target
        leads_there = subst (λ (q : ℕ). IsTrue b ↔ Leads r p (inst_end r p.addr) q target) (there_is f imm is)
            (subst (λ (q : ℕ). IsTrue b ↔ Leads r p q (plus f.out (unsigned64 imm)) target) (end_is f is) leads)

        turned : (u v : Bool) → u ≢ v → u ≡ not v
        turned true true ne = absurd (ne refl)
        turned true false ne = refl
        turned false true ne = refl
        turned false false ne = absurd (ne refl)

        to : IsTrue b → KeepsBranch r (Goes r.output) p test wanted rs1 rs2 target
        to yes_it =
            let l = leads_there.0 yes_it in
            opposite f.inst imm is.has (act ∙ ap (λ (v : Bool). Branch test v rs1 rs2 imm) (turned w wanted sense)) l.to_target l.to_next

        from : KeepsBranch r (Goes r.output) p test wanted rs1 rs2 target → IsTrue b
        from (opposite inst imm2 has act2 one two) =
            let equal : Branch test w rs1 rs2 imm ≡ Branch test (not wanted) rs1 rs2 imm2 = sym act ∙ ap action_of (sym (is.only inst has))
            ∙ act2 in
            let distance : imm2 ≡ imm = cc in
            leads_there.1 (record {
              to_target = one;
              to_next = subst (λ (z : ℤ). GetsToNext r (Goes r.output) p (plus (out r p.addr) (unsigned64 z))) distance two;
            })
        from (same inst imm2 has act2 one two) =
            let equal : Branch test w rs1 rs2 imm ≡ Branch test wanted rs1 rs2 imm2 = sym act ∙ ap action_of (sym (is.only inst has)) ∙
            act2 in
            let alike : w ≡ wanted = cc in absurd (sense alike)

  -- All other instructions.
  module _ (p : Placed) where
    made_same : made_anew (new table) p.addr p.role p.inst ≡ made_anew (out r) p.addr p.role p.inst
    made_same = ap (λ (f : ℕ → ℕ). made_anew f p.addr p.role p.inst) (λ i a. new_is a i)

    pub no_other : ((inst : Inst) → HasInSpan r p inst → ⊥) → IsTrue false ↔ HasInSpan r p (made_anew (out r) p.addr p.role p.inst)
    no_other none = (
      (λ is. absurd (let never : false ≡ true = is in cc)),
      λ has. absurd
          (none (made_anew (out r) p.addr p.role p.inst) has),
    )

    pub other_is : (f : Found) (inst : Inst) (b : Bool) → IsInSpan r p f → inst ≡ made_anew (new table) p.addr p.role p.inst →
        IsTrue b ↔ (f.inst ≡ inst) → IsTrue b ↔ HasInSpan r p (made_anew (out r) p.addr p.role p.inst)
    other_is f inst b is made test =
        let wanted : inst ≡ made_anew (out r) p.addr p.role p.inst = made ∙ made_same in (
          (λ yes_it. subst (HasInSpan r p) (test.0 yes_it ∙ wanted) is.has),
          (λ has. test.1 (sym (is.only (made_anew (out r) p.addr p.role p.inst) has) ∙ sym wanted)),
        )
