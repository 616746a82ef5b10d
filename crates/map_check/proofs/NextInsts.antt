-- The instruction to which control goes after another one: it is found in the function or by the map.
use Rattle.std.proofs.Common.{◌≡◌, ◌<◌, ◌+◌, ◌∙◌, ℕ, suc, Bool, true, false, List, length, get_or, refl, ap, sym, subst, arith}
use Rattle.std.proofs.Common.{Option, Some, None, option_map, if◌then◌else◌, find, is_some}
use Rattle.std.specs.Prelude.{◌==◌}
use Rattle.std.specs.List.{Contains}
use Rattle.std.proofs.lemmas.Bool.{eqb-true}
use Rattle.std.proofs.lemmas.List.{get_or_default}
use Rattle.rv_code.specs.declared.placed.Placed.{Placed}
use Rattle.rv_code.specs.declared.placed.Func.{Func}
use Rattle.rv_code.specs.layout.Flow.{action_at, insts_of, is_call, placed_at}
use Rattle.rv_code.specs.layout.FunctionLists.{AreLaidOut}
use Rattle.rv_code.specs.layout.FunctionMembers.{IsInstPlace}
use Rattle.rv_code.specs.layout.ProgramCode.{is_code_address}
use Rattle.rv_code.specs.machine.Machine.{plus}
use Rattle.elf_image.specs.declared.elf.Elf.{Elf}
use Rattle.rb_bytes.proofs.Searches.{find-found}
use Rattle.addr_map.specs.declared.span.Span.{Span}
use Rattle.addr_map.specs.Spans.{is_of}
use Rattle.rv_code.specs.layout.Flow.{next_of}
use Rattle.sym_machine.specs.internal.FunctionOrder.{addr_at}
use Rattle.sym_machine.proofs.Functions.{searchable, next_of-found}
use Rattle.move_law.specs.Rewrite.{Rewrite}
use Rattle.move_law.specs.FaithfulRewrite.{IsMapOf, next}
use Rattle.map_check.specs.internal.InstRows.{IsChecked}
use Rattle.map_check.proofs.NamedSpans.{find_some, find_not_none}

module _ (r : Rewrite) (laid : AreLaidOut r.code.funcs) (func : Func) (here : Contains r.code.funcs func) (i : ℕ)
    (inside : i < length func.insts.items) (q : Placed) (is : q ≡ get_or func.insts.items i q) where
  func_is : (e : Func) → get_or r.code.funcs here.0 e ≡ func
  func_is e = get_or_default r.code.funcs here.0 e func here.1 ∙ here.2

  place : IsInstPlace r.code.funcs q.addr here.0 i
  place = record {
    func_within = here.1;
    inst_within = λ e. subst (λ (g : Func). i < length g.insts.items) (sym (func_is e)) inside;
    starts = λ e d. ap (λ (p : Placed). p.addr)
        (ap (λ (g : Func). get_or g.insts.items i d) (func_is e) ∙ get_or_default func.insts.items i d q inside ∙ sym is);
  }

  any_default : (d : Placed) → get_or func.insts.items i d ≡ q
  any_default d = get_or_default func.insts.items i d q inside ∙ sym is

  pub next_call : (d : Placed) → is_call (action_at q) ≡ true → next r (get_or func.insts.items i d) ≡ addr_at func.insts.items (i + 1)
  next_call d call =
      let one : suc i ≡ i + 1 = omega arith in
      ap (next r) (any_default d)
      ∙ ap (λ (t : Bool). if t then next_of r.code.funcs q.addr
      else option_map (λ (p : Placed). p.addr) (placed_at r.code.funcs (plus q.addr q.len))) call
      ∙ next_of-found r.code.funcs (searchable r.code.funcs laid) here.0 i q.addr place func
      ∙ ap (λ (g : Func). addr_at g.insts.items (suc i)) (func_is func)
      ∙ ap (addr_at func.insts.items) one

  module _ (output : Elf) (table : List Span) (ch : IsChecked r output table) (map : IsMapOf r) where
    other : (d : Placed) → is_call (action_at q) ≡ false →
        next r (get_or func.insts.items i d) ≡ option_map (λ (p : Placed). p.addr) (placed_at r.code.funcs (plus q.addr q.len))
    other d call =
        ap (next r) (any_default d)
        ∙ ap (λ (t : Bool). if t then next_of r.code.funcs q.addr
        else option_map (λ (p : Placed). p.addr) (placed_at r.code.funcs (plus q.addr q.len))) call

    there : (a : ℕ) (o : Option Placed) → placed_at r.code.funcs a ≡ o → is_some o ≡ true → option_map (λ (p : Placed). p.addr) o ≡ Some a
    there a None found some = absurd (let never : false ≡ true = some in cc)
    there a (Some p) found some =
        let f = find-found (λ (x : Placed). x.addr == a) (insts_of r.code.funcs) p found in ap Some (eqb-true p.addr a f.0)

    pub next_some : (d : Placed) (s : Span) → is_call (action_at q) ≡ false → Some s ≡ find (is_of (plus q.addr q.len)) table →
        next r (get_or func.insts.items i d) ≡ Some (plus q.addr q.len)
    next_some d s call found =
        let a = plus q.addr q.len in
        let f = find_some a r.spans s (ch.finds a ∙ sym found) in
        let code : is_code_address r.code.funcs a ≡ true =
        subst (λ (b : ℕ). is_code_address r.code.funcs b ≡ true) (ap (λ (t : Span). t.input) f.2 ∙ f.3) (map.only f.0 s f.1) in
        other d call ∙ there a (placed_at r.code.funcs a) refl code

    pub next_none : (d : Placed) → is_call (action_at q) ≡ false → None ≡ find (is_of (plus q.addr q.len)) table →
        next r (get_or func.insts.items i d) ≡ None
    next_none d call none = other d call ∙ by (placed_at r.code.funcs (plus q.addr q.len)) refl
      where
        by : (o : Option Placed) → placed_at r.code.funcs (plus q.addr q.len) ≡ o → option_map (λ (p : Placed). p.addr) o ≡ None
        by None found = refl
        by (Some p) found =
            let a = plus q.addr q.len in
            let any = map.each a (ap is_some found) in
            absurd (find_not_none a r.spans any.0 any.1 any.2 (ap (λ (t : Span). t.input) any.3 ∙ any.4) (ch.finds a ∙ sym none))
