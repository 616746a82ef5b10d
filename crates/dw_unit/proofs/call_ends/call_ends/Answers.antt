use Rattle.std.proofs.Common.{rules, ◌≡◌, ◌<◌, ◌+◌, ◌%◌, ◌^◌, ◌∙◌, ◌++◌, ◌∷◌, [], ℕ, List, Some, None, Option, All, BTreeMap, ap, arith}
use Rattle.std.proofs.Common.{refl, sym, subst, take}
use Rattle.std.specs.Prelude.{slice_get}
use Rattle.std.proofs.lemmas.List.{take_more}
use Rattle.std.proofs.lemmas.List.Elements.{All-push}
use Rattle.std.proofs.lemmas.Option.{get_or_from_slice_get, slice_get_within, same_Some}
use Rattle.addr_map.specs.declared.span.Span.{Span}
use Rattle.dw_unit.specs.CallEnds.{AreCallEnds}
use Rattle.dw_unit.proofs.CallTables.{ends_more, ends_same}
use Rattle.dw_unit.proofs.call_ends.call_ends.Goals as goal
use Rattle.dw_unit.proofs.call_ends.call_ends.Goals.{in-Some-call_at+in_ok-insert, in_default-call_at}

not_some : (n : ℕ) (o : Option ℕ) → o ≡ None → o ≡ Some n → ⊥
not_some n o e f = let g : None ≡ Some n = sym e ∙ f in absurd (cc)

pub spans-preserved : goal.spans-preserved
spans-preserved c =
    let spans : List Span = c.args.map.now in
    let i : ℕ = c.spans.index in
    let x : Span = c.in-Some.span in
    let there : slice_get spans i ≡ Some x = sym c.span.ensures ∙ c.in-Some.is in
    let taken : take (i + 1) spans ≡ take i spans ++ x ∷ [] =
    take_more spans i x (slice_get_within spans i x there) ∙ ap (λ (y : Span). take i spans ++ y ∷ [])
    (get_or_from_slice_get spans i x x there) in
    let small : x.out < 2 ^ 64 = search rules in
    record {
      ends = subst (λ (l : List Span). AreCallEnds c.args.elf.now l c.match-call_at.ends) (sym taken) (elim c.match-call_at.branch [
        | in-Some-call_at+in_ok-insert v ↦
            let bytes : ℕ = v.in-Some-call_at.bytes in
            subst (λ (m : BTreeMap ℕ ℕ). AreCallEnds c.args.elf.now (take i spans ++ x ∷ []) m) (sym v.ends-is)
            (ends_more c.args.elf.now (take i spans) x c.spans.ends c.spans.invariant.ends v.insert.new.self (x.input + bytes)
            ((x.out + bytes) % 2 ^ 64) bytes
            v.in-Some-call_at.ensures.there (λ n call. same_Some bytes n (sym v.in-Some-call_at.is ∙ c.call_at.ensures.only n call)) refl
            refl (omega arith)
            (λ q. v.in_ok-insert.ensures.updates.0 q))
        | in_default-call_at v ↦
            let none : c.call_at.result ≡ None = search rules in
            subst (λ (m : BTreeMap ℕ ℕ). AreCallEnds c.args.elf.now (take i spans ++ x ∷ []) m) (sym v.ends-is)
            (ends_same c.args.elf.now (take i spans) x c.spans.ends c.spans.invariant.ends
            (λ n call. not_some n c.call_at.result none (c.call_at.ensures.only n call)))
      ]);
      below = subst (λ (l : List Span). All (λ (s : Span). s.out < 2 ^ 64) l) (sym taken)
          (All-push (λ (s : Span). s.out < 2 ^ 64) (take i spans) x c.spans.invariant.below small);
    }
