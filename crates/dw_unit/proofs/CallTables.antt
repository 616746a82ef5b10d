-- The ends of calls, with one more span.
use Rattle.std.proofs.Common.{◌≡◌, ◌≢◌, ◌<◌, ◌+◌, ◌%◌, ◌^◌, ◌++◌, ◌∙◌, ⊎_elim, ℕ, List, [], ◌∷◌, Bool, cond, Option, Some, None}
use Rattle.std.proofs.Common.{BTreeMap, true, inl, inr, nat_cmp, ap, sym, subst, arith}
use Rattle.std.specs.Prelude.{Contains, ◌⊎◌}
use Rattle.std.specs.BTreeMap.{get, is_at}
use Rattle.std.proofs.lemmas.Bool.{cases_eq}
use Rattle.std.proofs.lemmas.Grind.{common_steps}
use Rattle.std.proofs.lemmas.List.Elements.{Contains-push, Contains-append_left, Contains-push_cases}
use Rattle.rb_bytes.proofs.Tests.{at_key}
use Rattle.elf_image.specs.declared.elf.Elf.{Elf}
use Rattle.addr_map.specs.declared.span.Span.{Span}
use Rattle.dw_unit.specs.CallEnds.{AreCallEnds, HasCall}
use Rattle.dw_unit.specs.Tables.{IsCallEnd}
use Rattle.dw_unit.proofs.SpelledSteps.{keys_more}

at_same : (k : ℕ) → is_at (nat_cmp k) k ≡ true
at_same k = grind (arith, common_steps)

some_none : (x : ℕ) (o : Option ℕ) → o ≡ Some x → o ≡ None → ⊥
some_none x o e f = let g : Some x ≡ None = sym e ∙ f in absurd (cc)

module _ (elf : Elf) (spans : List Span) (x : Span) (ends : BTreeMap ℕ ℕ) (are : AreCallEnds elf spans ends) where
  longer : (from to : ℕ) → IsCallEnd elf spans from to → IsCallEnd elf (spans ++ x ∷ []) from to
  longer from to c = record {
    span = c.span;
    listed = Contains-append_left spans (x ∷ []) c.span c.listed;
    inst = c.inst;
    bytes = c.bytes;
    there = c.there;
    calls = c.calls;
    from_is = c.from_is;
    to_is = c.to_is;
  }

  shorter : (from to : ℕ) (c : IsCallEnd elf (spans ++ x ∷ []) from to) → IsCallEnd elf spans from to ⊎ (x ≡ c.span)
  shorter from to c = ⊎_elim
      (λ (here : Contains spans c.span). inl (record {
        span = c.span;
        listed = here;
        inst = c.inst;
        bytes = c.bytes;
        there = c.there;
        calls = c.calls;
        from_is = c.from_is;
        to_is = c.to_is;
      }))
      (λ (same : x ≡ c.span). inr same)
      (Contains-push_cases spans x c.span c.listed)

  -- No call is at the span's address.
  pub ends_same : ((n : ℕ) → HasCall elf x.input n → ⊥) → AreCallEnds elf (spans ++ x ∷ []) ends
  ends_same no_call = record {
    is = λ from to e. longer from to (are.is from to e);
    none = λ from to e c. ⊎_elim
        (λ (before : IsCallEnd elf spans from to). are.none from to e before)
        (λ (same : x ≡ c.span). no_call c.bytes (subst (λ (s : Span). HasCall elf s.input c.bytes) (sym same)
        (record { inst = c.inst; there = c.there; calls = c.calls })))
        (shorter from to c);
    below = are.below;
  }

  -- A call of `bytes` bytes is there.
  module _ (new : BTreeMap ℕ ℕ) (k v bytes : ℕ) (call : HasCall elf x.input bytes) (only : (n : ℕ) → HasCall elf x.input n → bytes ≡ n)
      (k_is : k ≡ x.input + bytes) (v_is : v ≡ (x.out + bytes) % 2 ^ 64) (small : v < 2 ^ 64)
      (updates : (q : ℕ) → get nat_cmp new q ≡ cond (is_at (nat_cmp k) q) (Some v) (get nat_cmp ends q)) where
    at_k : get nat_cmp new k ≡ Some v
    at_k = updates k ∙ ap (λ (b : Bool). cond b (Some v) (get nat_cmp ends k)) (at_same k)

    absent : (from : ℕ) → get nat_cmp new from ≡ None → get nat_cmp ends from ≡ None
    absent from e = ⊎_elim
        (λ (same : k ≡ from). absurd (some_none v (get nat_cmp new k) at_k (ap (get nat_cmp new) same ∙ e)))
        (λ (ne : k ≢ from). sym (updates from ∙ ap (λ (b : Bool). cond b (Some v) (get nat_cmp ends from)) (at_key k from ne)) ∙ e)
        (cases_eq k from)

    pub ends_more : AreCallEnds elf (spans ++ x ∷ []) new
    ends_more = record {
      is = keys_more (λ (from to : ℕ). IsCallEnd elf (spans ++ x ∷ []) from to) ends new k v
          (λ from to e. longer from to (are.is from to e))
          (record {
            span = x;
            listed = Contains-push spans x;
            inst = call.inst;
            bytes = bytes;
            there = call.there;
            calls = call.calls;
            from_is = k_is;
            to_is = v_is;
          }) updates;
      none = λ from to e c. ⊎_elim
          (λ (before : IsCallEnd elf spans from to). are.none from to (absent from e) before)
          (λ (same : x ≡ c.span).
          let there : HasCall elf x.input c.bytes = subst (λ (s : Span). HasCall elf s.input c.bytes) (sym same)
          (record { inst = c.inst; there = c.there; calls = c.calls }) in
          let size : bytes ≡ c.bytes = only c.bytes there in
          let from_is : from ≡ k = c.from_is ∙ ap (λ (s : Span). s.input + c.bytes) (sym same) ∙ ap (λ (n : ℕ). x.input + n) (sym size)
          ∙ sym k_is in
          some_none v (get nat_cmp new k) at_k (ap (get nat_cmp new) (sym from_is) ∙ e))
          (shorter from to c);
      below = keys_more (λ (from to : ℕ). to < 2 ^ 64) ends new k v are.below small updates;
    }
