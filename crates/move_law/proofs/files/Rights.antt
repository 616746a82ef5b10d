-- The output's program may use all that the input's program may use; and bytes that the output loads and that may not be written are
-- outside of what the input's program may write.
use Rattle.std.proofs.Common.{◌≡◌, ℕ, zero, ◌+◌, ◌-◌, ◌<◌, ◌≤◌, List, [], ◌∷◌, Option, Some, None, Bool, true, false, cond, refl}
use Rattle.std.proofs.Common.{sym, ap, ◌∙◌, arith, inl, inr, ◌⊎◌, max, min, map}
use Rattle.std.specs.Prelude.{if◌then◌else◌, ◌==◌, ◌&&◌, ◌||◌, nat_le, nat_lt, option_map}
use Rattle.std.specs.List.{Contains, filter, fold}
use Rattle.std.specs.Option.{option_map_or}
use Rattle.std.proofs.lemmas.Bool.{and_parts, and_from, eq-eqb, leb-true, ltb-true, le-leb, lt-ltb, cases_lt}
use Rattle.std.proofs.lemmas.Grind.{common_steps}
use Rattle.elf_image.specs.declared.segment.Segment.{Segment}
use Rattle.elf_image.specs.declared.segment.TheConstants.{PF_R, PF_W}
use Rattle.elf_image.specs.memory.Image.{is_load, has_memory, has_flag, end_of, loads_address, LoadOnce, segment_of}
use Rattle.elf_image.specs.memory.Image.{is_loaded_with, byte_of}
use Rattle.elf_image.specs.memory.Break.{page_size, rounded_down, rounded_up, writable_end, break_start, break_bound}
use Rattle.elf_image.specs.memory.Break.{break_room, pages_above}
use Rattle.rv_memory.specs.Start.{in_stack}
use Rattle.elf_image.proofs.LoadLemmas.{loads_last}
use Rattle.rb_bytes.proofs.Searches.{find-found}
use Rattle.rb_bytes.proofs.Members.{Contains-there, Contains-cons_cases}
use Rattle.move_law.specs.Rewrite.{Rewrite}
use Rattle.elf_image.specs.memory.Executables.{executable_read, memory_of}
use Rattle.move_law.specs.Laws.{KeepsCode}
use Rattle.move_law.proofs.files.Executables.{loaded_byte, byte_low, load_once, stack_high}
use Rattle.move_law.proofs.steps.Outcomes.{SameSpaces}

-- The break.

-- the greatest end is the end of some segment, or `from`
reached : (f : Segment → Bool) (from : ℕ) (segments : List Segment) →
    (fold max from (map end_of (filter f segments)) ≡ from)
    ⊎ ((q : Segment) × Contains segments q × (f q ≡ true) × (end_of q ≡ fold max from (map end_of (filter f segments))))
reached f from [] = inl refl
reached f from (p ∷ ps) = by (f p) refl (reached f (max from (end_of p)) ps) (reached f from ps)
  where
    greatest : ℕ → ℕ
    greatest n = fold max n (map end_of (filter f ps))

    End : ℕ → ℕ → Type 0
    End from m = (m ≡ from) ⊎ ((q : Segment) × Contains (p ∷ ps) q × (f q ≡ true) × (end_of q ≡ m))

    weaken : (from m : ℕ) → (m ≡ from) ⊎ ((q : Segment) × Contains ps q × (f q ≡ true) × (end_of q ≡ m)) → End from m
    weaken from m (inl e) = inl e
    weaken from m (inr (q, is_in, t, e)) = inr (q, Contains-there p ps q is_in, t, e)

    by : (b : Bool) → f p ≡ b →
        (greatest (max from (end_of p)) ≡ max from (end_of p))
        ⊎ ((q : Segment) × Contains ps q × (f q ≡ true) × (end_of q ≡ greatest (max from (end_of p)))) →
        (greatest from ≡ from) ⊎ ((q : Segment) × Contains ps q × (f q ≡ true) × (end_of q ≡ greatest from)) →
        End from (fold max from (map end_of (cond b (p ∷ filter f ps) (filter f ps))))
    by false e one two = weaken from (greatest from) two
    by true e one two = here one
      where
        here : (greatest (max from (end_of p)) ≡ max from (end_of p))
            ⊎ ((q : Segment) × Contains ps q × (f q ≡ true) × (end_of q ≡ greatest (max from (end_of p)))) →
            End from (greatest (max from (end_of p)))
        here (inr (q, is_in, t, k)) = inr (q, Contains-there p ps q is_in, t, k)
        here (inl k) = elim (cases_lt from (end_of p)) [
          | inl less ↦ inr (
            p,
            (zero, omega arith, refl),
            e,
            (let m : max from (end_of p) ≡ end_of p =
                omega (arith, less) in sym m ∙ sym k),
          )
          | inr more ↦ inl (let m : max from (end_of p) ≡ from = omega (arith, more) in k ∙ m)
        ]

-- the least page is at most `from`, and at most the page of each segment
least_from : (f : Segment → Bool) (h : Segment → ℕ) (from : ℕ) (segments : List Segment) →
    fold min from (map h (filter f segments)) ≤ from
least_from f h from [] = omega arith
least_from f h from (p ∷ ps) = grind (arith, common_steps, least_from f h (min from (h p)) ps, least_from f h from ps)

least : (f : Segment → Bool) (h : Segment → ℕ) (from : ℕ) (segments : List Segment) (q : Segment) → Contains segments q →
    f q ≡ true → fold min from (map h (filter f segments)) ≤ h q
least f h from [] q is_in t = let l = is_in.1 in absurd (omega (arith, l))
least f h from (p ∷ ps) q is_in t = by (f p) refl (Contains-cons_cases p ps q is_in) (λ n k. least f h n ps q k t)
  where
    by : (b : Bool) → f p ≡ b → (p ≡ q) ⊎ Contains ps q →
        ((n : ℕ) → Contains ps q → fold min n (map h (filter f ps)) ≤ h q) →
        fold min from (map h (cond b (p ∷ filter f ps) (filter f ps))) ≤ h q
    by false e (inl same) rest = absurd (let k : false ≡ true = sym e ∙ ap f same ∙ t in cc)
    by true e (inl same) rest =
        let l = least_from f h (min from (h p)) ps in
        let m : h p ≡ h q = ap h same in omega (arith, l, m)
    by false e (inr k) rest = rest from k
    by true e (inr k) rest = rest (min from (h p)) k

up : (w : ℕ) → w ≤ rounded_up page_size w
up w = omega arith

down : (w : ℕ) → rounded_down page_size w ≤ w
down w = omega arith

-- in the break's range no segment is loaded that may not be written
pub break_clear : (segments : List Segment) → LoadOnce segments → (a : ℕ) (p : Segment) → segment_of segments a ≡ Some p →
    has_flag PF_W p ≡ false → break_start segments ≤ a → a < break_bound segments → ⊥
break_clear segments once a p e fixed from to = by (writable_end segments == 0) refl to
  where
    w : ℕ
    w = writable_end segments

    pages : ℕ
    pages = fold min (break_start segments + break_room) (pages_above segments)

    found : (loads_address a p ≡ true) × Contains segments p
    found = find-found (loads_address a) segments p e

    loaded : ((is_load p && nat_le p.vaddr a) ≡ true) × (nat_lt a (end_of p) ≡ true)
    loaded = and_parts (is_load p && nat_le p.vaddr a) (nat_lt a (end_of p)) found.0

    starts : (is_load p ≡ true) × (nat_le p.vaddr a ≡ true)
    starts = and_parts (is_load p) (nat_le p.vaddr a) loaded.0

    low : p.vaddr ≤ a
    low = leb-true p.vaddr a starts.1

    high : a < end_of p
    high = ltb-true a (end_of p) loaded.1

    memory : has_memory p ≡ true
    memory = and_from (is_load p) (nat_lt 0 p.memsz) starts.0 (lt-ltb 0 p.memsz (omega (arith, low, high)))

    above : w ≤ p.vaddr → a < pages → ⊥
    above h k =
        let test : (has_memory p && nat_le (writable_end segments) p.vaddr) ≡ true =
        and_from (has_memory p) (nat_le w p.vaddr) memory (le-leb w p.vaddr h) in
        let l = least (λ p. has_memory p && nat_le (writable_end segments) p.vaddr) (λ p. rounded_down page_size p.vaddr)
        (break_start segments + break_room) segments p found.1 test in
        let d = down p.vaddr in
        omega (arith, l, d, low, k)

    below : (w ≡ 0 → ⊥) → p.vaddr < w → ⊥
    below n h = elim (reached (λ p. has_memory p && has_flag PF_W p) 0 segments) [
      | inl z ↦ n z
      | inr (q, is_in, t, end) ↦
          let parts = and_parts (has_memory q) (has_flag PF_W q) t in
          let u = up w in
          let last = loads_last q parts.0 in
          let there : nat_le p.vaddr (end_of q - 1) ≡ true = le-leb p.vaddr (end_of q - 1) (omega (arith, h, end)) in
          let before : nat_lt (end_of q - 1) (end_of p) ≡ true =
          lt-ltb (end_of q - 1) (end_of p) (omega (arith, u, end, from, high, h)) in
          let loads_p : loads_address (end_of q - 1) p ≡ true = and_from (is_load p && nat_le p.vaddr (end_of q - 1))
          (nat_lt (end_of q - 1) (end_of p)) (and_from (is_load p) (nat_le p.vaddr (end_of q - 1)) starts.0 there) before in
          let same : p ≡ q = once (end_of q - 1) p q found.1 is_in loads_p last in
          let writes : has_flag PF_W p ≡ true = ap (has_flag PF_W) same ∙ parts.1 in
          absurd (let k : false ≡ true = sym fixed ∙ writes in cc)
    ]

    by : (b : Bool) → (writable_end segments == 0) ≡ b → a < (if b then 0 else max (break_start segments) pages) → ⊥
    by true z k = omega (arith, k)
    by false z k = elim (cases_lt p.vaddr w) [
      | inl less ↦ below (λ e. absurd (let t : (writable_end segments == 0) ≡ true = eq-eqb (writable_end segments) 0 e in
          cc)) less
      | inr more ↦ above more (omega (arith, k, from))
    ]

pub spaces_same : (r : Rewrite) → KeepsCode r → SameSpaces r
spaces_same r keeps = record {
  reads = λ a e. by (is_loaded_with PF_R r.input.segments.items a) (is_loaded_with PF_R r.output.segments a) (in_stack a)
      (λ t. let l = loaded_byte (executable_read r.input) PF_R a t in let k = keeps.faithful.bytes a l.0 l.1 in
      sym (k.rights.reads) ∙ t) e;
  writes =
      λ a e. by (is_loaded_with PF_W r.input.segments.items a) (is_loaded_with PF_W r.output.segments a) (in_stack a)
      (λ t. let l = loaded_byte (executable_read r.input) PF_W a t in let k = keeps.faithful.bytes a l.0 l.1 in
      sym (k.rights.writes) ∙ t) e;
  break_start_is = keeps.faithful.layout.break_start_is;
  break_bound_is = keeps.faithful.layout.break_bound_is;
  fixed = λ a byte w e. (
    (λ writes. not_written a byte w e (is_loaded_with PF_W r.input.segments.items a) refl writes),
    (λ from to. clear a byte w e (segment_of r.output.segments a) refl from to),
  );
}
  where
    by : (x y z : Bool) → (x ≡ true → y ≡ true) → x || z ≡ true → y || z ≡ true
    by true y z f h = rw (f refl) refl
    by false true z f h = refl
    by false false z f h = h

    not_written : (a byte : ℕ) → is_loaded_with PF_W r.output.segments a ≡ false → memory_of r.output a ≡ Some byte →
        (t : Bool) → is_loaded_with PF_W r.input.segments.items a ≡ t → t || in_stack a ≡ true → ⊥
    not_written a byte w e true k h =
        let l = loaded_byte (executable_read r.input) PF_W a k in
        let rights = (keeps.faithful.bytes a l.0 l.1).rights.writes in
        absurd (let f : true ≡ false = sym k ∙ rights ∙ w in cc)
    not_written a byte w e false k h = stack_high a h (byte_low r.output keeps.output a byte e)

    clear : (a byte : ℕ) → is_loaded_with PF_W r.output.segments a ≡ false → memory_of r.output a ≡ Some byte →
        (o : Option Segment) → segment_of r.output.segments a ≡ o → break_start r.output.segments ≤ a →
        a < break_bound r.output.segments → ⊥
    clear a byte w e None k from to =
        absurd (let f : None ≡ Some byte = sym (ap (option_map (byte_of r.output.file a)) k) ∙ e in cc)
    clear a byte w e (Some p) k from to =
        break_clear r.output.segments (load_once r.output keeps.output) a p k
        (let f : option_map_or (has_flag PF_W) (Some p) false ≡ false =
        sym (ap (λ (o : Option Segment). option_map_or (has_flag PF_W) o false) k) ∙ w in f) from to
