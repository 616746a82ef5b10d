-- The break of a written file is the input's: its writable segments are those of the input, no other one starts elsewhere, and
-- a segment of the area's own is above all that the break reaches.
use Rattle.std.proofs.Common.{◌≡◌, ◌∙◌, sym, ap, subst, refl, ℕ, zero, suc, ◌+◌, ◌-◌, ◌/◌, ◌%◌, ◌≤◌, ◌<◌, ◌⊎◌, inl, inr, List, []}
use Rattle.std.proofs.Common.{◌∷◌, Bool, true, false, IsTrue, length, get_or, arith, min, max}
use Rattle.std.specs.Prelude.{map, filter, fold, ◌&&◌, ◌==◌, not, nat_le, nat_lt, if◌then◌else◌}
use Rattle.std.proofs.lemmas.Bool.{and_parts, eqb-true, lt-ltb, ltb-true}
use Rattle.std.proofs.lemmas.Nat.{div-add-mod', mod_below}
use Rattle.elf_image.specs.declared.segment.Segment.{Segment}
use Rattle.elf_image.specs.declared.segment.TheConstants.{PT_LOAD, PF_W}
use Rattle.elf_image.specs.memory.Image.{is_load, end_of, has_memory, has_flag}
use Rattle.elf_image.specs.memory.Break.{writable_end, break_start, break_bound, break_room, page_size, rounded_down, rounded_up}
use Rattle.elf_plan.specs.declared.area.Area.{Area}
use Rattle.elf_plan.specs.NewSegments.{IsRenewed, AreRenewed, AreNewHeaders, grows_at, inserted, area_segment}
use Rattle.file_room.specs.Room.{greatest_align, highest_end, break_end, new_segment_start}
use Rattle.elf_make.proofs.FileEnds.{max-from}
use Rattle.rb_bytes.proofs.Tests.{bool_same}

-- Values of the segments that pass a test.

-- of headers that pass it as others do, with the same values
values-kept : (test : Segment → Bool) (value : Segment → ℕ) (ps qs : List Segment) → length qs ≡ length ps →
    ((k : ℕ) (d : Segment) → k < length ps → test (get_or qs k d) ≡ test (get_or ps k d)) →
    ((k : ℕ) (d : Segment) → k < length ps → test (get_or ps k d) ≡ true → value (get_or qs k d) ≡ value (get_or ps k d)) →
    map value (filter test qs) ≡ map value (filter test ps)
values-kept test value [] [] count tests values = refl
values-kept test value [] (q ∷ qs) count tests values = absurd (omega arith)
values-kept test value (p ∷ ps) [] count tests values = absurd (omega arith)
values-kept test value (p ∷ ps) (q ∷ qs) count tests values =
    cases
    (values-kept test value ps qs (omega arith) (λ k d below. tests (suc k) d (omega arith))
    (λ k d below passes. values (suc k) d (omega arith) passes))
    (tests 0 p (omega arith)) (values 0 p (omega arith)) (test p) refl
  where
    cases : map value (filter test qs) ≡ map value (filter test ps) → test q ≡ test p → (test p ≡ true → value q ≡ value p) →
        (b : Bool) → test p ≡ b → map value (filter test (q ∷ qs)) ≡ map value (filter test (p ∷ ps))
    cases rest same value_is true e =
        let passes : test q ≡ true = same ∙ e in
        rw (passes, e) (ap (λ (v : ℕ). v ∷ map value (filter test qs)) (value_is e) ∙ ap (λ (vs : List ℕ). value p ∷ vs) rest)
    cases rest same value_is false e = let fails : test q ≡ false = same ∙ e in rw (fails, e) rest

-- with one more, which fails it
values-inserted : (test : Segment → Bool) (value : Segment → ℕ) (at : ℕ) (new : Segment) (xs : List Segment) → test new ≡ false →
    map value (filter test (inserted at new xs)) ≡ map value (filter test xs)
values-inserted test value zero new xs fails = rw fails refl
values-inserted test value (suc at) new [] fails = rw fails refl
values-inserted test value (suc at) new (x ∷ xs) fails = cases (values-inserted test value at new xs fails) (test x) refl
  where
    cases : map value (filter test (inserted at new xs)) ≡ map value (filter test xs) → (b : Bool) → test x ≡ b →
        map value (filter test (inserted (suc at) new (x ∷ xs))) ≡ map value (filter test (x ∷ xs))
    cases rest true e = rw e (ap (λ (vs : List ℕ). value x ∷ vs) rest)
    cases rest false e = rw e rest

-- the least of them, with one more whose value isn't below
least-more : (new : ℕ) (least : ℕ) (vs : List ℕ) → least ≤ new → fold min least (new ∷ vs) ≡ fold min least vs
least-more new least vs above = let e : min least new ≡ least = omega arith in ap (λ (m : ℕ). fold min m vs) e

least-inserted : (test : Segment → Bool) (value : Segment → ℕ) (at : ℕ) (new : Segment) (xs : List Segment) (least : ℕ) →
    least ≤ value new →
    fold min least (map value (filter test (inserted at new xs))) ≡ fold min least (map value (filter test xs))
least-inserted test value zero new xs least above = cases (test new) refl
  where
    cases : (b : Bool) → test new ≡ b →
        fold min least (map value (filter test (inserted zero new xs))) ≡ fold min least (map value (filter test xs))
    cases true e = rw e (least-more (value new) least (map value (filter test xs)) above)
    cases false e = rw e refl
least-inserted test value (suc at) new [] least above = cases (test new) refl
  where
    cases : (b : Bool) → test new ≡ b →
        fold min least (map value (filter test (inserted (suc at) new []))) ≡ fold min least (map value (filter test []))
    cases true e = rw e (least-more (value new) least [] above)
    cases false e = rw e refl
least-inserted test value (suc at) new (x ∷ xs) least above =
    cases (least-inserted test value at new xs least above)
    (least-inserted test value at new xs (min least (value x)) (omega arith)) (test x) refl
  where
    cases : fold min least (map value (filter test (inserted at new xs))) ≡ fold min least (map value (filter test xs)) →
        fold min (min least (value x)) (map value (filter test (inserted at new xs)))
        ≡ fold min (min least (value x)) (map value (filter test xs)) → (b : Bool) → test x ≡ b → fold min least
        (map value (filter test (inserted (suc at) new (x ∷ xs)))) ≡ fold min least (map value (filter test (x ∷ xs)))
    cases out within true e = rw e within
    cases out within false e = rw e out

-- Headers of the input and of the written file.

and-false : (b : Bool) → (b && false) ≡ false
and-false true = refl
and-false false = refl

abbrev is_written : Segment → Bool
is_written p = has_memory p && has_flag PF_W p

-- what may grow has memory and isn't written
pub record GrowsUnwritten (p : Segment) : Type 0 where
  pub some : 0 < p.memsz
  pub unwritten : has_flag PF_W p ≡ false

module _ (file_end step end : ℕ) (tight : Bool) (p q : Segment) where
  memory-more : (grown : Bool) → IsRenewed file_end step end tight grown p q → IsTrue (is_load p) → p.memsz ≤ q.memsz
  memory-more grown renewed load = cases (renewed.load load).sizes
    where
      cases : ((q.filesz ≡ p.filesz) × (q.memsz ≡ p.memsz))
          ⊎ ((p.memsz ≡ p.filesz) × (p.filesz ≤ q.filesz) × (q.memsz ≡ q.filesz)) → p.memsz ≤ q.memsz
      cases (inl same) = let e : q.memsz ≡ p.memsz = same.1 in omega arith
      cases (inr more) = let e = more.0 in let f = more.1 in let g = more.2 in omega arith

  memory-from : (grown : Bool) → IsRenewed file_end step end tight grown p q → (grown ≡ true → GrowsUnwritten p) →
      IsTrue (is_load p) → 0 < q.memsz → 0 < p.memsz
  memory-from true renewed grows load some = (grows refl).some
  memory-from false renewed grows load some = let e : q.memsz ≡ p.memsz = renewed.same load refl in omega arith

  load-same : (grown : Bool) → IsRenewed file_end step end tight grown p q → is_load q ≡ is_load p
  load-same grown renewed = ap (λ (k : ℕ). k == PT_LOAD) renewed.kind

  has_memory-same : (grown : Bool) → IsRenewed file_end step end tight grown p q → (grown ≡ true → GrowsUnwritten p) →
      has_memory q ≡ has_memory p
  has_memory-same grown renewed grows = cases (is_load p) refl
    where
      cases : (b : Bool) → is_load p ≡ b → has_memory q ≡ has_memory p
      cases true e =
          let same : is_load q ≡ true = load-same grown renewed ∙ e in
          let sizes : nat_lt 0 q.memsz ≡ nat_lt 0 p.memsz =
          bool_same (nat_lt 0 q.memsz) (nat_lt 0 p.memsz)
          (λ some. lt-ltb 0 p.memsz (memory-from grown renewed grows e (ltb-true 0 q.memsz some)))
          (λ some.
          let low : 0 < p.memsz = ltb-true 0 p.memsz some in
          let more = memory-more grown renewed e in
          lt-ltb 0 q.memsz (omega arith)) in
          rw (same, e) sizes
      cases false e = let same : is_load q ≡ false = load-same grown renewed ∙ e in rw (same, e) refl

  flag-same : (grown : Bool) (flag : ℕ) → IsRenewed file_end step end tight grown p q → has_flag flag q ≡ has_flag flag p
  flag-same grown flag renewed = ap (λ (f : ℕ). f / flag % 2 == 1) renewed.flags

  is_written-same : (grown : Bool) → IsRenewed file_end step end tight grown p q → (grown ≡ true → GrowsUnwritten p) →
      is_written q ≡ is_written p
  is_written-same grown renewed grows =
      ap (λ (b : Bool). b && has_flag PF_W q) (has_memory-same grown renewed grows)
      ∙ ap (λ (b : Bool). has_memory p && b) (flag-same grown PF_W renewed)

  vaddr-same : (grown : Bool) → IsRenewed file_end step end tight grown p q → has_memory p ≡ true → q.vaddr ≡ p.vaddr
  vaddr-same grown renewed memory = (renewed.load (and_parts (is_load p) (nat_lt 0 p.memsz) memory).0).vaddr

  end-same : (grown : Bool) → IsRenewed file_end step end tight grown p q → (grown ≡ true → GrowsUnwritten p) →
      is_written p ≡ true → end_of q ≡ end_of p
  end-same true renewed grows written =
      let fails : is_written p ≡ false = ap (λ (b : Bool). has_memory p && b) (grows refl).unwritten ∙ and-false (has_memory p) in
      let both : true ≡ false = sym written ∙ fails in
      absurd (cc)
  end-same false renewed grows written =
      let memory : has_memory p ≡ true = (and_parts (has_memory p) (has_flag PF_W p) written).0 in
      let load : IsTrue (is_load p) = (and_parts (is_load p) (nat_lt 0 p.memsz) memory).0 in
      let from : q.vaddr ≡ p.vaddr = (renewed.load load).vaddr in
      let size : q.memsz ≡ p.memsz = renewed.same load refl in
      omega (arith, from, size)

-- The break, by lists of headers.

abbrev page_of : Segment → ℕ
page_of p = rounded_down page_size p.vaddr

abbrev is_above : ℕ → Segment → Bool
is_above end p = has_memory p && nat_le end p.vaddr

abbrev bound_of : ℕ → ℕ → ℕ
bound_of end lowest = if end == 0 then 0 else max (rounded_up page_size end) lowest

abbrev room_of : ℕ → ℕ
room_of end = rounded_up page_size end + break_room

module _ (file_end step end : ℕ) (tight : Bool) (grows : ℕ → Bool) (ps qs : List Segment)
    (are : AreRenewed file_end step end tight grows ps qs)
    (unwritten : (k : ℕ) (d : Segment) → k < length ps → grows k ≡ true → GrowsUnwritten (get_or ps k d)) where
  pub writable_end-renewed : writable_end qs ≡ writable_end ps
  writable_end-renewed =
      ap (λ (vs : List ℕ). fold max 0 vs)
      (values-kept is_written end_of ps qs are.count
      (λ k d below. is_written-same file_end step end tight (get_or ps k d) (get_or qs k d) (grows k)
      (are.each k d d below) (unwritten k d below))
      (λ k d below written. end-same file_end step end tight (get_or ps k d) (get_or qs k d) (grows k) (are.each k d d below)
      (unwritten k d below) written))

  pub pages-renewed : (low : ℕ) → map page_of (filter (is_above low) qs) ≡ map page_of (filter (is_above low) ps)
  pages-renewed low =
      values-kept (is_above low) page_of ps qs are.count
      (λ k d below. above k d below)
      (λ k d below passes.
      ap (λ (v : ℕ). rounded_down page_size v)
      (vaddr-same file_end step end tight (get_or ps k d) (get_or qs k d) (grows k) (are.each k d d below)
      (and_parts (has_memory (get_or ps k d)) (nat_le low (get_or ps k d).vaddr) passes).0))
    where
      above : (k : ℕ) (d : Segment) → k < length ps → is_above low (get_or qs k d) ≡ is_above low (get_or ps k d)
      above k d below = cases (has_memory (get_or ps k d)) refl
        where
          memory : has_memory (get_or qs k d) ≡ has_memory (get_or ps k d)
          memory = has_memory-same file_end step end tight (get_or ps k d) (get_or qs k d) (grows k)
              (are.each k d d below) (unwritten k d below)

          cases : (b : Bool) → has_memory (get_or ps k d) ≡ b → is_above low (get_or qs k d) ≡ is_above low (get_or ps k d)
          cases true e =
              ap (λ (b : Bool). b && nat_le low (get_or qs k d).vaddr) memory
              ∙ ap (λ (v : ℕ). has_memory (get_or ps k d) && nat_le low v)
              (vaddr-same file_end step end tight (get_or ps k d) (get_or qs k d) (grows k) (are.each k d d below) e)
          cases false e = let other : has_memory (get_or qs k d) ≡ false = memory ∙ e in rw (other, e) refl

-- The break's bound, where the highest writable segment ends there.
abbrev bound_by : ℕ → List Segment → ℕ
bound_by end segments =
    if end == 0 then 0 else max (rounded_up page_size end) (fold min (room_of end) (map page_of (filter (is_above end) segments)))

abbrev pub KeepsBreak : List Segment → List Segment → Type 0
KeepsBreak ps qs = (break_start ps ≡ break_start qs) × (break_bound ps ≡ break_bound qs)

keeps-break : (ps qs : List Segment) → writable_end qs ≡ writable_end ps →
    bound_by (writable_end ps) qs ≡ bound_by (writable_end ps) ps → KeepsBreak ps qs
keeps-break ps qs end bound = (
  ap (λ (e : ℕ). rounded_up page_size e) (sym end),
  sym (ap (λ (e : ℕ). bound_by e qs) end ∙ bound),
)

-- A new segment that isn't written and is above.

pub rounded_up-above : (unit n : ℕ) → 0 < unit → n ≤ rounded_up unit n
rounded_up-above unit n some = above (rounded_up unit n) ((n + (unit - 1)) % unit) (div-add-mod' (n + (unit - 1)) unit)
    (mod_below (n + (unit - 1)) unit some)
  where
    above : (m rest : ℕ) → m + rest ≡ n + (unit - 1) → rest < unit → n ≤ m
    above m rest sum small = omega arith

pub align-above : (ps : List Segment) → page_size ≤ greatest_align ps
align-above ps = max-from (map (λ p. p.align) (filter is_load ps)) page_size

on-page : (end v : ℕ) → room_of end ≤ v → room_of end ≤ rounded_down page_size v
on-page end v above = omega arith

above-break : (ps : List Segment) → (writable_end ps == 0) ≡ false → room_of (writable_end ps) ≤ new_segment_start ps
above-break ps some = from_end (max (highest_end ps) (break_end ps)) (omega (arith, here))
    (rounded_up-above (greatest_align ps) (max (highest_end ps) (break_end ps)) (omega (arith, unit)))
  where
    unit : page_size ≤ greatest_align ps
    unit = align-above ps

    here : break_end ps ≡ room_of (writable_end ps)
    here = rw some refl

    from_end : (n : ℕ) → room_of (writable_end ps) ≤ n → n ≤ rounded_up (greatest_align ps) n →
        room_of (writable_end ps) ≤ rounded_up (greatest_align ps) n
    from_end n low high = omega arith

bound-inserted : (ps qs : List Segment) (at : ℕ) (new : Segment) → new.vaddr ≡ new_segment_start ps →
    bound_by (writable_end ps) qs ≡ bound_by (writable_end ps) ps →
    bound_by (writable_end ps) (inserted at new qs) ≡ bound_by (writable_end ps) ps
bound-inserted ps qs at new address same = cases (writable_end ps == 0) refl
  where
    cases : (b : Bool) → (writable_end ps == 0) ≡ b →
        bound_by (writable_end ps) (inserted at new qs) ≡ bound_by (writable_end ps) ps
    cases true e = rw e refl
    cases false e =
        let above : room_of (writable_end ps) ≤ new.vaddr =
        subst (λ (v : ℕ). room_of (writable_end ps) ≤ v) (sym address) (above-break ps e) in
        let pages = least-inserted (is_above (writable_end ps)) page_of at new qs (room_of (writable_end ps))
        (on-page (writable_end ps) new.vaddr above) in
        ap (λ (lowest : ℕ). bound_of (writable_end ps) lowest) pages ∙ same

-- The headers of a written file.
pub break-kept : (file_end step : ℕ) (area : Area) (code : ℕ) (ps qs : List Segment) →
    AreNewHeaders file_end step area code ps qs →
    (area.tight ≡ false → (d : Segment) → code < length ps → GrowsUnwritten (get_or ps code d)) →
    (area.tight ≡ true → area.address ≡ new_segment_start ps) → KeepsBreak ps qs
break-kept file_end step area code ps qs new unwritten address = cases area.tight refl
  where
    grows : (k : ℕ) (d : Segment) → k < length ps → grows_at area.tight code k ≡ true → GrowsUnwritten (get_or ps k d)
    grows k d below e =
        let parts = and_parts (not area.tight) (k == code) e in
        let at : k ≡ code = eqb-true k code parts.1 in
        subst (λ (j : ℕ). GrowsUnwritten (get_or ps j d)) (sym at)
        (unwritten (not-true area.tight parts.0) d (subst (λ (j : ℕ). j < length ps) at below))
      where
        not-true : (b : Bool) → not b ≡ true → b ≡ false
        not-true true f = absurd (cc)
        not-true false f = refl

    end_is : writable_end new.renewed ≡ writable_end ps
    end_is = writable_end-renewed file_end step area.end area.tight (grows_at area.tight code) ps new.renewed new.are grows

    bound_is : bound_by (writable_end ps) new.renewed ≡ bound_by (writable_end ps) ps
    bound_is =
        ap (λ (pages : List ℕ). bound_of (writable_end ps) (fold min (room_of (writable_end ps)) pages))
        (pages-renewed file_end step area.end area.tight
        (grows_at area.tight code) ps new.renewed new.are grows (writable_end ps))

    own : Segment
    own = area_segment area (greatest_align ps)

    cases : (b : Bool) → area.tight ≡ b → KeepsBreak ps qs
    cases false e = subst (KeepsBreak ps) (sym (new.kept e)) (keeps-break ps new.renewed end_is bound_is)
    cases true e =
        let end : writable_end (inserted new.at own new.renewed) ≡ writable_end ps =
        ap (λ (vs : List ℕ). fold max 0 vs)
        (values-inserted is_written end_of new.at own new.renewed (and-false (has_memory own))) ∙ end_is in
        subst (KeepsBreak ps) (sym (new.more e))
        (keeps-break ps (inserted new.at own new.renewed) end (bound-inserted ps new.renewed new.at own (address e) bound_is))
