-- The weights of blocks, with one more pair at a time.
use Rattle.std.proofs.Common.{◌≡◌, ◌≢◌, ◌<◌, ◌≤◌, ◌+◌, ◌-◌, ◌*◌, ◌∙◌, ◌⊎◌, ℕ, Bool, true, false, List, [], length, get_or, take}
use Rattle.std.proofs.Common.{drop, map, arith, refl, ap, sym, subst, inl, inr, ⊎_elim, AllPairs}
use Rattle.std.specs.Prelude.{◌==◌, ◌&&◌, nat_le, if◌then◌else◌, slice_index, sum, Option}
use Rattle.std.specs.List.{list_any}
use Rattle.std.specs.List.Sorted.{IsPartitionedBy}
use Rattle.std.specs.Option.{option_map_or}
use Rattle.std.proofs.lemmas.Bool.{eq-eqb, ne_eqb, lt-ltb, le-ltb, le-leb, lt-leb, leb-true, cases_lt, cases_eq}
use Rattle.std.proofs.lemmas.List.{get_or_default, get_or-take, get_or-drop, length-take, length-drop, same_lists, get_or-map, length-map}
use Rattle.std.proofs.lemmas.List.Folds.{list_any_none, list_any_at}
use Rattle.std.proofs.lemmas.List.Sums.{sum_by_more}
use Rattle.std.proofs.lemmas.Option.{slice_get-get_or, slice_get_past}
use Rattle.rv_code.specs.declared.placed.Placed.{Placed}
use Rattle.rv_code.specs.declared.placed.Func.{Func}
use Rattle.rv_code.specs.declared.placed.Block.{Block}
use Rattle.rv_code.specs.layout.FunctionLists.{AreLaidOut}
use Rattle.rv_code.specs.layout.ProgramCode.{is_code_address}
use Rattle.edge_profile.specs.PairCounts.{Counted, total_count}
use Rattle.rv_code.specs.layout.FunctionMembers.{IsInstPlace}
use Rattle.edge_profile.specs.Weights.{block_weight, insts_of_block, touches, starts_at}
use Rattle.edge_profile.specs.BlockPlaces.{IsApart, AreBlocksApart, begins_by, ends_from, has_inst}
use Rattle.rv_code.proofs.lists.Follows.{insts_rise, inst_bounds}
use Rattle.edge_profile.proofs.LaidOut.{starts_below, starts_above, code_address-list_any}
use Rattle.rb_bytes.proofs.ListLemmas.{any_element}

-- Blocks that contain the instruction at an address.

-- some of a function's instructions
part : List Placed → ℕ → ℕ → List Placed
part insts first last = take (last + 1 - first) (drop first insts)

at_part : (insts : List Placed) (first last k : ℕ) (d : Placed) → k < length (part insts first last) →
    get_or (part insts first last) k d ≡ get_or insts (first + k) d
unfolding part
at_part insts first last k d within =
    let short : k < last + 1 - first = omega (arith, within, length-take (last + 1 - first) (drop first insts)) in
    get_or-take (last + 1 - first) (drop first insts) k d short ∙ get_or-drop first insts k d

length-part : (insts : List Placed) (first last k : ℕ) → first ≤ k → k ≤ last → k < length insts →
    k - first < length (part insts first last)
unfolding part
length-part insts first last k from to within =
    omega (arith, length-take (last + 1 - first) (drop first insts), length-drop first insts)

inside_part : (insts : List Placed) (first last k : ℕ) → k < length (part insts first last) → first + k ≤ last
unfolding part
inside_part insts first last k within = omega (arith, length-take (last + 1 - first) (drop first insts), within)

part_within : (insts : List Placed) (first last k : ℕ) → k < length (part insts first last) → first + k < length insts
unfolding part
part_within insts first last k within =
    omega (arith, length-take (last + 1 - first) (drop first insts), length-drop first insts, within)

-- whether an instruction of an ascending list is in a part, by its index
part_has : (insts : List Placed) → AllPairs (λ p q. p.addr < q.addr) insts → (a i : ℕ) (d : Placed) → i < length insts
    → (get_or insts i d).addr ≡ a
    → (first last : ℕ) → list_any (λ p. p.addr == a) (part insts first last) ≡ (nat_le first i && nat_le i last)
part_has insts rising a i d within is first last = ⊎_elim
    (λ (before : i < first).
    outside (λ k inside e. omega (arith, before, e)) ∙ sym (ap (λ b. b && nat_le i last) (lt-leb first i before)))
    (λ (from : first ≤ i). ⊎_elim
    (λ (past : last < i).
    outside (λ k inside e. let low = inside_part insts first last k inside in omega (arith, past, e, low))
    ∙ sym (ap (λ b. b && nat_le i last) (le-leb first i from) ∙ lt-leb i last past))
    (λ (to : i ≤ last).
    let there = length-part insts first last i from to within in
    let place : first + (i - first) ≡ i = omega arith in
    let item : get_or (part insts first last) (i - first) d ≡ get_or insts i d =
    at_part insts first last (i - first) d there ∙ ap (λ (j : ℕ). get_or insts j d) place in
    list_any_at (λ p. p.addr == a) (part insts first last) (i - first) d there
    (eq-eqb (get_or (part insts first last) (i - first) d).addr a (ap (λ (p : Placed). p.addr) item ∙ is))
    ∙ sym (ap (λ b. b && nat_le i last) (le-leb first i from) ∙ le-leb i last to))
    (cases_lt last i))
    (cases_lt i first)
  where
    outside : ((k : ℕ) → k < length (part insts first last) → first + k ≡ i → ⊥) →
        list_any (λ p. p.addr == a) (part insts first last) ≡ false
    outside other = list_any_none (λ p. p.addr == a) (part insts first last)
        (λ k e inside. ne_eqb (get_or (part insts first last) k e).addr a
        (λ same.
        let addr : (get_or insts (first + k) e).addr ≡ a =
        sym (ap (λ (p : Placed). p.addr) (at_part insts first last k e inside)) ∙ same in
        let far = part_within insts first last k inside in
        let own : (get_or insts i e).addr ≡ a = ap (λ (p : Placed). p.addr) (get_or_default insts i e d within) ∙ is in
        ⊎_elim
        (λ (less : first + k < i).
        let up : (get_or insts (first + k) e).addr < (get_or insts i e).addr = rising (first + k) i e less within in omega arith)
        (λ (more : i ≤ first + k). ⊎_elim
        (λ (above : i < first + k).
        let up : (get_or insts i e).addr < (get_or insts (first + k) e).addr = rising i (first + k) e above far in omega arith)
        (λ (not' : first + k ≤ i). other k inside (omega arith))
        (cases_lt i (first + k)))
        (cases_lt (first + k) i)))

-- if no instruction starts at an address, none of a part does
part_none : (insts : List Placed) (a first last : ℕ) → starts_at insts a ≡ false →
    list_any (λ p. p.addr == a) (part insts first last) ≡ false
part_none insts a first last none = list_any_none (λ p. p.addr == a) (part insts first last)
    (λ k d inside. ne_eqb (get_or (part insts first last) k d).addr a
    (λ same.
    let addr : (get_or insts (first + k) d).addr ≡ a =
    sym (ap (λ (p : Placed). p.addr) (at_part insts first last k d inside)) ∙ same in
    let some = list_any_at (λ p. p.addr == a) insts (first + k) d (part_within insts first last k inside)
    (eq-eqb (get_or insts (first + k) d).addr a addr) in
    absurd (cc)))

module _ (funcs : List Func) where
  insts_of : Block → Option Func → List Placed
  insts_of b found = option_map_or (λ func. take (b.last + 1 - b.first) (drop b.first func.insts.items)) found []

  block_past : (b : Block) (a : ℕ) → length funcs ≤ b.func → starts_at (insts_of_block funcs b) a ≡ false
  unfolding insts_of
  block_past b a past = ap (λ found. starts_at (insts_of b found) a) (slice_get_past funcs b.func past)

  block_in : (b : Block) (a : ℕ) (d : Func) → b.func < length funcs
      → starts_at (insts_of_block funcs b) a
      ≡ list_any (λ p. p.addr == a) (part (get_or funcs b.func d).insts.items b.first b.last)
  unfolding insts_of part
  block_in b a d within = ap (λ found. starts_at (insts_of b found) a) (slice_get-get_or funcs b.func d within)

  pub holder_none : (a : ℕ) → is_code_address funcs a ≡ false → (b : Block) → starts_at (insts_of_block funcs b) a ≡ false
  holder_none a none b = ⊎_elim
      (λ (within : b.func < length funcs).
      let d = any_element funcs b.func within in
      block_in b a d within ∙ part_none (get_or funcs b.func d).insts.items a b.first b.last
      (no_start b.func d within (starts_at (get_or funcs b.func d).insts.items a) refl))
      (λ (past : length funcs ≤ b.func). block_past b a past)
      (cases_lt b.func (length funcs))
    where
      no_start : (k : ℕ) (d : Func) → k < length funcs → (t : Bool) → starts_at (get_or funcs k d).insts.items a ≡ t →
          starts_at (get_or funcs k d).insts.items a ≡ false
      no_start k d within false is = is
      no_start k d within true is =
          let some = list_any_at (λ f. starts_at f.insts.items a) funcs k d within is in
          let same = code_address-list_any funcs a in
          absurd (cc)

  pub holder_of_place : AreLaidOut funcs → (a f i : ℕ) → IsInstPlace funcs a f i → (b : Block) →
      starts_at (insts_of_block funcs b) a ≡ has_inst f i b
  holder_of_place laid a f i is b = ⊎_elim
      (λ (same : b.func ≡ f).
      let within : b.func < length funcs = let h = is.func_within in omega arith in
      let d = any_element funcs b.func within in
      let g = get_or funcs b.func d in
      let at_f : get_or funcs f d ≡ g = ap (λ (k : ℕ). get_or funcs k d) (sym same) in
      let there : i < length g.insts.items = subst (λ (h : Func). i < length h.insts.items) at_f (is.inst_within d) in
      let e = any_element g.insts.items i there in
      let addr : (get_or g.insts.items i e).addr ≡ a =
      subst (λ (h : Func). (get_or h.insts.items i e).addr ≡ a) at_f (is.starts d e) in
      block_in b a d within ∙ part_has g.insts.items (insts_rise g (laid.each b.func d within)) a i e there addr b.first b.last
      ∙ sym (ap (λ t. t && nat_le b.first i && nat_le i b.last) (eq-eqb b.func f same)))
      (λ (other : b.func ≢ f). ⊎_elim
      (λ (within : b.func < length funcs).
      let d = any_element funcs b.func within in
      block_in b a d within ∙ part_none (get_or funcs b.func d).insts.items a b.first b.last (elsewhere b.func d within other)
      ∙ sym (ap (λ t. t && nat_le b.first i && nat_le i b.last) (ne_eqb b.func f other)))
      (λ (past : length funcs ≤ b.func).
      block_past b a past ∙ sym (ap (λ t. t && nat_le b.first i && nat_le i b.last) (ne_eqb b.func f other)))
      (cases_lt b.func (length funcs)))
      (cases_eq b.func f)
    where
      elsewhere : (k : ℕ) (d : Func) → k < length funcs → k ≢ f → starts_at (get_or funcs k d).insts.items a ≡ false
      elsewhere k d within other =
          let g = get_or funcs f d in
          let e = any_element g.insts.items i (is.inst_within d) in
          let bounds = inst_bounds g (laid.each f d is.func_within) i e (is.inst_within d) in
          let addr = is.starts d e in
          ⊎_elim
          (λ (less : k < f).
          let apart : (get_or funcs k d).end ≤ g.start = laid.apart k f d less is.func_within in
          starts_above (get_or funcs k d) (laid.each k d within) a (omega (arith, apart, bounds.0, addr)))
          (λ (more : f ≤ k).
          let apart : g.end ≤ (get_or funcs k d).start = laid.apart f k d (omega arith) within in
          starts_below (get_or funcs k d) (laid.each k d within) a (omega (arith, apart, bounds.1, addr)))
          (cases_lt k f)

-- Tests of a block.

no_inst : (f i : ℕ) (b : Block) → (b.func ≡ f → b.first ≤ i → i ≤ b.last → ⊥) → has_inst f i b ≡ false
no_inst f i b none = ⊎_elim
    (λ (same : b.func ≡ f). ⊎_elim
    (λ (before : i < b.first). rw (eq-eqb b.func f same, lt-leb b.first i before) refl)
    (λ (from : b.first ≤ i). ⊎_elim
    (λ (past : b.last < i). rw (eq-eqb b.func f same, le-leb b.first i from, lt-leb i b.last past) refl)
    (λ (to : i ≤ b.last). absurd (none same from to))
    (cases_lt b.last i))
    (cases_lt i b.first))
    (λ (other : b.func ≢ f). rw (ne_eqb b.func f other) refl)
    (cases_eq b.func f)

inst : (f i : ℕ) (b : Block) → b.func ≡ f → b.first ≤ i → i ≤ b.last → has_inst f i b ≡ true
inst f i b same from to = rw (eq-eqb b.func f same, le-leb b.first i from, le-leb i b.last to) refl

begins : (f i : ℕ) (b : Block) → begins_by f i b ≡ true → (b.func < f) ⊎ ((b.func ≡ f) × (b.first ≤ i))
begins f i b is = ⊎_elim
    (λ (less : b.func < f). inl less)
    (λ (more : f ≤ b.func). ⊎_elim
    (λ (same : b.func ≡ f). inr (same, leb-true b.first i (sym (rw (le-ltb b.func f more, eq-eqb b.func f same) refl) ∙ is)))
    (λ (other : b.func ≢ f).
    let none : begins_by f i b ≡ false = rw (le-ltb b.func f more, ne_eqb b.func f other) refl in absurd (cc))
    (cases_eq b.func f))
    (cases_lt b.func f)

begins_test : (f i : ℕ) (b : Block) → (b.func < f) ⊎ ((b.func ≡ f) × (b.first ≤ i)) → begins_by f i b ≡ true
begins_test f i b (inl less) = rw (lt-ltb b.func f less) refl
begins_test f i b (inr (same, from)) = rw (le-ltb b.func f (omega arith), eq-eqb b.func f same, le-leb b.first i from) refl

ends : (f i : ℕ) (b : Block) → ends_from f i b ≡ true → (b.func ≡ f) × (i ≤ b.last)
ends f i b is = ⊎_elim
    (λ (same : b.func ≡ f). (same, leb-true i b.last (sym (rw (eq-eqb b.func f same) refl) ∙ is)))
    (λ (other : b.func ≢ f). let none : ends_from f i b ≡ false = rw (ne_eqb b.func f other) refl in absurd (cc))
    (cases_eq b.func f)

ends_test : (f i : ℕ) (b : Block) → b.func ≡ f → i ≤ b.last → ends_from f i b ≡ true
ends_test f i b same to = rw (eq-eqb b.func f same, le-leb i b.last to) refl

module _ (blocks : List Block) (apart : AreBlocksApart blocks) (f i : ℕ) where
  pub partitioned_blocks : IsPartitionedBy (begins_by f i) blocks
  partitioned_blocks j k d le within is = ⊎_elim
      (λ (less : j < k).
      begins_test f i (get_or blocks j d)
      (earlier (get_or blocks j d) (get_or blocks k d) (apart.some j d (omega arith)) (apart.some k d within)
      (apart.ordered j k d less within) (begins f i (get_or blocks k d) is)))
      (λ (more : k ≤ j). let same : k ≡ j = omega arith in subst (λ (m : ℕ). begins_by f i (get_or blocks m d) ≡ true) same is)
      (cases_lt j k)
    where
      earlier : (b c : Block) → b.first ≤ b.last → c.first ≤ c.last → IsApart b c →
          (c.func < f) ⊎ ((c.func ≡ f) × (c.first ≤ i)) → (b.func < f) ⊎ ((b.func ≡ f) × (b.first ≤ i))
      earlier b c some more (inl less) (inl low) = inl (omega arith)
      earlier b c some more (inl less) (inr (same, from)) = inl (omega arith)
      earlier b c some more (inr (own, less)) (inl low) = inl (omega arith)
      earlier b c some more (inr (own, less)) (inr (same, from)) = inr (own ∙ same, omega arith)

  module _ (below : ℕ) (bound : below ≤ length blocks)
      (low : (k : ℕ) (d : Block) → k < below → begins_by f i (get_or blocks k d) ≡ true)
      (high : (k : ℕ) (d : Block) → below ≤ k → k < length blocks → begins_by f i (get_or blocks k d) ≡ false) where
    above_none : (k : ℕ) (d : Block) → below ≤ k → k < length blocks → has_inst f i (get_or blocks k d) ≡ false
    above_none k d from within =
        no_inst f i (get_or blocks k d)
        (λ same first last.
        let yes' = begins_test f i (get_or blocks k d) (inr (same, first)) in
        let not' = high k d from within in
        absurd (cc))

    pub block_at_last : (x : Block) → 0 < below → ends_from f i (get_or blocks (below - 1) x) ≡ true
        → (k : ℕ) (d : Block) → k < length blocks → has_inst f i (get_or blocks k d) ≡ (k == (below - 1))
    block_at_last x some is k d within = ⊎_elim
        (λ (same : k ≡ below - 1).
        let item : get_or blocks (below - 1) x ≡ get_or blocks k d =
        ap (λ (j : ℕ). get_or blocks j x) (sym same) ∙ get_or_default blocks k x d within in
        let last = ends f i (get_or blocks k d) (subst (λ (b : Block). ends_from f i b ≡ true) item is) in
        let first = begins_here (get_or blocks k d) last.0 (begins f i (get_or blocks k d) (low k d (omega arith))) in
        inst f i (get_or blocks k d) last.0 first last.1 ∙ sym (eq-eqb k (below - 1) same))
        (λ (other : k ≢ below - 1).
        none_else k d within other ∙ sym (ne_eqb k (below - 1) other))
        (cases_eq k (below - 1))
      where
        begins_here : (b : Block) → b.func ≡ f → (b.func < f) ⊎ ((b.func ≡ f) × (b.first ≤ i)) → b.first ≤ i
        begins_here b same (inl less) = absurd (omega arith)
        begins_here b same (inr (is', from)) = from

        none_else : (k : ℕ) (d : Block) → k < length blocks → k ≢ below - 1 → has_inst f i (get_or blocks k d) ≡ false
        none_else k d within other = ⊎_elim
            (λ (less : k < below).
            let before : IsApart (get_or blocks k d) (get_or blocks (below - 1) d) =
            apart.ordered k (below - 1) d (omega arith) (omega arith) in
            let last = ends f i (get_or blocks (below - 1) x) is in
            let item : get_or blocks (below - 1) x ≡ get_or blocks (below - 1) d =
            get_or_default blocks (below - 1) x d (omega arith) in
            let last_d = ends f i (get_or blocks (below - 1) d) (subst (λ (b : Block). ends_from f i b ≡ true) item is) in
            let first_d = begins_here (get_or blocks (below - 1) d) last_d.0
            (begins f i (get_or blocks (below - 1) d) (low (below - 1) d (omega arith))) in
            no_inst f i (get_or blocks k d) (λ same first to. ⊎_elim
            (λ (apart' : (get_or blocks k d).func < (get_or blocks (below - 1) d).func). omega (arith, last_d.0, apart', same))
            (λ (apart' : ((get_or blocks k d).func ≡ (get_or blocks (below - 1) d).func) ×
            ((get_or blocks k d).last < (get_or blocks (below - 1) d).first)). omega (arith, apart'.1, first_d, to))
            before))
            (λ (more : below ≤ k). above_none k d more within)
            (cases_lt k below)

    pub block_at_none : (x : Block) → (0 < below → ends_from f i (get_or blocks (below - 1) x) ≡ false)
        → (k : ℕ) (d : Block) → k < length blocks → has_inst f i (get_or blocks k d) ≡ false
    block_at_none x not' k d within = ⊎_elim
        (λ (less : k < below).
        no_inst f i (get_or blocks k d) (λ same first to.
        let past = not' (omega arith) in
        let item : get_or blocks (below - 1) x ≡ get_or blocks (below - 1) d =
        get_or_default blocks (below - 1) x d (omega arith) in
        let past_d : ends_from f i (get_or blocks (below - 1) d) ≡ false =
        subst (λ (b : Block). ends_from f i b ≡ false) item past in
        ⊎_elim
        (λ (before : k < below - 1).
        too_late (get_or blocks k d) (get_or blocks (below - 1) d) same first to past_d (apart.some (below - 1) d (omega arith))
        (apart.ordered k (below - 1) d before (omega arith))
        (begins f i (get_or blocks (below - 1) d) (low (below - 1) d (omega arith))))
        (λ (more : below - 1 ≤ k).
        let here : below - 1 ≡ k = omega arith in
        let own : ends_from f i (get_or blocks k d) ≡ false =
        subst (λ (j : ℕ). ends_from f i (get_or blocks j d) ≡ false) here past_d in
        let yes' = ends_test f i (get_or blocks k d) same to in
        absurd (cc))
        (cases_lt k (below - 1))))
        (λ (more : below ≤ k). above_none k d more within)
        (cases_lt k below)
      where
        too_late : (b c : Block) → b.func ≡ f → b.first ≤ i → i ≤ b.last → ends_from f i c ≡ false → c.first ≤ c.last →
            IsApart b c → (c.func < f) ⊎ ((c.func ≡ f) × (c.first ≤ i)) → ⊥
        too_late b c same first to past some (inl less) (inl low') = omega arith
        too_late b c same first to past some (inl less) (inr (own, from)) = omega arith
        too_late b c same first to past some (inr (own, less)) (inl low') = omega arith
        too_late b c same first to past some (inr (own, less)) (inr (at', from)) = omega arith

-- Weights so far.

pub record AreWeights (funcs : List Func) (blocks : List Block) (pairs : List Counted) (weights : List ℕ) : Type 0 where
  pub lengths : length weights ≡ length blocks
  pub each : (k : ℕ) (d : Block) → k < length blocks → slice_index weights k ≡ block_weight pairs funcs (get_or blocks k d)
  pub total : sum weights ≤ 2 * total_count pairs

pub weights_more : (funcs : List Func) (blocks : List Block) (pairs : List Counted) (i : ℕ) (x : Counted) (old new : List ℕ)
    → i < length pairs → length new ≡ length old
    → ((k : ℕ) (d : Block) → k < length blocks → slice_index new k ≡ slice_index old k
    + (if touches (insts_of_block funcs (get_or blocks k d)) (get_or pairs i x) then (get_or pairs i x).2 else 0))
    → sum new ≤ sum old + 2 * (get_or pairs i x).2
    → AreWeights funcs blocks (take i pairs) old → AreWeights funcs blocks (take (i + 1) pairs) new
weights_more funcs blocks pairs i x old new within long each total was = record {
  lengths = long ∙ was.lengths;
  each = λ k d inside.
      each k d inside
      ∙ ap (λ n. n + (if touches (insts_of_block funcs (get_or blocks k d)) (get_or pairs i x) then (get_or pairs i x).2 else 0))
      (was.each k d inside)
      ∙ sym (sum_by_more (λ p. if touches (insts_of_block funcs (get_or blocks k d)) p then p.2 else 0) pairs i x within);
  total = let more = sum_by_more (λ (p : Counted). p.2) pairs i x within in omega (arith, total, was.total, more);
}

pub weights_all : (funcs : List Func) (blocks : List Block) (pairs : List Counted) (weights : List ℕ)
    → AreWeights funcs blocks pairs weights → weights ≡ map (block_weight pairs funcs) blocks
weights_all funcs blocks pairs weights are =
    let mapped : length (map (block_weight pairs funcs) blocks) ≡ length blocks = simp length-map in
    same_lists weights (map (block_weight pairs funcs) blocks) (are.lengths ∙ sym mapped) each
  where
    each : (k : ℕ) (d : ℕ) → k < length weights → get_or weights k d ≡ get_or (map (block_weight pairs funcs) blocks) k d
    each k d within =
        let inside : k < length blocks = omega (arith, are.lengths) in
        let b = any_element blocks k inside in
        get_or_default weights k d 0 within ∙ are.each k b inside
        ∙ sym (get_or-map (block_weight pairs funcs) blocks k b d inside)
