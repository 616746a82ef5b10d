-- The pairs of a profile that was read are pairs of instructions, and the links of a repaired profile are between blocks.
use Rattle.std.proofs.Common.{◌≡◌, ◌∙◌, ◌+◌, ◌<◌, ℕ, Bool, true, false, List, [], ◌∷◌, Option, Some, None, Contains, length, arith, ap, sym}
use Rattle.std.proofs.Common.{subst, refl, cond, filter_map, if◌then◌else◌, ⊎_elim}
use Rattle.std.specs.Prelude.{◌==◌, ◌&&◌, IsSomeAnd, option_and_then, slice_get}
use Rattle.std.specs.List.{cons_option}
use Rattle.std.proofs.lemmas.Bool.{eqb-true}
use Rattle.std.proofs.lemmas.List.Elements.{All-contains}
use Rattle.std.proofs.lemmas.Option.{same_Some, slice_get_within}
use Rattle.rv_code.specs.declared.placed.Block.{Block}
use Rattle.rv_code.specs.declared.placed.Func.{Func}
use Rattle.rv_code.specs.layout.ProgramCode.{ProgramCode, is_code_address}
use Rattle.elf_image.specs.declared.elf.Elf.{Elf}
use Rattle.elf_image.specs.declared.symbol.Symbol.{Symbol}
use Rattle.edge_profile.specs.Grammar.{BranchLine, NamedPlace, branch_line, fields, lines}
use Rattle.edge_profile.specs.Names.{address_at, code_address, value_of_name}
use Rattle.edge_profile.specs.PairCounts.{ArePairs, Counted, both_ends, count_in, counted_by, counted_in, is_pair}
use Rattle.edge_profile.proofs.AscendingPairs.{positive_term}
use Rattle.edge_text.specs.EdgeText.{HasCodeEnds}
use Rattle.rb_bytes.proofs.ListLemmas.{all_of, in_map}
use Rattle.rb_bytes.proofs.Members.{Contains-cons_cases}
use Rattle.flow_infer.specs.declared.flow.Flow.{Flow}
use Rattle.flow_infer.specs.Links.{AreEnds, counted_ends}
use Rattle.flow_infer.specs.Repairs.{IsRepaired}
use Rattle.flow_infer.specs.Sources.{JoinBlocks}
use Rattle.flow_text.specs.LinkLists.{AreCodePairs, AreLinksOf, IsBetween, IsPlaceIn}

-- Lines name instructions.

code_of : (funcs : List Func) (a x : ℕ) → code_address funcs a ≡ Some x → is_code_address funcs x ≡ true
code_of funcs a x is = by (is_code_address funcs a) refl is
  where
    by : (b : Bool) → is_code_address funcs a ≡ b → cond b (Some a) None ≡ Some x → is_code_address funcs x ≡ true
    by true code same = subst (λ (y : ℕ). is_code_address funcs y ≡ true) (same_Some a x same) code
    by false code same = absurd (cc)

module _ (symbols : List Symbol) (funcs : List Func) where
  address_is_code : (place : NamedPlace) (x : ℕ) → address_at symbols funcs place ≡ Some x → is_code_address funcs x ≡ true
  address_is_code place x is = by (value_of_name symbols funcs place.name) is
    where
      by : (o : Option ℕ) → option_and_then (λ start. code_address funcs (start + place.offset)) o ≡ Some x →
          is_code_address funcs x ≡ true
      by None same = absurd (cc)
      by (Some start) same = code_of funcs (start + place.offset) x same

  both_code : (o p : Option ℕ) (n : ℕ) (q : Counted) → ((x : ℕ) → o ≡ Some x → is_code_address funcs x ≡ true) →
      ((x : ℕ) → p ≡ Some x → is_code_address funcs x ≡ true) → both_ends o p n ≡ Some q → HasCodeEnds funcs q
  both_code (Some x) (Some y) n q from to is = subst (HasCodeEnds funcs) (same_Some _ q is) (record { from = from x refl; to = to y refl })
  both_code None p n q from to is = absurd (cc)
  both_code (Some x) None n q from to is = absurd (cc)

  counted_code : (line : List ℕ) (q : Counted) → counted_by symbols funcs line ≡ Some q → HasCodeEnds funcs q
  counted_code line q is = by (branch_line (fields line)) is
    where
      by : (o : Option BranchLine)
          → option_and_then (λ l. both_ends (address_at symbols funcs l.from) (address_at symbols funcs l.to) l.count) o ≡ Some q
          → HasCodeEnds funcs q
      by None same = absurd (cc)
      by (Some l) same = both_code (address_at symbols funcs l.from) (address_at symbols funcs l.to) l.count q
          (address_is_code l.from) (address_is_code l.to) same

  all_code : (texts : List (List ℕ)) (q : Counted) → Contains (filter_map (counted_by symbols funcs) texts) q → HasCodeEnds funcs q
  all_code [] q (k, within, is) = absurd (omega arith)
  all_code (line ∷ texts) q q_in = by (counted_by symbols funcs line) refl q_in (all_code texts q)
    where
      by : (o : Option Counted) → counted_by symbols funcs line ≡ o →
          Contains (cons_option o (filter_map (counted_by symbols funcs) texts)) q →
          (Contains (filter_map (counted_by symbols funcs) texts) q → HasCodeEnds funcs q) → HasCodeEnds funcs q
      by None is q_in later = later q_in
      by (Some r) is q_in later = ⊎_elim
          (λ (here : r ≡ q). counted_code line q (is ∙ ap (λ (s : Counted). Some s) here))
          later
          (Contains-cons_cases r (filter_map (counted_by symbols funcs) texts) q q_in)

pub code_pairs : (text : List ℕ) (elf : Elf) (funcs : List Func) (counts : ℕ → ℕ → ℕ) (pairs : List Counted) → ArePairs counts pairs →
    ((x y : ℕ) → counts x y ≡ count_in text elf funcs x y) → AreCodePairs funcs pairs
code_pairs text elf funcs counts pairs are same = record {
  positive = all_of (λ p. 0 < p.2) pairs (λ p p_in. (are.only p p_in).0);
  ordered = are.ordered;
  coded = all_of (HasCodeEnds funcs) pairs (λ p p_in. let count = are.only p p_in in coded p count.0 count.1);
}
  where
    holds : (b c : Bool) (n : ℕ) → 0 < (if b && c then n else 0) → (b ≡ true) × (c ≡ true)
    holds true true n some = (refl, refl)
    holds true false n some = absurd (omega arith)
    holds false c n some = absurd (omega arith)

    coded : (p : Counted) → 0 < p.2 → counts p.0 p.1 ≡ p.2 → HasCodeEnds funcs p
    coded p some is =
        let e = same p.0 p.1 in
        let term = positive_term (λ q. if is_pair p.0 p.1 q then q.2 else 0) (counted_in text elf funcs) (omega (arith, some, is, e)) in
        let q = term.item in
        let both = holds (q.0 == p.0) (q.1 == p.1) q.2 term.positive in
        let code = all_code elf.symbols.items funcs (lines text) q (term.place, term.within, term.is) in
        record {
          from = ap (is_code_address funcs) (sym (eqb-true q.0 p.0 both.0)) ∙ code.from;
          to = ap (is_code_address funcs) (sym (eqb-true q.1 p.1 both.1)) ∙ code.to;
        }

-- The links of a repaired profile.
pub repaired_links : (code : ProgramCode) (blocks : List Block) (edges : List (ℕ × ℕ)) (pairs : List Counted) (flow : Flow) →
    JoinBlocks blocks edges → IsRepaired code blocks edges pairs flow → AreLinksOf blocks flow.links.items
repaired_links code blocks edges pairs flow joined repaired = record {
  inside = all_of (IsBetween blocks) flow.links.items (λ l l_in.
      let ends = places l.from l.to (repaired.links.only (counted_ends l) (in_map counted_ends flow.links.items l l_in)).0 in
      record { from = ends.0; to = ends.1 });
  ordered = repaired.links.ordered;
}
  where
    place : (P : Block → Type 0) (k : ℕ) (o : Option Block) → slice_get blocks k ≡ o → IsSomeAnd o P → k < length blocks
    place P k None is holds = absurd holds
    place P k (Some b) is holds = slice_get_within blocks k b is

    places : (o p : Option ℕ) → AreEnds code blocks edges o p → IsPlaceIn blocks o × IsPlaceIn blocks p
    places (Some s) (Some t) edge =
        All-contains (λ (e : ℕ × ℕ). (e.0 < length blocks) × (e.1 < length blocks)) edges (s, t) joined.within edge
    places None (Some k) entered = (tt, place _ k (slice_get blocks k) refl entered)
    places (Some k) None left = (place _ k (slice_get blocks k) refl left, tt)
    places None None none = absurd none
