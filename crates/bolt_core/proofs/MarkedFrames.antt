-- If whole functions move as one piece, frame tables can be rewritten: the range of a marked entry has instructions of one function, which
-- is whole and starts at the start of the range.
use Rattle.std.proofs.Common.{◌≡◌, ℕ, ◌+◌, ◌<◌, ◌≤◌, List, [], ◌∷◌, Option, Some, None, Bool, true, false}
use Rattle.std.proofs.Common.{refl, sym, ap, ◌∙◌, subst, arith, inl, inr}
use Rattle.std.specs.Prelude.{◌==◌, ◌&&◌, not, Contains, IsTrue, All, AllPairs, Any, filter, is_some, nat_le, nat_lt}
use Rattle.std.specs.Prelude.{option_map, unwrap_or, ◌≢◌, slice_index_or}
use Rattle.std.proofs.lemmas.List.{get_or_default}
use Rattle.std.specs.List.{list_any}
use Rattle.std.proofs.lemmas.Bool.{and_parts, and_from, leb-true, ltb-true, le-leb, lt-ltb, cases_lt, cases_order, eq-eqb, eqb-true}
use Rattle.std.proofs.lemmas.List.Elements.{All-contains}
use Rattle.std.proofs.lemmas.List.Folds.{Any-from_list_any, list_any-from_Any}
use Rattle.rb_bytes.proofs.ListLemmas.{in_map, one_of}
use Rattle.rb_bytes.proofs.Members.{Contains-cons_cases, Contains-there, Contains-nil}
use Rattle.rv_code.specs.declared.placed.Placed.{Placed}
use Rattle.rv_code.specs.declared.placed.Func.{Func}
use Rattle.rv_code.specs.layout.Flow.{insts_of, placed_at}
use Rattle.rv_code.specs.layout.FunctionLists.{Follow, IsLaidOut, AreLaidOut}
use Rattle.rv_code.specs.layout.ProgramCode.{is_code_address}
use Rattle.elf_image.specs.declared.elf.Elf.{Elf}
use Rattle.elf_image.specs.file.Cuts.{IsCutAddress}
use Rattle.elf_code.specs.Functions.{AreFunctions}
use Rattle.elf_code.specs.Parts.{IsPart, IsInTabled, at_start}
use Rattle.elf_image.proofs.CutLists.{IsCutAddress-from_lists, lists-from_IsCutAddress}
use Rattle.rb_bytes.proofs.Tests.{clash}
use Rattle.rb_bytes.proofs.Searches.{Contains-filter, find-found, find-only}
use Rattle.addr_map.specs.declared.span.Span.{Span}
use Rattle.addr_map.specs.Spans.{has_byte, is_of, new, owner, ShareNoByte}
use Rattle.branch_fixup.proofs.Lists.{at_flat}
use Rattle.rv_code.proofs.lists.Follows.{at_contains}
use Rattle.answer_runs.specs.AnswerRuns.{AreLow}
use Rattle.cfi_rows.specs.Entries.{Fde, is_in_range, is_strictly_in}
use Rattle.cfi_rows.specs.Frames.{eh_frames, tabled}
use Rattle.frame_rewrite.specs.FrameAnswers.{cuts_of, is_marked_by}
use Rattle.frame_rewrite.specs.Tables.{AllowsFrames, MovesWhole}
use Rattle.func_find.proofs.Judged.{IsCodePart-function}
use Rattle.branch_fixup.specs.WholeMoves.{MoveAsOne, KeepWhole}
use Rattle.bolt_core.proofs.Direct.{lies_in, starts_in}

module _ (spans : List Span) (once : AllPairs (λ s t. s.input ≢ t.input) spans) (disjoint : AllPairs ShareNoByte spans) where
  one_span : (s t : Span) → Contains spans s → Contains spans t → s.input ≡ t.input → s ≡ t
  one_span s t cs ct same =
      one_of (λ (a b : Span). a.input ≢ b.input) spans s t once cs ct (λ ne. ne same) (λ ne. ne (sym same))

  one_holder : (s t : Span) (x : ℕ) → Contains spans s → Contains spans t → has_byte x s ≡ true → has_byte x t ≡ true → s ≡ t
  one_holder s t x cs ct hs ht =
      one_of ShareNoByte spans s t disjoint cs ct (λ apart. apart x hs ht) (λ apart. apart x ht hs)

  pub owner_is : (s : Span) (x : ℕ) → Contains spans s → s.out ≤ x → x < s.out + s.len → owner spans x ≡ Some s.input
  owner_is s x cs low high =
      let has = and_from (nat_le s.out x) (nat_lt x (s.out + s.len)) (le-leb s.out x low) (lt-ltb x (s.out + s.len) high) in
      ap (λ (o : Option Span). option_map (λ t. t.input) o)
      (find-only (has_byte x) spans s cs has (λ t ct ht. one_holder t s x ct cs ht has))

  pub new_is : (s : Span) → Contains spans s → new spans s.input ≡ s.out
  new_is s cs =
      ap (λ (o : Option Span). unwrap_or (option_map (λ t. t.out) o) s.input)
      (find-only (is_of s.input) spans s cs (eq-eqb s.input s.input refl)
      (λ t ct ht. one_span t s ct cs (eqb-true t.input s.input ht)))

  -- Instructions that move as one piece.

  above : (c end : ℕ) (ps : List Placed) (q : Placed) → Follow c ps end → Contains ps q → c ≤ q.addr
  above c end [] q f has = absurd (Contains-nil q has)
  above c end (p ∷ ps) q f has = elim (Contains-cons_cases p ps q has) [
    | inl same ↦ let e = ap (λ (z : Placed). z.addr) same in let at = f.0 in omega (arith, e, at)
    | inr later ↦ let h = above (c + p.len) end ps q f.1 later in omega (arith, h)
  ]

  head_span : (a len : ℕ) (p q : Placed) (t : Span) → Contains spans (record { out = a; len = len; input = p.addr }) →
      Contains spans t → t.input ≡ q.addr → p ≡ q → record { out = a; len = len; input = p.addr } ≡ t
  head_span a len p q t cp ct is same =
      one_span (record { out = a; len = len; input = p.addr }) t cp ct (ap (λ (z : Placed). z.addr) same ∙ sym is)

  from_first : (a c end : ℕ) (ps : List Placed) → MoveAsOne spans a ps → (q : Placed) (t : Span) → Contains ps q →
      Contains spans t → t.input ≡ q.addr → a ≤ t.out
  from_first a c end [] m q t has ct is = absurd (Contains-nil q has)
  from_first a c end (p ∷ ps) m q t has ct is = elim (Contains-cons_cases p ps q has) [
    | inl same ↦ let e = ap (λ (s : Span). s.out) (head_span a m.0 p q t m.1 ct is same) in omega (arith, e)
    | inr later ↦ let h = from_first (a + m.0) c end ps m.2 q t later ct is in omega (arith, h)
  ]

  ordered : (a c end : ℕ) (ps : List Placed) → MoveAsOne spans a ps → Follow c ps end → (p q : Placed) (s t : Span) →
      Contains ps p → Contains ps q → Contains spans s → Contains spans t → s.input ≡ p.addr → t.input ≡ q.addr →
      p.addr < q.addr → s.out + s.len ≤ t.out
  ordered a c end [] m f p q s t hp hq cs ct is it less = absurd (Contains-nil p hp)
  ordered a c end (r ∷ rs) m f p q s t hp hq cs ct is it less =
      elim (Contains-cons_cases r rs p hp) [
        | inl first ↦ elim (Contains-cons_cases r rs q hq) [
          | inl both ↦
              let e = ap (λ (z : Placed). z.addr) first in
              let g = ap (λ (z : Placed). z.addr) both in
              absurd (omega (arith, e, g, less))
          | inr later ↦
              let e = head_span a m.0 r p s m.1 cs is first in
              let out = ap (λ (z : Span). z.out) e in
              let len = ap (λ (z : Span). z.len) e in
              let h = from_first (a + m.0) c end rs m.2 q t later ct it in
              omega (arith, out, len, h)
        ]
        | inr here ↦ elim (Contains-cons_cases r rs q hq) [
          | inl first ↦
              let g = ap (λ (z : Placed). z.addr) first in
              let at = f.0 in
              let h = above (c + r.len) end rs p f.1 here in
              absurd (omega (arith, g, at, h, less))
          | inr later ↦ ordered (a + m.0) (c + r.len) end rs m.2 f.1 p q s t here later cs ct is it less
        ]
      ]

  record OwnedUpTo (ps : List Placed) (q : Placed) (x : ℕ) : Type 0 where
    r : Placed
    has : Contains ps r
    upto : r.addr ≤ q.addr
    owned : owner spans x ≡ Some r.addr

  filled : (a c end : ℕ) (ps : List Placed) → MoveAsOne spans a ps → Follow c ps end → (q : Placed) (t : Span) (x : ℕ) →
      Contains ps q → Contains spans t → t.input ≡ q.addr → a ≤ x → x < t.out + t.len → OwnedUpTo ps q x
  filled a c end [] m f q t x has ct is low high = absurd (Contains-nil q has)
  filled a c end (p ∷ ps) m f q t x has ct is low high =
      let s : Span = record { out = a; len = m.0; input = p.addr } in
      elim (cases_lt x (a + m.0)) [
        | inl here ↦ record {
          r = p;
          has = (0, omega arith, refl);
          upto = (let h = above c end (p ∷ ps) q f has in let at = f.0 in omega (arith, h, at));
          owned = owner_is s x m.1 low here;
        }
        | inr past ↦ elim (Contains-cons_cases p ps q has) [
          | inl same ↦
              let e = head_span a m.0 p q t m.1 ct is same in
              let out = ap (λ (z : Span). z.out) e in
              let len = ap (λ (z : Span). z.len) e in
              absurd (omega (arith, out, len, past, high))
          | inr later ↦
              let r = filled (a + m.0) (c + p.len) end ps m.2 f.1 q t x later ct is past high in
              record { r = r.r; has = Contains-there p ps r.r r.has; upto = r.upto; owned = r.owned }
        ]
      ]

  -- The ranges of marked entries.

  module _ (elf : Elf) (funcs : List Func) (functions : AreFunctions elf (tabled elf) funcs) (laid : AreLaidOut funcs)
      (whole : KeepWhole funcs spans) (only : All (λ s. IsTrue (is_code_address funcs s.input)) spans) where
    record InFunc (a : ℕ) : Type 0 where
      func : Func
      listed : Contains funcs func
      p : Placed
      has : Contains func.insts.items p
      at : p.addr ≡ a

    in_func : (s : Span) → Contains spans s → InFunc s.input
    in_func s cs = by (placed_at funcs s.input) refl (All-contains (λ (t : Span). IsTrue (is_code_address funcs t.input)) spans s only cs)
      where
        by : (o : Option Placed) → placed_at funcs s.input ≡ o → IsTrue (is_some (placed_at funcs s.input)) → InFunc s.input
        by None e h = absurd (clash (is_some (placed_at funcs s.input)) h (ap is_some e))
        by (Some p) e h =
            let f = find-found (λ (q : Placed). q.addr == s.input) (insts_of funcs) p e in
            let r = at_flat (λ (g : Func). g.insts.items) funcs p f.1 in
            record { func = r.a; listed = at_contains funcs r.i r.a r.at; p = p; has = r.has; at = eqb-true p.addr s.input f.0 }

    laid_of : (func : Func) → Contains funcs func → IsLaidOut func
    laid_of func c = All-contains IsLaidOut funcs func laid.each c

    module _ (f : Fde) (listed : Contains (eh_frames elf).list f) (marked : IsTrue (is_marked_by (cuts_of elf) f)) where
      -- a cut is at the start of the range, and none is strictly inside
      abbrev at_cut : Bool
      at_cut = list_any (λ (c : ℕ). c == f.start) (cuts_of elf)

      abbrev free_inside : Bool
      free_inside = not (list_any (is_strictly_in f) (cuts_of elf))

      mark : (nat_lt 0 f.table ≡ true) × (at_cut && free_inside ≡ true)
      mark = and_parts (nat_lt 0 f.table) (at_cut && free_inside) marked

      bounds : (at_cut ≡ true) × (free_inside ≡ true)
      bounds = and_parts at_cut free_inside mark.1

      starts_at_cut : IsCutAddress elf.symbols.items elf.sections.items f.start
      starts_at_cut =
          let (k, c, within, is, same) = Any-from_list_any (λ (c : ℕ). c == f.start) (cuts_of elf) bounds.0 in
          IsCutAddress-from_lists elf.symbols.items elf.sections.items f.start
          (subst (λ (x : ℕ). Contains (cuts_of elf) x) (eqb-true c f.start same) (k, within, is))

      no_cut : (c : ℕ) → IsCutAddress elf.symbols.items elf.sections.items c → f.start < c → c < f.end → ⊥
      no_cut c cut low high =
          let (k, within, is) = lists-from_IsCutAddress elf.symbols.items elf.sections.items c cut in
          let strictly : is_strictly_in f c ≡ true =
          and_from (nat_lt f.start c) (nat_lt c f.end) (lt-ltb f.start c low) (lt-ltb c f.end high) in
          let some = list_any-from_Any (is_strictly_in f) (cuts_of elf) (k, c, within, is, strictly) in
          absurd (not_both (list_any (is_strictly_in f) (cuts_of elf)) some bounds.1)
        where
          not_both : (b : Bool) → b ≡ true → not b ≡ true → ⊥
          not_both true e h = absurd (cc)
          not_both false e h = absurd (cc)

      record InWhole (a : ℕ) : Type 0 where
        func : Func
        contains : Contains funcs func
        p : Placed
        has : Contains func.insts.items p
        at : p.addr ≡ a
        start : func.start ≡ f.start
        is_whole : func.whole ≡ true

      in_whole : (s : Span) → Contains spans s → IsTrue (is_in_range f s.input) → InWhole s.input
      in_whole s cs in_range =
          let i = in_func s cs in
          let func : Func = i.func in
          let is = functions.only func i.listed in
          let part : IsPart elf func.start func.end = (IsCodePart-function elf (tabled elf) func.start func.end is.part).part in
          let l = laid_of func i.listed in
          let along = lies_in func l i.p i.has in
          let from = along.0 in
          let upto = along.1 in
          let at = i.at in
          let r = and_parts (nat_le f.start s.input) (nat_lt s.input f.end) in_range in
          let low = leb-true f.start s.input r.0 in
          let high = ltb-true s.input f.end r.1 in
          let start : func.start ≡ f.start = elim (cases_order func.start f.start) [
            | inl same ↦ same
            | inr apart ↦ elim apart [
              | inl less ↦ absurd (part.neighbours f.start less (omega (arith, low, at, upto)) starts_at_cut)
              | inr more ↦ absurd (no_cut func.start part.starts more (omega (arith, from, at, high)))
            ]
          ] in
          record {
            func = func;
            contains = i.listed;
            p = i.p;
            has = i.has;
            at = at;
            start = start;
            is_whole = is.whole.1 (record {
              place = i.p.addr;
              starts = record {
                part = IsCodePart-function elf (tabled elf) func.start func.end is.part;
                starts = starts_in elf func.start func.start func.end func.insts.items i.p is.insts (λ below. at_start below) i.has;
              };
              tabled_there = there i.p.addr (omega (arith, low, at)) (omega (arith, high, at));
            });
          }
        where
          there : (a : ℕ) → f.start ≤ a → a < f.end → Any (IsInTabled a) (tabled elf)
          there a low high =
              let test : Fde → Bool = λ (g : Fde). nat_lt 0 g.table in
              let kept = Contains-filter test (eh_frames elf).list f listed mark.0 in
              let (k, within, is) = in_map (λ (g : Fde). (g.start, g.end)) (filter test (eh_frames elf).list) f kept in
              (k, (f.start, f.end), within, is, (low, high))

      -- two instructions of the range are of the same function
      one_func : (g h : Func) → Contains funcs g → Contains funcs h → g.start ≡ h.start → g ≡ h
      one_func g h cg ch same =
          one_of (λ (x y : Func). x.start ≢ y.start) funcs g h
          (λ i j d less within. λ e. let o = functions.ordered i j d less within in absurd (omega (arith, o, e)))
          cg ch (λ ne. ne same) (λ ne. ne (sym same))

      module _ (t : Span) (ct : Contains spans t) (in_t : IsTrue (is_in_range f t.input)) where
        abbrev w : InWhole t.input
        w = in_whole t ct in_t

        abbrev l : IsLaidOut w.func
        l = laid_of w.func w.contains

        abbrev moves : (a : ℕ) × MoveAsOne spans a w.func.insts.items
        moves = whole w.func w.contains w.is_whole

        -- the new address of the start
        first : (a c end : ℕ) (ps : List Placed) → MoveAsOne spans a ps → Follow c ps end → (q : Placed) → Contains ps q →
            new spans c ≡ a
        first a c end [] m g q has = absurd (Contains-nil q has)
        first a c end (p ∷ ps) m g q has =
            ap (new spans) (sym g.0) ∙ new_is (record { out = a; len = m.0; input = p.addr }) m.1

        start_is : new spans f.start ≡ moves.0
        start_is = ap (new spans) (sym w.start) ∙ first moves.0 w.func.start w.func.end w.func.insts.items moves.1 l.follow w.p w.has

        from_start : new spans f.start ≤ t.out
        from_start =
            let h = from_first moves.0 w.func.start w.func.end w.func.insts.items moves.1 w.p t w.has ct (sym w.at) in
            let e = start_is in
            omega (arith, h, e)

        no_gap : (x : ℕ) → new spans f.start ≤ x → x < t.out + t.len →
            (o : ℕ) × (owner spans x ≡ Some o) × IsTrue (is_in_range f o)
        no_gap x low high =
            let e = start_is in
            let r = filled moves.0 w.func.start w.func.end w.func.insts.items moves.1 l.follow w.p t x w.has ct (sym w.at)
            (omega (arith, low, e)) high in
            let b = (lies_in w.func l r.r r.has).0 in
            let start = w.start in
            let upto = r.upto in
            let at = w.at in
            let q = and_parts (nat_le f.start t.input) (nat_lt t.input f.end) in_t in
            let below = ltb-true t.input f.end q.1 in (
              r.r.addr,
              r.owned,
              and_from (nat_le f.start r.r.addr) (nat_lt r.r.addr f.end) (le-leb f.start r.r.addr (omega (arith, b, start)))
                  (lt-ltb r.r.addr f.end (omega (arith, upto, at, below))),
            )

        in_order : (s : Span) → Contains spans s → IsTrue (is_in_range f s.input) → s.input < t.input → s.out + s.len ≤ t.out
        in_order s cs in_s less =
            let v = in_whole s cs in_s in
            let same : v.func ≡ w.func = one_func v.func w.func v.contains w.contains (v.start ∙ sym w.start) in
            let x = v.at in
            let y = w.at in
            ordered moves.0 w.func.start w.func.end w.func.insts.items moves.1 l.follow v.p w.p s t
            (subst (λ (g : Func). Contains g.insts.items v.p) same v.has) w.has cs ct (sym x) (sym y) (omega (arith, x, y, less))

      pub moves_whole : MovesWhole spans f
      moves_whole = record {
        from_start = λ s cs in_s. from_start s cs in_s;
        in_order = λ s t cs ct in_s in_t less. in_order t ct in_t s cs in_s less;
        no_gap = λ t x ct in_t low high. no_gap t ct in_t x low high;
      }

    pub allows_frames : AreLow spans → AllowsFrames (is_marked_by (cuts_of elf)) (eh_frames elf).list spans
    allows_frames low = (
      low,
      λ k d within marked.
          let f = slice_index_or (eh_frames elf).list k d in
          moves_whole f (k, within, get_or_default (eh_frames elf).list k f d within) marked,
    )
