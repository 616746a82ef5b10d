-- Listing the links of one function, one after another by the ranks of their ends.
use Rattle.std.proofs.Common.{◌≡◌, ◌∙◌, sym, ap, subst, refl, ℕ, ◌+◌, ◌<◌, ◌≤◌, ◌⊎◌, inl, inr, ⊎_elim, List, [], ◌∷◌, ◌++◌}
use Rattle.std.proofs.Common.{All, AllPairs, Option, Some, None, get_or, map, arith}
use Rattle.std.specs.Prelude.{◌↔◌, Contains, option_map}
use Rattle.std.specs.Option.{option_to_list}
use Rattle.std.proofs.lemmas.Bool.{cases_lt}
use Rattle.std.proofs.lemmas.List.Elements.{All-push, Contains-append_left, Contains-get_or, Contains-push, Contains-push_cases}
use Rattle.std.proofs.lemmas.List.Quantifiers.{all_pairs_push}
use Rattle.std.proofs.lemmas.Option.{same_Some}
use Rattle.std.proofs.lemmas.List.{append-nil}
use Rattle.rv_code.specs.layout.Lists.{ListsAll}
use Rattle.rv_code.specs.layout.ProgramCode.{ProgramCode}
use Rattle.flow_infer.specs.declared.flow.Link.{Link}
use Rattle.flow_infer.specs.declared.source.Source.{Source}
use Rattle.flow_infer.specs.Links.{CountedEnds, IsLinkBefore, a_block, counted_ends, rank}
use Rattle.flow_infer.specs.Sources.{AreLinksUpto, AreLinksWithin, IsBelow, IsCodeOf, IsFunctionRange, IsLinkIn, IsLinkUpto, IsLinkWithin}
use Rattle.flow_infer.specs.Sources.{link_if}

pub rank_same : (o p : Option ℕ) → rank o ≡ rank p → o ≡ p
rank_same None None same = refl
rank_same None (Some k) same = absurd (omega arith)
rank_same (Some j) None same = absurd (omega arith)
rank_same (Some j) (Some k) same = let e : j ≡ k = omega arith in ap (λ (n : ℕ). Some n) e

-- one more link, if there is a count
map_push : (x0 x1 way : Option ℕ) (links : List Link) → map counted_ends (links ++ option_to_list (link_if x0 x1 way))
    ≡ map counted_ends links ++ option_to_list (option_map (λ c. (x0, x1, c)) way)
map_push x0 x1 None [] = refl
map_push x0 x1 (Some c) [] = refl
map_push x0 x1 way (l ∷ ls) = ap (λ es. counted_ends l ∷ es) (map_push x0 x1 way ls)

pub all_pushed : (P : Link → Type 0) (x0 x1 way : Option ℕ) (links new : List Link) →
    ((c : ℕ) → P (record { from = x0; to = x1; count = c; flow = c })) → new ≡ links ++ option_to_list (link_if x0 x1 way) →
    All P links → All P new
all_pushed P x0 x1 way links new holds is all = subst (All P) (sym is) (by way)
  where
    by : (w : Option ℕ) → All P (links ++ option_to_list (link_if x0 x1 w))
    by None = subst (All P) (sym (append-nil links)) all
    by (Some c) = All-push P links (record { from = x0; to = x1; count = c; flow = c }) all (holds c)

module _ (s : Source) (first end : ℕ) (range : IsFunctionRange s.blocks.now first end) where
  before_within : (code : ProgramCode) (d e : CountedEnds) → IsLinkWithin code s first end d → IsLinkWithin code s first end e →
      (rank d.0 < rank e.0) ⊎ ((rank d.0 ≡ rank e.0) × (rank d.1 < rank e.1)) → IsLinkBefore s.blocks.now d e
  before_within code d e wd we ranks =
      inr (range.one (a_block d.0 d.1) wd.from wd.to ∙ sym (range.one (a_block e.0 e.1) we.from we.to), ranks)

  -- The next link by ranks, if it exists, has these ends.
  step_listed : (code : ProgramCode) (r q : ℕ) (x0 x1 way : Option ℕ) (ends : List CountedEnds) → rank x0 ≡ r → rank x1 ≡ q →
      first ≤ a_block x0 x1 → a_block x0 x1 < end → ((c : ℕ) → (way ≡ Some c) ↔ IsLinkIn code s (x0, x1, c)) →
      ListsAll (IsLinkUpto code s first end r q) (IsLinkBefore s.blocks.now) ends →
      ListsAll (IsLinkUpto code s first end r (q + 1)) (IsLinkBefore s.blocks.now)
      (ends ++ option_to_list (option_map (λ c. (x0, x1, c)) way))
  step_listed code r q x0 x1 way ends at_r at_q from to is old = by way is
    where
      wider : (e : CountedEnds) → IsBelow r q e → IsBelow r (q + 1) e
      wider e below = ⊎_elim (λ (less : rank e.0 < r). inl less) (λ (same, less). inr (same, omega arith)) below

      -- a link that comes next has these ends
      each_old : (e : CountedEnds) → IsLinkUpto code s first end r (q + 1) e →
          IsLinkUpto code s first end r q e ⊎ ((x0 ≡ e.0) × (x1 ≡ e.1))
      each_old e (within, below) = ⊎_elim
          (λ (less : rank e.0 < r). inl (within, inl less))
          (λ (same, less). ⊎_elim
          (λ (early : rank e.1 < q). inl (within, inr (same, early)))
          (λ (late : q ≤ rank e.1). inr (rank_same x0 e.0 (omega arith), rank_same x1 e.1 (omega arith)))
          (cases_lt (rank e.1) q))
          below

      link_at : (e : CountedEnds) → x0 ≡ e.0 → x1 ≡ e.1 → IsLinkIn code s e → IsLinkIn code s (x0, x1, e.2)
      link_at e same same' link = let e' : e ≡ (x0, x1, e.2) = λ i. (sym same i, sym same' i, e.2) in
          subst (IsLinkIn code s) e' link

      by : (w : Option ℕ) → ((c : ℕ) → (w ≡ Some c) ↔ IsLinkIn code s (x0, x1, c)) →
          ListsAll (IsLinkUpto code s first end r (q + 1)) (IsLinkBefore s.blocks.now)
          (ends ++ option_to_list (option_map (λ c. (x0, x1, c)) w))
      by None is = subst (ListsAll (IsLinkUpto code s first end r (q + 1)) (IsLinkBefore s.blocks.now)) (sym (append-nil ends))
          (record {
            only = λ e is_in. let (within, below) = old.only e is_in in (within, wider e below);
            each = λ e upto. ⊎_elim
                (λ before. old.each e before)
                (λ (same, same'). absurd (
                let none : None ≡ Some e.2 = (is e.2).1 (link_at e same same' upto.0.link) in
                cc))
                (each_old e upto);
            ordered = old.ordered;
          })
      by (Some c) is = record { only = only; each = each; ordered = ordered }
        where
          x : CountedEnds
          x = (x0, x1, c)

          x_within : IsLinkWithin code s first end x
          x_within = record { link = (is c).0 refl; from = from; to = to }

          only : (e : CountedEnds) → Contains (ends ++ x ∷ []) e → IsLinkUpto code s first end r (q + 1) e
          only e is_in = ⊎_elim
              (λ was. let (within, below) = old.only e was in (within, wider e below))
              (λ (same : x ≡ e). subst (IsLinkUpto code s first end r (q + 1)) same (x_within, inr (at_r, omega arith)))
              (Contains-push_cases ends x e is_in)

          each : (e : CountedEnds) → IsLinkUpto code s first end r (q + 1) e → Contains (ends ++ x ∷ []) e
          each e upto = ⊎_elim
              (λ before. Contains-append_left ends (x ∷ []) e (old.each e before))
              (λ (same, same').
              let some : Some c ≡ Some e.2 = (is e.2).1 (link_at e same same' upto.0.link) in
              let here : x ≡ e = λ i. (same i, same' i, same_Some c e.2 some i) in
              subst (Contains (ends ++ x ∷ [])) here (Contains-push ends x))
              (each_old e upto)

          ordered : AllPairs (IsLinkBefore s.blocks.now) (ends ++ x ∷ [])
          ordered = all_pairs_push (IsLinkBefore s.blocks.now) ends x old.ordered (λ j d inside.
              let e = get_or ends j d in
              let (within, below) = old.only e (Contains-get_or ends j d inside) in
              before_within code e x within x_within (⊎_elim
              (λ (less : rank e.0 < r). inl (omega arith))
              (λ (same, less). inr (omega arith, omega arith))
              below))

  pub step_upto : (r q : ℕ) (x0 x1 way : Option ℕ) (links new : List Link) → rank x0 ≡ r → rank x1 ≡ q → first ≤ a_block x0 x1 →
      a_block x0 x1 < end → ((code : ProgramCode) → IsCodeOf code s → (c : ℕ) → (way ≡ Some c) ↔ IsLinkIn code s (x0, x1, c)) →
      new ≡ links ++ option_to_list (link_if x0 x1 way) → AreLinksUpto s first end r q links →
      AreLinksUpto s first end r (q + 1) new
  step_upto r q x0 x1 way links new at_r at_q from to is pushed old code of =
      subst (ListsAll (IsLinkUpto code s first end r (q + 1)) (IsLinkBefore s.blocks.now))
      (sym (ap (map counted_ends) pushed ∙ map_push x0 x1 way links))
      (step_listed code r q x0 x1 way (map counted_ends links) at_r at_q from to (is code of) (old code of))

  -- The same links come before other ranks.
  pub same_upto : (r q r' q' : ℕ) (links : List Link) → ((code : ProgramCode) → IsCodeOf code s → (e : CountedEnds) →
      IsLinkWithin code s first end e → IsBelow r q e ↔ IsBelow r' q' e) → AreLinksUpto s first end r q links →
      AreLinksUpto s first end r' q' links
  same_upto r q r' q' links same old code of = record {
    only = λ e is_in. let (within, below) = (old code of).only e is_in in (within, (same code of e within).0 below);
    each = λ e (within, below). (old code of).each e (within, (same code of e within).1 below);
    ordered = (old code of).ordered;
  }

  -- The ways from the first block come after the ways in.
  pub ways_in_done : (links : List Link) → AreLinksUpto s first end 0 (end + 1) links → AreLinksUpto s first end (first + 1) 0 links
  ways_in_done links = same_upto 0 (end + 1) (first + 1) 0 links (λ code of e within. (
    (λ below. ⊎_elim (λ (less : rank e.0 < 0). absurd (omega arith)) (λ (same, less). inl (omega arith)) below),
    (λ below. ⊎_elim (λ (less : rank e.0 < first + 1). at code e.0 e.1 e.2 within less)
        (λ (same, less). absurd (omega arith)) below),
  ))
    where
      at : (code : ProgramCode) (o p : Option ℕ) (c : ℕ) → IsLinkWithin code s first end (o, p, c) → rank o < first + 1 →
          IsBelow 0 (end + 1) (o, p, c)
      at code (Some k) p c within less = absurd (let from : first ≤ k = within.from in omega arith)
      at code None None c within less = inr (refl, omega arith)
      at code None (Some j) c within less = inr (refl, let to : j < end = within.to in omega arith)

  pub all_upto : (links : List Link) → AreLinksUpto s first end (end + 1) 0 links → AreLinksWithin s first end links
  all_upto links old code of = record {
    only = λ e is_in. ((old code of).only e is_in).0;
    each = λ e within. (old code of).each e (within, inl (at e.0 e.1 e.2 within));
    ordered = (old code of).ordered;
  }
    where
      at : (o p : Option ℕ) (c : ℕ) → IsLinkWithin code s first end (o, p, c) → rank o < end + 1
      at None p c within = omega arith
      at (Some k) p c within = let to : k < end = within.to in omega arith
