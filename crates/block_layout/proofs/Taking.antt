-- From the order of edges in the list to the order by counts.
use Rattle.std.proofs.Common.{◌≡◌, ◌<◌, ◌≤◌, ◌∙◌, ℕ, List, None, length, get_or, arith, ap, sym, subst, inl, inr, ⊎_elim}
use Rattle.std.proofs.Common.{AllPairs, Contains}
use Rattle.std.proofs.lemmas.Bool.{cases_lt}
use Rattle.std.proofs.lemmas.List.{get_or_default}
use Rattle.block_layout.specs.EdgeCounts.{IsEarlier}
use Rattle.block_layout.specs.EdgeLists.{AreCounted, HaveOtherEnds, IsKeyBefore}
use Rattle.block_layout.specs.FirstLinks.{Taken, Refused, IsLinked, LinksLead, IsEdgeNumber, ends_of_edge}
use Rattle.block_layout.specs.FirstLinks.LinksLead.{stays as run_stays, goes as run_goes}
use Rattle.block_layout.specs.FirstLinks.Refused.{source_taken as by_source, target_taken as by_target, first_block as by_first}
use Rattle.block_layout.specs.FirstLinks.Refused.{closes as by_chain}
use Rattle.block_layout.specs.Links.{Links, IsLinkedBefore, LeadBefore, IsLeftOut, Lead, AreLinks}
use Rattle.block_layout.specs.Links.LeadBefore.{at_once, on}
use Rattle.block_layout.specs.Links.IsLeftOut.{source_taken, target_taken, first_block, closes}
use Rattle.block_layout.specs.Links.Lead.{stays, goes}
use Rattle.block_layout.specs.declared.edge_counts.Edge.{Edge}

abbrev nothing : Edge
nothing = record { from = 0; to = 0; count = 0 }

-- an edge with a higher index comes later in the order by counts
pub record IsInOrder (count : ℕ × ℕ → ℕ) (es : List Edge) : Type 0 where
  pub rises : (i j s t u v : ℕ) → i < j → IsEdgeNumber es i s t → IsEdgeNumber es j u v → IsEarlier count (s, t) (u, v)

module _ (count : ℕ × ℕ → ℕ) (es : List Edge) (edges : List (ℕ × ℕ)) (counted : AreCounted count edges es) where
  own_count : (i : ℕ) → i < length es → count (ends_of_edge es i) ≡ (get_or es i nothing).count
  own_count i within =
      (counted.only (get_or es i nothing) (i, within, get_or_default es i (get_or es i nothing) nothing within)).2

  pub in_order : AllPairs IsKeyBefore es → AllPairs HaveOtherEnds es → IsInOrder count es
  in_order sorted once = record {
    rises = λ i j s t u v less (within, at) (within', at').
        let e = get_or es i nothing in
        let f = get_or es j nothing in
        let one = ap count (sym at) ∙ own_count i within in
        let other = ap count (sym at') ∙ own_count j within' in
        earlier e f s t u v one other at at' (once i j nothing less within') (sorted i j nothing less within');
  }
    where
      earlier : (e f : Edge) (s t u v : ℕ) → count (s, t) ≡ e.count → count (u, v) ≡ f.count
          → ◌≡◌ {A = ℕ × ℕ} (e.from, e.to) (s, t) → ◌≡◌ {A = ℕ × ℕ} (f.from, f.to) (u, v)
          → HaveOtherEnds e f → IsKeyBefore e f → IsEarlier count (s, t) (u, v)
      earlier e f s t u v one other at at' apart (inl more) = inl (omega arith)
      earlier e f s t u v one other at at' apart (inr (same, inl less)) =
          let from = ap (λ (p : ℕ × ℕ). p.0) at in
          let from' = ap (λ (p : ℕ × ℕ). p.0) at' in
          inr (one ∙ same ∙ sym other, inl (omega arith))
      earlier e f s t u v one other at at' apart (inr (same, inr (equal, le))) =
          let from = ap (λ (p : ℕ × ℕ). p.0) at in
          let from' = ap (λ (p : ℕ × ℕ). p.0) at' in
          let to = ap (λ (p : ℕ × ℕ). p.1) at in
          let to' = ap (λ (p : ℕ × ℕ). p.1) at' in
          ⊎_elim
          (λ (less : e.to < f.to). inr (one ∙ same ∙ sym other, inr (sym from ∙ equal ∙ from', omega arith)))
          (λ (more : f.to ≤ e.to). let ends : e.to ≡ f.to = omega arith in absurd (apart (equal, ends)))
          (cases_lt e.to f.to)

module _ {count : ℕ × ℕ → ℕ} {es : List Edge} {p : Links} (order : IsInOrder count es) where
  taken_before : {i s t x y : ℕ} → IsEdgeNumber es i s t → Taken es p i x y → IsLinkedBefore count p (s, t) x y
  taken_before {i} {s} {t} {x} {y} at w = record { next = w.joined; earlier = order.rises w.by.0 i x y s t w.by.1 w.by.2 at }

  runs_before : {i x y : ℕ} (s t : ℕ) → IsEdgeNumber es i s t → LinksLead es p i x y → LeadBefore count p (s, t) x y
  runs_before s t at run_stays = at_once
  runs_before s t at (run_goes r w) = on (runs_before s t at r) (taken_before at w)

  left_out : {IsFirst : ℕ → Type 0} {i s t : ℕ} → IsEdgeNumber es i s t → Refused es p IsFirst i s t →
      IsLeftOut count p IsFirst s t
  left_out at (by_source u w) = source_taken u (taken_before at w)
  left_out at (by_target u w) = target_taken u (taken_before at w)
  left_out at (by_first h) = first_block h
  left_out {s = s} {t = t} at (by_chain r) = closes (runs_before s t at r)

leads : {es : List Edge} {p : Links} {k x y : ℕ} → LinksLead es p k x y → Lead p x y
leads run_stays = stays
leads (run_goes r w) = goes (leads r) w.joined

-- the links that all edges make, in the order of the list
pub all_linked : (count : ℕ × ℕ → ℕ) (es : List Edge) (edges : List (ℕ × ℕ)) (n : ℕ) (IsFirst : ℕ → Type 0) (p : Links)
    → AreCounted count edges es → IsInOrder count es → IsLinked es n IsFirst (length es) p → ((x : ℕ) → n ≤ x → p.prev x ≡ None)
    → AreLinks edges count IsFirst p
all_linked count es edges n IsFirst p counted order linked past = record {
  only = λ s t next.
      let by = (linked.only s t next).by in
      let e = get_or es by.0 nothing in
      let is = counted.only e (by.0, by.2.0, get_or_default es by.0 e nothing by.2.0) in
      let listed : Contains edges (s, t) = subst (λ (q : ℕ × ℕ). Contains edges q) by.2.1 is.0 in
      let positive = is.1 in
      let same = is.2 in
      let own : count (s, t) ≡ e.count = ap count (sym by.2.1) ∙ same in
      (listed, omega arith);
  each = λ s t listed positive.
      let found = counted.each s t listed positive in
      let at : ends_of_edge es found.0 ≡ (s, t) =
      ap (λ (e : Edge). (e.from, e.to))
      (get_or_default es found.0 nothing (record { from = s; to = t; count = count (s, t) }) found.1 ∙ found.2) in
      ⊎_elim (λ next. inl next) (λ why. inr (left_out order (found.1, at) why)) (linked.each found.0 s t found.1 (found.1, at));
  back = linked.back;
  forth = linked.forth;
  first = linked.free;
  whole = λ x. ⊎_elim
      (λ (within : x < n). let w = linked.whole x within in (w.0, w.2, leads w.3))
      (λ (out : n ≤ x). (x, past x out, stays))
      (cases_lt x n);
}
