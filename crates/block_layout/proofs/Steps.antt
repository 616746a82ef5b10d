-- Considering one edge after another: it links two blocks, or is left out.
use Rattle.std.proofs.Common.{ℕ, ◌≡◌, ◌≢◌, ◌<◌, ◌≤◌, ◌+◌, ◌⊎◌, inl, inr, List, Some, None, length, arith, sym, ◌∙◌}
use Rattle.std.proofs.Common.{ap, ⊎_elim, subst, Bool, true}
use Rattle.std.proofs.lemmas.Bool.{cases_eq}
use Rattle.std.proofs.Common.{get_or, set, length-set, get_or-set_same, get_or-set_other}
use Rattle.std.proofs.lemmas.Grind.{common_steps}
use Rattle.rb_bytes.proofs.Options.{option_cases}
use Rattle.block_layout.specs.FirstLinks.{Taken, Refused, IsLinked, KnowsEnds, told, LinksLead, IsEdgeNumber}
use Rattle.block_layout.specs.Links.{Links}
use Rattle.block_layout.specs.declared.edge_counts.Edge.{Edge}
use Rattle.block_layout.specs.declared.links.ChainLinks.{ChainLinks}
use Rattle.block_layout.specs.FirstLinks.LinksLead.{stays, goes}
use Rattle.block_layout.specs.FirstLinks.Refused.{source_taken, target_taken, first_block, closes}

-- each link of p is a link of q
pub record Grows (p q : Links) : Type 0 where
  pub keeps : (s t : ℕ) → p.next s ≡ Some t → q.next s ≡ Some t

pub Taken-grow : {es : List Edge} {p q : Links} {k m s t : ℕ} → Grows p q → k ≤ m → Taken es p k s t → Taken es q m s t
Taken-grow g le w = record { joined = g.keeps _ _ w.joined; by = (w.by.0, omega (arith, w.by.1), w.by.2) }

pub Runs-grow : {es : List Edge} {p q : Links} {k m x y : ℕ} → Grows p q → k ≤ m → LinksLead es p k x y → LinksLead es q m x y
Runs-grow g le stays = stays
Runs-grow g le (goes r t) = goes (Runs-grow g le r) (Taken-grow g le t)

pub Runs-join : {es : List Edge} {p : Links} {k x y z : ℕ} → LinksLead es p k x y → LinksLead es p k y z → LinksLead es p k x z
Runs-join r stays = r
Runs-join r (goes u t) = goes (Runs-join r u) t

pub Refused-grow : {es : List Edge} {p q : Links} {IsFirst : ℕ → Type 0} {i s t : ℕ} → Grows p q → Refused es p IsFirst i s t →
    Refused es q IsFirst i s t
Refused-grow g (source_taken u w) = source_taken u (Taken-grow g (omega arith) w)
Refused-grow g (target_taken u w) = target_taken u (Taken-grow g (omega arith) w)
Refused-grow g (first_block e) = first_block e
Refused-grow g (closes r) = closes (Runs-grow g (omega arith) r)

pub Grows-refl : (p : Links) → Grows p p
Grows-refl p = record { keeps = λ s t e. e }

-- an index has one edge
pub same_edge : (es : List Edge) (i k x y s t : ℕ) → IsEdgeNumber es i x y → IsEdgeNumber es k s t → i ≡ k → (x ≡ s) × (y ≡ t)
same_edge es i k x y s t e f same = grind (arith, common_steps)

-- An edge that makes no link.
pub refuse : {es : List Edge} {n : ℕ} {IsFirst : ℕ → Type 0} {k : ℕ} {p : Links} (s t : ℕ) → IsEdgeNumber es k s t →
    Refused es p IsFirst k s t → IsLinked es n IsFirst k p → IsLinked es n IsFirst (k + 1) p
refuse {es} {n} {IsFirst} {k} {p} s t at why l = record {
  each = λ i x y below e. ⊎_elim
      (λ (same : i ≡ k). let q : (x ≡ s) × (y ≡ t) = same_edge es i k x y s t e at same in rw (same, q.0, q.1) (inr why))
      (λ (apart : i ≢ k). l.each i x y (omega arith) e)
      (cases_eq i k);
  only = λ x y e. Taken-grow (Grows-refl p) (omega arith) (l.only x y e);
  back = l.back;
  forth = l.forth;
  free = l.free;
  whole = λ x below. let w = l.whole x below in (w.0, w.1, w.2, Runs-grow (Grows-refl p) (omega arith) w.3);
}

pub ends_refuse : {es : List Edge} {n k : ℕ} {p : Links} {head tail : ℕ → ℕ} → KnowsEnds es n k p head tail →
    KnowsEnds es n (k + 1) p head tail
ends_refuse {es} {n} {k} {p} {head} {tail} u = grind (arith, common_steps, Runs-grow, Grows-refl)

-- An edge that makes a link.
pub record Joins (p q : Links) (head tail head' tail' : ℕ → ℕ) (s t : ℕ) : Type 0 where
  pub next_here : q.next s ≡ Some t
  pub next_else : (x : ℕ) → x ≢ s → q.next x ≡ p.next x
  pub prev_here : q.prev t ≡ Some s
  pub prev_else : (x : ℕ) → x ≢ t → q.prev x ≡ p.prev x
  pub head_here : head' (tail t) ≡ head s
  pub head_else : (x : ℕ) → x ≢ tail t → head' x ≡ head x
  pub tail_here : tail' (head s) ≡ tail t
  pub tail_else : (x : ℕ) → x ≢ head s → tail' x ≡ tail x

-- s and t may be linked
pub record Free (p : Links) (head : ℕ → ℕ) (n : ℕ) (IsFirst : ℕ → Type 0) (s t : ℕ) : Type 0 where
  pub s_in : s < n
  pub t_in : t < n
  pub no_next : p.next s ≡ None
  pub no_prev : p.prev t ≡ None
  pub not_first : IsFirst t → ⊥
  pub apart : head s ≢ t

pub Joins-grow : {p q : Links} {head tail head' tail' : ℕ → ℕ} {s t : ℕ} → p.next s ≡ None →
    Joins p q head tail head' tail' s t → Grows p q
Joins-grow {p} {q} {head} {tail} {head'} {tail'} {s} {t} none j = grind (arith, common_steps, ⊎_elim, cases_eq)

pub accept : {es : List Edge} {n : ℕ} {IsFirst : ℕ → Type 0} {k : ℕ} {p q : Links} {head tail head' tail' : ℕ → ℕ} {s t : ℕ} →
    IsEdgeNumber es k s t → Free p head n IsFirst s t → Joins p q head tail head' tail' s t → KnowsEnds es n k p head tail →
    IsLinked es n IsFirst k p → IsLinked es n IsFirst (k + 1) q
accept {es} {n} {IsFirst} {k} {p} {q} {head} {tail} {head'} {tail'} {s} {t} at f j u l =
    let g : Grows p q = Joins-grow f.no_next j in
    let new : Taken es q (k + 1) s t = record { joined = j.next_here; by = (k, omega arith, at) } in
    let ends : (p.prev (head s) ≡ None) × (tail (head s) ≡ s) × LinksLead es p k (head s) s = u.ends s f.s_in f.no_next in
    record {
      each = λ i x y below e. ⊎_elim
          (λ (same : i ≡ k). let h : (x ≡ s) × (y ≡ t) = same_edge es i k x y s t e at same in rw (h.0, h.1) (inl j.next_here))
          (λ (ne : i ≢ k). ⊎_elim (λ a. inl (g.keeps x y a)) (λ r. inr (Refused-grow g r)) (l.each i x y (omega arith) e))
          (cases_eq i k);
      only = λ x y e. ⊎_elim
          (λ (same : x ≡ s).
          let a : q.next x ≡ q.next s = ap q.next same in
          let b : Some y ≡ Some t = sym e ∙ a ∙ j.next_here in
          let c : y ≡ t = cc in
          rw (same, c) new)
          (λ (ne : x ≢ s). Taken-grow g (omega arith) (l.only x y (sym (j.next_else x ne) ∙ e)))
          (cases_eq x s);
      back = λ x y e. ⊎_elim
          (λ (same : x ≡ s).
          let a : q.next x ≡ q.next s = ap q.next same in
          let b : Some y ≡ Some t = sym e ∙ a ∙ j.next_here in
          let c : y ≡ t = cc in
          rw (same, c) j.prev_here)
          (λ (ne : x ≢ s). let a : p.prev y ≡ Some x = l.back x y (sym (j.next_else x ne) ∙ e) in
          j.prev_else y (λ (same : y ≡ t). let b : p.prev y ≡ p.prev t = ap p.prev same in absurd (let c = f.no_prev in cc)) ∙ a)
          (cases_eq x s);
      forth = λ x y e. ⊎_elim
          (λ (same : y ≡ t).
          let a : q.prev y ≡ q.prev t = ap q.prev same in
          let b : Some x ≡ Some s = sym e ∙ a ∙ j.prev_here in
          let c : x ≡ s = cc in
          rw (same, c) j.next_here)
          (λ (ne : y ≢ t). let a : p.next x ≡ Some y = l.forth x y (sym (j.prev_else y ne) ∙ e) in g.keeps x y a)
          (cases_eq y t);
      free = λ x is. j.prev_else x (λ (same : x ≡ t). f.not_first (subst IsFirst same is)) ∙ l.free x is;
      whole = λ x below. let w = l.whole x below in ⊎_elim
          (λ (same : w.0 ≡ t). let h : LinksLead es p k t x = rw (sym same) w.3 in
          let a : q.prev (head s) ≡ None = j.prev_else (head s) f.apart ∙ ends.0 in (
            head s,
            (u.inside s f.s_in).0,
            a,
            Runs-join (goes (Runs-grow g (omega arith) ends.2) new) (Runs-grow g (omega arith) h),
          ))
          (λ (ne : w.0 ≢ t). (w.0, w.1, j.prev_else w.0 ne ∙ w.2, Runs-grow g (omega arith) w.3))
          (cases_eq w.0 t);
    }

pub ends_accept : {es : List Edge} {n : ℕ} {IsFirst : ℕ → Type 0} {k : ℕ} {p q : Links} {head tail head' tail' : ℕ → ℕ}
    {s t : ℕ} → IsEdgeNumber es k s t → Free p head n IsFirst s t → Joins p q head tail head' tail' s t →
    KnowsEnds es n k p head tail →
    KnowsEnds es n (k + 1) q head' tail'
ends_accept {es} {n} {IsFirst} {k} {p} {q} {head} {tail} {head'} {tail'} {s} {t} at f j u =
    let g : Grows p q = Joins-grow f.no_next j in
    let new : Taken es q (k + 1) s t = record { joined = j.next_here; by = (k, omega arith, at) } in
    -- the chain that ends with s, and the chain that begins with t
    let front : (p.prev (head s) ≡ None) × (tail (head s) ≡ s) × LinksLead es p k (head s) s = u.ends s f.s_in f.no_next in
    let back : (p.next (tail t) ≡ None) × (head (tail t) ≡ t) = u.starts t f.t_in f.no_prev in
    let e_in : tail t < n = (u.inside t f.t_in).1 in
    let rear : (p.prev (head (tail t)) ≡ None) × (tail (head (tail t)) ≡ tail t) × LinksLead es p k (head (tail t)) (tail t) =
    u.ends (tail t) e_in back.0 in
    let run : LinksLead es p k t (tail t) = rw back.1 at rear.2 in
    let split : tail t ≢ s = λ e. f.apart (sym (ap head e) ∙ back.1) in
    let is_next : (x : ℕ) → q.next x ≡ None → x ≢ s = λ x none e. let a : q.next x ≡ q.next s = ap q.next e in
    let b = j.next_here in cc in
    let is_prev : (x : ℕ) → q.prev x ≡ None → x ≢ t = λ x none e. let a : q.prev x ≡ q.prev t = ap q.prev e in
    let b = j.prev_here in cc in
    record {
      inside = λ x below. (
        ⊎_elim (λ (same : x ≡ tail t). rw (same, j.head_here) ((u.inside s f.s_in).0))
            (λ (ne : x ≢ tail t). rw (j.head_else x ne) ((u.inside x below).0)) (cases_eq x (tail t)),
        ⊎_elim (λ (same : x ≡ head s). rw (same, j.tail_here) e_in)
            (λ (ne : x ≢ head s). rw (j.tail_else x ne) ((u.inside x below).1)) (cases_eq x (head s)),
      );
      ends = λ x below none. let apart : x ≢ s = is_next x none in
          let before : p.next x ≡ None = sym (j.next_else x apart) ∙ none in
          let here : (p.prev (head x) ≡ None) × (tail (head x) ≡ x) × LinksLead es p k (head x) x = u.ends x below before in
          ⊎_elim
          (λ (same : x ≡ tail t). let is : head' x ≡ head s = ap head' same ∙ j.head_here in
          rw is (
            j.prev_else (head s) f.apart ∙ front.0,
            j.tail_here ∙ sym same,
            Runs-join (goes (Runs-grow g (omega arith) front.2) new) (rw same (Runs-grow g (omega arith) run)),
          ))
          (λ (ne : x ≢ tail t). rw (j.head_else x ne) (
            j.prev_else (head x) (λ e. ne (sym here.1 ∙ ap tail e)) ∙ here.0,
            j.tail_else (head x) (λ e. apart (sym here.1 ∙ ap tail e ∙ front.1)) ∙ here.1,
            Runs-grow g (omega arith) here.2,
          ))
          (cases_eq x (tail t));
      starts = λ y below none. let apart : y ≢ t = is_prev y none in
          let before : p.prev y ≡ None = sym (j.prev_else y apart) ∙ none in
          let here : (p.next (tail y) ≡ None) × (head (tail y) ≡ y) = u.starts y below before in
          ⊎_elim
          (λ (same : y ≡ head s). let is : tail' y ≡ tail t = ap tail' same ∙ j.tail_here in
          rw is (j.next_else (tail t) split ∙ back.0, j.head_here ∙ sym same))
          (λ (ne : y ≢ head s). rw (j.tail_else y ne) (
            j.next_else (tail y) (λ e. ne (sym here.1 ∙ ap head e)) ∙ here.0,
            j.head_else (tail y) (λ e. apart (sym here.1 ∙ ap head e ∙ back.1)) ∙ here.1,
          ))
          (cases_eq y (head s));
    }

-- Before the first edge.
pub linked_none : (es : List Edge) (n : ℕ) (IsFirst : ℕ → Type 0) (p : Links) → ((x : ℕ) → p.next x ≡ None) →
    ((x : ℕ) → p.prev x ≡ None) → IsLinked es n IsFirst 0 p
linked_none es n IsFirst p next prev = record {
  each = λ i s t below e. absurd (omega arith);
  only = λ s t e. absurd (let f = next s in cc);
  back = λ s t e. absurd (let f = next s in cc);
  forth = λ s t e. absurd (let f = prev t in cc);
  free = λ t is. prev t;
  whole = λ x below. (x, below, prev x, stays);
}

pub ends_none : (es : List Edge) (n : ℕ) (p : Links) (head tail : ℕ → ℕ) → ((x : ℕ) → p.next x ≡ None) →
    ((x : ℕ) → p.prev x ≡ None) → ((x : ℕ) → x < n → head x ≡ x) → ((x : ℕ) → x < n → tail x ≡ x) → KnowsEnds es n 0 p head tail
ends_none es n p head tail next prev hs ts = record {
  inside = λ x below. (rw (hs x below) below, rw (ts x below) below);
  ends = λ e below none. rw (hs e below) (prev e, ts e below, stays);
  starts = λ h below none. rw (ts h below) (next h, hs h below);
}

-- The lists of the code.
pub record IsReady (es : List Edge) (n : ℕ) (IsFirst : ℕ → Type 0) (k : ℕ) (l : ChainLinks) : Type 0 where
  pub linked : IsLinked es n IsFirst k (told l.next.items l.prev.items)
  pub ends : KnowsEnds es n k (told l.next.items l.prev.items) (λ x. get_or l.head.items x 0) (λ x. get_or l.tail.items x 0)
  pub next_len : length l.next.items ≡ n
  pub prev_len : length l.prev.items ≡ n
  pub head_len : length l.head.items ≡ n
  pub tail_len : length l.tail.items ≡ n

-- the lists after `link`
pub record IsJoined (a b : ChainLinks) (s t : ℕ) : Type 0 where
  pub next : b.next.items ≡ set a.next.items s (Some t)
  pub prev : b.prev.items ≡ set a.prev.items t (Some s)
  pub head : b.head.items ≡ set a.head.items (get_or a.tail.items t 0) (get_or a.head.items s 0)
  pub tail : b.tail.items ≡ set a.tail.items (get_or a.head.items s 0) (get_or a.tail.items t 0)

pub write_here : {X : Type 0} (xs ys : List X) (i : ℕ) (v d : X) → ys ≡ set xs i v → i < length xs → get_or ys i d ≡ v
write_here xs ys i v d e h = rw e (get_or-set_same xs i v d h)

pub write_else : {X : Type 0} (xs ys : List X) (i j : ℕ) (v d : X) → ys ≡ set xs i v → j ≢ i → get_or ys j d ≡ get_or xs j d
write_else xs ys i j v d e h = rw e (get_or-set_other xs i j v d h)

pub as_joins : {n s t : ℕ} {a b : ChainLinks} → length a.next.items ≡ n → length a.prev.items ≡ n → length a.head.items ≡ n
    → length a.tail.items ≡ n → get_or a.tail.items t 0 < n → get_or a.head.items s 0 < n → s < n → t < n → IsJoined a b s t
    → Joins (told a.next.items a.prev.items) (told b.next.items b.prev.items) (λ x. get_or a.head.items x 0)
    (λ x. get_or a.tail.items x 0) (λ x. get_or b.head.items x 0) (λ x. get_or b.tail.items x 0) s t
as_joins {n} {s} {t} {a} {b} nl pl hl tl e_in h_in s_in t_in j = grind (arith, common_steps, write_here, write_else)

pub join_step : {es : List Edge} {n : ℕ} {IsFirst : ℕ → Type 0} {k s t : ℕ} {a b : ChainLinks} → IsEdgeNumber es k s t →
    IsReady es n IsFirst k a → IsJoined a b s t →
    Free (told a.next.items a.prev.items) (λ x. get_or a.head.items x 0) n IsFirst s t → IsReady es n IsFirst (k + 1) b
join_step {es} {n} {IsFirst} {k} {s} {t} {a} {b} at r j f =
    let js : Joins (told a.next.items a.prev.items) (told b.next.items b.prev.items) (λ x. get_or a.head.items x 0)
    (λ x. get_or a.tail.items x 0) (λ x. get_or b.head.items x 0) (λ x. get_or b.tail.items x 0) s t
    =
    as_joins r.next_len r.prev_len r.head_len r.tail_len (r.ends.inside t f.t_in).1 (r.ends.inside s f.s_in).0 f.s_in f.t_in j in
    record {
      linked = accept at f js r.ends r.linked;
      ends = ends_accept at f js r.ends;
      next_len = rw j.next (rw length-set r.next_len);
      prev_len = rw j.prev (rw length-set r.prev_len);
      head_len = rw j.head (rw length-set r.head_len);
      tail_len = rw j.tail (rw length-set r.tail_len);
    }

pub skip_step : {es : List Edge} {n : ℕ} {IsFirst : ℕ → Type 0} {k s t : ℕ} {a : ChainLinks} → IsEdgeNumber es k s t → s < n →
    t < n
    → IsReady es n IsFirst k a
    → ((get_or a.next.items s None ≢ None) ⊎ ((get_or a.prev.items t None ≢ None) ⊎ (IsFirst t ⊎ (get_or a.head.items s 0 ≡ t))))
    → IsReady es n IsFirst (k + 1) a
skip_step {es} {n} {IsFirst} {k} {s} {t} {a} at s_in t_in r why =
    let l : IsLinked es n IsFirst k (told a.next.items a.prev.items) = r.linked in
    let by_source : (u : ℕ) → get_or a.next.items s None ≡ Some u → Refused es (told a.next.items a.prev.items) IsFirst k s t =
    λ u e. source_taken u (l.only s u e) in
    let by_target : (u : ℕ) → get_or a.prev.items t None ≡ Some u → Refused es (told a.next.items a.prev.items) IsFirst k s t =
    λ u e. target_taken u (l.only u t (l.forth u t e)) in
    let refused : Refused es (told a.next.items a.prev.items) IsFirst k s t
    = ⊎_elim (λ none. ⊎_elim (λ ne. absurd (ne none))
    (⊎_elim (λ ne. ⊎_elim (λ e. absurd (ne e)) (λ w. by_target w.0 w.1) (option_cases (get_or a.prev.items t None)))
    (⊎_elim (λ e. first_block e)
    (λ (e : get_or a.head.items s 0 ≡ t). closes (rw e at (r.ends.ends s s_in none).2)))) why)
    (λ w. by_source w.0 w.1)
    (option_cases (get_or a.next.items s None)) in
    record {
      linked = refuse s t at refused l;
      ends = ends_refuse r.ends;
      next_len = r.next_len;
      prev_len = r.prev_len;
      head_len = r.head_len;
      tail_len = r.tail_len;
    }

-- why a test left an edge out
pub first_why : {A B D F : Type 0} {is_first : Bool} → (is_first ≡ true → F) →
    A ⊎ (B ⊎ ((is_first ≡ true) ⊎ D)) → A ⊎ (B ⊎ (F ⊎ D))
first_why first (inl a) = inl a
first_why first (inr (inl b)) = inr (inl b)
first_why first (inr (inr (inl is))) = inr (inr (inl (first is)))
first_why first (inr (inr (inr d))) = inr (inr (inr d))
