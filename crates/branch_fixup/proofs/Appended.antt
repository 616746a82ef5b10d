-- Pieces after other pieces.
use Rattle.std.proofs.Common.{◌≡◌, ℕ, zero, suc, ◌+◌, ◌<◌, ◌≤◌, List, [], ◌∷◌, ◌++◌, length, map, take, Some, refl, sym, ap, ◌∙◌}
use Rattle.std.proofs.Common.{arith, get_or, add-one, append_assoc, pos}
use Rattle.std.specs.Prelude.{slice_get}
use Rattle.std.proofs.lemmas.Option.{slice_get-get_or, same_Some}
use Rattle.rv_code.specs.declared.layout.Form.{Form}
use Rattle.rv_code.specs.declared.layout.Form.TheVariants as form
use Rattle.rv_code.specs.declared.placed.Placed.{Placed}
use Rattle.rv_code.specs.declared.placed.Role.TheVariants.{Plain}
use Rattle.rv_code.specs.declared.inst.Inst.TheVariants.{Lui}
use Rattle.addr_map.specs.declared.span.Span.{Span}
use Rattle.branch_fixup.specs.Pieces.{Piece, as_it_is, length_of, laid_from, end_from}
use Rattle.branch_fixup.specs.Strips.{Strip, pieces_of, pieces_of_strip}
use Rattle.branch_fixup.proofs.Lists.{take_one_more}
use Rattle.branch_fixup.proofs.Laid.{end_above}

-- the result of a read past the end
abbrev pub no_inst : Placed
no_inst = record { addr = 0; len = 0; inst = Lui 0 (pos 0); role = Plain }

pub end_append : (a : ℕ) (ps qs : List Piece) → end_from a (ps ++ qs) ≡ end_from (end_from a ps) qs
end_append a [] qs = refl
end_append a (p ∷ ps) qs = end_append (a + length_of p) ps qs

pub laid_append : (a : ℕ) (ps qs : List Piece) → laid_from a (ps ++ qs) ≡ laid_from a ps ++ laid_from (end_from a ps) qs
laid_append a [] qs = refl
laid_append a (p ∷ ps) qs = ap (λ (l : List Span). record { out = a; len = length_of p; input = p.placed.addr } ∷ l)
    (laid_append (a + length_of p) ps qs)

pub map_more : (ps : List Placed) (i : ℕ) (d : Placed) → i < length ps →
    map as_it_is (take (i + 1) ps) ≡ map as_it_is (take i ps) ++ as_it_is (get_or ps i d) ∷ []
map_more ps i d within =
    ap (λ (n : ℕ). map as_it_is (take n ps)) (add-one i) ∙ ap (map as_it_is)
    (take_one_more i ps (get_or ps i d) (slice_get-get_or ps i d within)) ∙ mapped (take i ps) (get_or ps i d)
  where
    mapped : (qs : List Placed) (q : Placed) → map as_it_is (qs ++ q ∷ []) ≡ map as_it_is qs ++ as_it_is q ∷ []
    mapped [] q = refl
    mapped (r ∷ rs) q = ap (λ (l : List Piece). as_it_is r ∷ l) (mapped rs q)

-- one more instruction's span
pub inner_more : (spans new : List Span) (a at : ℕ) (ps : List Placed) (i : ℕ) (d : Placed) (old : List Span) →
    i < length ps → spans ≡ old ++ laid_from a (map as_it_is (take i ps)) → at ≡ end_from a (map as_it_is (take i ps)) →
    new ≡ spans ++ record { out = at; len = (get_or ps i d).len; input = (get_or ps i d).addr } ∷ [] →
    new ≡ old ++ laid_from a (map as_it_is (take (i + 1) ps))
inner_more spans new a at ps i d old within so_far here is =
    let more = map_more ps i d within in
    is ∙ ap (λ (l : List Span). l ++ record { out = at; len = (get_or ps i d).len; input = (get_or ps i d).addr } ∷ []) so_far
    ∙ append_assoc old (laid_from a (map as_it_is (take i ps))) (record {
      out = at;
      len = (get_or ps i d).len;
      input = (get_or ps i d).addr;
    } ∷ [])
    ∙ ap (λ (z : ℕ). old ++ (laid_from a (map as_it_is (take i ps)) ++
    record { out = z; len = (get_or ps i d).len; input = (get_or ps i d).addr } ∷ [])) here
    ∙ ap (λ (l : List Span). old ++ l) (sym (laid_append a (map as_it_is (take i ps)) (as_it_is (get_or ps i d) ∷ []))
    ∙ ap (laid_from a) (sym more))

pub end_more : (a at : ℕ) (ps : List Placed) (i : ℕ) (d : Placed) → i < length ps →
    at ≡ end_from a (map as_it_is (take i ps)) → at + (get_or ps i d).len ≡ end_from a (map as_it_is (take (i + 1) ps))
end_more a at ps i d within here =
    ap (λ (z : ℕ). z + (get_or ps i d).len) here ∙ sym (end_append a (map as_it_is (take i ps))
    (as_it_is (get_or ps i d) ∷ [])) ∙ ap (end_from a) (sym (map_more ps i d within))

-- the end of a part is at most the end of all
pub end_part : (a : ℕ) (ps : List Placed) (i : ℕ) → end_from a (map as_it_is (take i ps)) ≤ end_from a (map as_it_is ps)
end_part a ps zero = end_above a (map as_it_is ps)
end_part a [] (suc i) = omega arith
end_part a (p ∷ ps) (suc i) = end_part (a + p.len) ps i

-- Blocks.

pub block_spans : (old mid new : List Span) (a at : ℕ) (s : Strip) (f : Form) →
    mid ≡ old ++ laid_from a (map as_it_is s.inner) → at ≡ end_from a (map as_it_is s.inner) → (len : ℕ) →
    len ≡ length_of (record { placed = s.last; form = f }) → new ≡ mid ++
    record { out = at; len = len; input = s.last.addr } ∷ [] → new ≡ old ++ laid_from a (pieces_of_strip s f)
block_spans old mid new a at s f so_far here len is_len is =
    is ∙ ap (λ (l : List Span). l ++ record { out = at; len = len; input = s.last.addr } ∷ []) so_far
    ∙ append_assoc old (laid_from a (map as_it_is s.inner)) (record { out = at; len = len; input = s.last.addr } ∷ [])
    ∙ ap (λ (z : ℕ). old ++ (laid_from a (map as_it_is s.inner) ++ record { out = z; len = len; input = s.last.addr } ∷ [])) here
    ∙ ap (λ (n : ℕ). old ++ (laid_from a (map as_it_is s.inner) ++ record {
      out = end_from a (map as_it_is s.inner);
      len = n;
      input = s.last.addr;
    } ∷ [])) is_len
    ∙ ap (λ (l : List Span). old ++ l) (sym (laid_append a (map as_it_is s.inner) (record { placed = s.last; form = f } ∷ [])))

pub last_end : (a at len : ℕ) (s : Strip) (f : Form) → at ≡ end_from a (map as_it_is s.inner) →
    len ≡ length_of (record { placed = s.last; form = f }) → at + len ≡ end_from a (pieces_of_strip s f)
last_end a at len s f here is_len =
    ap (λ (z : ℕ). z + len) here ∙ ap (λ (z : ℕ). end_from a (map as_it_is s.inner) + z) is_len
    ∙ sym (end_append a (map as_it_is s.inner) (record { placed = s.last; form = f } ∷ []))

pub inner_ends : (a : ℕ) (s : Strip) (f : Form) → end_from a (map as_it_is s.inner) ≤ end_from a (pieces_of_strip s f)
inner_ends a s f =
    let e = end_append a (map as_it_is s.inner) (record { placed = s.last; form = f } ∷ []) in
    let g = end_above (end_from a (map as_it_is s.inner)) (record { placed = s.last; form = f } ∷ []) in
    omega (arith, e, g)

-- The first blocks of a list.

pub pieces_more : (ss : List Strip) (fs : List Form) (k : ℕ) (s : Strip) → slice_get ss k ≡ Some s → k < length fs →
    pieces_of (take (k + 1) ss) (take (k + 1) fs) ≡ pieces_of (take k ss) (take k fs) ++ pieces_of_strip s
    (get_or fs k form.Plain)
pieces_more ss fs k s at within =
    ap (λ (n : ℕ). pieces_of (take n ss) (take n fs)) (add-one k) ∙ more ss fs k s at within
  where
    none : (ps : List Piece) → ps ≡ ps ++ []
    none [] = refl
    none (p ∷ ps) = ap (λ (l : List Piece). p ∷ l) (none ps)

    more : (ss : List Strip) (fs : List Form) (k : ℕ) (s : Strip) → slice_get ss k ≡ Some s → k < length fs →
        pieces_of (take (suc k) ss) (take (suc k) fs) ≡ pieces_of (take k ss) (take k fs) ++ pieces_of_strip s
        (get_or fs k form.Plain)
    more [] fs k s at within = absurd (cc)
    more (x ∷ ss) [] k s at within = absurd (omega (arith, within))
    more (x ∷ ss) (f ∷ fs) zero s at within = sym (none (pieces_of_strip x f))
        ∙ ap (λ (y : Strip). pieces_of_strip y f) (same_Some x s at)
    more (x ∷ ss) (f ∷ fs) (suc k) s at within =
        ap (λ (l : List Piece). pieces_of_strip x f ++ l) (more ss fs k s at (omega (arith, within)))
        ∙ sym (append_assoc (pieces_of_strip x f) (pieces_of (take k ss) (take k fs))
        (pieces_of_strip s (get_or fs k form.Plain)))

pub pieces_part : (a : ℕ) (ss : List Strip) (fs : List Form) (k : ℕ) →
    end_from a (pieces_of (take k ss) (take k fs)) ≤ end_from a (pieces_of ss fs)
pieces_part a ss fs zero = end_above a (pieces_of ss fs)
pieces_part a [] fs (suc k) = omega arith
pieces_part a (s ∷ ss) [] (suc k) = omega arith
pieces_part a (s ∷ ss) (f ∷ fs) (suc k) =
    let e = end_append a (pieces_of_strip s f) (pieces_of (take k ss) (take k fs)) in
    let g = end_append a (pieces_of_strip s f) (pieces_of ss fs) in
    let h = pieces_part (end_from a (pieces_of_strip s f)) ss fs k in
    omega (arith, e, g, h)

pub pieces_all : (ss : List Strip) (fs : List Form) (k : ℕ) → length ss ≤ k → length fs ≤ k →
    pieces_of (take k ss) (take k fs) ≡ pieces_of ss fs
pieces_all [] fs zero h l = refl
pieces_all [] fs (suc k) h l = refl
pieces_all (s ∷ ss) fs zero h l = absurd (omega (arith, h))
pieces_all (s ∷ ss) [] (suc k) h l = refl
pieces_all (s ∷ ss) (f ∷ fs) (suc k) h l = ap (λ (ps : List Piece). pieces_of_strip s f ++ ps)
    (pieces_all ss fs k (omega (arith, h)) (omega (arith, l)))
