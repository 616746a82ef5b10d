-- The edges from one block, one by one.
use Rattle.std.proofs.Common.{◌≡◌, ◌∙◌, sym, subst, ap, refl, ℕ, ◌+◌, ◌<◌, ◌≤◌, ◌⊎◌, inl, inr, ⊎_elim, List, [], ◌∷◌, ◌++◌, Some}
use Rattle.std.proofs.Common.{All, take, length, slice_index_or, arith}
use Rattle.std.specs.Prelude.{◌↔◌, AllPairs, Contains, slice_get}
use Rattle.std.proofs.lemmas.Bool.{cases_lt, cases_order}
use Rattle.std.proofs.lemmas.List.{take_more, take_all, get_or-take, get_or_default, length-take}
use Rattle.std.proofs.lemmas.List.Elements.{All-contains, Contains-append_left, Contains-get_or, Contains-push, Contains-push_cases}
use Rattle.std.proofs.lemmas.List.Quantifiers.{Any-push, all_pairs_push}
use Rattle.std.proofs.lemmas.Option.{get_or_from_slice_get, same_Some, slice_get_within}
use Rattle.rv_code.specs.declared.placed.Func.{Func}
use Rattle.rv_code.specs.declared.placed.Block.{Block}
use Rattle.rv_code.specs.layout.Blocks.{func_of}
use Rattle.rv_code.specs.layout.Lists.{IsPairBefore, ListsPairs}
use Rattle.rb_bytes.proofs.Gains.{Any-left, Any-push_cases}
use Rattle.cfg_build.specs.EdgeLists.{LeadsFrom, IsBlockAt, IsNextOf}

-- Ascending lists.

-- A number before another one in the list is less.
taken_below : (xs : List ℕ) (k x a d : ℕ) → AllPairs (λ a b. a < b) xs → k < length xs → x ≡ slice_index_or xs k d →
    Contains (take k xs) a → a < x
taken_below xs k x a d up within is (j, low, there) =
    let short : j < k = let len = length-take k xs in omega arith in
    let at : slice_index_or xs j d ≡ a = get_or_default xs j d a (omega arith) ∙ sym (get_or-take k xs j a short) ∙ there in
    let less = up j k d short within in
    omega arith

pub places_ascend : (xs : List ℕ) (s t a b : ℕ) → AllPairs (λ a b. a < b) xs → slice_get xs s ≡ Some a → slice_get xs t ≡ Some b →
    a < b → s < t
places_ascend xs s t a b up at at' less = elim (cases_order s t) [
  | inl same ↦ absurd (let e = same_Some a b (sym at ∙ ap (slice_get xs) same ∙ at') in omega arith)
  | inr apart ↦ elim apart [
    | inl below ↦ below
    | inr above ↦ absurd (
        let h = up t s a above (slice_get_within xs s a at) in
        let e = get_or_from_slice_get xs s a a at in
        let e' = get_or_from_slice_get xs t b a at' in
        omega arith)
  ]
]

-- The edges from a block to the blocks at the first of its target addresses.

-- The edges before, and the edges from a block.
abbrev pub AreNext : List Block → List ℕ → ℕ → ℕ → List (ℕ × ℕ) → List ℕ → List (ℕ × ℕ) → Type 0
AreNext blocks starts source func old leads now =
    ListsPairs (λ e. Contains old e ⊎ IsNextOf blocks starts source func leads e) now

module _ (blocks : List Block) (starts : List ℕ) (source func : ℕ) where
  next_earlier : (leads : List ℕ) (lead : ℕ) (e : ℕ × ℕ) → IsNextOf blocks starts source func leads e →
      IsNextOf blocks starts source func (leads ++ lead ∷ []) e
  next_earlier leads lead e next = record {
    from = next.from;
    to = Any-left (λ a. IsBlockAt blocks starts func a e.1) leads (lead ∷ []) next.to;
  }

  next_cases : (leads : List ℕ) (lead : ℕ) (e : ℕ × ℕ) → IsNextOf blocks starts source func (leads ++ lead ∷ []) e →
      IsNextOf blocks starts source func leads e ⊎ IsBlockAt blocks starts func lead e.1
  next_cases leads lead e next = ⊎_elim
      (λ early. inl (record { from = next.from; to = early }))
      (λ at. inr at)
      (Any-push_cases (λ a. IsBlockAt blocks starts func a e.1) leads lead next.to)

  taken : (leads : List ℕ) (k lead d : ℕ) → k < length leads → lead ≡ slice_index_or leads k d →
      take (k + 1) leads ≡ take k leads ++ lead ∷ []
  taken leads k lead d within is = take_more leads k d within ∙ ap (λ (x : ℕ). take k leads ++ x ∷ []) (sym is)

  pub next_none : (old : List (ℕ × ℕ)) → AllPairs IsPairBefore old → (leads : List ℕ) →
      AreNext blocks starts source func old (take 0 leads) old
  next_none old ordered leads = record {
    only = λ e is_in. inl is_in;
    each = λ e either. ⊎_elim (λ is_in. is_in) (λ next. absurd (let (k, a, within, is, at) = next.to in omega arith)) either;
    ordered = ordered;
  }

  -- No block starts at the address.
  pub next_skip : (old now : List (ℕ × ℕ)) (leads : List ℕ) (k lead d : ℕ) → k < length leads → lead ≡ slice_index_or leads k d →
      ((t : ℕ) → IsBlockAt blocks starts func lead t → ⊥) → AreNext blocks starts source func old (take k leads) now →
      AreNext blocks starts source func old (take (k + 1) leads) now
  next_skip old now leads k lead d within is none are =
      subst (λ (xs : List ℕ). AreNext blocks starts source func old xs now) (sym (taken leads k lead d within is)) (record {
        only = λ e is_in. ⊎_elim (λ was. inl was) (λ next. inr (next_earlier (take k leads) lead e next)) (are.only e is_in);
        each = λ e either. ⊎_elim
            (λ was. are.each e (inl was))
            (λ next. ⊎_elim (λ early. are.each e (inr early)) (λ at. absurd (none e.1 at)) (next_cases
            (take k leads) lead e next))
            either;
        ordered = are.ordered;
      })

  -- A block starts at the address.
  pub next_push : (old now pushed : List (ℕ × ℕ)) (leads : List ℕ) (k lead d t : ℕ) → AllPairs (λ a b. a < b) starts →
      AllPairs (λ a b. a < b) leads → All (λ e. e.0 < source) old → k < length leads → lead ≡ slice_index_or leads k d →
      ((t' : ℕ) → (Some t ≡ Some t') ↔ IsBlockAt blocks starts func lead t') → pushed ≡ now ++ (source, t) ∷ [] →
      AreNext blocks starts source func old (take k leads) now →
      AreNext blocks starts source func old (take (k + 1) leads) pushed
  next_push old now pushed leads k lead d t up up' below within is found push are =
      subst (λ (xs : List ℕ). AreNext blocks starts source func old xs pushed) (sym (taken leads k lead d within is))
      (subst (AreNext blocks starts source func old (take k leads ++ lead ∷ [])) (sym push)
      (record { only = only; each = each; ordered = ordered }))
    where
      at_t : IsBlockAt blocks starts func lead t
      at_t = (found t).0 refl

      is_next : IsNextOf blocks starts source func (take k leads ++ lead ∷ []) (source, t)
      is_next = record {
        from = refl;
        to = Any-push (λ a. IsBlockAt blocks starts func a t) (take k leads) lead at_t;
      }

      only : (e : ℕ × ℕ) → Contains (now ++ (source, t) ∷ []) e →
          Contains old e ⊎ IsNextOf blocks starts source func (take k leads ++ lead ∷ []) e
      only e is_in = ⊎_elim
          (λ early. ⊎_elim (λ was. inl was) (λ next. inr (next_earlier (take k leads) lead e next)) (are.only e early))
          (λ (same : (source, t) ≡ e).
          inr (subst (IsNextOf blocks starts source func (take k leads ++ lead ∷ [])) same is_next))
          (Contains-push_cases now (source, t) e is_in)

      was_in : (e : ℕ × ℕ) → Contains now e → Contains (now ++ (source, t) ∷ []) e
      was_in e is_in = Contains-append_left now ((source, t) ∷ []) e is_in

      new_in : (e : ℕ × ℕ) → e.0 ≡ source → IsBlockAt blocks starts func lead e.1 → Contains (now ++ (source, t) ∷ []) e
      new_in e from at =
          let to : t ≡ e.1 = same_Some t e.1 ((found e.1).1 at) in
          let same : (source, t) ≡ e = λ i. (sym from i, to i) in
          subst (Contains (now ++ (source, t) ∷ [])) same (Contains-push now (source, t))

      each : (e : ℕ × ℕ) → Contains old e ⊎ IsNextOf blocks starts source func (take k leads ++ lead ∷ []) e →
          Contains (now ++ (source, t) ∷ []) e
      each e either = ⊎_elim
          (λ was. was_in e (are.each e (inl was)))
          (λ next. ⊎_elim
          (λ early. was_in e (are.each e (inr early)))
          (λ at. new_in e next.from at)
          (next_cases (take k leads) lead e next))
          either

      before : (e : ℕ × ℕ) → IsNextOf blocks starts source func (take k leads) e → IsPairBefore e (source, t)
      before e next =
          let (j, a, low, there, at) = next.to in
          let less : a < lead = taken_below leads k lead a d up' within is (j, low, there) in
          inr (next.from, places_ascend starts e.1 t a lead up at.begins at_t.begins less)

      ordered : AllPairs IsPairBefore (now ++ (source, t) ∷ [])
      ordered = all_pairs_push IsPairBefore now (source, t) are.ordered (λ j d' inside.
          let e = slice_index_or now j d' in
          ⊎_elim
          (λ was. inl (All-contains (λ (e : ℕ × ℕ). e.0 < source) old e below was))
          (before e)
          (are.only e (Contains-get_or now j d' inside)))

  pub next_all : (old now : List (ℕ × ℕ)) (leads : List ℕ) (k : ℕ) → k ≡ length leads →
      AreNext blocks starts source func old (take k leads) now → AreNext blocks starts source func old leads now
  next_all old now leads k all are =
      subst (λ (xs : List ℕ). AreNext blocks starts source func old xs now) (take_all k leads (omega arith)) are

-- The edges from the first blocks.

pub record IsEdgeBy (funcs : List Func) (targets : List (ℕ × ℕ)) (blocks : List Block) (starts : List ℕ) (e : ℕ
    × ℕ) : Type 0 where
  pub block : Block
  pub block_is : slice_get blocks e.0 ≡ Some block
  pub func : Func
  pub func_is : func_of funcs block ≡ Some func
  pub to : ℕ
  pub leads : LeadsFrom targets func block.last to
  pub begins : IsBlockAt blocks starts block.func to e.1

abbrev pub AreEdgesBefore : List Func → List (ℕ × ℕ) → List Block → List ℕ → ℕ → List (ℕ × ℕ) → Type 0
AreEdgesBefore funcs targets blocks starts n edges =
    ListsPairs (λ e. IsEdgeBy funcs targets blocks starts e × (e.0 < n)) edges

module _ (funcs : List Func) (targets : List (ℕ × ℕ)) (blocks : List Block) (starts : List ℕ) where
  pub edges_below : (n : ℕ) (edges : List (ℕ × ℕ)) → AreEdgesBefore funcs targets blocks starts n edges →
      All (λ e. e.0 < n) edges
  edges_below n edges are = λ k d within. (are.only (slice_index_or edges k d) (Contains-get_or edges k d within)).1

  pub edges_more : (n : ℕ) (old now : List (ℕ × ℕ)) (block : Block) (func : Func) (leads : List ℕ) →
      slice_get blocks n ≡ Some block → func_of funcs block ≡ Some func →
      ((a : ℕ) → Contains leads a ↔ LeadsFrom targets func block.last a) →
      AreNext blocks starts n block.func old leads now → AreEdgesBefore funcs targets blocks starts n old →
      AreEdgesBefore funcs targets blocks starts (n + 1) now
  edges_more n old now block func leads at func_at are next was =
      record { only = only; each = each; ordered = next.ordered }
    where
      only : (e : ℕ × ℕ) → Contains now e → IsEdgeBy funcs targets blocks starts e × (e.0 < n + 1)
      only e is_in = ⊎_elim
          (λ early. let (is, less) = was.only e early in (is, omega arith))
          (λ new.
          let from = new.from in
          let (k, a, within, there, begins) = new.to in (
            record {
              block = block;
              block_is = ap (slice_get blocks) from ∙ at;
              func = func;
              func_is = func_at;
              to = a;
              leads = (are a).0 (k, within, there);
              begins = begins;
            },
            omega arith,
          ))
          (next.only e is_in)

      each : (e : ℕ × ℕ) → IsEdgeBy funcs targets blocks starts e × (e.0 < n + 1) → Contains now e
      each e (is, less) = ⊎_elim
          (λ (early : e.0 < n). next.each e (inl (was.each e (is, early))))
          (λ (late : n ≤ e.0).
          let from : e.0 ≡ n = omega arith in
          let same : is.block ≡ block = same_Some is.block block (sym is.block_is ∙ ap (slice_get blocks) from ∙ at) in
          let same_func : is.func ≡ func =
          same_Some is.func func (sym is.func_is ∙ ap (func_of funcs) same ∙ func_at) in
          let leads_there : LeadsFrom targets func block.last is.to =
          subst (λ (f : Func). LeadsFrom targets f block.last is.to) same_func
          (subst (λ (b : Block). LeadsFrom targets is.func b.last is.to) same is.leads) in
          let (k, within, there) = (are is.to).1 leads_there in
          next.each e (inr (record {
            from = from;
            to = (k, is.to, within, there, subst (λ (b : Block). IsBlockAt blocks starts b.func is.to e.1) same is.begins);
          })))
          (cases_lt e.0 n)
