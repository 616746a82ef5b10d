-- Lists, entry by entry.
use Rattle.std.proofs.Common.{ℕ, suc, ◌+◌, ◌<◌, ◌≡◌, ◌==◌, List, [], Option, Some, None, Result, Ok, Err, Bool, false, cond, refl, sym, ◌∙◌}
use Rattle.std.proofs.Common.{ap, arith}
use Rattle.std.specs.Prelude.{option_and_then}
use Rattle.std.proofs.lemmas.Bool.Decides.{nat_tests}
use Rattle.rb_bytes.specs.declared.gap.Gap.{Gap}
use Rattle.rb_bytes.specs.Readers.{number_read, and_then}
use Rattle.table_core.specs.ReadSteps.{with_head}
use Rattle.dw_unit.specs.Trouble.{Read, whole}
use Rattle.dw_unit.specs.declared.trouble.Trouble.{Trouble}
use Rattle.dw_lists.specs.declared.list_kind.ListKind.{ListKind}
use Rattle.dw_lists.specs.declared.list_bound.Bound.{Bound}
use Rattle.dw_lists.specs.declared.list_bound.Bound.TheVariants.{Base, Between, Onward, Offsets, Default}
use Rattle.dw_lists.specs.declared.list_reading.Step.{Step}
use Rattle.dw_lists.specs.declared.list_reading.Flow.{Flow}
use Rattle.dw_lists.specs.ListEntries.{Item, item_behind, items_within}
use Rattle.dw_lists.specs.Lists.{resolved, bound_says, with_located, between}
use Rattle.cover_lists.specs.Located.{Located}
use Rattle.dw_lists.specs.ListReading.{item_of, said_from, step_says, StepSays, prefixed, flow_says, FlowSays}

-- If the entries after one aren't sound, the list isn't either.
none_says : (look : ℕ → Option ℕ) (base : ℕ) (x : List ℕ) (b : Bound) → bound_says look (λ _. None) base x b ≡ None
none_says look base x (Base a) = one (resolved look a)
  where
    one : (o : Option ℕ) → ◌≡◌ {A = Option (List Located)} (option_and_then (λ _. None) o) None
    one (Some a) = refl
    one None = refl
none_says look base x (Between a b) = two (resolved look a) (resolved look b)
  where
    two : (o p : Option ℕ) → ◌≡◌ {A = Option (List Located)}
        (option_and_then (λ low. option_and_then (λ high. with_located x (between low high) None) p) o) None
    two (Some a) (Some b) = refl
    two (Some a) None = refl
    two None p = refl
none_says look base x (Onward a n) = one (resolved look a)
  where
    one : (o : Option ℕ) → ◌≡◌ {A = Option (List Located)} (option_and_then (λ low. with_located x (between low (low + n)) None) o) None
    one (Some a) = refl
    one None = refl
none_says look base x (Offsets m n) = refl
none_says look base x Default = refl

said_head : (look : ℕ → Option ℕ) (base : ℕ) (i : Item) (r : Result (List Item) Trouble)
    → said_from look base (with_head i r) ≡ bound_says look (λ b. said_from look b r) base i.expression i.bound
said_head look base i (Ok items) = refl
said_head look base i (Err e) = sym (none_says look base i.expression i.bound)

module _ (list : ListKind) (look : ℕ → Option ℕ) (base : ℕ) (left : List ℕ) where
  abbrev said : ℕ → Option (List Located)
  said n = said_from look base (items_within (item_of list) (suc n) left)

  pub short : (gap : Gap) → number_read 1 left ≡ Err gap → (n : ℕ) → said n ≡ None
  unfolding items_within
  short gap e n = ap (λ (r : Result (ℕ
      × List ℕ) Gap). said_from look base (and_then (whole r) (item_behind (item_of list) (items_within (item_of list) n)))) e

  begun : (kind : ℕ) (left1 : List ℕ) (n : ℕ) → number_read 1 left ≡ Ok (kind, left1)
      → said n ≡ said_from look base (item_behind (item_of list) (items_within (item_of list) n) kind left1)
  unfolding items_within
  begun kind left1 n e = ap (λ (r : Result (ℕ
      × List ℕ) Gap). said_from look base (and_then (whole r) (item_behind (item_of list) (items_within (item_of list) n)))) e

  pub ended : (kind : ℕ) (left1 : List ℕ) → number_read 1 left ≡ Ok (kind, left1) → kind ≡ 0 → (n : ℕ) → said n ≡ Some []
  ended kind left1 e z n = begun kind left1 n e
      ∙ ap (λ (k : ℕ). said_from look base (item_behind (item_of list) (items_within (item_of list) n) k left1)) z

  behind : (kind : ℕ) (left1 : List ℕ) (n : ℕ) → number_read 1 left ≡ Ok (kind, left1) → 0 < kind
      → said n ≡ said_from look base (and_then (item_of list kind left1) (λ i rest. with_head i (items_within (item_of list) n rest)))
  behind kind left1 n e some =
      let test : (kind == 0) ≡ false = grind (arith, nat_tests) in
      begun kind left1 n e
      ∙ ap (λ (b : Bool). said_from look base (cond b (Ok []) (and_then (item_of list kind left1) (λ i rest. with_head i (items_within
      (item_of list) n rest))))) test

  pub bad : (kind : ℕ) (left1 : List ℕ) (t : Trouble) → number_read 1 left ≡ Ok (kind, left1) → 0 < kind → item_of list kind left1 ≡ Err t
      → (n : ℕ) → said n ≡ None
  bad kind left1 t e some wrong n = behind kind left1 n e some
      ∙ ap (λ (r : Read Item). said_from look base (and_then r (λ i rest. with_head i (items_within (item_of list) n rest)))) wrong

  pub stepped : (kind : ℕ) (left1 rest : List ℕ) (i : Item) (result : Option Step) → number_read 1 left ≡ Ok (kind, left1) → 0 < kind
      → item_of list kind left1 ≡ Ok (i, rest)
      → ((more : ℕ → Option (List Located)) → bound_says look more base i.expression i.bound ≡ step_says more base result)
      → StepSays list look base left rest result
  stepped kind left1 rest i result e some read says n = behind kind left1 n e some
      ∙ ap (λ (r : Read Item). said_from look base (and_then r (λ i rest. with_head i (items_within (item_of list) n rest)))) read
      ∙ said_head look base i (items_within (item_of list) n rest)
      ∙ says (λ b. said_from look b (items_within (item_of list) n rest))

-- The entries read so far, and one more step

module _ (list : ListKind) (look : ℕ →
    Option ℕ) (base base' : ℕ) (left rest : List ℕ) (out out' : List Located) (m k : ℕ) (want : Option (List Located))
    (so_far : prefixed out (said_from look base (items_within (item_of list) m left)) ≡ want) (less : m ≡ suc k) where
  pub goes : (f : Flow) → FlowSays list look base base' left rest out out' f
      → flow_says (λ b. said_from look b (items_within (item_of list) k rest)) base' out' f ≡ want
  goes f says =
      sym (ap (λ (n : ℕ). prefixed out (said_from look base (items_within (item_of list) n left))) less ∙ says k) ∙ so_far

  pub goes_as : (f g : Flow) → FlowSays list look base base' left rest out out' f → f ≡ g
      → flow_says (λ b. said_from look b (items_within (item_of list) k rest)) base' out' g ≡ want
  goes_as f g says is = ap (flow_says (λ b. said_from look b (items_within (item_of list) k rest)) base' out') (sym is) ∙ goes f says

-- Without fuel there is no result.
pub never_ends : (list : ListKind) (look : ℕ →
    Option ℕ) (base : ℕ) (left : List ℕ) (out : List Located) (m : ℕ) (want : Option (List Located))
    → prefixed out (said_from look base (items_within (item_of list) m left)) ≡ want → m ≡ 0 → None ≡ want
unfolding items_within
never_ends list look base left out m want so_far z =
    sym (ap (λ (k : ℕ). prefixed out (said_from look base (items_within (item_of list) k left))) z) ∙ so_far
