-- Lists of runs that are extended at the end.
use Rattle.std.proofs.Common.{ℕ, List, [], ◌∷◌, ◌++◌, Option, Some, None, ◌+◌, ◌≤◌, ◌<◌, ◌≡◌, ◌≢◌, ◌==◌, refl, sym, ◌∙◌, ap}
use Rattle.std.proofs.Common.{option_map, cond, leb, ltb, ◌&&◌, Bool, true, false, subst, arith, length, get_or, slice_set, zero, suc}
use Rattle.std.proofs.lemmas.Bool.Decides.{nat_tests}
use Rattle.std.specs.Prelude.{option_and_then}
use Rattle.std.specs.Option.{option_or}
use Rattle.rb_bytes.proofs.Options.{mapped_or}
use Rattle.addr_map.specs.declared.span.Span.{Span}
use Rattle.answer_runs.specs.CarriedAnswers.{Agree, IsCarried}
use Rattle.answer_runs.specs.declared.run.Run.{Run}
use Rattle.answer_runs.specs.AnswerRuns.{answer_over, answer_in, run_at, said_runs, IsWithin, AreLongest}
use Rattle.answer_runs.specs.LastRuns.{IfLast, IsAnswer, ends_at, lengthened}

pub or_none : {A : Type 0} (o : Option A) → option_or o None ≡ o
or_none (Some x) = refl
or_none None = refl

or_assoc : {A : Type 0} (a b c : Option A) → option_or a (option_or b c) ≡ option_or (option_or a b) c
or_assoc (Some x) b c = refl
or_assoc None b c = refl

over_join : {A : Type 0} (s n t m : ℕ) (x : A) (p : ℕ) → s + n ≡ t
    → answer_over s (n + m) x p ≡ option_or (answer_over s n x p) (answer_over t m x p)
over_join s n t m x p e = grind (arith, nat_tests)

pub within-up : {A : Type 0} (lo : ℕ) (xs : List (Run A)) (mid hi : ℕ) → IsWithin lo xs mid → mid ≤ hi → IsWithin lo xs hi
within-up lo [] mid hi w e = omega arith
within-up lo (x ∷ xs) mid hi w e = (w.0, w.1, within-up (x.start + x.len) xs mid hi w.2 e)

-- One more run.

pub run_at-more : {A : Type 0} (xs : List (Run A)) (r : Run A) (p : ℕ)
    → run_at (xs ++ r ∷ []) p ≡ option_or (run_at xs p) (answer_over r.start r.len r.answer p)
run_at-more [] r p = or_none _
run_at-more (x ∷ xs) r p =
    ap (option_or (answer_in x p)) (run_at-more xs r p)
    ∙ or_assoc (answer_in x p) (run_at xs p) (answer_over r.start r.len r.answer p)

pub within-more : {A : Type 0} (lo : ℕ) (xs : List (Run A)) (r : Run A) (hi : ℕ)
    → IsWithin lo xs r.start → 0 < r.len → r.start + r.len ≤ hi → IsWithin lo (xs ++ r ∷ []) hi
within-more lo [] r hi w n e = (w, n, e)
within-more lo (x ∷ xs) r hi w n e = (w.0, w.1, within-more (x.start + x.len) xs r hi w.2 n e)

-- A run that can't be merged into the run before it.
abbrev pub IsApart : {A : Type 0} → Run A → Run A → Type 0
IsApart r l = l.start + l.len ≡ r.start → l.answer ≢ r.answer

pub longest-more : {A : Type 0} (xs : List (Run A)) (r : Run A) → AreLongest xs → IfLast (IsApart r) xs → AreLongest (xs ++ r ∷ [])
longest-more [] r m e = tt
longest-more (x ∷ []) r m e = (e, tt)
longest-more (x ∷ y ∷ zs) r m e = (m.0, longest-more (y ∷ zs) r m.1 e)

pub answer-more : {A : Type 0} (xs : List (Run A)) (r : Run A) → IsAnswer (Some r.answer) (xs ++ r ∷ [])
answer-more [] r = refl
answer-more (x ∷ []) r = refl
answer-more (x ∷ y ∷ zs) r = answer-more (y ∷ zs) r

pub last-weaker : {A : Type 0} {P Q : Run A → Type 0} (xs : List (Run A)) → ((r : Run A) → P r → Q r) → IfLast P xs → IfLast Q xs
last-weaker [] f h = tt
last-weaker (x ∷ []) f h = f x h
last-weaker {A} {P} {Q} (x ∷ y ∷ zs) f h = last-weaker {P = P} {Q = Q} (y ∷ zs) f h

pub apart-end : {A : Type 0} (xs : List (Run A)) (r : Run A) → ends_at r.start xs ≡ false → IfLast (IsApart r) xs
apart-end [] r e = tt
apart-end (x ∷ []) r e = λ same answers. absurd (differ (x.start + x.len) r.start same e)
  where
    differ : (n m : ℕ) → n ≡ m → (n == m) ≡ false → ⊥
    differ n m same e = grind (arith, nat_tests)
apart-end (x ∷ y ∷ zs) r e = apart-end (y ∷ zs) r e

-- The last run with more bytes.

one-longer : {A X : Type 0} (r : Run A) (t n p : ℕ) (f : X → Option A) (a : X) → (r.start + r.len == t) ≡ true → f a ≡ Some r.answer
    → option_or (answer_over r.start (r.len + n) r.answer p) None
    ≡ option_or (option_or (answer_over r.start r.len r.answer p) None) (option_and_then f (answer_over t n a p))
one-longer {A} {X} r t n p f a end is =
    or_none (answer_over r.start (r.len + n) r.answer p) ∙ over_join r.start r.len t n r.answer p (met (r.start + r.len) t end)
    ∙ ap (λ (o : Option A). option_or o (answer_over t n r.answer p)) (sym (or_none (answer_over r.start r.len r.answer p)))
    ∙ ap (option_or (option_or (answer_over r.start r.len r.answer p) None)) (sym (over (leb t p && ltb p (t + n))))
  where
    met : (n m : ℕ) → (n == m) ≡ true → n ≡ m
    met n m e = grind (arith, nat_tests)

    over : (b : Bool) → option_and_then f (cond b (Some a) None) ≡ cond b (Some r.answer) None
    over true = is
    over false = refl

pub run_at-longer : {A X : Type 0} (xs : List (Run A)) (t n p : ℕ) (f : X → Option A) (a : X) → ends_at t xs ≡ true → IsAnswer (f a) xs
    → run_at (lengthened n xs) p ≡ option_or (run_at xs p) (option_and_then f (answer_over t n a p))
run_at-longer [] t n p f a end is = absurd (cc)
run_at-longer (x ∷ []) t n p f a end is = one-longer x t n p f a end is
run_at-longer (x ∷ y ∷ zs) t n p f a end is =
    ap (option_or (answer_in x p)) (run_at-longer (y ∷ zs) t n p f a end is)
    ∙ or_assoc (answer_in x p) (run_at (y ∷ zs) p) (option_and_then f (answer_over t n a p))

-- An answer that is the same at all addresses.
pub and_then-Some : {A : Type 0} (o : Option A) → option_and_then Some o ≡ o
and_then-Some (Some x) = refl
and_then-Some None = refl

pub within-longer : {A : Type 0} (lo : ℕ) (xs : List (Run A)) (t n : ℕ) → IsWithin lo xs t → IsWithin lo (lengthened n xs) (t + n)
within-longer lo [] t n w = omega arith
within-longer lo (x ∷ []) t n w = (w.0, omega (arith, w.1), omega (arith, w.2))
within-longer lo (x ∷ y ∷ zs) t n w = (w.0, w.1, within-longer (x.start + x.len) (y ∷ zs) t n w.2)

pub longest-longer : {A : Type 0} (xs : List (Run A)) (n : ℕ) → AreLongest xs → AreLongest (lengthened n xs)
longest-longer [] n m = tt
longest-longer (x ∷ []) n m = tt
longest-longer (x ∷ y ∷ []) n m = (m.0, tt)
longest-longer (x ∷ y ∷ z ∷ zs) n m = (m.0, longest-longer (y ∷ z ∷ zs) n m.1)

pub answer-longer : {A : Type 0} (o : Option A) (xs : List (Run A)) (n : ℕ) → IsAnswer o xs → IsAnswer o (lengthened n xs)
answer-longer o [] n h = tt
answer-longer o (x ∷ []) n h = h
answer-longer o (x ∷ y ∷ []) n h = h
answer-longer o (x ∷ y ∷ z ∷ zs) n h = answer-longer o (y ∷ z ∷ zs) n h

-- A last run within bounds ends within them, and can be extended.
pub last-within : {A : Type 0} (lo : ℕ) (xs : List (Run A)) (t : ℕ) → IsWithin lo xs t → IfLast (λ r. r.start + r.len ≤ t) xs
last-within lo [] t w = tt
last-within lo (x ∷ []) t w = w.2
last-within lo (x ∷ y ∷ zs) t w = last-within (x.start + x.len) (y ∷ zs) t w.2

pub last-room : {A : Type 0} (lo : ℕ) (xs : List (Run A)) (t n m : ℕ) → IsWithin lo xs t → t + n < m → IfLast (λ r. r.len + n < m) xs
last-room lo [] t n m w lt = tt
last-room lo (x ∷ []) t n m w lt = omega (arith, w.2)
last-room lo (x ∷ y ∷ zs) t n m w lt = last-room (x.start + x.len) (y ∷ zs) t n m w.2 lt

-- The last run by its index.

pub last-get : {A : Type 0} (P : Run A → Type 0) (xs : List (Run A)) (k : ℕ) (r : Run A) → k + 1 ≡ length xs → r ≡ get_or xs k r → P r →
    IfLast P xs
last-get P [] k r end is h = tt
last-get P (x ∷ []) zero r end is h = subst P is h
last-get P (x ∷ []) (suc k) r end is h = absurd (omega arith)
last-get P (x ∷ y ∷ zs) zero r end is h = absurd (omega arith)
last-get P (x ∷ y ∷ zs) (suc k) r end is h = last-get P (y ∷ zs) k r (omega arith) is h

pub get-last : {A : Type 0} (P : Run A → Type 0) (xs : List (Run A)) (k : ℕ) (r : Run A) → k + 1 ≡ length xs → r ≡ get_or xs k r →
    IfLast P xs → P r
get-last P [] k r end is h = absurd (omega arith)
get-last P (x ∷ []) zero r end is h = subst P (sym is) h
get-last P (x ∷ []) (suc k) r end is h = absurd (omega arith)
get-last P (x ∷ y ∷ zs) zero r end is h = absurd (omega arith)
get-last P (x ∷ y ∷ zs) (suc k) r end is h = get-last P (y ∷ zs) k r (omega arith) is h

pub ends-get : {A : Type 0} (xs : List (Run A)) (k : ℕ) (r : Run A) (t : ℕ) → k + 1 ≡ length xs → r ≡ get_or xs k r
    → (r.start + r.len == t) ≡ ends_at t xs
ends-get [] k r t end is = absurd (omega arith)
ends-get {A} (x ∷ []) zero r t end is = ap (λ (l : Run A). l.start + l.len == t) is
ends-get (x ∷ []) (suc k) r t end is = absurd (omega arith)
ends-get (x ∷ y ∷ zs) zero r t end is = absurd (omega arith)
ends-get (x ∷ y ∷ zs) (suc k) r t end is = ends-get (y ∷ zs) k r t (omega arith) is

pub set-longer : {A : Type 0} (xs : List (Run A)) (k : ℕ) (r : Run A) (n : ℕ) → k + 1 ≡ length xs → r ≡ get_or xs k r
    → slice_set xs k (record { start = r.start; len = r.len + n; answer = r.answer }) ≡ lengthened n xs
set-longer [] k r n end is = absurd (omega arith)
set-longer {A} (x ∷ []) zero r n end is = ap (λ (l : Run A). record { start = l.start; len = l.len + n; answer = l.answer } ∷ []) is
set-longer (x ∷ []) (suc k) r n end is = absurd (omega arith)
set-longer (x ∷ y ∷ zs) zero r n end is = absurd (omega arith)
set-longer (x ∷ y ∷ zs) (suc k) r n end is = ap (λ l. x ∷ l) (set-longer (y ∷ zs) k r n (omega arith) is)

-- Answers of runs, and the meanings of these answers.

pub said-more : {A M : Type 0} (f : A → M) (xs : List (Run A)) (r : Run A)
    → said_runs f (xs ++ r ∷ []) ≡ said_runs f xs ++ record { start = r.start; len = r.len; answer = f r.answer } ∷ []
said-more f [] r = refl
said-more f (x ∷ xs) r = ap (λ l. record { start = x.start; len = x.len; answer = f x.answer } ∷ l) (said-more f xs r)

pub said-longer : {A M : Type 0} (f : A → M) (xs : List (Run A)) (n : ℕ) → said_runs f (lengthened n xs) ≡ lengthened n (said_runs f xs)
said-longer f [] n = refl
said-longer f (x ∷ []) n = refl
said-longer f (x ∷ y ∷ zs) n = ap (λ l. record { start = x.start; len = x.len; answer = f x.answer } ∷ l) (said-longer f (y ∷ zs) n)

pub said-ends : {A M : Type 0} (f : A → M) (xs : List (Run A)) (t : ℕ) → ends_at t (said_runs f xs) ≡ ends_at t xs
said-ends f [] t = refl
said-ends f (x ∷ []) t = refl
said-ends f (x ∷ y ∷ zs) t = said-ends f (y ∷ zs) t

pub said-last : {A M : Type 0} (f : A → M) (P : M → Type 0) (xs : List (Run A)) → IfLast (λ r. P (f r.answer)) xs →
    IfLast (λ r. P r.answer) (said_runs f xs)
said-last f P [] h = tt
said-last f P (x ∷ []) h = h
said-last f P (x ∷ y ∷ zs) h = said-last f P (y ∷ zs) h

said_if : {A M : Type 0} (f : A → M) (b : Bool) (x : A) → option_map f (cond b (Some x) None) ≡ cond b (Some (f x)) None
said_if f true x = refl
said_if f false x = refl

pub said_at : {A M : Type 0} (f : A → M) (rs : List (Run A)) (p : ℕ) → option_map f (run_at rs p) ≡ run_at (said_runs f rs) p
said_at f [] p = refl
said_at f (r ∷ rs) p =
    mapped_or f (answer_in r p) (run_at rs p)
    ∙ ap (λ o. option_or o (option_map f (run_at rs p))) (said_if f (leb r.start p && ltb p (r.start + r.len)) r.answer)
    ∙ ap (option_or (answer_over r.start r.len (f r.answer) p)) (said_at f rs p)

pub unsaid-within : {A M : Type 0} (f : A → M) (lo : ℕ) (rs : List (Run A)) (hi : ℕ) → IsWithin lo (said_runs f rs) hi → IsWithin lo rs hi
unsaid-within f lo [] hi w = w
unsaid-within f lo (r ∷ rs) hi w = (w.0, w.1, unsaid-within f (r.start + r.len) rs hi w.2)

-- Carried answers only depend on the values of the function.

pub wanted-same : {A : Type 0} (R : A → A → Type 0) (spans : List Span) (f g : ℕ → Option A) (m : Option (ℕ → Option A))
    → ((p : ℕ) → f p ≡ g p) → IsCarried R spans f m → IsCarried R spans g m
wanted-same R spans f g None e h = h
wanted-same {A} R spans f g (Some at) e h = λ p some. subst (λ (w : Option A). Agree R w (at p)) (e p) (h p some)
