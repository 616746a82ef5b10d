-- Entries that are walked one after another.
use Rattle.std.proofs.Common.{◌≡◌, ◌∙◌, ◌+◌, ◌-◌, ◌<◌, ◌≤◌, ◌++◌, ℕ, suc, Bool, List, [], ◌∷◌, Some, None, refl, sym, ap, arith, length}
use Rattle.std.proofs.Common.{append_assoc}
use Rattle.std.proofs.lemmas.List.{append-nil}
use Rattle.rb_bytes.proofs.Tests.{less_one}
use Rattle.cfi_rows.specs.Entries.{RawEntry, Front, Ends, Breaks, Stands, front_of, WalkedEntries, walk, onward}

-- the entries that were walked, and then the rest
abbrev pub after : List RawEntry → WalkedEntries → WalkedEntries
after es w = record { entries = es ++ w.entries; broken = w.broken }

walk-step : (debug : Bool) (n place : ℕ) (left : List ℕ) → 0 < length left →
    walk debug (suc n) place left ≡ onward place (front_of debug place left) (walk debug n)
unfolding walk
walk-step debug n place [] h = absurd (omega arith)
walk-step debug n place (b ∷ bs) h = refl

onward-is : (debug : Bool) (n count place : ℕ) (left : List ℕ) (es : List RawEntry) (f : Front) → count < n → 0 < length left →
    front_of debug place left ≡ f →
    after es (walk debug (n - count) place left) ≡ after es (onward place f (walk debug (n - (count + 1))))
onward-is debug n count place left es f h l e =
    ap (λ m. after es (walk debug m place left)) (less_one n count h)
    ∙ ap (after es) (walk-step debug (n - (count + 1)) place left l ∙ ap (λ x. onward place x (walk debug (n - (count + 1)))) e)

pub next : (debug : Bool) (n count place : ℕ) (left : List ℕ) (es : List RawEntry) (e : RawEntry) (rest : List ℕ) → count < n →
    0 < length left →
    front_of debug place left ≡ Stands e rest →
    after es (walk debug (n - count) place left) ≡ after (es ++ e ∷ []) (walk debug (n - (count + 1)) (place + 8 + length e.body) rest)
next debug n count place left es e rest h l f =
    onward-is debug n count place left es (Stands e rest) h l f
    ∙ (let more = walk debug (n - (count + 1)) (place + 8 + length e.body) rest in
    ap (λ (xs : List RawEntry). record { entries = xs; broken = more.broken }) (sym (append_assoc es (e ∷ []) more.entries)))

pub ends : (debug : Bool) (n count place : ℕ) (left : List ℕ) (es : List RawEntry) → count < n → 0 < length left →
    front_of debug place left ≡ Ends → after es (walk debug (n - count) place left) ≡ record { entries = es; broken = None }
ends debug n count place left es h l f =
    onward-is debug n count place left es Ends h l f
    ∙ ap (λ (xs : List RawEntry). record { entries = xs; broken = None }) (append-nil es)

pub breaks : (debug : Bool) (n count place : ℕ) (left : List ℕ) (es : List RawEntry) → count < n → 0 < length left →
    front_of debug place left ≡ Breaks → after es (walk debug (n - count) place left) ≡ record { entries = es; broken = Some place }
breaks debug n count place left es h l f =
    onward-is debug n count place left es Breaks h l f
    ∙ ap (λ (xs : List RawEntry). record { entries = xs; broken = Some place }) (append-nil es)

walk-nil : (debug : Bool) (n place : ℕ) (left : List ℕ) → length left ≡ 0 →
    walk debug n place left ≡ record { entries = []; broken = None }
unfolding walk
walk-nil debug n place [] h = refl
walk-nil debug n place (b ∷ bs) h = absurd (omega arith)

pub stops : (debug : Bool) (n place : ℕ) (left : List ℕ) (es : List RawEntry) → length left ≡ 0 →
    after es (walk debug n place left) ≡ record { entries = es; broken = None }
stops debug n place left es h = ap (after es) (walk-nil debug n place left h)
    ∙ ap (λ (xs : List RawEntry). record { entries = xs; broken = None }) (append-nil es)

walk-out : (debug : Bool) (place : ℕ) (left : List ℕ) → 0 < length left →
    walk debug 0 place left ≡ record { entries = []; broken = Some place }
unfolding walk
walk-out debug place [] h = absurd (omega arith)
walk-out debug place (b ∷ bs) h = refl

pub runs_out : (debug : Bool) (n count place : ℕ) (left : List ℕ) (es : List RawEntry) → n ≤ count → 0 < length left →
    after es (walk debug (n - count) place left) ≡ record { entries = es; broken = Some place }
runs_out debug n count place left es h l = let z : n - count ≡ 0 = omega arith in
    ap (λ m. after es (walk debug m place left)) z ∙ ap (after es) (walk-out debug place left l)
    ∙ ap (λ (xs : List RawEntry). record { entries = xs; broken = Some place }) (append-nil es)
