-- Kinds of frames that ascend, by a derived order, differ.
use Rattle.std.proofs.Common.{ℕ, ◌≡◌, ◌<◌, List, [], ◌∷◌, Some, Bool, true, false, refl, sym, ◌∙◌, ap, length, get_or}
use Rattle.std.specs.Prelude.{slice_get}
use Rattle.std.specs.declared.cmp.Ordering.{Ordering}
use Rattle.std.specs.declared.cmp.Ordering.TheVariants.{Less, Equal, Greater}
use Rattle.std.specs.Ordering.{ordering_then, nat_cmp, bool_cmp, eq_by_cmp, is_eq}
use Rattle.std.specs.List.{AllByRecursion, IsDistinct}
use Rattle.std.specs.List.Sorted.{IsStrictlySortedBy}
use Rattle.std.proofs.lemmas.Cmp.{ranked, tied_itself, nat_cmp_total}
use Rattle.std.proofs.lemmas.Map.Keys.{IsDistinct-from_sorted}
use Rattle.std.proofs.lemmas.Option.{slice_get-get_or}
use Rattle.rb_bytes.proofs.Tests.{clash}
use Rattle.frame_rewrite.specs.declared.cie_key.CieKey.{CieKey}
use Rattle.frame_rewrite.specs.contracts.cie_key.CieKeyOrd.TheImpl.{ghosts}
use Rattle.frame_rewrite.specs.SpelledFrames.{is_key}
use Rattle.frame_rewrite.proofs.KeyLists.{same-key}

both-equal : (o p : Ordering) → ordering_then o p ≡ Equal → (o ≡ Equal) × (p ≡ Equal)
both-equal Less p e = absurd (cc)
both-equal Equal p e = (refl, e)
both-equal Greater p e = absurd (cc)

same-number : (x y : ℕ) → nat_cmp x y ≡ Equal → x ≡ y
same-number x y e = ranked x y Equal (sym e)

same-bool : (x y : Bool) → bool_cmp x y ≡ Equal → x ≡ y
same-bool false false e = refl
same-bool false true e = absurd (cc)
same-bool true false e = absurd (cc)
same-bool true true e = refl

pub equal-key : (a b : CieKey) → ghosts.cmp a b ≡ Equal → a ≡ b
equal-key a b e =
    let p = both-equal (nat_cmp a.ra b.ra) _ e in
    let q = both-equal (nat_cmp a.handler b.handler) _ p.1 in
    let s = both-equal (bool_cmp a.indirect b.indirect) _ q.1 in
    let t = both-equal (bool_cmp a.signal b.signal) (bool_cmp a.tabled b.tabled) s.1 in
    λ i. record {
      ra = same-number a.ra b.ra p.0 i;
      handler = same-number a.handler b.handler q.0 i;
      indirect = same-bool a.indirect b.indirect s.0 i;
      signal = same-bool a.signal b.signal t.0 i;
      tabled = same-bool a.tabled b.tabled t.1 i;
    }

pub found-at : (keys : List CieKey) (key : CieKey) (i : ℕ) → i < length keys → ghosts.cmp (get_or keys i key) key ≡ Equal
    → slice_get keys i ≡ Some key
found-at keys key i l e =
    slice_get-get_or keys i key l ∙ ap (λ (k : CieKey). Some k) (equal-key (get_or keys i key) key e)

one-itself : (b : Bool) → bool_cmp b b ≡ Equal
one-itself false = refl
one-itself true = refl

itself : (k : CieKey) → ghosts.cmp k k ≡ Equal
itself k =
    let r : nat_cmp k.ra k.ra ≡ Equal = tied_itself nat_cmp_total k.ra in
    let h : nat_cmp k.handler k.handler ≡ Equal = tied_itself nat_cmp_total k.handler in
    rw (r, h, one-itself k.indirect, one-itself k.signal, one-itself k.tabled) refl

differs : (a b : CieKey) → eq_by_cmp ghosts.cmp a b ≡ false → is_key a b ≡ false
differs a b e = by (is_key a b) refl where
  by : (c : Bool) → is_key a b ≡ c → c ≡ false
  by true t =
      absurd (clash (eq_by_cmp ghosts.cmp a b) (ap (eq_by_cmp ghosts.cmp a) (same-key a b t) ∙ ap is_eq (itself a)) e)
  by false t = refl

all-differ : (a : CieKey) (ks : List CieKey) → AllByRecursion (λ y. eq_by_cmp ghosts.cmp a y ≡ false) ks
    → AllByRecursion (λ y. is_key a y ≡ false) ks
all-differ a [] f = tt
all-differ a (k ∷ ks) f = (differs a k f.0, all-differ a ks f.1)

distinct-so : (ks : List CieKey) → IsDistinct (eq_by_cmp ghosts.cmp) ks → IsDistinct is_key ks
unfolding IsDistinct
distinct-so [] d = tt
distinct-so (k ∷ ks) d = (all-differ k ks d.0, distinct-so ks d.1)

pub keys-differ : (ks : List CieKey) → IsStrictlySortedBy ghosts.cmp ks → IsDistinct is_key ks
keys-differ ks s = distinct-so ks (IsDistinct-from_sorted ghosts.cmp ks s)
