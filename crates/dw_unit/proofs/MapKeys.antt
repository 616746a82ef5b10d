-- Keys of maps, with one more entry.
use Rattle.std.proofs.Common.{◌≡◌, ◌∙◌, ◌<◌, ℕ, zero, suc, true, cond, Some, List, [], ◌∷◌, BTreeMap, nat_cmp, refl}
use Rattle.std.proofs.Common.{sym, ap, subst, arith, length, get_or, is_some}
use Rattle.std.specs.Prelude.{◌==◌}
use Rattle.std.specs.BTreeMap.{get, is_at}
use Rattle.std.specs.List.{list_any}
use Rattle.std.proofs.lemmas.Bool.{eq-eqb, or_left, or_right}
use Rattle.std.proofs.lemmas.Grind.{get_or_default_zero}
use Rattle.table_core.specs.DebugUnits.{Walked}
use Rattle.dw_unit.specs.MapKeys.{HasKey, HasKeys, HasOffset, HasOffsets, KeepsKeys}
use Rattle.dw_unit.specs.NamedOffsets.{is_named_by, is_of, offset_of}
use Rattle.answer_runs.proofs.Ascending.{in_among}
use Rattle.dw_unit.proofs.SpelledSteps.{key_more}

module _ {X : Type 0} (old new : BTreeMap ℕ X) (k : ℕ) (v : X)
    (is : (q : ℕ) → get nat_cmp new q ≡ cond (is_at (nat_cmp k) q) (Some v) (get nat_cmp old q)) where
  pub keys_kept : KeepsKeys old new
  keys_kept q h = key_more old new k v is q ∙ or_left (is_some (get nat_cmp old q)) (k == q) h

  pub key_there : HasKey new k
  key_there = key_more old new k v is k ∙ or_right (is_some (get nat_cmp old k)) (k == k) (eq-eqb k k refl)

-- The abbreviation offset of one of the units.
named_at : (q : ℕ) (ws : List Walked) (i : ℕ) (d : Walked) → i < length ws → offset_of (get_or ws i d) ≡ Some q → is_named_by q ws ≡ true
named_at q [] i d h e = absurd (omega arith)
named_at q (w ∷ ws) zero d h e =
    or_left (is_of q (offset_of w)) (is_named_by q ws) (ap (is_of q) e ∙ eq-eqb q q refl)
named_at q (w ∷ ws) (suc i) d h e = or_right (is_of q (offset_of w)) (is_named_by q ws) (named_at q ws i d (omega arith) e)

pub offset_key : {X : Type 0} (m : BTreeMap ℕ X) (ws : List Walked) (i : ℕ) (d w : Walked) → HasOffsets m ws → i < length ws →
    w ≡ get_or ws i d → HasOffset m w
offset_key m ws i d w has h is q e = has q (named_at q ws i d h (ap offset_of (sym is) ∙ e))

-- The keys that units' abbreviation offsets are.
offset_keys : {X : Type 0} (m : BTreeMap ℕ X) (ws : List Walked) (os : List ℕ) → HasKeys m os →
    ((q : ℕ) → list_any (λ o. o == q) os ≡ is_named_by q ws) → HasOffsets m ws
offset_keys m ws os has named q e =
    let there = in_among q os (named q ∙ e) in
    subst (λ (x : ℕ). HasKey m x) (sym (get_or_default_zero os there.0 q there.1) ∙ there.2) (has there.0 there.1)

pub named_keys : {X : Type 0} (m : BTreeMap ℕ X) (os items : List ℕ) (ws us units : List Walked) → os ≡ items → ws ≡ units → us ≡ units →
    HasKeys m os →
    ((q : ℕ) → list_any (λ o. o == q) items ≡ is_named_by q ws) → HasOffsets m us
named_keys m os items ws us units o w u has named =
    offset_keys m us os has (λ q. ap (λ (l : List ℕ). list_any (λ o. o == q) l) o ∙ named q ∙ ap (is_named_by q) (w ∙ sym u))
