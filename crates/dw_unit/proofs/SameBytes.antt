-- Values whose bytes stay, at the same offset.
use Rattle.std.proofs.Common.{◌≡◌, ◌+◌, ◌++◌, ℕ, List, ap, sym, ◌∙◌, arith, length, take, drop, length-append, append_assoc}
use Rattle.std.proofs.lemmas.List.{take_at, drop_at}
use Rattle.dw_unit.specs.declared.entry.Attr.{Attr}
use Rattle.dw_unit.specs.CompUnits.{value_bytes}

-- Two lists of bytes that begin at `from` have the same value of an attribute.
pub record IsSameAt (from : ℕ) (a : Attr) (old new : List ℕ) : Type 0 where
  pub old_front : List ℕ
  pub new_front : List ℕ
  pub body : List ℕ
  pub old_rest : List ℕ
  pub new_rest : List ℕ
  pub old_is : old ≡ old_front ++ (body ++ old_rest)
  pub new_is : new ≡ new_front ++ (body ++ new_rest)
  pub same : length new_front ≡ length old_front
  pub place : a.place ≡ from + length old_front
  pub len : a.len ≡ length body

pub same_behind : (from to : ℕ) (a : Attr) (p q old new : List ℕ) → to ≡ from + length p → length q ≡ length p → IsSameAt to a old new →
    IsSameAt from a (p ++ old) (q ++ new)
same_behind from to a p q old new e f s =
    let g = length-append p s.old_front in
    let h = length-append q s.new_front in
    let i = s.same in
    let j = s.place in
    record {
      old_front = p ++ s.old_front;
      new_front = q ++ s.new_front;
      body = s.body;
      old_rest = s.old_rest;
      new_rest = s.new_rest;
      old_is = ap (λ (l : List ℕ). p ++ l) s.old_is ∙ sym (append_assoc p s.old_front (s.body ++ s.old_rest));
      new_is = ap (λ (l : List ℕ). q ++ l) s.new_is ∙ sym (append_assoc q s.new_front (s.body ++ s.new_rest));
      same = omega arith;
      place = omega arith;
      len = s.len;
    }

-- With any bytes after them.
pub same_before : (from : ℕ) (a : Attr) (old new x y : List ℕ) → IsSameAt from a old new → IsSameAt from a (old ++ x) (new ++ y)
same_before from a old new x y s = record {
  old_front = s.old_front;
  new_front = s.new_front;
  body = s.body;
  old_rest = s.old_rest ++ x;
  new_rest = s.new_rest ++ y;
  old_is = ap (λ (l : List ℕ). l ++ x) s.old_is ∙ append_assoc s.old_front (s.body ++ s.old_rest) x
      ∙ ap (λ (l : List ℕ). s.old_front ++ l) (append_assoc s.body s.old_rest x);
  new_is = ap (λ (l : List ℕ). l ++ y) s.new_is ∙ append_assoc s.new_front (s.body ++ s.new_rest) y
      ∙ ap (λ (l : List ℕ). s.new_front ++ l) (append_assoc s.body s.new_rest y);
  same = s.same;
  place = s.place;
  len = s.len;
}

value_at : (len place : ℕ) (section front body rest : List ℕ) → section ≡ front ++ (body ++ rest) → length front ≡ place →
    length body ≡ len →
    take len (drop place section) ≡ body
value_at len place section front body rest e f g =
    ap (λ (l : List ℕ). take len (drop place l)) e ∙ ap (λ (l : List ℕ). take len l) (drop_at front (body ++ rest) place f)
    ∙ take_at body rest len g

pub same_value_bytes : (a : Attr) (old new : List ℕ) → IsSameAt 0 a old new → value_bytes new a ≡ value_bytes old a
same_value_bytes a old new s =
    let i = s.same in
    let j = s.place in
    value_at a.len a.place new s.new_front s.body s.new_rest s.new_is (omega arith) (sym s.len)
    ∙ sym (value_at a.len a.place old s.old_front s.body s.old_rest s.old_is (omega arith) (sym s.len))
