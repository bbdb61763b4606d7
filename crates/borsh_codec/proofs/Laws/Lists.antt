-- Lists of bytes, and how they are cut.
use Rattle.std.proofs.Common.{◌≡◌, ℕ, Bool, true, false, cond, ◌&&◌, ◌||◌, List, [], ◌∷◌, ◌++◌, length, Option, Some, None, ◌⊎◌, refl, sym, ◌∙◌, ap, subst, inl, inr, append-nil, append_assoc, arith, true≢false}
use Rattle.borsh_codec.specs.Codec.{Codec, IsDecodable, Lawful}
use Rattle.borsh_codec.specs.Shapes.{append_encodings}

-- the cut of x and y comes first, or that of u and v
pub record Split (x y u v : List ℕ) : Type 0 where
  pub more : List ℕ
  pub front : u ≡ x ++ more
  pub rest : y ≡ more ++ v

-- of two cuts of one list, one comes first
pub cuts : (x y u v : List ℕ) → x ++ y ≡ u ++ v → Split x y u v ⊎ Split u v x y
cuts [] y u v e = inl (record { more = u; front = refl; rest = e })
cuts (a ∷ x) y [] v e = inr (record { more = a ∷ x; front = refl; rest = sym e })
cuts (a ∷ x) y (b ∷ u) v e =
    let tails : x ++ y ≡ u ++ v = cc in
    let heads : a ≡ b = cc in
    elim (cuts x y u v tails) [
      | inl s ↦ inl (record { more = s.more; front = (let p = s.front in cc); rest = s.rest })
      | inr s ↦ inr (record { more = s.more; front = (let p = s.front in cc); rest = s.rest })
    ]

-- no list with P is a proper beginning of another one
abbrev pub PrefixFree : (List ℕ → Type 0) → Type 0
PrefixFree P = (x z : List ℕ) → P x → P (x ++ z) → z ≡ []

-- of two fronts with P of one list both are the same
pub same_front : (P : List ℕ → Type 0) → PrefixFree P → (x y u v : List ℕ) → P x → P u → x ++ y ≡ u ++ v → (x ≡ u) × (y ≡ v)
same_front P free x y u v p q e =
    elim (cuts x y u v e) [
      | inl s ↦ (let none : s.more ≡ [] = free x s.more p (subst P s.front q) in
          (sym (append-nil x) ∙ ap (λ z. x ++ z) (sym none) ∙ sym s.front, s.rest ∙ ap (λ z. z ++ v) none))
      | inr s ↦ (let none : s.more ≡ [] = free u s.more q (subst P s.front p) in
          (s.front ∙ ap (λ z. u ++ z) none ∙ append-nil u, sym (s.rest ∙ ap (λ z. z ++ y) none)))
    ]

pub decodable_prefix_free : {A : Type 0} {c : Codec A} → Lawful A c → (strict : Bool) → PrefixFree (IsDecodable c strict)
decodable_prefix_free l strict x z p q = l.prefix_free strict x z p.0 q.0 p.1 q.1

pub nil_of_length : (x : List ℕ) → length x ≡ 0 → x ≡ []
nil_of_length [] e = refl
nil_of_length (a ∷ x) e = absurd (omega arith)

pub nil_parts : (x y : List ℕ) → [] ≡ x ++ y → (x ≡ []) × (y ≡ [])
nil_parts [] y e = (refl, sym e)
nil_parts (a ∷ x) y e = absurd (cc)

pub some_same : {A : Type 0} (x y : A) → Some x ≡ Some y → x ≡ y
some_same x y e = cc

-- ---- tests

-- a condition that holds, and what is given under it
pub record GivenIf {A : Type 0} (b : Bool) (o : Option A) (x : A) : Type 0 where
  pub holds : b ≡ true
  pub is : o ≡ Some x

pub some_if_true : {A : Type 0} (b : Bool) (o : Option A) (x : A) → cond b o None ≡ Some x → GivenIf b o x
some_if_true true o x e = record { holds = refl; is = e }
some_if_true false o x e = absurd (cc)

pub and_true : (a b : Bool) → a && b ≡ true → (a ≡ true) × (b ≡ true)
and_true true b e = (refl, e)
and_true false b e = absurd (true≢false (sym e))

pub and_false : (a b : Bool) → a && b ≡ false → (a ≡ false) ⊎ (b ≡ false)
and_false true b e = inr e
and_false false b e = inl refl

pub or_true : (a b : Bool) → a || b ≡ true → (a ≡ true) ⊎ (b ≡ true)
or_true true b e = inl refl
or_true false b e = inr e

pub or_false : (a b : Bool) → a || b ≡ false → (a ≡ false) × (b ≡ false)
or_false true b e = absurd (true≢false e)
or_false false b e = (refl, e)

pub or_left : (a b : Bool) → a ≡ true → a || b ≡ true
or_left a b e = rw e refl

pub or_right : (a b : Bool) → b ≡ true → a || b ≡ true
or_right true b e = refl
or_right false b e = e

pub or_map : (a b c : Bool) → (a ≡ true → b ≡ true) → a || c ≡ true → b || c ≡ true
or_map true b c f e = or_left b c (f refl)
or_map false b c f e = or_right b c e

-- ---- the bytes of two parts

pub record Joined (o p : Option (List ℕ)) (x : List ℕ) : Type 0 where
  pub first : List ℕ
  pub second : List ℕ
  pub left : o ≡ Some first
  pub right : p ≡ Some second
  pub whole : x ≡ first ++ second

pub joined_some : (o p : Option (List ℕ)) (x : List ℕ) → append_encodings o p ≡ Some x → Joined o p x
joined_some None p x e = absurd (cc)
joined_some (Some y) None x e = absurd (cc)
joined_some (Some y) (Some z) x e = record { first = y; second = z; left = refl; right = refl; whole = cc }

pub joined_is : (o p : Option (List ℕ)) (y z : List ℕ) → o ≡ Some y → p ≡ Some z → append_encodings o p ≡ Some (y ++ z)
joined_is o p y z e f = rw (e, f) refl

pub joined_none : (o p : Option (List ℕ)) → (o ≡ None) ⊎ (p ≡ None) → append_encodings o p ≡ None
joined_none o p (inl e) = rw e refl
joined_none None p (inr e) = refl
joined_none (Some x) p (inr e) = rw e refl

pub joined_assoc : (o p q : Option (List ℕ)) → append_encodings (append_encodings o p) q ≡ append_encodings o (append_encodings p q)
joined_assoc None p q = refl
joined_assoc (Some x) None q = refl
joined_assoc (Some x) (Some y) None = refl
joined_assoc (Some x) (Some y) (Some z) = ap Some (append_assoc x y z)

pub joined_nil : (o : Option (List ℕ)) → append_encodings (Some []) o ≡ o
joined_nil None = refl
joined_nil (Some x) = refl

pub joined_last : (o : Option (List ℕ)) → append_encodings o (Some []) ≡ o
joined_last None = refl
joined_last (Some x) = ap Some (append-nil x)
