-- The kinds of names.
use Rattle.std.proofs.{Common.{◌≡◌, ◌⊎◌, inl, inr, ℕ, suc, zero, ◌<◌, List, [], ◌∷◌, Bool, true, false, Option, Some, None, refl, sym, ◌∙◌, ap, subst, arith, map, ◌==◌, ◌&&◌, ◌||◌, if◌then◌else◌, codes, not, option_map, ℤ, bytes_eq}, lemmas.Bool.{or_cases}, lemmas.Bool.Decides.{nat_tests}, lemmas.Slice.Eq.{bytes_eq-Decides}}
use Rattle.borsh_walks.specs.Container.{first, zeroed}
use Rattle.std.specs.{Float.{Format, binary32, binary64}, List.{AllByRecursion, IsDistinct}}
use Rattle.borsh_plan.specs.declared.named.Named.{Named}
use Rattle.borsh_json.specs.{declared.formats.Collection.{Collection}, declared.formats.Collection.TheVariants.{List as AList, Set, Map}, declared.kinds.Elements.{Elements}, declared.kinds.Kind.TheVariants.{Numbers, List as ElementList}, declared.numbers.Number.{Number}, Forms.{Form, primitive, sequence, choice, named, unnamed, HasNoBytes, IsByte, IsOption, IsMap, shape_of_form, shapes}, Table.{Lengths, IsString, Keys, texts, numbers, Kind, truth, whole, float, float_size, utf8, byte_list, list, fields, variants, optional, entries, inner, DefinedKind, number_types, number_kind, primitive_kind, AreKeys, SequenceKind, a_text, some_bytes, an_object, some_elements, nullable, by_name, HasKind, IsNullable, MayBeNull, without_bytes, an_option, in_newtype, Says, ComesTwice, HasEmptyElements, RepeatsName}, Ranks.{number_found}, Places.{IsAt, IsKindOf, IsUnsayable, lengths_of}, Found.{IsCollection}}
use Rattle.borsh_values.specs.Nodes.{packed_size}
use Rattle.borsh_json.proofs.{FoundLaws.{full_primitive, full_list, byte_full, zero_part}, RepresentsLaws.{byte_or_map, kind_one, map_one}}

-- ---- tests
pub and_true : (a b : Bool) → (a && b) ≡ true → (a ≡ true) × (b ≡ true)
and_true true b e = (refl, e)
and_true false b e = cc

pub ne_false : (r b : Bool) → r ≡ not b → r ≡ false → b ≡ true
ne_false r true e f = refl
ne_false r false e f = cc

if_not : (b : Bool) (k l : Kind) → (b ≡ true → ⊥) → (if b then k else l) ≡ l
if_not true k l n = absurd (n refl)
if_not false k l n = refl

-- ---- primitives
name_is : (x n : List ℕ) → bytes_eq x n ≡ true → x ≡ n
name_is x n e = (bytes_eq-Decides x n).0 e

-- a name of a number is none of the others
pub number_primitive : (x : List ℕ) (n m : ℕ) (s z : Bool) → number_kind number_types x n ≡ whole m s z → primitive_kind x n ≡ whole m s z
number_primitive x n m s z e =
    if_not _ truth _ (λ t. (let g = subst (λ x. number_kind number_types x n ≡ whole m s z) (name_is x (codes "bool") (and_true (bytes_eq x (codes "bool")) (n == 1) t).0) e in cc))
    ∙ if_not _ (float binary32) _ (λ t. (let g = subst (λ x. number_kind number_types x n ≡ whole m s z) (name_is x (codes "f32") (and_true (bytes_eq x (codes "f32")) (n == 4) t).0) e in cc))
    ∙ if_not _ (float binary64) _ (λ t. (let g = subst (λ x. number_kind number_types x n ≡ whole m s z) (name_is x (codes "f64") (and_true (bytes_eq x (codes "f64")) (n == 8) t).0) e in cc))
    ∙ e

pub float_primitive : (x : List ℕ) (n : ℕ) → ((bytes_eq x (codes "f32") && (n == 4)) || (bytes_eq x (codes "f64") && (n == 8))) ≡ true → (g : Format) × (n ≡ float_size g) × (primitive_kind x n ≡ float g)
float_primitive x n e = elim (or_cases (bytes_eq x (codes "f32") && (n == 4)) (bytes_eq x (codes "f64") && (n == 8)) e) [
  | inl t ↦ (let a = and_true (bytes_eq x (codes "f32")) (n == 4) t in let q : n ≡ 4 = (let b = a.1 in grind (arith, nat_tests)) in
      (binary32, q, ap (λ x. primitive_kind x n) (name_is x (codes "f32") a.0) ∙ ap (λ n. primitive_kind (codes "f32") n) q))
  | inr t ↦ (let a = and_true (bytes_eq x (codes "f64")) (n == 8) t in let q : n ≡ 8 = (let b = a.1 in grind (arith, nat_tests)) in
      (binary64, q, ap (λ x. primitive_kind x n) (name_is x (codes "f64") a.0) ∙ ap (λ n. primitive_kind (codes "f64") n) q))
]

-- a number has some bytes, as many as its definition
abbrev Fits : ℕ → Kind → Type 0
Fits n kind = (m : ℕ) (s z : Bool) → kind ≡ whole m s z → (m ≡ n) × (0 < m)

fits_if : (n : ℕ) (b : Bool) (k l : Kind) → (b ≡ true → Fits n k) → Fits n l → Fits n (if b then k else l)
fits_if n true k l p q = p refl
fits_if n false k l p q = q

number_fits : (ts : List (List ℕ × ℕ × Bool × Bool)) (x : List ℕ) (n : ℕ) → AllByRecursion (λ (t : List ℕ × ℕ × Bool × Bool). 0 < t.1) ts → Fits n (number_kind ts x n)
number_fits [] x n h = λ m s z e. cc
number_fits (t ∷ ts) x n h = fits_if n (bytes_eq x t.0 && (t.1 == n)) (whole t.1 t.2 t.3) (number_kind ts x n)
    (λ b m s z e. (let q : t.1 ≡ m = cc in let c = (and_true (bytes_eq x t.0) (t.1 == n) b).1 in let r : t.1 ≡ n = grind (arith, nat_tests) in (sym q ∙ r, subst (λ m. 0 < m) q h.0)))
    (number_fits ts x n h.1)

pub primitive_fits : (x : List ℕ) (n : ℕ) → Fits n (primitive_kind x n)
primitive_fits x n =
    fits_if n _ truth _ (λ b m s z e. cc) (fits_if n _ (float binary32) _ (λ b m s z e. cc) (fits_if n _ (float binary64) _ (λ b m s z e. cc) (number_fits number_types x n (omega arith))))

module _ (F : List ℕ → Option Form) where
  some_size : {x : List ℕ} (n : ℕ) → 0 < n → F x ≡ Some (primitive n) → HasNoBytes F x → ⊥
  some_size zero h e = absurd (omega (arith, h))
  some_size (suc n) h e = full_primitive F e

  pub keys_full : (k : List ℕ) (keys : Keys) → AreKeys F k keys → HasNoBytes F k → ⊥
  keys_full k texts a = full_list F a.1
  keys_full k (numbers n) a = some_size n (primitive_fits k n n a.1 a.2 a.3).1 a.0

  -- ---- keys of an object
  pub number_keys : (k x : List ℕ) (size : ℕ) (t : Number) → x ≡ k → F k ≡ Some (primitive size) → number_found size (Some t) ≡ number_kind number_types x size → (keys : Keys) × AreKeys F k keys × ((keys ≡ numbers t.size) × HasKind F k (whole t.size t.is_signed t.is_non_zero))
  number_keys k x size t e f q =
      let p = number_primitive k size t.size t.is_signed t.is_non_zero (ap (λ x. number_kind number_types x size) (sym e) ∙ sym q) in
      let i = primitive_fits k size t.size t.is_signed t.is_non_zero p in
      let g : F k ≡ Some (primitive t.size) = f ∙ ap (λ n. Some (primitive n)) (sym i.0) in
      let o : primitive_kind k t.size ≡ whole t.size t.is_signed t.is_non_zero = ap (λ n. primitive_kind k n) i.0 ∙ p in
      let a : AreKeys F k (numbers t.size) = (g, t.is_signed, t.is_non_zero, o) in
      (numbers t.size, a, (refl, inr (keys_full k (numbers t.size) a, primitive t.size, g, sym o)))

  pub text_keys : (k : List ℕ) (f : Form) → F k ≡ Some f → AreKeys F k texts → (keys : Keys) × AreKeys F k keys × ((keys ≡ texts) × HasKind F k (utf8 (lengths_of f)))
  text_keys k f e a =
      let g : Some f ≡ Some (sequence 4 0 4294967295 (codes "u8")) = sym e ∙ a.1 in
      let h : sequence 4 0 4294967295 (codes "u8") ≡ f = cc in
      (texts, a, (refl, inr (keys_full k texts a, sequence 4 0 4294967295 (codes "u8"), a.1, subst (λ f. SequenceKind F k (record { width = 4; least = 0; greatest = 4294967295 }) (codes "u8") (utf8 (lengths_of f))) h (a_text (a.0, refl) a.2))))

  -- a list with the name, the lengths and the elements of a `String` is one
  pub text_is : (x : List ℕ) (w lo hi : ℕ) (e : List ℕ) → F x ≡ Some (sequence w lo hi e) → IsString x (lengths_of (sequence w lo hi e)) → IsByte F e → AreKeys F x texts
  text_is x w lo hi e d s b = (
    s.0,
    d
        ∙ ap (λ w. Some (sequence w lo hi e)) (ap (λ (l : Lengths). l.width) s.1)
        ∙ ap (λ lo. Some (sequence 4 lo hi e)) (ap (λ (l : Lengths). l.least) s.1)
        ∙ ap (λ hi. Some (sequence 4 0 hi e)) (ap (λ (l : Lengths). l.greatest) s.1)
        ∙ ap (λ e. Some (sequence 4 0 4294967295 e)) b.0,
    subst (λ e. IsByte F e) b.0 b,
  )

  -- ---- collections
  pub no_map_in : (ns : List Named) (x : List ℕ) (c : Collection) → IsCollection F ns x c → ((a b : ℕ) → c ≡ Map a b → ⊥) → (k v : List ℕ) → IsMap F x k v → ⊥
  no_map_in ns x AList h n = h.1
  no_map_in ns x Set h n = h.1
  no_map_in ns x (Map a b) h n = absurd (n a b refl)

  -- ---- what each definition is
  module _ (x : List ℕ) (full : HasNoBytes F x → ⊥) where
    pub fields_kind : (fs : List (List ℕ × List ℕ)) → F x ≡ Some (named fs) → HasKind F x (fields fs)
    fields_kind fs e = inr (full, named fs, e, refl)

    pub fields_repeated : (fs : List (List ℕ × List ℕ)) (name : List ℕ) → F x ≡ Some (named fs) → (IsDistinct bytes_eq (map (λ f. f.0) fs) → ⊥) → ComesTwice name (map (λ f. f.0) fs) → IsUnsayable F x × RepeatsName F x name
    fields_repeated fs name e n t = ((λ kind j own ps k s. n (subst (λ k. Says F k j own ps) (kind_one F k (fields_kind fs e)) s).0), inl (fs, fields_kind fs e, t))

    pub newtype_kind : (p : List ℕ) → F x ≡ Some (unnamed (p ∷ [])) → HasKind F x (inner p)
    newtype_kind p e = inr (full, unnamed (p ∷ []), e, refl)

    pub optional_kind : (w : ℕ) (vs : List (ℤ × List ℕ × List ℕ)) (p : List ℕ) → F x ≡ Some (choice w vs) → IsNullable F x p → HasKind F x (optional p)
    optional_kind w vs p e n = inr (full, choice w vs, e, nullable n)

    pub variants_kind : (w : ℕ) (vs : List (ℤ × List ℕ × List ℕ)) → F x ≡ Some (choice w vs) → ((p : List ℕ) → IsNullable F x p → ⊥) → HasKind F x (variants w vs)
    variants_kind w vs e n = inr (full, choice w vs, e, by_name n)

    pub variants_repeated : (w : ℕ) (vs : List (ℤ × List ℕ × List ℕ)) (name : List ℕ) → F x ≡ Some (choice w vs) → ((p : List ℕ) → IsNullable F x p → ⊥) → (IsDistinct bytes_eq (map (λ v. v.1) vs) → ⊥) → ComesTwice name (map (λ v. v.1) vs) → IsUnsayable F x × RepeatsName F x name
    variants_repeated w vs name e o n t = ((λ kind j own ps k s. n (subst (λ k. Says F k j own ps) (kind_one F k (variants_kind w vs e o)) s).0), inr (w, vs, variants_kind w vs e o, t))

    -- sequences
    module _ (w lo hi : ℕ) (e : List ℕ) (d : F x ≡ Some (sequence w lo hi e)) where
      pub text_kind : IsString x (lengths_of (sequence w lo hi e)) → IsByte F e → HasKind F x (utf8 (lengths_of (sequence w lo hi e)))
      text_kind s b = inr (full, sequence w lo hi e, d, a_text s b)

      pub bytes_kind : (IsString x (lengths_of (sequence w lo hi e)) → ⊥) → IsByte F e → HasKind F x (byte_list (lengths_of (sequence w lo hi e)) e)
      bytes_kind s b = inr (full, sequence w lo hi e, d, some_bytes s b)

      pub entries_kind : (k v : List ℕ) (keys : Keys) → IsMap F x k v → AreKeys F k keys → HasKind F x (entries (lengths_of (sequence w lo hi e)) keys k v)
      entries_kind k v keys m a = inr (full, sequence w lo hi e, d, an_object m a)

      pub list_kind : (IsByte F e → ⊥) → ((k v : List ℕ) (keys : Keys) → IsMap F x k v → AreKeys F k keys → ⊥) → (HasNoBytes F e → ⊥) → ((k v : List ℕ) → IsMap F x k v → HasNoBytes F k → ⊥) → HasKind F x (list (lengths_of (sequence w lo hi e)) e)
      list_kind b m z k = inr (full, sequence w lo hi e, d, some_elements b m z k)

      -- a list of elements or keys without bytes has no kind
      no_kind : (HasNoBytes F e) ⊎ ((k : List ℕ) × (v : List ℕ) × IsMap F x k v × HasNoBytes F k) → (kind : Kind) → SequenceKind F x (record { width = w; least = lo; greatest = hi }) e kind → ⊥
      no_kind (inl z) kind (a_text s b) = byte_full F b z
      no_kind (inl z) kind (some_bytes s b) = byte_full F b z
      no_kind (inl z) kind (an_object {k = k} {keys = keys} m a) =
          let g : Some (sequence w lo hi e) ≡ Some (sequence 4 0 4294967295 m.0) = sym d ∙ m.1 in
          let q : e ≡ m.0 = cc in
          keys_full k keys a (zero_part F (ap (λ o. option_map shape_of_form o) m.2) (subst (λ e. HasNoBytes F e) q z) first)
      no_kind (inl z) kind (some_elements b m y k) = y z
      no_kind (inr n) kind (a_text s b) = byte_or_map F d b n.2
      no_kind (inr n) kind (some_bytes s b) = byte_or_map F d b n.2
      no_kind (inr n) kind (an_object {k = k} {keys = keys} m a) = keys_full k keys a (subst (λ k. HasNoBytes F k) (map_one F n.2 m).0 n.3)
      no_kind (inr n) kind (some_elements b m y k) = k n.0 n.1 n.2 n.3

      pub refused : (HasNoBytes F e) ⊎ ((k : List ℕ) × (v : List ℕ) × IsMap F x k v × HasNoBytes F k) → IsUnsayable F x × HasEmptyElements F x
      refused z = (unsaid, (w, lo, hi, e, d, z))
        where
          unsaid : IsUnsayable F x
          unsaid kind j own ps (inl k) s = full k.0
          unsaid kind j own ps (inr k) s =
              let g : Some k.1 ≡ Some (sequence w lo hi e) = sym k.2 ∙ d in
              let q : k.1 ≡ sequence w lo hi e = cc in
              no_kind z kind (subst (λ f. DefinedKind F x f kind) q k.3)

  -- ---- names whose JSON may be null
  pub null_missing : (n : ℕ) (x : List ℕ) → F x ≡ None → MayBeNull F (suc n) x → ⊥
  null_missing n x e (without_bytes (zeroed d ps c r all)) = let g = sym c ∙ ap (λ o. option_map shape_of_form o) e in cc
  null_missing n x e (an_option p o) = let g = sym o.1 ∙ e in cc
  null_missing n x e (in_newtype p f m) = let g = sym f ∙ e in cc

  pub null_other : (n : ℕ) (x : List ℕ) (f : Form) → F x ≡ Some f → (HasNoBytes F x → ⊥) → ((p : List ℕ) → IsOption F x p → ⊥) → ((p : List ℕ) → f ≡ unnamed (p ∷ []) → ⊥) → MayBeNull F (suc n) x → ⊥
  null_other n x f e full o t (without_bytes z) = full z
  null_other n x f e full o t (an_option p q) = o p q
  null_other n x f e full o t (in_newtype p g m) = let h : Some f ≡ Some (unnamed (p ∷ [])) = sym e ∙ g in t p cc

  pub null_inner : (n : ℕ) (x p : List ℕ) → F x ≡ Some (unnamed (p ∷ [])) → (HasNoBytes F x → ⊥) → ((p : List ℕ) → IsOption F x p → ⊥) → MayBeNull F (suc n) x → MayBeNull F n p
  null_inner n x p e full o (without_bytes z) = absurd (full z)
  null_inner n x p e full o (an_option q r) = absurd (o q r)
  null_inner n x p e full o (in_newtype q g m) = let h : Some (unnamed (q ∷ [])) ≡ Some (unnamed (p ∷ [])) = sym g ∙ e in let i : q ≡ p = cc in subst (λ p. MayBeNull F n p) i m

  -- elements that are packed are primitives, and others are not
  pub packed_primitive : (e : List ℕ) (n m : ℕ) → n ≡ packed_size (shapes F e) → n ≡ suc m → F e ≡ Some (primitive n)
  packed_primitive e n m p h = there (F e) p
    where
      there : (o : Option Form) → n ≡ packed_size (option_map shape_of_form o) → o ≡ Some (primitive n)
      there (Some (primitive k)) q = ap (λ k. Some (primitive k)) (sym q)
      there form q = cc

  pub numbers_found : (ns : List Named) (x : List ℕ) (f : Form) (e : List ℕ) (es : Elements) → IsAt ns es.at e → HasKind F x (list (lengths_of f) e) → (n : ℕ) → es.size ≡ suc n → es.size ≡ packed_size (shapes F e) → IsKindOf F ns x f (Numbers es)
  numbers_found ns x f e es i h n s p =
      let k = packed_primitive e es.size n p s in
      ((e, i, h), omega (arith, s), λ d j. (let g : Some d ≡ Some e = sym j ∙ i in let q : d ≡ e = cc in ap (λ (e : List ℕ). F e) q ∙ k))

  pub elements_found : (ns : List Named) (x : List ℕ) (f : Form) (e : List ℕ) (es : Elements) → IsAt ns es.at e → HasKind F x (list (lengths_of f) e) → packed_size (shapes F e) ≡ 0 → IsKindOf F ns x f (ElementList es)
  elements_found ns x f e es i h p = ((e, i, h), λ d j. (let g : Some d ≡ Some e = sym j ∙ i in let q : d ≡ e = cc in ap (λ (e : List ℕ). packed_size (shapes F e)) q ∙ p))
