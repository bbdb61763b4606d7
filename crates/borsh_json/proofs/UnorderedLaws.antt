-- Names that aren't ordered, as names and definitions tell it.
use Rattle.std.proofs.{Common.{◌≡◌, inl, inr, ℕ, suc, zero, List, [], ◌∷◌, ◌++◌, length, map, Bool, true, false, Option, Some, None, String, refl, sym, ◌∙◌, ap, subst, take, arith, append_assoc, Global, append-nil}, lemmas.List.{append_cancel_left}}
use Rattle.std.specs.Prelude.{◌==◌, ⊤, ℤ, Decides, MatchBool, codes, slice_get, string_bytes}
use Rattle.borsh_walks.specs.{declared.definition.Fields.{Fields}, declared.definition.Fields.TheVariants.{NamedFields, UnnamedFields, Empty}, TupleNames.{following, tuple_name}}
use Rattle.borsh_json.specs.{Forms.{Form, primitive, sequence, tuple, choice, named, unnamed, no_fields, form_of_struct, IsOption}, Ordered.{Order, single, numbers, text, array, list, parts, other, AreNumbers, IsSequenceName, IsTreeMapName, IsListName, OrdersBytes}, Table.{AreKeys, primitive_kind, texts}}
use Rattle.borsh_json.proofs.{FoundLaws.{inner}, OrderLaws.{clash}}

-- the definition is of a struct
abbrev pub IsOfStruct : Form → Type 0
IsOfStruct (named fs) = ⊤
IsOfStruct (unnamed ps) = ⊤
IsOfStruct no_fields = ⊤
IsOfStruct form = ⊥

-- that of a struct is
pub struct_form : (fs : Fields) → IsOfStruct (form_of_struct fs)
struct_form (NamedFields fs) = tt
struct_form (UnnamedFields fs) = tt
struct_form Empty = tt

module _ (F : List ℕ → Option Form) (x : List ℕ) where
  unlike : {f : Form} → F x ≡ None → F x ≡ Some f → ⊥
  unlike {f = f} a b = let e : None ≡ Some f = sym a ∙ b in cc

  -- a name without a definition
  pub no_definition : F x ≡ None → (o : Order) → OrdersBytes F x o → ⊥
  no_definition e single h = h
  no_definition e other h = h
  no_definition e (numbers n s) h = unlike e h.0
  no_definition e text h = unlike e h.1
  no_definition e (array n p) h = unlike e h.0
  no_definition e (list w p) (inl h) = unlike e h.1.0
  no_definition e (list w p) (inr h) = unlike e h.1.1
  no_definition e (parts ps) h = unlike e h.0

  -- a primitive that has no numbers
  pub no_numbers : (n : ℕ) → F x ≡ Some (primitive n) → ((s : Bool) → AreNumbers (primitive_kind x n) n s → ⊥) → (o : Order) → OrdersBytes F x o → ⊥
  no_numbers n e a single h = h
  no_numbers n e a other h = h
  no_numbers n e a (numbers m s) h =
      let g : Some (primitive m) ≡ Some (primitive n) = sym h.0 ∙ e in
      let q : m ≡ n = cc in
      a s (subst (λ m. AreNumbers (primitive_kind x m) m s) q h.1)
  no_numbers n e a text h = clash (F x) e h.1 (λ e. cc)
  no_numbers n e a (array m p) h = clash (F x) e h.0 (λ e. cc)
  no_numbers n e a (list w p) (inl h) = clash (F x) e h.1.0 (λ e. cc)
  no_numbers n e a (list w p) (inr h) = clash (F x) e h.1.1 (λ e. cc)
  no_numbers n e a (parts ps) h = clash (F x) e h.0 (λ e. cc)

  -- a list of no such name
  pub no_list_name : (e : List ℕ) → F x ≡ Some (sequence 4 0 4294967295 e) → (AreKeys F x texts → ⊥) → (IsSequenceName x e → ⊥) → ((k v : List ℕ) → F e ≡ Some (tuple (k ∷ v ∷ [])) → IsTreeMapName x k v → ⊥) → (o : Order) → OrdersBytes F x o → ⊥
  no_list_name e f t s m single h = h
  no_list_name e f t s m other h = h
  no_list_name e f t s m (numbers n g) h = clash (F x) f h.0 (λ e. cc)
  no_list_name e f t s m text h = t h
  no_list_name e f t s m (array n p) h = clash (F x) f h.0 (λ e. cc)
  no_list_name e f t s m (list w p) (inl h) =
      let g : Some (sequence 4 0 4294967295 p) ≡ Some (sequence 4 0 4294967295 e) = sym h.1.0 ∙ f in
      let q : p ≡ e = cc in
      named (subst (λ p. IsListName F x p) q h.1.1)
    where
      named : IsListName F x e → ⊥
      named (inl n) = s n
      named (inr n) = m n.0 n.1 n.2 n.3
  no_list_name e f t s m (list w p) (inr h) = clash (F x) f h.1.1 (λ e. cc)
  no_list_name e f t s m (parts ps) h = clash (F x) f h.0 (λ e. cc)

  -- a sequence that is no list, and no array
  pub no_array : (w lo hi : ℕ) (e : List ℕ) → F x ≡ Some (sequence w lo hi e) → ((p : List ℕ) → sequence w lo hi e ≡ sequence 4 0 4294967295 p → ⊥) → ((n : ℕ) (p : List ℕ) → OrdersBytes F x (array n p) → ⊥) → (o : Order) → OrdersBytes F x o → ⊥
  no_array w lo hi e f l a single h = h
  no_array w lo hi e f l a other h = h
  no_array w lo hi e f l a (numbers n g) h = clash (F x) f h.0 (λ e. cc)
  no_array w lo hi e f l a text h = clash (F x) f h.1 (λ g. l (codes "u8") g)
  no_array w lo hi e f l a (array n p) h = a n p h
  no_array w lo hi e f l a (list v p) (inl h) = clash (F x) f h.1.0 (λ g. l p g)
  no_array w lo hi e f l a (list v p) (inr h) = clash (F x) f h.1.1 (λ e. cc)
  no_array w lo hi e f l a (parts ps) h = clash (F x) f h.0 (λ e. cc)

  -- a tuple of another name
  pub no_tuple_name : (ps : List (List ℕ)) → F x ≡ Some (tuple ps) → (x ≡ tuple_name ps → ⊥) → (o : Order) → OrdersBytes F x o → ⊥
  no_tuple_name ps f t single h = h
  no_tuple_name ps f t other h = h
  no_tuple_name ps f t (numbers n g) h = clash (F x) f h.0 (λ e. cc)
  no_tuple_name ps f t text h = clash (F x) f h.1 (λ e. cc)
  no_tuple_name ps f t (array n p) h = clash (F x) f h.0 (λ e. cc)
  no_tuple_name ps f t (list w p) (inl h) = clash (F x) f h.1.0 (λ e. cc)
  no_tuple_name ps f t (list w p) (inr h) = clash (F x) f h.1.1 (λ e. cc)
  no_tuple_name ps f t (parts qs) h =
      let g : Some (tuple qs) ≡ Some (tuple ps) = sym h.0 ∙ f in
      let q : qs ≡ ps = cc in
      t (h.1 ∙ ap tuple_name q)

  -- an enum that is no option
  pub no_option : (w : ℕ) (vs : List (ℤ × List ℕ × List ℕ)) → F x ≡ Some (choice w vs) → ((p : List ℕ) → IsOption F x p → ⊥) → (o : Order) → OrdersBytes F x o → ⊥
  no_option w vs f n single h = h
  no_option w vs f n other h = h
  no_option w vs f n (numbers m g) h = clash (F x) f h.0 (λ e. cc)
  no_option w vs f n text h = clash (F x) f h.1 (λ e. cc)
  no_option w vs f n (array m p) h = clash (F x) f h.0 (λ e. cc)
  no_option w vs f n (list v p) (inl h) = clash (F x) f h.1.0 (λ e. cc)
  no_option w vs f n (list v p) (inr h) = n p h.1
  no_option w vs f n (parts ps) h = clash (F x) f h.0 (λ e. cc)

  other_form : {f g : Form} → IsOfStruct f → F x ≡ Some f → F x ≡ Some g → IsOfStruct g
  other_form {f = f} {g = g} s a b =
      let e : Some f ≡ Some g = sym a ∙ b in
      let q : f ≡ g = cc in
      subst (λ f. IsOfStruct f) q s

  -- a struct
  pub no_struct : (f : Form) → F x ≡ Some f → IsOfStruct f → (o : Order) → OrdersBytes F x o → ⊥
  no_struct f e s single h = h
  no_struct f e s other h = h
  no_struct f e s (numbers n g) h = other_form s e h.0
  no_struct f e s text h = other_form s e h.1
  no_struct f e s (array n p) h = other_form s e h.0
  no_struct f e s (list w p) (inl h) = other_form s e h.1.0
  no_struct f e s (list w p) (inr h) = other_form s e h.1.1
  no_struct f e s (parts ps) h = other_form s e h.0

-- ---- names of maps and tuples

-- the name of an ordered map, or another
pub tree_decided : (name k v : List ℕ) (ps : List (List ℕ)) → ps ≡ k ∷ v ∷ [] → (r : Bool) → Decides r (name ≡ codes "BTreeMap<" ++ (k ++ (44 ∷ 32 ∷ (v ++ 62 ∷ [])))) → MatchBool r ((k v : List ℕ) × (ps ≡ k ∷ v ∷ []) × IsTreeMapName name k v) ((k v : List ℕ) → ps ≡ k ∷ v ∷ [] → IsTreeMapName name k v → ⊥)
tree_decided name k v ps e true d = (k, v, e, d.0 refl ∙ ap (λ l. codes "BTreeMap<" ++ l) (inner k v))
tree_decided name k v ps e false d = λ l w f m.
    let g : k ∷ v ∷ [] ≡ l ∷ w ∷ [] = sym e ∙ f in
    let a : l ≡ k = cc in
    let b : w ≡ v = cc in
    let o = subst (λ w. IsTreeMapName name k w) b (subst (λ k. IsTreeMapName name k w) a m) in
    let t = d.1 (o ∙ ap (λ l. codes "BTreeMap<" ++ l) (sym (inner k v))) in
    cc

-- a listed name stands behind those before it
listed_split : (ps : List (List ℕ)) (i : ℕ) (p : List ℕ) → slice_get ps i ≡ Some p → (after : List ℕ) × (following ps ≡ following (take i ps) ++ (44 ∷ 32 ∷ ((p ++ []) ++ after)))
listed_split [] i p g = absurd cc
listed_split (q ∷ qs) zero p g =
    let k : q ≡ p = cc in
    (following qs, ap (λ q. 44 ∷ 32 ∷ (q ++ following qs)) (k ∙ sym (append-nil p)))
listed_split (q ∷ qs) (suc i) p g =
    let r = listed_split qs i p g in
    (r.0, ap (λ l. 44 ∷ 32 ∷ l) (ap (λ l. q ++ l) r.1 ∙ sym (append_assoc q (following (take i qs)) (44 ∷ 32 ∷ ((p ++ []) ++ r.0)))))

-- a text in which a name isn't where it is listed doesn't begin with the listed names
pub listed_not : (ps : List (List ℕ)) (i : ℕ) (p name rest : List ℕ) → slice_get ps i ≡ Some p → name ≡ following (take i ps) ++ rest → ((after : List ℕ) → rest ≡ 44 ∷ 32 ∷ ((p ++ []) ++ after) → ⊥) → (after : List ℕ) → name ≡ following ps ++ after → ⊥
listed_not ps i p name rest g e n after q =
    let s = listed_split ps i p g in
    let front = following (take i ps) in
    let l : front ++ rest ≡ front ++ (44 ∷ 32 ∷ ((p ++ []) ++ (s.0 ++ after))) = sym e ∙ q ∙ ap (λ l. l ++ after) s.1 ∙ append_assoc front (44 ∷ 32 ∷ ((p ++ []) ++ s.0)) after ∙ ap (λ l. front ++ (44 ∷ 32 ∷ l)) (append_assoc (p ++ []) s.0 after) in
    n (s.0 ++ after) (append_cancel_left front rest (44 ∷ 32 ∷ ((p ++ []) ++ (s.0 ++ after))) l)

-- what comes behind the first part of a tuple's name
pub tuple_rest : (ps others : List (String Global)) (p : String Global) (head name rest : List ℕ) → ps ≡ p ∷ others → (length others == 0) ≡ false → head ≡ string_bytes p → name ≡ 40 ∷ ((head ++ []) ++ rest) → name ≡ tuple_name (map (λ p. string_bytes p) ps) → rest ≡ following (map (λ p. string_bytes p) others) ++ codes ")"
tuple_rest ps [] p head name rest e t f n r = let g : (0 == 0) ≡ true = refl in cc
tuple_rest ps (q ∷ others) p head name rest e t f n r =
    let names = map (λ p. string_bytes p) (q ∷ others) in
    let a : 40 ∷ ((head ++ []) ++ rest) ≡ 40 ∷ (string_bytes p ++ (following names ++ 41 ∷ [])) = sym n ∙ r ∙ ap (λ ps. tuple_name (map (λ p. string_bytes p) ps)) e in
    let b : (head ++ []) ++ rest ≡ string_bytes p ++ (following names ++ 41 ∷ []) = cc in
    append_cancel_left head rest (following names ++ 41 ∷ []) (ap (λ h. h ++ rest) (sym (append-nil head)) ∙ b ∙ ap (λ h. h ++ (following names ++ 41 ∷ [])) (sym f))

-- no more is listed than the parts, and then the end
pub tuple_end : (names last : List ℕ) (rest : List ℕ) → rest ≡ names ++ last → rest ≡ names ++ codes ")" → last ≡ codes ")"
tuple_end names last rest p q = append_cancel_left names last (codes ")") (sym p ∙ q)

-- a tuple without parts
pub empty_decided : (ps : List (String Global)) (name : List ℕ) (r : Bool) → length ps ≡ 0 → Decides r (name ≡ codes "()") → Decides r (name ≡ tuple_name (map (λ p. string_bytes p) ps))
empty_decided [] name r e d = d
empty_decided (p ∷ ps) name r e d = absurd (omega (arith, e))
