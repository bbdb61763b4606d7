-- The orders of sets and maps, as they are found with kinds.
use Rattle.std.proofs.Common.{◌≡◌, inl, inr, ℕ, List, [], ◌∷◌, ◌++◌, length, Option, Some, None, IfSome, refl, sym, ◌∙◌, subst, Bool, slice_get, Bor}
use Rattle.borsh_walks.specs.declared.definition.Definition.{Definition}
use Rattle.borsh_plan.specs.declared.named.Named.{Named}
use Rattle.borsh_json.specs.{declared.formats.Collection.TheVariants.{List as Elements, Set}, declared.kinds.KeyKind.TheVariants.{Text as TextKeys, Number as NumberKeys}, declared.kinds.Kind.{Kind}, declared.numbers.Number.{Number as FoundNumber}, declared.order.Ordered.{Ordered}, declared.order.Ordered.TheVariants.{Text, Number as NumberOrder}, Forms.{Form, primitive, sequence, HasNoBytes, IsList, IsMap}, Found.{IsCollection, IsSetName}, Ordered.{numbers, text, HasOrder}, Orders.{FindsOrder, AreOrders, KeysAscend, HasKeyOrder, KindHasOrder, KnowsNoOrder, KindTellsOrder, IsFoundKind, AreFoundKinds}, Places.{AreKeysOf, IsAt, IsKindAt}, Table.{Keys, AreKeys, whole, primitive_kind, HasKind, DefinedKind, texts, numbers as number_keys}}
use Rattle.borsh_json.proofs.{FoundLaws.{full_list}, PlaceLaws.{get_pushed}}

module _ (F : List ℕ → Option Form) where
  -- ---- keys of objects
  pub text_order : (k : List ℕ) → AreKeys F k texts → HasOrder F k text
  text_order k t = inr (full_list F t.1, inl t)

  whole_of : (k : List ℕ) (n : ℕ) (signed non_zero : Bool) → F k ≡ Some (primitive n) → HasKind F k (whole n signed non_zero) → (HasNoBytes F k → ⊥) × (primitive_kind k n ≡ whole n signed non_zero)
  whole_of k n signed non_zero f (inl z) = let e = z.1 in cc
  whole_of k n signed non_zero f (inr h) =
      let g : Some h.1 ≡ Some (primitive n) = sym h.2 ∙ f in
      let d : h.1 ≡ primitive n = cc in
      (h.0, sym (subst (λ (d : Form). DefinedKind F k d (whole n signed non_zero)) d h.3))

  pub number_order : (k : List ℕ) (n : ℕ) (signed non_zero : Bool) → AreKeys F k (number_keys n) → HasKind F k (whole n signed non_zero) → HasOrder F k (numbers n signed)
  number_order k n signed non_zero t h = let w = whole_of k n signed non_zero t.0 h in inr (w.0, inl (t.0, inr (non_zero, w.1)))

  -- ---- lists that are no sets or maps
  -- elements in any order
  pub list_none : (ns : List Named) (x : List ℕ) → IsCollection F ns x Elements → KnowsNoOrder F x
  list_none ns x c p k keys = elim keys.1 [ inl s ↦ c.0 p (keys.0, s.0) | inr m ↦ c.1 k m.0 (p, keys.0, m.1, m.2) ]

module _ (F : List ℕ → Option Form) (ns : List Named) where
  pub keys_text : (k : List ℕ) (f : Form) (keys : Keys) → AreKeys F k keys → AreKeysOf F ns k f TextKeys keys → FindsOrder F ns k Text
  keys_text k f keys a o = (text, text_order F k (subst (λ (q : Keys). AreKeys F k q) o.0 a), refl)

  pub keys_number : (n : FoundNumber) (k : List ℕ) (f : Form) (keys : Keys) → AreKeys F k keys → AreKeysOf F ns k f (NumberKeys n) keys → FindsOrder F ns k (NumberOrder n.size n.is_signed)
  keys_number n k f keys a o = (numbers n.size n.is_signed, number_order F k n.size n.is_signed n.is_non_zero (subst (λ (q : Keys). AreKeys F k q) o.0 a) o.1, refl)

  -- ---- sets and maps
  pub set_found : (x e : List ℕ) (w lo hi : ℕ) (found : Ordered) → IsCollection F ns x Set → F x ≡ Some (sequence w lo hi e) → FindsOrder F ns e found → HasKeyOrder F ns x (Some found)
  set_found x e w lo hi found c f h =
      let s = c.0 in
      let g : Some (sequence w lo hi e) ≡ Some (sequence 4 0 4294967295 s.0) = sym f ∙ s.1.0 in
      let q : s.0 ≡ e = cc in
      (e, (e, (subst (λ e. IsList F x e) q s.1.0, inl (subst (λ e. IsSetName x e) q s.1.1, refl)), h))

  pub key_found : (x k v : List ℕ) (found : Ordered) → IsMap F x k v → FindsOrder F ns k found → KeysAscend F ns x k found
  key_found x k v found m o = (m.0, (m.1, inr (v, m.2, m.3)), o)

  -- ---- kinds without orders
  abbrev HasOrderIn : List ℕ → Kind → Type 0
  HasOrderIn x kind = KindHasOrder F ns x kind × KindTellsOrder F x kind

  -- ---- one kind or order more was found
  pub kinds_pushed : (kinds all : List (Option (Bor Definition × Kind))) (at : ℕ) (found : Option (Bor Definition × Kind)) → AreFoundKinds F ns kinds → all ≡ kinds ++ found ∷ [] → length kinds ≡ at → IsKindAt F ns at found → ((x : List ℕ) → IsAt ns at x → IfSome found (λ r. HasOrderIn x r.1)) → AreFoundKinds F ns all
  kinds_pushed kinds all at found h e n kind has i o s = elim (get_pushed kinds found i o (subst (λ (xs : List (Option (Bor Definition × Kind))). slice_get xs i ≡ Some o) e s)) [
    | inl p ↦ h i o p
    | inr p ↦ subst (λ i. IsFoundKind F ns i o) (sym (p.0 ∙ n)) (subst (λ (o : Option (Bor Definition × Kind)). IsFoundKind F ns at o) p.1 (kind, has))
  ]

  pub no_kinds : (kinds : List (Option (Bor Definition × Kind))) → kinds ≡ [] → AreFoundKinds F ns kinds
  no_kinds kinds e = subst (λ (kinds : List (Option (Bor Definition × Kind))). AreFoundKinds F ns kinds) (sym e) (λ i o s. absurd cc)

  pub orders_pushed : (orders all : List Ordered) (at : ℕ) (found : Ordered) → AreOrders F ns orders → all ≡ orders ++ found ∷ [] → length orders ≡ at → ((x : List ℕ) → IsAt ns at x → FindsOrder F ns x found) → AreOrders F ns all
  orders_pushed orders all at found h e n o i x f s a = elim (get_pushed orders found i f (subst (λ (xs : List Ordered). slice_get xs i ≡ Some f) e s)) [
    | inl p ↦ h i x f p a
    | inr p ↦ subst (λ (f : Ordered). FindsOrder F ns x f) p.1 (o x (subst (λ i. IsAt ns i x) (p.0 ∙ n) a))
  ]

  pub no_orders : (orders : List Ordered) → orders ≡ [] → AreOrders F ns orders
  no_orders orders e = subst (λ (os : List Ordered). AreOrders F ns os) (sym e) (λ i x f s a. absurd cc)

pub first_some : {A : Type 0} (P Q : A → Type 0) (o : Option A) → IfSome o (λ a. P a × Q a) → IfSome o P
first_some P Q None h = tt
first_some P Q (Some a) h = h.0

pub second_some : {A : Type 0} (P Q : A → Type 0) (o : Option A) → IfSome o (λ a. P a × Q a) → IfSome o Q
second_some P Q None h = tt
second_some P Q (Some a) h = h.1
