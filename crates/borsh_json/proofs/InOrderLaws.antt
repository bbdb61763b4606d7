-- JSON in which what has to ascend does.
use Rattle.std.proofs.Common.{◌≡◌, ◌⊎◌, inl, inr, ℕ, ◌<◌, List, [], ◌∷◌, ◌++◌, get_or, Option, Some, None, refl, sym, ◌∙◌, ap, subst, arith, codes}
use Rattle.json.specs.Json.{Json, array, string, object, Items}
use Rattle.borsh_walks.specs.Container.{Member}
use Rattle.borsh_json.specs.{declared.error.JsonError.{JsonError}, declared.error.JsonError.TheVariants.{OutOfMemory, NoMember, NoValue, Ambiguous, NotJson, Refused}, declared.error.Refusal.{Refusal}, declared.error.Refusal.TheVariants.{TooDeep, Descends}, Descents.{HasKeys}, Forms.{Form, sequence, tuple, IsList, shapes}, Found.{IsSetName}, Frames.{AreInOrder, IsListKind}, InOrder.{Step, ItemsFall, Falls, InOrder, TextRepresents}, NoValue.{ShowsNoValue, IsGivenUp, FailsAt, SaysNothing}, Represents.{SaysFirst, SaysSome}, Table.{Lengths, Kind, utf8, byte_list, list, entries, Keys, a_text, some_bytes, an_object, some_elements, SequenceKind, DefinedKind, HasKind, Part, list_parts, Says}}
use Rattle.borsh_json.proofs.{FoundLaws.{full_list, list_element, set_no_map}, RepresentsLaws.{bytes_one}, WrittenLaws.{whole_each}}

-- ---- names
pub string_no_set : (x e : List ℕ) → x ≡ codes "String" → IsSetName x e → ⊥
string_no_set x e a (inl s) = let q : codes "String" ≡ codes "BTreeSet<" ++ e ++ codes ">" = sym a ∙ s in let h : 83 ≡ 66 = ap (λ l. get_or l 0 0) q in omega (arith, h)
string_no_set x e a (inr s) = let q : codes "String" ≡ codes "HashSet<" ++ e ++ codes ">" = sym a ∙ s in let h : 83 ≡ 72 = ap (λ l. get_or l 0 0) q in omega (arith, h)

pub array_one : (i : Json) (js ks : Items) → i ≡ array js → i ≡ array ks → js ≡ ks
array_one i js ks a b = let e : array js ≡ array ks = sym a ∙ b in cc

module _ (F : List ℕ → Option Form) where
  -- the keys of a set or map are of one name
  pub keys_one : (x d e j k : List ℕ) → HasKeys F x d j → HasKeys F x e k → j ≡ k
  keys_one x d e j k (a, inl s) (b, inl t) = s.1 ∙ list_element F x e 4 0 4294967295 b d a ∙ sym t.1
  keys_one x d e j k (a, inl s) (b, inr t) = absurd (set_no_map F x d 4 0 4294967295 a s.0 k t.0 t.2)
  keys_one x d e j k (a, inr s) (b, inl t) = absurd (set_no_map F x e 4 0 4294967295 b t.0 j s.0 s.2)
  keys_one x d e j k (a, inr s) (b, inr t) =
      let q : Some (tuple (j ∷ s.0 ∷ [])) ≡ Some (tuple (k ∷ t.0 ∷ [])) = sym s.1 ∙ ap F (list_element F x e 4 0 4294967295 b d a) ∙ t.1 in
      cc

  -- ---- kinds of lists
  -- a list is written as a text, as bytes, as an array or as an object
  abbrev pub IsKindOfList : List ℕ → Kind → Type 0
  IsKindOfList e kind = ((l : Lengths) × (kind ≡ utf8 l)) ⊎ ((l : Lengths) × ((kind ≡ byte_list l e) ⊎ (kind ≡ list l e))) ⊎ ((l : Lengths) × (keys : Keys) × (k : List ℕ) × (v : List ℕ) × (kind ≡ entries l keys k v))

  sequence_kind : {x e : List ℕ} {l : Lengths} (kind : Kind) → SequenceKind F x l e kind → IsKindOfList e kind
  sequence_kind {l = l} kind (a_text s b) = inl (l, refl)
  sequence_kind {l = l} kind (some_bytes s b) = inr (inl (l, inl refl))
  sequence_kind {l = l} kind (an_object {k = k} {v = v} {keys = keys} m a) = inr (inr (l, keys, k, v, refl))
  sequence_kind {l = l} kind (some_elements a b c d) = inr (inl (l, inr refl))

  pub list_kind : (x e : List ℕ) (kind : Kind) → HasKind F x kind → IsList F x e → IsKindOfList e kind
  list_kind x e kind (inl z) s = absurd (full_list F s z.0)
  list_kind x e kind (inr d) s =
      let q : Some d.1 ≡ Some (sequence 4 0 4294967295 e) = sym d.2 ∙ s in
      let f : d.1 ≡ sequence 4 0 4294967295 e = cc in
      sequence_kind kind (subst (λ (f : Form). DefinedKind F x f kind) f d.3)

  -- ---- arrays of sets and maps
  pub array_said : (e : List ℕ) (kind : Kind) (i : Json) (items : Items) (own : List ℕ) (ds : List Part) → IsKindOfList e kind → i ≡ array items → Says F kind i own ds → IsListKind kind × (ds ≡ list_parts e items)
  array_said e kind i items own ds (inl k) a s = let t = subst (λ (k : Kind). Says F k i own ds) k.1 s in let q : array items ≡ string t.0 = sym a ∙ t.1 in cc
  array_said e kind i items own ds (inr (inl (l, inl k))) a s = elim (subst (λ (k : Kind). Says F k i own ds) k s) [
    | inl t ↦ (let q : array items ≡ string _ = sym a ∙ t.1.1 in cc)
    | inr t ↦ ((l, e, inr k), t.2 ∙ ap (λ js. list_parts e js) (array_one i t.0 items t.1 a))
  ]
  array_said e kind i items own ds (inr (inl (l, inr k))) a s = let t = subst (λ (k : Kind). Says F k i own ds) k s in ((l, e, inl k), t.2 ∙ ap (λ js. list_parts e js) (array_one i t.0 items t.1 a))
  array_said e kind i items own ds (inr (inr k)) a s = let t = subst (λ (k : Kind). Says F k i own ds) k.4 s in let q : array items ≡ object t.0 = sym a ∙ t.2 in cc

  -- JSON of which an item falls says the items
  pub items_said : (x : List ℕ) (i : Json) (index : ℕ) (kind : Kind) (own : List ℕ) (ds : List Part) (f : ItemsFall F x i index) → HasKind F x kind → Says F kind i own ds → IsListKind kind × (ds ≡ list_parts f.e f.items)
  items_said x i index kind own ds f h s = array_said f.e kind i f.items own ds (list_kind x f.e kind h f.keys.0) f.is_array s

  -- JSON is in order if its parts are and none of its own elements falls
  pub whole_in_order : (x : List ℕ) (i : Json) (own : List ℕ) (ds : List Part) → SaysFirst F x i own ds → AreInOrder F ds → ((index : ℕ) → Falls F x i index → ⊥) → InOrder F x i
  whole_in_order x i own ds s all none = whole_each F (λ x i. (index : ℕ) → Falls F x i index → ⊥) x i own ds s all none

-- ---- errors
-- a text that represents some bytes is only given up
module _ (F : List ℕ → Option Form) (root text bytes : List ℕ) where
  no_refusal : (j : Json) (path : List Step) (r : Refusal) → SaysSome F root j → InOrder F root j → FailsAt F root j path r → SaysNothing F root j r → r ≡ TooDeep
  no_refusal j path TooDeep s o f n = refl
  no_refusal j path Descends s o f n = absurd (o f.0 f.1 f.3 f.4 f.5 f.7 f.2 f.8)
  no_refusal j path refusal s o f n = absurd (n s)

  pub given_up : (e : JsonError) → TextRepresents F root text bytes → ShowsNoValue F root text e → IsGivenUp e
  given_up OutOfMemory t s = tt
  given_up (NoMember f) t s = s
  given_up NoValue t s = let n = s t.0 t.1 in n.2 (subst (λ b. Member (shapes F) root b) (bytes_one F t.2 n.1) t.3)
  given_up (Ambiguous x) t s = tt
  given_up (NotJson offset) t s = let e : Some t.0 ≡ None = sym t.1 ∙ s in cc
  given_up (Refused path r) t s = let u = s t.0 t.1 in no_refusal t.0 _ r (bytes, t.2) t.4 u.1 u.2
