-- Texts, and lists of primitives.
use Rattle.std.proofs.{Common.{◌≡◌, ◌⊎◌, inl, inr, ℕ, suc, zero, ◌+◌, ◌*◌, ◌^◌, ◌<◌, ◌≤◌, List, [], ◌∷◌, ◌++◌, length, drop, Option, Some, refl, sym, ◌∙◌, ap, subst, arith, append_assoc, append-nil, length-append, option_map}, Math.Nat.{le_of_mul-le-mul_right, mul-le-mul_left, mul-le-mul_right, suc-mul}, lemmas.Bool.{cases_lt}}
use Rattle.std.specs.Prelude.{⊤, pos, IsUtf8}
use Rattle.json.specs.{Token.{Token}, Json.{Json, string, array, Items, no_items, item}, Tree.{json_tokens, items_tokens, items_depth, ItemsHaveNumbers}}
use Rattle.json.specs.Token as token
use Rattle.borsh_walks.specs.{Container.{Shape, tag}, Definitions.{shape_of}, declared.definition.Definition.{Definition}}
use Rattle.borsh_walks.specs.Container as shape
use Rattle.borsh_values.specs.{Nodes.{AreElementsOf, Opens, OpensElements, packed_size}, Walks.{IsCounted}}
use Rattle.borsh_plan.specs.declared.named.Named.{Named}
use Rattle.borsh_json.specs.{declared.error.WriteError.{WriteError}, declared.error.WriteError.TheVariants.{OutOfMemory, Refused, Element}, declared.kinds.Elements.{Elements}, declared.kinds.Kind.TheVariants.{Numbers}, declared.output.LongNumbers.{LongNumbers}, declared.output.Output.{Output}, Forms.{Form, primitive, sequence, tuple, choice, named, unnamed, no_fields, form_of, shape_of_form, shapes, IsByte}, Leaves.{Adds, HasSize, Holds, IsOpenedAs, RefusesAt, RefusesValue, WritesLeaf, long_of, AreWritten}, NoJson.{IsNoJson}, Places.{IsAt, IsKindOf, IsListOf, lengths_of}, Represents.{SaysFirst, HaveBytes}, Table.{Lengths, Kind, truth, whole, float, raw, utf8, byte_list, list, a_text, some_bytes, an_object, some_elements, nullable, by_name, primitive_kind, DefinedKind, HasKind, IsHex, IsPrefixed, Part, Says, list_parts}}
use Rattle.borsh_json.proofs.{FormKinds.{unnamed_is}, FoundLaws.{full_primitive}, LeafLaws.{defined, float_length, front_one, no_json, primitive_sized, tag_one}, ReaderLaws.{uncons}, RepresentsLaws.{kind_one}, WrittenLaws.{next_written}}
use Rattle.borsh_walks.proofs.{Forms.{shape_is}, Laws.{length-tag}}

drop_front : (xs ys : List ℕ) (n : ℕ) → length xs ≡ n → drop n (xs ++ ys) ≡ ys
drop_front [] ys zero e = refl
drop_front [] ys (suc n) e = absurd (omega arith)
drop_front (x ∷ xs) ys zero e = absurd (omega arith)
drop_front (x ∷ xs) ys (suc n) e = drop_front xs ys n (omega arith)

-- ---- tokens
pub none_added : (out : Output) → Adds [] out out
none_added out = (refl, λ before h. subst (λ ts. Holds out ts) (sym (append-nil before)) h)

pub added : (xs ys : List Token) (a b c : Output) → Adds xs a b → Adds ys b c → Adds (xs ++ ys) a c
added xs ys a b c f g = (g.0 ∙ f.0, λ before h. subst (λ ts. Holds c ts) (append_assoc before xs ys) (g.1 (before ++ xs) (f.1 before h)))

-- ---- lengths
-- a length is the only one, or its prefix tells it
abbrev pub TellsCount : Lengths → Type 0
TellsCount l = ((l.width ≡ 0) × (l.least ≡ l.greatest)) ⊎ ((l.width ≤ 8) × (l.greatest < 256 ^ l.width))

pub tells_count : (f : Form) → IsCounted (shape_of_form f) → TellsCount (lengths_of f)
tells_count (sequence w lo hi e) c = c
tells_count kind c = inr (omega arith, omega arith)

count_one : (l : Lengths) (k m : ℕ) → TellsCount l → l.least ≤ k → k ≤ l.greatest → l.least ≤ m → m ≤ l.greatest → tag l.width (pos k) ≡ tag l.width (pos m) → k ≡ m
count_one l k m (inl c) a b p q e = let s = c.1 in omega (arith, s, a, b, p, q)
count_one l k m (inr c) a b p q e = let s = c.1 in tag_one l.width k m (omega (arith, s, b)) (omega (arith, s, q)) e

-- the own bytes are a prefix and these elements, of so many bytes each
abbrev pub IsListed : Lengths → List ℕ → List ℕ → ℕ → Type 0
IsListed l own es n = (k : ℕ) × (l.least ≤ k) × (k ≤ l.greatest) × (own ≡ tag l.width (pos k) ++ es) × (length es ≡ k * n)

-- behind the same prefixes are the same bytes
listed_one : (l : Lengths) (k m : ℕ) (own es ts bs cs a : List ℕ) → TellsCount l → l.least ≤ k → k ≤ l.greatest → l.least ≤ m → m ≤ l.greatest → own ≡ tag l.width (pos k) ++ es → a ≡ tag l.width (pos m) ++ ts → own ++ bs ≡ a ++ cs → (k ≡ m) × (es ++ bs ≡ ts ++ cs)
listed_one l k m own es ts bs cs a c p q r s d f e =
    let x = tag l.width (pos k) in
    let y = tag l.width (pos m) in
    let g : x ++ (es ++ bs) ≡ y ++ (ts ++ cs) = sym (append_assoc x es bs) ∙ ap (λ o. o ++ bs) (sym d) ∙ e ∙ ap (λ o. o ++ cs) f ∙ append_assoc y ts cs in
    let h = front_one x (es ++ bs) y (ts ++ cs) g (length-tag l.width (pos k) ∙ sym (length-tag l.width (pos m))) in
    (count_one l k m c p q r s h.0, h.1)

-- ---- definitions of texts and lists
abbrev pub IsListKind : Kind → Type 0
IsListKind (utf8 l) = ⊤
IsListKind (byte_list l e) = ⊤
IsListKind (list l e) = ⊤
IsListKind kind = ⊥

pub no_size : (k : Kind) (n : ℕ) → HasSize k n → IsListKind k → ⊥
no_size (utf8 l) n h i = h
no_size (byte_list l e) n h i = h
no_size (list l e) n h i = h
no_size kind n h i = i

module _ (F : List ℕ → Option Form) (x own es : List ℕ) (parts : List (List ℕ)) where
  -- the elements of the kind have this name
  abbrev pub HasElements : Kind → List ℕ → Type 0
  HasElements (utf8 l) e = IsByte F e
  HasElements (byte_list l d) e = IsByte F e
  HasElements (list l d) e = d ≡ e
  HasElements kind e = ⊥

  listed : (w lo hi : ℕ) (e : List ℕ) (n : ℕ) → F e ≡ Some (primitive (suc n)) → Opens (shapes F) (shape.sequence w lo hi e) own parts → es ≡ drop w own → (parts ≡ []) × IsListed (lengths_of (sequence w lo hi e)) own es (suc n)
  listed w lo hi e n q o t =
      let s = subst (λ (c : Option Form). OpensElements (packed_size (option_map shape_of_form c)) e o.0 o.1 parts) q o.5 in
      let d : es ≡ o.1 = t ∙ ap (λ l. drop w l) o.4 ∙ drop_front (tag w (pos o.0)) o.1 w (length-tag w (pos o.0)) in
      (s.2, (o.0, o.2, o.3, o.4 ∙ ap (λ l. tag w (pos o.0) ++ l) (sym d), ap (λ l. length l) d ∙ s.0))

  list_form : (k : Kind) (f : Form) (n : ℕ) → DefinedKind F x f k → IsListKind k → ((e : List ℕ) → HasElements k e → F e ≡ Some (primitive (suc n))) → Opens (shapes F) (shape_of_form f) own parts → AreElementsOf (shape_of_form f) own es → (parts ≡ []) × IsListed (lengths_of f) own es (suc n)
  list_form k (primitive m) n d b p o t = absurd (no_size k m (subst (λ k. HasSize k m) (sym d) (primitive_sized x m)) b)
  list_form k (sequence w lo hi e) n (a_text s c) b p o t = listed w lo hi e n (p e c) o t
  list_form k (sequence w lo hi e) n (some_bytes s c) b p o t = listed w lo hi e n (p e c) o t
  list_form k (sequence w lo hi e) n (an_object s c) b p o t = absurd b
  list_form k (sequence w lo hi e) n (some_elements s c u v) b p o t = listed w lo hi e n (p e refl) o t
  list_form k (tuple ps) n d b p o t = absurd (subst IsListKind d b)
  list_form k (choice w vs) n (nullable s) b p o t = absurd b
  list_form k (choice w vs) n (by_name s) b p o t = absurd b
  list_form k (named fs) n d b p o t = absurd (subst IsListKind d b)
  list_form k (unnamed ps) n d b p o t = absurd (unnamed_is (λ k. IsListKind k → ⊥) (λ xs b. b) (λ y b. b) ps (subst IsListKind d b))
  list_form k no_fields n d b p o t = absurd (subst IsListKind d b)

  -- a node's elements are those of its definition
  pub list_node : (k : Kind) (d : Definition) (n : ℕ) → DefinedKind F x (form_of d) k → IsListKind k → ((e : List ℕ) → HasElements k e → F e ≡ Some (primitive (suc n))) → Opens (shapes F) (shape_of_form (form_of d)) own parts → AreElementsOf (shape_of d) own es → (parts ≡ []) × IsListed (lengths_of (form_of d)) own es (suc n)
  list_node k d n h b p o t = list_form k (form_of d) n h b p o (subst (λ (s : Shape). AreElementsOf s own es) (sym (shape_is d)) t)

-- ---- texts and bytes
module _ (F : List ℕ → Option Form) (x own es : List ℕ) (l : Lengths) (i : IsListed l own es 1) where
  whole_length : i.0 ≡ length es
  whole_length = let e = i.4 in omega arith

  prefixed : IsPrefixed l (length es) es own
  prefixed = (subst (λ k. l.least ≤ k) whole_length i.1, subst (λ k. k ≤ l.greatest) whole_length i.2, i.3 ∙ ap (λ k. tag l.width (pos k) ++ es) whole_length)

  pub text_says : HasKind F x (utf8 l) → IsUtf8 es → SaysFirst F x (string es) own []
  text_says h u = (utf8 l, h, (es, refl, u, prefixed, refl))

  pub no_text : HasKind F x (utf8 l) → TellsCount l → (IsUtf8 es → ⊥) → IsNoJson F x own
  no_text h c u = no_json F x own (utf8 l) h (λ j a qs bs cs s e ps r.
      let p = s.3 in
      let o = listed_one l i.0 (length s.0) own es s.0 bs cs a c i.1 i.2 p.0 p.1 i.3 p.2 e in
      let k = o.0 in
      let n = whole_length in
      u (subst (λ t. IsUtf8 t) (sym (front_one es bs s.0 cs o.1 (omega arith)).0) s.2))

  pub bytes_say : (e : List ℕ) (j : Json) → HasKind F x (byte_list l e) → IsHex j es → SaysFirst F x j own []
  bytes_say e j h d = (byte_list l e, h, inl (es, d, prefixed, refl))

-- ---- refusals
-- of a list, of which an element is refused
pub list_refused : (F : List ℕ → Option Form) (e : WriteError) (l : Lengths) (x y own front piece rest : List ℕ) (n : ℕ) → HasKind F x (list l y) → own ≡ front ++ (piece ++ rest) → length front ≡ l.width + n * length piece → RefusesAt F n y piece e → (IsNoJson F y piece → IsNoJson F x own) → RefusesValue F x own e
list_refused F OutOfMemory l x y own front piece rest n k w b h f = tt
list_refused F (Refused r) l x y own front piece rest n k w b h f = absurd h
list_refused F (Element i r) l x y own front piece rest n k w b h f = (l, y, front, piece, rest, k, w, subst (λ (i : ℕ). length front ≡ l.width + i * length piece) (sym h.0) b, h.1, f h.1.1)

-- ---- lists of primitives
items_more : (F : List ℕ → Option Form) (e : List ℕ) (k : Kind) (size : ℕ) → HasKind F e k → HasSize k size → (j : Json) (a : List ℕ) (qs : List Part) → SaysFirst F e j a qs → (length a ≡ size) × (qs ≡ [])
items_more F e k size h l j a qs s = sized k l (subst (λ k. Says F k j a qs) (kind_one F s.1 h) s.2)
  where
    sized : (k : Kind) → HasSize k size → Says F k j a qs → (length a ≡ size) × (qs ≡ [])
    sized truth l s = (ap (λ l. length l) s.2 ∙ sym l, s.3)
    sized (whole n signed non_zero) l s = let w = s.2 in (ap (λ l. length l) w.2 ∙ length-tag n w.0 ∙ sym l.0, s.3)
    sized (float g) l s = (float_length g s.0 a s.2 ∙ sym l, s.3)
    sized (raw n) l s = (s.1 ∙ sym l, s.2)
    sized kind l s = absurd l

-- these bytes are elements, so many of all; behind what was written any items that may follow make an array
pub record IsArrayWith (F : List ℕ → Option Form) (long : LongNumbers) (e done : List ℕ) (n : ℕ) (written : List Token) (js : Items) : Type 0 where
  pub all : Items
  pub tokens : written ++ items_tokens js ≡ token.begin_array ∷ items_tokens all
  pub numbers : ItemsHaveNumbers js → ItemsHaveNumbers all
  pub nests : items_depth all ≤ items_depth js
  pub count : length (list_parts e all) ≡ n + length (list_parts e js)
  pub says : (ps : List Part) (bs : List ℕ) → AreWritten F long (list_parts e js ++ ps) bs → AreWritten F long (list_parts e all ++ ps) (done ++ bs)

pub record IsListing (F : List ℕ → Option Form) (e : List ℕ) (size : ℕ) (all rest : List ℕ) (count : ℕ) (old now : Output) : Type 0 where
  pub done : List ℕ
  pub whole : all ≡ done ++ rest
  pub size_of : length done ≡ count * size
  pub written : List Token
  pub adds : Adds written old now
  pub begun : (js : Items) → IsArrayWith F (long_of old) e done count written js

-- none were written, or as many may be as an index counts
abbrev pub IsIndexed : ℕ → List ℕ → List ℕ → Type 0
IsIndexed n all rest = ((n ≡ 0) × (rest ≡ all)) ⊎ (length all < 18446744073709551616)

module _ (F : List ℕ → Option Form) (e : List ℕ) (size : ℕ) (all : List ℕ) (old now : Output) where
  pub listing_start : Adds (token.begin_array ∷ []) old now → IsListing F e size all all 0 old now
  listing_start a = record {
    done = [];
    whole = refl;
    size_of = omega arith;
    written = token.begin_array ∷ [];
    adds = a;
    begun = λ js. record {
      all = js;
      tokens = refl;
      numbers = λ h. h;
      nests = omega arith;
      count = omega arith;
      says = λ ps bs h. h;
    };
  }

  pub listing_more : (new : Output) (rest piece after : List ℕ) (n : ℕ) → WritesLeaf F 0 e piece now new → rest ≡ piece ++ after → length piece ≡ size → IsListing F e size all rest n old now → IsListing F e size all after (suc n) old new
  listing_more new rest piece after n w r l g = record {
    done = g.done ++ piece;
    whole = g.whole ∙ ap (λ l. g.done ++ l) r ∙ sym (append_assoc g.done piece after);
    size_of = length-append g.done piece ∙ (let a = g.size_of in let b = suc-mul n size in omega (arith, a, b, l));
    written = g.written ++ json_tokens w.json;
    adds = added g.written (json_tokens w.json) old now new g.adds w.adds;
    begun = λ js. (let b = g.begun (item w.json js) in record {
      all = b.all;
      tokens = append_assoc g.written (json_tokens w.json) (items_tokens js) ∙ b.tokens;
      numbers = λ h. b.numbers (w.numbers, h);
      nests = (let d = w.nests in let m = b.nests in omega (arith, d, m));
      count = (let c = b.count in omega (arith, c));
      says = λ ps bs h. subst (λ (l : List ℕ). AreWritten F (long_of old) (list_parts e b.all ++ ps) l) (sym (append_assoc g.done piece bs)) (b.says ps (piece ++ bs) (subst (λ long. AreWritten F long (list_parts e js ++ ps) bs → AreWritten F long ((e, w.json) ∷ (list_parts e js ++ ps)) (piece ++ bs)) g.adds.0 (w.says (list_parts e js ++ ps) bs) h));
    });
  }

  -- some are left: enough for one
  pub one_more : (rest : List ℕ) (n k : ℕ) → length all ≡ k * size → (length rest ≡ 0 → ⊥) → IsListing F e size all rest n old now → size ≤ length rest
  one_more rest n k l some g =
      let s = ap (λ l. length l) g.whole ∙ length-append g.done rest in
      let d = g.size_of in
      let t : k * size ≡ n * size + length rest = omega (arith, s, d, l) in
      fits (cases_lt n k) t
    where
      fits : (n < k) ⊎ (k ≤ n) → k * size ≡ n * size + length rest → size ≤ length rest
      fits (inl h) t = let m = mul-le-mul_right {m = suc n} {n = k} size h in let u = suc-mul n size in omega (arith, t, m, u)
      fits (inr h) t = let m = mul-le-mul_right {m = k} {n = n} size h in absurd (some (omega (arith, t, m)))

  -- and no more were written than all have bytes
  pub few : (rest : List ℕ) (n : ℕ) → size ≤ length rest → 1 ≤ size → IsListing F e size all rest n old now → suc n ≤ length all
  few rest n room some g =
      let a = ap (λ l. length l) g.whole ∙ length-append g.done rest in
      let b = g.size_of in
      let m : n * 1 ≤ n * size = mul-le-mul_left n some in
      omega (arith, a, b, m, room, some)

  -- all were written: the array says the list
  pub listing_end : (new : Output) (x own : List ℕ) (l : Lengths) (c : ℕ) → IsListing F e size all [] c old now → Adds (token.end_array ∷ []) now new → HasKind F x (list l e) → IsListed l own all size → 1 ≤ size → WritesLeaf F 1 x own old new
  listing_end new x own l c g a h i some =
      let b = g.begun no_items in
      let n = length (list_parts e b.all) in
      let same : i.0 ≡ n = (let q = b.count in let d = counted i.0 c some (sym i.4 ∙ ap (λ l. length l) (g.whole ∙ append-nil g.done) ∙ g.size_of) in omega (arith, q, d)) in
      let w : own ≡ tag l.width (pos n) ++ g.done = i.3 ∙ ap (λ k. tag l.width (pos k) ++ all) same ∙ ap (λ es. tag l.width (pos n) ++ es) (g.whole ∙ append-nil g.done) in
      record {
        json = array b.all;
        adds = subst (λ ts. Adds ts old new) b.tokens (added g.written (token.end_array ∷ []) old now new g.adds a);
        numbers = b.numbers tt;
        nests = (let d = b.nests in omega (arith, d));
        says = λ ps bs r.
            let first = tag l.width (pos n) ++ [] in
            let s : Says F (list l e) (array b.all) first (list_parts e b.all) = (b.all, refl, refl, (subst (λ k. l.least ≤ k) same i.1, subst (λ k. k ≤ l.greatest) same i.2, refl)) in
            let q : first ++ (g.done ++ bs) ≡ own ++ bs = ap (λ l. l ++ (g.done ++ bs)) (append-nil (tag l.width (pos n))) ∙ sym (append_assoc (tag l.width (pos n)) g.done bs) ∙ ap (λ o. o ++ bs) (sym w) in
            subst (λ (l : List ℕ). AreWritten F (long_of old) ((x, array b.all) ∷ ps) l) q (next_written F (list l e) first (list_parts e b.all) h s (λ e s q. cc) (b.says ps bs r));
      }
    where
      counted : (k m : ℕ) → 1 ≤ size → k * size ≡ m * size → k ≡ m
      counted k m some e =
          let f : k * size ≤ m * size = omega (arith, e) in
          let g : m * size ≤ k * size = omega (arith, e) in
          let a = le_of_mul-le-mul_right {m = k} {n = m} {k = size} f some in
          let b = le_of_mul-le-mul_right {m = m} {n = k} {k = size} g some in
          omega (arith, a, b)

split_front : (xs ys cs ds : List ℕ) → xs ++ ys ≡ cs ++ ds → length xs ≤ length cs → (rest : List ℕ) × (cs ≡ xs ++ rest) × (ys ≡ rest ++ ds)
split_front [] ys cs ds e h = (cs, refl, e)
split_front (x ∷ xs) ys [] ds e h = absurd (omega arith)
split_front (x ∷ xs) ys (c ∷ cs) ds e h =
    let a : x ≡ c = cc in
    let t : xs ++ ys ≡ cs ++ ds = cc in
    let r = split_front xs ys cs ds t (omega arith) in
    (r.0, ap (λ l. c ∷ l) r.1 ∙ ap (λ y. y ∷ (xs ++ r.0)) (sym a), r.2)

pub no_items_there : (done : List ℕ) → length done ≡ 0 → done ≡ []
no_items_there [] e = refl
no_items_there (d ∷ ds) e = absurd (omega arith)

module _ (F : List ℕ → Option Form) (e : List ℕ) (k : Kind) (size : ℕ) (h : HasKind F e k) (l : HasSize k size) where
  -- behind the first elements is another
  peel : (n : ℕ) (js : Items) (done more : List ℕ) (ps : List Part) → n < length (list_parts e js) → length done ≡ n * size → HaveBytes F (list_parts e js ++ ps) (done ++ more) → (j : Json) × (qs : List Part) × HaveBytes F ((e, j) ∷ qs) more
  peel n no_items done more ps s d r = absurd (omega arith)
  peel zero (item j js) done more ps s d r = (j, list_parts e js ++ ps, subst (λ (l : List ℕ). HaveBytes F ((e, j) ∷ (list_parts e js ++ ps)) (l ++ more)) (no_items_there done (omega arith)) r)
  peel (suc n) (item j js) done more ps s d r =
      let u = uncons F r in
      let f = items_more F e k size h l j u.0 u.1 u.4 in
      let m = suc-mul n size in
      let t = split_front u.0 u.2 done more (sym u.3) (let a = f.0 in omega (arith, a, d, m)) in
      let c = ap (λ l. length l) t.1 ∙ length-append u.0 t.0 in
      peel n js t.0 more ps (omega arith) (let a = f.0 in omega (arith, a, c, d, m)) (subst (λ (l : List ℕ). HaveBytes F (list_parts e js ++ ps) l) t.2 (subst (λ (qs : List Part). HaveBytes F (qs ++ (list_parts e js ++ ps)) u.2) f.1 u.5))

  -- where an element is in a list
  pub piece_there : (own all rest piece after : List ℕ) (old now : Output) (w : Lengths) (n : ℕ) → IsListing F e size all rest n old now → (i : IsListed w own all size) → rest ≡ piece ++ after → length piece ≡ size → (front : List ℕ) × (own ≡ front ++ (piece ++ after)) × (length front ≡ w.width + n * length piece)
  piece_there own all rest piece after old now w n g i r p =
      let first = tag w.width (pos i.0) in (
        first ++ g.done,
        i.3 ∙ ap (λ l. first ++ l) (g.whole ∙ ap (λ l. g.done ++ l) r) ∙ sym (append_assoc first g.done (piece ++ after)),
        length-append first g.done ∙ (let a = length-tag w.width (pos i.0) in let b = g.size_of ∙ ap (λ s. n * s) (sym p) in omega (arith, a, b)),
      )

  -- an element that no JSON says, in a list
  pub no_list : (x own all rest piece after : List ℕ) (old now : Output) (w : Lengths) (n : ℕ) → IsListing F e size all rest n old now → HasKind F x (list w e) → TellsCount w → IsListed w own all size → rest ≡ piece ++ after → length piece ≡ size → 1 ≤ size → IsNoJson F e piece → IsNoJson F x own
  no_list x own all rest piece after old now w n g kind c i r p some none = no_json F x own (list w e) kind (λ j a qs bs cs s same ps b.
      let f = s.3 in
      let o = listed_one w i.0 (length qs) own all [] bs cs a c i.1 i.2 f.0 f.1 i.3 f.2 same in
      let back : all ++ bs ≡ g.done ++ (piece ++ (after ++ bs)) = ap (λ l. l ++ bs) (g.whole ∙ ap (λ l. g.done ++ l) r) ∙ append_assoc g.done (piece ++ after) bs ∙ ap (λ l. g.done ++ l) (append_assoc piece after bs) in
      let there = subst (λ (qs : List Part). HaveBytes F (qs ++ ps) (g.done ++ (piece ++ (after ++ bs)))) s.2 (subst (λ (l : List ℕ). HaveBytes F (qs ++ ps) l) (sym o.1 ∙ back) b) in
      let q = peel n s.0 g.done (piece ++ (after ++ bs)) ps (subst (λ m. n < m) (o.0 ∙ ap (λ (l : List Part). length l) s.2) (fewer i.0 i.4)) g.size_of there in
      none q.0 q.1 (after ++ bs) q.2)
    where
      fewer : (m : ℕ) → length all ≡ m * size → n < m
      fewer m e =
          let a = ap (λ l. length l) (g.whole ∙ ap (λ l. g.done ++ l) r) ∙ length-append g.done (piece ++ after) in
          let b = length-append piece after in
          let d = g.size_of in
          elim (cases_lt n m) [
            | inl h ↦ h
            | inr h ↦ (let s = mul-le-mul_right {m = m} {n = n} size h in absurd (omega (arith, a, b, d, e, s, p, some)))
          ]

-- a list of primitives that was found, and its elements
pub numbers_there : (F : List ℕ → Option Form) (ns : List Named) (x own es : List ℕ) (parts : List (List ℕ)) (d : Definition) (at : Elements) (size : ℕ) → IsOpenedAs F x (form_of d) own parts → IsKindOf F ns x (form_of d) (Numbers at) → AreElementsOf (shape_of d) own es → size ≡ at.size
    → (parts ≡ []) × (e : List ℕ) × IsAt ns at.at e × HasKind F x (list (lengths_of (form_of d)) e) × HasKind F e (primitive_kind e size) × IsListed (lengths_of (form_of d)) own es size × (1 ≤ size)
numbers_there F ns x own es parts d at size o i a q = found size q i.1
  where
    t : IsListOf F ns x (form_of d) at.at
    t = i.0

    found : (n : ℕ) → n ≡ at.size → 0 < at.size → (parts ≡ []) × (e : List ℕ) × IsAt ns at.at e × HasKind F x (list (lengths_of (form_of d)) e) × HasKind F e (primitive_kind e n) × IsListed (lengths_of (form_of d)) own es n × (1 ≤ n)
    found zero e h = absurd (omega arith)
    found (suc n) e h =
        let p : F t.0 ≡ Some (primitive (suc n)) = i.2 t.0 t.1 ∙ ap (λ k. Some (primitive k)) (sym e) in
        let b = list_node F x own es parts (list (lengths_of (form_of d)) t.0) d n (defined F ns x (form_of d) (list (lengths_of (form_of d)) t.0) o.0 (λ e. cc) t.2) tt (λ y z. ap (λ (y : List ℕ). F y) (sym z) ∙ p) o.1 a in
        (b.0, t.0, t.1, t.2, inr (full_primitive F {x = t.0} {n = n} p, primitive (suc n), p, refl), b.1, omega arith)
