-- What JSON of a kind opens.
use Rattle.std.proofs.Common.{◌≡◌, inl, inr, ℕ, suc, zero, List, [], ◌∷◌, ◌++◌, length, map, replicate, drop, Bool, true, Option, Some, None, refl, sym, ◌∙◌, ap, subst, arith, append-nil, Result, Ok, Err, ℤ, slice_get, MatchOption, String, string_bytes, Global}
use Rattle.json.specs.{Token.{Token}, Json.{Json, null, boolean, number, string, Items, no_items, item}, Find.{BeginsWith, is_null, as_bool, as_str, as_number}}
use Rattle.borsh_plan.specs.declared.named.Named.{Named}
use Rattle.borsh_json.specs.{declared.error.ReadError.{ReadError}, declared.error.ReadError.TheVariants.{OutOfMemory, Refused}, declared.error.Refusal.{Refusal}, declared.error.Refusal.TheVariants.{RepeatedName, EmptyElements, Expected, RepeatedKey}, declared.kinds.Flaw.{Flaw}, declared.kinds.Flaw.TheVariants.{RepeatedName as NameTwice, EmptyElements as NoElements}, declared.opening.Frame.{Frame}, declared.position.Parts.{Parts}, declared.position.Place.{Place}, declared.sources.Source.{Source}, declared.sources.Source.TheVariants.{One}, Forms.{Form}, Frames.{ShowsRead, DeniesRead, FailsRead, Left, items_left, IsExpected, SaysOn, IsPlaceOf, IsFound, IsOpened, HasLeft, IsWanted, IsMapPlace, Wanted, IsUnexpected, IsKeyReason}, NoValue.{SaysOwn, Why}, Places.{HasFlaw, IsRefusalOf}, Table.{Kind, HasEmptyElements, HasKind, Part, row_parts, list_parts, IsVariant, RepeatsName, this, that, Says}}
use Rattle.borsh_json.proofs.{FrameLaws.{drop_at}, ReaderLaws.{mapped}, RepresentsLaws.{kind_one}, StepLaws.{item_back}}

-- ---- names without JSON
-- the refusal for a flaw of a name is right where that for each flaw is
pub flaw_refuses : (F : List ℕ → Option Form) (x : List ℕ) (IsRight : Refusal → Type 0) → ((text : String Global) → RepeatsName F x (string_bytes text) → IsRight (RepeatedName text)) → (HasEmptyElements F x → IsRight EmptyElements) → (flaw : Flaw) (refusal : Refusal) → HasFlaw F x flaw → IsRefusalOf flaw refusal → IsRight refusal
flaw_refuses F x IsRight r e (NameTwice name) refusal h i = subst IsRight (sym i.1) (r i.0 (subst (λ s. RepeatsName F x s) (sym i.2) h))
flaw_refuses F x IsRight r e NoElements refusal h i = subst IsRight (sym i) (e h)

-- ---- JSON by its type
pub null_is : (j : Json) → is_null j ≡ true → j ≡ null
null_is null e = refl
null_is json e = cc

pub bool_is : (j : Json) (b : Bool) → as_bool j ≡ Some b → j ≡ boolean b
bool_is (boolean c) b e = (let q : c ≡ b = cc in ap boolean q)
bool_is json b e = cc

pub string_is : (j : Json) (s : List ℕ) → as_str j ≡ Some s → j ≡ string s
string_is (string t) s e = (let q : t ≡ s = cc in ap (λ t. string t) q)
string_is json s e = cc

pub number_is : (j : Json) (s : List ℕ) → as_number j ≡ Some s → j ≡ number s
number_is (number t) s e = (let q : t ≡ s = cc in ap (λ t. number t) q)
number_is json s e = cc

-- ---- errors
pub shows_read : {Reason Other : Refusal → Type 0} (e : ReadError) {P Q : Type 0} → ((r : Refusal) → Reason r → Other r) → (P → Q) → ShowsRead Reason e P → ShowsRead Other e Q
shows_read OutOfMemory w f d = tt
shows_read (Refused r) w f d = (w r d.0, f d.1)

pub shows_expected : (Reason : Refusal → Type 0) → ((wanted : String Global) → Reason (Expected wanted)) → (e : ReadError) {P : Type 0} → IsExpected e → P → ShowsRead Reason e P
shows_expected Reason w e {P} (inl i) d = subst (λ (e : ReadError). ShowsRead Reason e P) (sym i) tt
shows_expected Reason w e {P} (inr i) d = subst (λ (e : ReadError). ShowsRead Reason e P) (sym i.1) (w i.0, d)

pub denies_read : (Reason : Refusal → Type 0) (e : ReadError) {P Q : Type 0} → (Q → P) → DeniesRead Reason e P → DeniesRead Reason e Q
denies_read Reason e {P} f d = shows_read e (λ r w. w) (λ (n : P → ⊥) q. n (f q)) d

pub denies_expected : (Reason : Refusal → Type 0) → ((wanted : String Global) → Reason (Expected wanted)) → (e : ReadError) {P : Type 0} → IsExpected e → (P → ⊥) → DeniesRead Reason e P
denies_expected Reason w e i d = shows_expected Reason w e i d

-- what is denied of JSON of a name
module _ (F : List ℕ → Option Form) (ns : List Named) (x : List ℕ) (j : Json) where
  pub plain_why : (r : Refusal) → IsUnexpected r → Why F x j r
  plain_why (Expected wanted) p = tt
  plain_why refusal p = absurd p

  pub key_why : (r : Refusal) → IsKeyReason j r → Why F x j r
  key_why (Expected wanted) p = tt
  key_why (RepeatedKey name) p = p
  key_why refusal p = absurd p

  pub refuses_plain : (e : ReadError) {P : Type 0} → (SaysOwn F x j → P) → DeniesRead IsUnexpected e P → FailsRead F x j e
  refuses_plain e {P} f d = shows_read e plain_why (λ (n : P → ⊥). inl (λ s. n (f s))) d

  pub refuses_keys : (e : ReadError) {P : Type 0} → (SaysOwn F x j → P) → DeniesRead (IsKeyReason j) e P → FailsRead F x j e
  refuses_keys e {P} f d = shows_read e key_why (λ (n : P → ⊥). inl (λ s. n (f s))) d

  pub refuses_expected : (e : ReadError) → IsExpected e → (SaysOwn F x j → ⊥) → FailsRead F x j e
  refuses_expected e i d = shows_expected (Why F x j) (λ w. tt) e i (inl d)

module _ (F : List ℕ → Option Form) (ns : List Named) (x : List ℕ) (j : Json) where
  -- JSON of which nothing is said by its kind
  pub denied : (kind : Kind) → HasKind F x kind → ((own : List ℕ) (ps : List Part) → Says F kind j own ps → ⊥) → SaysOwn F x j → ⊥
  denied kind h d s = let f = s.2 in d s.0 s.1 (subst (λ k. Says F k j s.0 s.1) (kind_one F f.1 h) f.2)

  pub said : (kind : Kind) → HasKind F x kind → SaysOwn F x j → (own : List ℕ) × (ps : List Part) × Says F kind j own ps
  said kind h s = let f = s.2 in (s.0, s.1, subst (λ k. Says F k j s.0 s.1) (kind_one F f.1 h) f.2)

module _ (F : List ℕ → Option Form) (ns : List Named) (x : List ℕ) (j : Json) where
  -- the frame of a place whose value was opened
  pub framed : (place : Place) (t : Source) (p : Parts) (kind : Kind) (own : List ℕ) (l : Left) → place.parts ≡ p → place.begun ≡ 0 → HasKind F x kind → HasLeft F ns p 0 t l → SaysOn F ns kind j own [] l → IsPlaceOf F ns p 0 kind j [] → IsFound F ns x j own (Some (record { place = place; source = t }))
  framed place t p kind own l e b h there says is = record {
    left = l;
    here = subst (λ (q : Parts). HasLeft F ns q place.begun t l) (sym e) (subst (λ (k : ℕ). HasLeft F ns p k t l) (sym b) there);
    kind = kind;
    says = says;
    is_place = (h, subst (λ (q : Parts). IsPlaceOf F ns q place.begun kind j []) (sym e) (subst (λ (k : ℕ). IsPlaceOf F ns p k kind j []) (sym b) is));
  }

  pub opened_leaf : (kind : Kind) → (old new own : List ℕ) → HasKind F x kind → new ≡ old ++ own → Says F kind j own [] → IsOpened F ns x j old new (Ok None)
  opened_leaf kind old new own h e s = (own, e, (kind, h, s))

  -- without own bytes the output may be any
  pub unmoved : (out : List ℕ) (r : Result (Option Frame) ReadError) → IsOpened F ns x j [] [] r → IsOpened F ns x j out out r
  unmoved out (Ok found) o = (o.0, sym (append-nil out) ∙ ap (λ l. out ++ l) o.1, o.2)
  unmoved out (Err e) o = o

-- ---- rows and lists
row_there : (xs : List (List ℕ)) (js : Items) → length (list_parts [] js) ≡ length xs → (ps : List Part) × (row_parts xs js ≡ Some ps)
row_there [] no_items e = ([], refl)
row_there [] (item j js) e = absurd (omega arith)
row_there (x ∷ xs) no_items e = absurd (omega arith)
row_there (x ∷ xs) (item j js) e = let r = row_there xs js (omega arith) in ((x, j) ∷ r.0, item_back x xs j js r.0 r.1)

pub row_fits : (xs : List (List ℕ)) (js : Items) (ps : List Part) → row_parts xs js ≡ Some ps → length (list_parts [] js) ≡ length xs
row_fits [] no_items ps e = refl
row_fits [] (item j js) ps e = cc
row_fits (x ∷ xs) no_items ps e = cc
row_fits (x ∷ xs) (item j js) ps e = let m = mapped (λ ps. (x, j) ∷ ps) (row_parts xs js) e in ap suc (row_fits xs js m.0 m.1)

pub rows_there : (xs : List (List ℕ)) (js : Items) (n : ℕ) → n ≡ length (list_parts [] js) → length xs ≡ n → (ps : List Part) × (row_parts xs js ≡ Some ps)
rows_there xs js n e f = row_there xs js (sym e ∙ sym f)

pub list_row : (e : List ℕ) (js : Items) → row_parts (replicate (length (list_parts [] js)) e) js ≡ Some (list_parts e js)
list_row e no_items = refl
list_row e (item j js) = item_back e (replicate (length (list_parts [] js)) e) j js (list_parts e js) (list_row e js)

pub list_length : (e : List ℕ) (js : Items) → length (list_parts e js) ≡ length (list_parts [] js)
list_length e no_items = refl
list_length e (item j js) = ap suc (list_length e js)

-- the types of parts that are wanted
pub second_map : (xs : List (List ℕ)) → map (λ (w : Wanted). w.1) (map (λ y. ([], y)) xs) ≡ xs
second_map [] = refl
second_map (x ∷ xs) = ap (λ l. x ∷ l) (second_map xs)

pub second_copies : (n : ℕ) (x : List ℕ) → map (λ (w : Wanted). w.1) (replicate n ([], x)) ≡ replicate n x
second_copies zero x = refl
second_copies (suc n) x = ap (λ l. x ∷ l) (second_copies n x)

pub some_one : {A : Type 0} (a b : A) → Some a ≡ Some b → b ≡ a
some_one a b e = cc

pub one_string : (s t : List ℕ) → string s ≡ string t → s ≡ t
one_string s t e = cc

-- ---- variants
pub variant_here : (k : ℤ) (v p : List ℕ) (vs : List (ℤ × List ℕ × List ℕ)) (i : ℕ) → slice_get vs i ≡ Some (k, v, p) → IsVariant k v p vs
variant_here k v p [] zero e = cc
variant_here k v p [] (suc i) e = cc
variant_here k v p (w ∷ vs) zero e = (let u : ℤ × List ℕ × List ℕ = (k, v, p) in let h : u ≡ w = cc in subst (λ (w : ℤ × List ℕ × List ℕ). IsVariant k v p (w ∷ vs)) h this)
variant_here k v p (w ∷ vs) (suc i) e = that (variant_here k v p vs i e)

other_first : (k : ℤ) (v p : List ℕ) (w : ℤ × List ℕ × List ℕ) (vs : List (ℤ × List ℕ × List ℕ)) → (w.1 ≡ v → ⊥) → IsVariant k v p (w ∷ vs) → IsVariant k v p vs
other_first k v p w vs n this = absurd (n refl)
other_first k v p w vs n (that h) = h

pub variant_later : (k : ℤ) (v p : List ℕ) (vs : List (ℤ × List ℕ × List ℕ)) (i : ℕ) (w : ℤ × List ℕ × List ℕ) → slice_get vs i ≡ Some w → (w.1 ≡ v → ⊥) → IsVariant k v p (drop i vs) → IsVariant k v p (drop (suc i) vs)
variant_later k v p vs i w e n h = other_first k v p w (drop (suc i) vs) n (subst (λ (l : List (ℤ × List ℕ × List ℕ)). IsVariant k v p l) (drop_at vs i w e) h)

pub no_variant : (k : ℤ) (v p : List ℕ) (vs : List (ℤ × List ℕ × List ℕ)) → vs ≡ [] → IsVariant k v p vs → ⊥
no_variant k v p vs e h = elim (subst (λ (l : List (ℤ × List ℕ × List ℕ)). IsVariant k v p l) e h) [ ]

-- ---- a value whose only part is another
module _ (F : List ℕ → Option Form) (ns : List Named) (x : List ℕ) (j : Json) where
  -- where the place wants one part
  pub only_found : (kind : Kind) (own : List ℕ) (p : Parts) (y : List ℕ) (i : Json) (e : List Token) (o : Option Frame) → MatchOption o ⊥ (λ f. (f.place.parts ≡ p) × (f.place.begun ≡ 0) × (f.source ≡ One (Some e))) → ((b : ℕ) → (z : List ℕ) × (z ≡ y) × ((ws : List Wanted) → ws ≡ drop b (([], z) ∷ []) → IsWanted F ns p b ws)) → (IsMapPlace p → ⊥) → IsPlaceOf F ns p 0 kind j [] → HasKind F x kind → BeginsWith e i → Says F kind j own ((y, i) ∷ []) → IsFound F ns x j own o
  only_found kind own p y i e None o g n is h b s = absurd o
  only_found kind own p y i e (Some f) o g n is h b s =
      let w = g 0 in
      let l = items_left (y ∷ []) (item i no_items) in
      let there : HasLeft F ns p 0 (One (Some e)) l = (([], y) ∷ [], w.2 (([], y) ∷ []) (ap (λ (z : List ℕ). ([], z) ∷ []) (sym w.1)), refl, (i, refl, b), (y, i) ∷ [], refl, n) in
      framed F ns x j f.place f.source p kind own l o.0 o.1 h (subst (λ (t : Source). HasLeft F ns p 0 t l) (sym o.2) there) ((y, i) ∷ [], refl, s) is
