-- Maps whose values are objects.
use Rattle.std.proofs.{Common.{◌≡◌, ◌⊎◌, ℕ, suc, zero, ◌+◌, ◌-◌, ◌≤◌, List, [], ◌∷◌, ◌++◌, inl, inr, length, replicate, false, Option, Some, None, refl, sym, ◌∙◌, ap, subst, arith, append-nil, append_assoc, length-append, Ok, pos, nat_le, Bor, nat_cmp, is_ge, Ordering, Less, Equal, Greater}, lemmas.Cmp.{nat_list_cmp_total}, lemmas.List.Sorted.{IsPermutation-refl, length_permutation}}
use Rattle.std.specs.{Option.{option_cmp}, BTreeMap.{BTreeMap, IsOrdered, btree_map_len}, Cmp.Lexicographic.{slice_cmp}, List.{AllByRecursion}, List.Sorted.{IsPermutation, IsStrictlySortedBy}}
use Rattle.json.specs.{Token.{Token}, Json.{Json, object, Members, no_members, member}, Find.{BeginsWith, InMembers}}
use Rattle.borsh_walks.specs.Container.{tag}
use Rattle.borsh_plan.specs.declared.named.Named.{Named}
use Rattle.borsh_json.specs.{declared.error.ReadError.{ReadError}, declared.kinds.Entries.{Entries as FoundEntries}, declared.kinds.KeyKind.{KeyKind}, declared.kinds.KeyKind.TheVariants.{Text as TextKeys, Number as NumberKeys}, declared.numbers.Number.{Number}, declared.position.Parts.TheVariants.{Entries as MapEntries}, declared.position.Place.{Place}, declared.sources.Source.{Source}, declared.sources.Source.TheVariants.{Entries as InPlace, Texts, Ranks}, Forms.{Form, form_of}, Frames.{ShowsRead, DeniesRead, FailsRead, Wanted, IsText, IsRank, AreKeyed, HasEntries, HaveOneEach, HasNoNumber, AreSorted, HasLeft, IsOpened, entries_left, IsKeyReason, IsUnexpected}, Places.{IsAt, AreKeysOf}, Represents.{HaveBytes, SaysSome}, Table.{Lengths, Keys, texts, numbers, whole, entries, HasKind, IsNumber, IsWhole, Part, Entry, entries_of, entry_parts, key_order, key_json, Says}, NoValue.{SaysOwn, FailsHere}}
use Rattle.borsh_json.proofs.{EachLaws.{sorted_each}, KeyJson.{key_number, tells}, MemberLaws.{keyed_length, sorted_keyed, text_cmp}, NumberLaws.{ranks_compare}, OpeningLaws.{key_why, framed, said, shows_read, refuses_plain}, ReaderLaws.{split, uncons, object_one}, RepresentsLaws.{IsAmong, moved, kind_one, number_one}}

among_middle : (e : Entry) (xs ys : List Entry) → IsAmong e (xs ++ e ∷ ys)
among_middle e [] ys = inl refl
among_middle e (x ∷ xs) ys = inr (among_middle e xs ys)

copies_length : (n : ℕ) (w : Wanted) → length (replicate n w) ≡ n
copies_length zero w = refl
copies_length (suc n) w = ap suc (copies_length n w)

-- ---- entries in the order of a map's keys
module _ (keys : Keys) (j : Json) (n : ℕ) (ms : Members) (es : List Entry) (e : j ≡ object ms) (p : IsPermutation (entries_of ms) es) where
  pub texts_sorted : (m : BTreeMap (Bor (List ℕ)) (List Token)) → keys ≡ texts → AreKeyed IsText m.entries es → IsOrdered text_cmp m → n ≡ btree_map_len m → AreSorted keys TextKeys j (Texts m, n)
  texts_sorted m q k o c =
      (ms, es, e, p, subst (λ (q : Keys). IsStrictlySortedBy (key_order q) es) (sym q) (sorted_keyed IsText text_cmp (key_order texts) (λ a b d e f g. ap (λ s. slice_cmp nat_cmp s b.now) f ∙ ap (λ t. slice_cmp nat_cmp d.0 t) g) m.entries es k o), k, c ∙ keyed_length IsText m.entries es k)

  pub ranks_sorted : (t : Number) (m : BTreeMap ℕ (List Token)) → t.size ≤ 16 → keys ≡ numbers t.size → AreKeyed (IsRank t) m.entries es → IsOrdered nat_cmp m → n ≡ btree_map_len m → AreSorted keys (NumberKeys t) j (Ranks m, n)
  ranks_sorted t m small q k o c =
      (ms, es, e, p, subst (λ (q : Keys). IsStrictlySortedBy (key_order q) es) (sym q) (sorted_keyed (IsRank t) nat_cmp (key_order (numbers t.size)) (λ a b d e f g. ranks_compare t.size t.is_signed t.is_non_zero d.0 e.0 a b small f g) m.entries es k o), k, c ∙ keyed_length (IsRank t) m.entries es k)

-- ---- entries whose keys ascend where they stand
-- the last of the entries has this key
abbrev pub EndsWith : Option (Bor (List ℕ)) → List Entry → Type 0
EndsWith None es = es ≡ []
EndsWith (Some k) es = (front : List Entry) × (e : Entry) × (e.0 ≡ k.now) × (es ≡ front ++ e ∷ [])

-- these members were passed, and their keys ascend, and those are left
pub record IsRising (ms : Members) (ts : List Token) (earlier : Option (Bor (List ℕ))) (n : ℕ) : Type 0 where
  pub passed : List Entry
  pub rest : Members
  pub all : entries_of ms ≡ passed ++ entries_of rest
  pub left : InMembers ts rest
  pub rising : IsStrictlySortedBy (key_order texts) passed
  pub last : EndsWith earlier passed
  pub count : n ≡ length passed

all_last : {X : Type 0} (P : X → Type 0) (xs : List X) (e f : X) → AllByRecursion P (xs ++ e ∷ []) → (P e → P f) → AllByRecursion P ((xs ++ e ∷ []) ++ f ∷ [])
all_last P [] e f h g = (h.0, (g h.0, tt))
all_last P (x ∷ xs) e f h g = (h.0, all_last P xs e f h.1 g)

sorted_last : (xs : List Entry) (e f : Entry) → IsStrictlySortedBy (key_order texts) (xs ++ e ∷ []) → key_order texts e f ≡ Less → IsStrictlySortedBy (key_order texts) ((xs ++ e ∷ []) ++ f ∷ [])
unfolding IsStrictlySortedBy
sorted_last [] e f h l = ((l, tt), (tt, tt))
sorted_last (x ∷ xs) e f h l = (all_last (λ y. key_order texts x y ≡ Less) xs e f h.0 (λ g. nat_list_cmp_total.trans x.0 e.0 f.0 g l), sorted_last xs e f h.1 l)

less_if : (o : Ordering) → is_ge o ≡ false → o ≡ Less
less_if Less e = refl
less_if Equal e = cc
less_if Greater e = cc

one_sorted : (e : Entry) → IsStrictlySortedBy (key_order texts) (e ∷ [])
unfolding IsStrictlySortedBy
one_sorted e = (tt, tt)

none_sorted : IsStrictlySortedBy (key_order texts) []
unfolding IsStrictlySortedBy
none_sorted = tt

risen : (earlier : Option (Bor (List ℕ))) (k : Bor (List ℕ)) (es : List Entry) (e : Entry) → e.0 ≡ k.now → is_ge (option_cmp text_cmp earlier (Some k)) ≡ false → EndsWith earlier es → IsStrictlySortedBy (key_order texts) es → IsStrictlySortedBy (key_order texts) (es ++ e ∷ [])
risen None k es e q g z s = subst (λ (l : List Entry). IsStrictlySortedBy (key_order texts) (l ++ e ∷ [])) (sym z) (one_sorted e)
risen (Some b) k es e q g z s =
    let l : key_order texts z.1 e ≡ Less = ap (λ s. slice_cmp nat_cmp s e.0) z.2 ∙ ap (λ t. slice_cmp nat_cmp b.now t) q ∙ less_if (text_cmp b k) g in
    subst (λ (l : List Entry). IsStrictlySortedBy (key_order texts) (l ++ e ∷ [])) (sym z.3) (sorted_last z.0 z.1 e (subst (λ (l : List Entry). IsStrictlySortedBy (key_order texts) l) z.3 s) l)

pub rising_start : (ms : Members) (ts : List Token) → InMembers ts ms → IsRising ms ts None 0
rising_start ms ts h = record { passed = []; rest = ms; all = refl; left = h; rising = none_sorted; last = refl; count = refl }

pub rising_more : (ms : Members) (ts new : List Token) (earlier : Option (Bor (List ℕ))) (n : ℕ) (key : List ℕ) (t : List Token) (k : Bor (List ℕ)) → ((ms : Members) → InMembers ts ms → (j : Json) × (rest : Members) × (ms ≡ member key j rest) × BeginsWith t j × InMembers new rest) → k.now ≡ key → is_ge (option_cmp text_cmp earlier (Some k)) ≡ false → IsRising ms ts earlier n → IsRising ms new (Some k) (n + 1)
rising_more ms ts new earlier n key t k v q g p =
    let u = v p.rest p.left in
    let e : Entry = (key, u.0) in
    record {
      passed = p.passed ++ e ∷ [];
      rest = u.1;
      all = p.all ∙ ap (λ ms. p.passed ++ entries_of ms) u.2 ∙ sym (append_assoc p.passed (e ∷ []) (entries_of u.1));
      left = u.4;
      rising = risen earlier k p.passed e (sym q) g p.last p.rising;
      last = (p.passed, e, sym q, refl);
      count = (let c = p.count in omega (arith, c, length-append p.passed (e ∷ [])));
    }

pub rising_all : (j : Json) (ms os : Members) (ts us : List Token) (earlier : Option (Bor (List ℕ))) (n : ℕ) → j ≡ object os → InMembers us os → j ≡ object ms → ((ms : Members) → InMembers ts ms → ms ≡ no_members) → IsRising ms ts earlier n → AreSorted texts TextKeys j (InPlace us, n)
rising_all j ms os ts us earlier n f i e v p =
    let a : entries_of ms ≡ p.passed = p.all ∙ ap (λ ms. p.passed ++ entries_of ms) (v p.rest p.left) ∙ append-nil p.passed in
    (ms, p.passed, e, subst (λ (l : List Entry). IsPermutation l p.passed) (sym a) (IsPermutation-refl p.passed), p.rising, (os, i, sym a ∙ ap (λ ms. entries_of ms) (object_one j ms os e f)), p.count)

-- ---- what a map says
module _ (F : List ℕ → Option Form) (ns : List Named) (x : List ℕ) (j : Json) (l : Lengths) (keys : Keys) (k v : List ℕ) (h : HasKind F x (entries l keys k v)) where
  map_said : SaysOwn F x j → (ms : Members) × (es : List Entry) × (j ≡ object ms) × IsPermutation (entries_of ms) es × IsStrictlySortedBy (key_order keys) es × (l.least ≤ length es) × (length es ≤ l.greatest)
  map_said s = let q = (said F ns x j (entries l keys k v) h s).2 in (q.0, q.1, q.2, q.3, q.4, q.5.0, q.5.1)

  -- each key is said
  key_said : (e : Entry) (es : List Entry) (more : List Part) (cs : List ℕ) → HaveBytes F (entry_parts keys k v es ++ more) cs → IsAmong e es → SaysSome F k (key_json keys e.0)
  key_said e [] more cs b i = absurd i
  key_said e (d ∷ es) more cs b (inl q) =
      let t = split F b ((k, key_json keys d.0) ∷ []) ((v, d.1) ∷ (entry_parts keys k v es ++ more)) refl in
      (t.0, subst (λ (s : List ℕ). HaveBytes F ((k, key_json keys s) ∷ []) t.0) (ap (λ (e : Entry). e.0) (sym q)) t.2)
  key_said e (d ∷ es) more cs b (inr i) =
      let t = split F b ((k, key_json keys d.0) ∷ (v, d.1) ∷ []) (entry_parts keys k v es ++ more) refl in
      key_said e es more t.1 t.3 i

  -- so the map says nothing if a key doesn't
  key_none : (ms : Members) (xs : List Entry) (e : Entry) (ys : List Entry) → j ≡ object ms → entries_of ms ≡ xs ++ e ∷ ys → (SaysOwn F k (key_json keys e.0) → ⊥) → SaysSome F x j → ⊥
  key_none ms xs e ys o a n s =
      let u = uncons F s.1 in
      let f = u.4 in
      let q = subst (λ kind. Says F kind j u.0 u.1) (kind_one F f.1 h) f.2 in
      let among = subst (λ (l : List Entry). IsAmong e l) (ap (λ ms. entries_of ms) (object_one j ms q.0 o q.2)) (subst (λ (l : List Entry). IsAmong e l) (sym a) (among_middle e xs ys)) in
      let b = subst (λ (ps : List Part). HaveBytes F (ps ++ []) u.2) q.6 u.5 in
      let w = uncons F (key_said e q.1 [] u.2 b (moved e (entries_of q.0) q.1 q.3 among)).1 in
      n (w.0, w.1, w.4)

  pub texts_said : SaysOwn F x j → (ms : Members) × (j ≡ object ms) × HaveOneEach (entries_of ms)
  texts_said s = let t = map_said s in (t.0, t.2, sorted_each keys (entries_of t.0) t.1 t.3 t.4)

  module _ (n : Number) (q : keys ≡ numbers n.size) (w : HasKind F k (whole n.size n.is_signed n.is_non_zero)) where
    number_said : (s : List ℕ) → SaysOwn F k (key_json keys s) → (own : List ℕ) × IsWhole n.size n.is_signed n.is_non_zero s own
    number_said s d =
        let g = said F ns k (key_json keys s) (whole n.size n.is_signed n.is_non_zero) w d in
        let a : IsNumber n.size s (key_json keys s) = subst (λ (q : Keys). IsNumber n.size s (key_json q s)) (sym q) (key_number n.size s (nat_le 8 n.size) (tells n.size) refl) in
        (g.0, subst (λ (s : List ℕ). IsWhole n.size n.is_signed n.is_non_zero s g.0) (number_one n.size g.2.0 s (key_json keys s) g.2.1 a) g.2.2)

    pub numbers_fail : (e : ReadError) → ShowsRead (IsKeyReason j) e ((((ms : Members) × (j ≡ object ms) × HaveOneEach (entries_of ms)) → ⊥) ⊎ HasNoNumber n j) → FailsRead F x j e
    numbers_fail e d = shows_read e (key_why F ns x j) fails d
      where
        fails : (((ms : Members) × (j ≡ object ms) × HaveOneEach (entries_of ms)) → ⊥) ⊎ HasNoNumber n j → FailsHere F x j
        fails (inl g) = inl (λ s. g (texts_said s))
        fails (inr g) = inr (l, keys, k, v, g.0, g.1, g.2, g.3, h, g.4, g.5, λ s. let o = number_said g.2.0 s in g.6 o.0 o.1)

  -- ---- its frame
  module _ (kind : KeyKind) (s : Source) (n : ℕ) (t : AreSorted keys kind j (s, n)) where
    pub map_opened : (m : FoundEntries) (place : Place) (old new : List ℕ) → IsAt ns m.key k → IsAt ns m.value v → AreKeysOf F ns k (form_of m.key_definition.now) m.key_kind keys → m.key_kind ≡ kind → place.parts ≡ MapEntries m n → place.begun ≡ 0 → l.least ≤ n → n ≤ l.greatest → new ≡ old ++ tag l.width (pos n) → IsOpened F ns x j old new (Ok (Some (record { place = place; source = s })))
    map_opened m place old new a b c d p g low high o =
        let es = t.1 in
        let z = t.6 in
        let ps = entry_parts keys k v es in
        let own = tag l.width (pos (length es)) ++ [] in
        let left = entries_left keys k v es in
        let least : n ≡ n - 0 = omega arith in
        let w : Wanted = ([], v) in
        let there : HasLeft F ns (MapEntries m n) 0 s left = (replicate n w, (v, b, ap (λ (i : ℕ). replicate i w) least), copies_length n w ∙ z, (a, b, c, subst (λ (kind : KeyKind). HasEntries kind s es) (sym d) t.5)) in
        let q : own ≡ tag l.width (pos n) = append-nil (tag l.width (pos (length es))) ∙ ap (λ i. tag l.width (pos i)) (sym z) in
        (own, o ∙ ap (λ y. old ++ y) (sym q), framed F ns x j place s (MapEntries m n) (entries l keys k v) own left p g h there (t.0, es, t.2, t.3, t.4, (omega (arith, z, low), omega (arith, z, high), refl), refl) (l, keys, k, v, refl, refl))

    pub map_range : (e : ReadError) → DeniesRead IsUnexpected e ((l.least ≤ n) × (n ≤ l.greatest)) → FailsRead F x j e
    map_range e d = refuses_plain F ns x j e (λ y.
        let u = map_said y in
        let q : length t.1 ≡ length u.1 = length_permutation (entries_of t.0) t.1 t.3 ∙ ap (λ ms. length (entries_of ms)) (object_one j t.0 u.0 t.2 u.2) ∙ sym (length_permutation (entries_of u.0) u.1 u.3) in
        let z = t.6 in
        (let low = u.5 in omega (arith, q, z, low), let high = u.6 in omega (arith, q, z, high))) d

-- JSON that fails itself says nothing
pub fails_none : (F : List ℕ → Option Form) (ns : List Named) (x : List ℕ) (j : Json) → FailsHere F x j → SaysSome F x j → ⊥
fails_none F ns x j (inl n) s = let u = uncons F s.1 in n (u.0, u.1, u.4)
fails_none F ns x j (inr b) s = key_none F ns x j b.0 b.1 b.2 b.3 b.8 b.4 b.5 b.6 b.7 b.9 b.10 b.11 s
