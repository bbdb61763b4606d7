-- The members of an object, one after another, and maps of them by their keys.
use Rattle.std.proofs.{Common.{◌≡◌, ◌⊎◌, inl, inr, ℕ, suc, List, [], ◌∷◌, ◌++◌, length, Bool, true, false, Option, Some, None, refl, sym, ◌∙◌, ap, subst, append-nil, append_assoc, cond, is_some, ◌||◌, Bor, bytes_eq, Ordering, Less, Equal, Greater}, lemmas.List.Sorted.{IsPermutation-refl, IsPermutation-cons, IsPermutation-middle, IsPermutation-trans, IsPermutation-push_more, list_any-IsPermutation}, lemmas.Map.Text.{btree_map_updates_str, is_eq-slice_cmp}, lemmas.Slice.Eq.{bytes_eq-Decides}}
use Rattle.std.specs.{BTreeMap.{BTreeMap, UpdatesBy, insert_entry, is_at}, Cmp.Lexicographic.{slice_cmp}, List.{AllByRecursion, list_any}, List.Sorted.{IsPermutation, IsStrictlySortedBy}, Map.{keys_of, lookup}, Ordering.{nat_cmp, is_eq, match_ordering}}
use Rattle.json.specs.{Token.{Token}, Json.{Json, Members, no_members, member, object}, Find.{BeginsWith, InMembers, get_member, later_or, Finds}}
use Rattle.borsh_walks.specs.Tables.{mark_of}
use Rattle.borsh_json.specs.{Frames.{IsText, AreKeyed, HaveOneEach}, Table.{Entry, entries_of}, NoValue.{RepeatsKey}}

-- ---- entries by the keys of a map
there_case : (b : Bool) (t : List Token) (o : Option (List Token)) → is_some (cond b (Some t) o) ≡ true → (b ≡ true) ⊎ (is_some o ≡ true)
there_case true t o e = inl refl
there_case false t o e = inr e

pub none_of : {A : Type 0} (o : Option A) (b : Bool) → b ≡ is_some o → b ≡ false → o ≡ None
none_of None b e f = refl
none_of (Some a) b e f = let q : true ≡ false = sym e ∙ f in cc

pub or_true : (b : Bool) → (b || true) ≡ true
or_true true = refl
or_true false = refl

module _ {A : Type 0} (K : A → List ℕ → Type 0) where
  pub keyed_length : (ms : List (A × List Token)) (es : List Entry) → AreKeyed K ms es → length ms ≡ length es
  keyed_length [] es h = ap (λ (l : List Entry). length l) (sym h)
  keyed_length (m ∷ ms) es h = ap suc (keyed_length ms h.2 h.6) ∙ ap (λ (l : List Entry). length l) (sym h.3)

  -- a new key goes to its place
  insert_case : (o : Ordering) (k : A) (s : List ℕ) (t : List Token) (j : Json) (m : A × List Token) (ms new : List (A × List Token)) (es : List Entry) (old : Option (List Token)) → K k s → BeginsWith t j → AreKeyed K (m ∷ ms) es → cond (is_eq o) (Some m.1) old ≡ None → ((rest : List Entry) → AreKeyed K ms rest → old ≡ None → (fs : List Entry) × AreKeyed K new fs × IsPermutation ((s, j) ∷ rest) fs) → (fs : List Entry) × AreKeyed K (match_ordering o ((k, t) ∷ m ∷ ms) ((m.0, t) ∷ ms) (m ∷ new)) fs × IsPermutation ((s, j) ∷ es) fs
  insert_case Less k s t j m ms new es old a b h e f = ((s, j) ∷ es, (s, j, es, refl, a, b, h), IsPermutation-refl ((s, j) ∷ es))
  insert_case Equal k s t j m ms new es old a b h e f = let z : ⊥ = cc in absurd z
  insert_case Greater k s t j m ms new es old a b h e f =
      let r = f h.2 h.6 e in
      let first : Entry = (h.0, h.1) in
      let added : Entry = (s, j) in
      let p : IsPermutation (added ∷ first ∷ h.2) (first ∷ added ∷ h.2) = IsPermutation-middle (added ∷ []) first h.2 in
      (first ∷ r.0, (h.0, h.1, r.0, refl, h.4, h.5, r.1), subst (λ (l : List Entry). IsPermutation (added ∷ l) (first ∷ r.0)) (sym h.3) (IsPermutation-trans (added ∷ first ∷ h.2) (first ∷ added ∷ h.2) (first ∷ r.0) p (IsPermutation-cons first (added ∷ h.2) r.0 r.2)))

  module _ (cmp : A → A → Ordering) where
    pub inserted : (ms : List (A × List Token)) (es : List Entry) (k : A) (s : List ℕ) (t : List Token) (j : Json) → K k s → BeginsWith t j → AreKeyed K ms es → lookup (is_at (cmp k)) ms ≡ None → (fs : List Entry) × AreKeyed K (insert_entry cmp ms k t) fs × IsPermutation ((s, j) ∷ es) fs
    inserted [] es k s t j a b h e = ((s, j) ∷ [], (s, j, [], refl, a, b, refl), subst (λ (l : List Entry). IsPermutation ((s, j) ∷ l) ((s, j) ∷ [])) (sym h) (IsPermutation-refl ((s, j) ∷ [])))
    inserted (m ∷ ms) es k s t j a b h e = insert_case (cmp k m.0) k s t j m ms (insert_entry cmp ms k t) es (lookup (is_at (cmp k)) ms) a b h e (λ rest g z. inserted ms rest k s t j a b g z)

    -- one that is there already
    there_keyed : (k : A) (s : List ℕ) → ((a : A) (t : List ℕ) → is_eq (cmp k a) ≡ true → K a t → s ≡ t) → (ms : List (A × List Token)) (es : List Entry) → AreKeyed K ms es → is_some (lookup (is_at (cmp k)) ms) ≡ true → list_any (λ (x : Entry). bytes_eq s x.0) es ≡ true
    there_keyed k s one [] es h e = let z : ⊥ = cc in absurd z
    there_keyed k s one (m ∷ ms) es h e =
        let test : Entry → Bool = λ x. bytes_eq s x.0 in
        subst (λ (l : List Entry). list_any test l ≡ true) (sym h.3) (elim (there_case (is_eq (cmp k m.0)) m.1 (lookup (is_at (cmp k)) ms) e) [
          | inl q ↦ ap (λ b. b || list_any test h.2) ((bytes_eq-Decides s h.0).1 (one m.0 h.0 q h.4))
          | inr q ↦ ap (λ b. bytes_eq s h.0 || b) (there_keyed k s one ms h.2 h.6 q) ∙ or_true (bytes_eq s h.0)
        ])

    -- entries ascend as their keys do
    module _ (R : Entry → Entry → Ordering) (same : (a b : A) (d e : Entry) → K a d.0 → K b e.0 → cmp a b ≡ R d e) where
      below_keyed : (a : A) (d : Entry) → K a d.0 → (ms : List (A × List Token)) (es : List Entry) → AreKeyed K ms es → AllByRecursion (λ y. cmp a y ≡ Less) (keys_of ms) → AllByRecursion (λ e. R d e ≡ Less) es
      below_keyed a d k [] es h o = subst (λ (l : List Entry). AllByRecursion (λ e. R d e ≡ Less) l) (sym h) tt
      below_keyed a d k (m ∷ ms) es h o = subst (λ (l : List Entry). AllByRecursion (λ e. R d e ≡ Less) l) (sym h.3) (sym (same a m.0 d (h.0, h.1) k h.4) ∙ o.0, below_keyed a d k ms h.2 h.6 o.1)

      pub sorted_keyed : (ms : List (A × List Token)) (es : List Entry) → AreKeyed K ms es → IsStrictlySortedBy cmp (keys_of ms) → IsStrictlySortedBy R es
      unfolding IsStrictlySortedBy
      sorted_keyed [] es h o = subst (λ (l : List Entry). IsStrictlySortedBy R l) (sym h) tt
      sorted_keyed (m ∷ ms) es h o = subst (λ (l : List Entry). IsStrictlySortedBy R l) (sym h.3) (below_keyed m.0 (h.0, h.1) h.4 ms h.2 h.6 o.0, sorted_keyed ms h.2 h.6 o.1)

-- ---- members that were passed
-- these members were passed and are in the map, and those are left
pub record ArePassed {A : Type 0} (K : A → List ℕ → Type 0) (ms : Members) (ts : List Token) (m : List (A × List Token)) : Type 0 where
  pub passed : List Entry
  pub es : List Entry
  pub rest : Members
  pub all : entries_of ms ≡ passed ++ entries_of rest
  pub left : InMembers ts rest
  pub keyed : AreKeyed K m es
  pub same : IsPermutation passed es

module _ {A : Type 0} (K : A → List ℕ → Type 0) (ms : Members) (ts : List Token) where
  unfoldable pub passed_start : (m : List (A × List Token)) → InMembers ts ms → m ≡ [] → ArePassed K ms ts m
  passed_start m h e = record { passed = []; es = []; rest = ms; all = refl; left = h; keyed = subst (λ (l : List (A × List Token)). AreKeyed K l []) (sym e) refl; same = IsPermutation-refl [] }

  -- none is left
  pub passed_all : (m : List (A × List Token)) → ((ms : Members) → InMembers ts ms → ms ≡ no_members) → (p : ArePassed K ms ts m) → (entries_of ms ≡ p.passed) × IsPermutation (entries_of ms) p.es
  passed_all m v p =
      let e : entries_of ms ≡ p.passed = p.all ∙ ap (λ ms. p.passed ++ entries_of ms) (v p.rest p.left) ∙ append-nil p.passed in
      (e, subst (λ (l : List Entry). IsPermutation l p.es) (sym e) p.same)

  -- the next member
  module _ (new : List Token) (m : List (A × List Token)) (s : List ℕ) (t : List Token) (v : (ms : Members) → InMembers ts ms → (j : Json) × (rest : Members) × (ms ≡ member s j rest) × BeginsWith t j × InMembers new rest) where
    pub passed_here : (p : ArePassed K ms ts m) → (j : Json) × (rest : List Entry) × (entries_of ms ≡ p.passed ++ (s, j) ∷ rest)
    passed_here p = let n = v p.rest p.left in (n.0, entries_of n.1, p.all ∙ ap (λ ms. p.passed ++ entries_of ms) n.2)

    module _ (cmp : A → A → Ordering) (k : A) where
      unfoldable pub passed_more : (n : List (A × List Token)) → n ≡ insert_entry cmp m k t → K k s → lookup (is_at (cmp k)) m ≡ None → ArePassed K ms ts m → ArePassed K ms new n
      passed_more n i a e p =
          let u = v p.rest p.left in
          let r = inserted K cmp m p.es k s t u.0 a u.3 p.keyed e in
          record {
            passed = p.passed ++ (s, u.0) ∷ [];
            es = r.0;
            rest = u.1;
            all = p.all ∙ ap (λ ms. p.passed ++ entries_of ms) u.2 ∙ sym (append_assoc p.passed ((s, u.0) ∷ []) (entries_of u.1));
            left = u.4;
            keyed = subst (λ (l : List (A × List Token)). AreKeyed K l r.0) (sym i) r.1;
            same = IsPermutation-push_more p.passed p.es r.0 (s, u.0) p.same r.2;
          }

      pub passed_twice : ((a : A) (t : List ℕ) → is_eq (cmp k a) ≡ true → K a t → s ≡ t) → is_some (lookup (is_at (cmp k)) m) ≡ true → ArePassed K ms ts m → (j : Json) → j ≡ object ms → RepeatsKey j s
      passed_twice one e p j o =
          let u = passed_here p in
          let test : Entry → Bool = λ x. bytes_eq s x.0 in
          (ms, p.passed, (s, u.0), u.1, o, u.2, refl, list_any-IsPermutation test p.passed p.es p.same ∙ there_keyed K cmp k s one m p.es p.keyed e)

-- no such object has each key once
pub not_each : (j : Json) (name : List ℕ) → RepeatsKey j name → (ms : Members) → j ≡ object ms → HaveOneEach (entries_of ms) → ⊥
not_each j name t ms e h =
    let m : t.0 ≡ ms = (let q : object t.0 ≡ object ms = sym t.4 ∙ e in cc) in
    let z : true ≡ false = sym t.7 ∙ h t.1 t.3 t.2 (ap (λ ms. entries_of ms) (sym m) ∙ t.5) in
    cc

-- ---- what a map finds of a key
-- the last entry of that name
abbrev pub get_entry : List ℕ → List Entry → Option Json
get_entry name [] = None
get_entry name (e ∷ es) = later_or (get_entry name es) (cond (bytes_eq e.0 name) (Some e.1) None)

entries_get : (name : List ℕ) (ms : Members) → get_entry name (entries_of ms) ≡ get_member name ms
entries_get name no_members = refl
entries_get name (member k j ms) = ap (λ o. later_or o (cond (bytes_eq k name) (Some j) None)) (entries_get name ms)

later_assoc : (a b c : Option Json) → later_or (later_or a b) c ≡ later_or a (later_or b c)
later_assoc None b c = refl
later_assoc (Some j) b c = refl

later_none : (a : Option Json) → later_or a None ≡ a
later_none None = refl
later_none (Some j) = refl

get_more : (name k : List ℕ) (j : Json) (es : List Entry) → get_entry name (es ++ (k, j) ∷ []) ≡ later_or (cond (bytes_eq k name) (Some j) None) (get_entry name es)
get_more name k j [] = sym (later_none (cond (bytes_eq k name) (Some j) None))
get_more name k j (e ∷ es) = ap (λ o. later_or o (cond (bytes_eq e.0 name) (Some e.1) None)) (get_more name k j es) ∙ later_assoc (cond (bytes_eq k name) (Some j) None) (get_entry name es) (cond (bytes_eq e.0 name) (Some e.1) None)

finds_more : (b : Bool) (e : List Token) (j : Json) (o : Option (List Token)) (p : Option Json) → BeginsWith e j → Finds o p → Finds (cond b (Some e) o) (later_or (cond b (Some j) None) p)
finds_more true e j o p b f = (j, refl, b)
finds_more false e j o p b f = f

abbrev pub Texts : Type 0
Texts = BTreeMap (Bor (List ℕ)) (List Token)

abbrev pub text_cmp : Bor (List ℕ) → Bor (List ℕ) → Ordering
text_cmp x y = slice_cmp nat_cmp x.now y.now

pub text_one : (k a : Bor (List ℕ)) (t : List ℕ) → is_eq (text_cmp k a) ≡ true → IsText a t → k.now ≡ t
text_one k a t e i = (bytes_eq-Decides k.now a.now).0 (sym (is_eq-slice_cmp k.now a.now) ∙ e) ∙ i

-- members that were passed, each of which the map finds
abbrev pub ArePassedTexts : Members → List Token → Texts → Type 0
ArePassedTexts ms ts m = (p : ArePassed IsText ms ts m.entries) × ((name : List ℕ) → Finds (mark_of m name) (get_entry name p.passed))

module _ (ms : Members) (ts : List Token) (m : Texts) where
  pub found_start : InMembers ts ms → m.entries ≡ [] → ((name : List ℕ) → mark_of m name ≡ None) → ArePassedTexts ms ts m
  unfolding passed_start
  found_start h e z = (passed_start IsText ms ts m.entries h e, λ name. subst (λ (o : Option (List Token)). Finds o None) (sym (z name)) refl)

  pub found_more : (new : List Token) (n : Texts) (key : Bor (List ℕ)) (e : List Token) → ((ms : Members) → InMembers ts ms → (j : Json) × (rest : Members) × (ms ≡ member key.now j rest) × BeginsWith e j × InMembers new rest) → UpdatesBy text_cmp (text_cmp key) m n (Some e) → n.entries ≡ insert_entry text_cmp m.entries key e → lookup (is_at (text_cmp key)) m.entries ≡ None → ArePassedTexts ms ts m → ArePassedTexts ms new n
  unfolding passed_more
  found_more new n key e v u i z p =
      let t = v p.0.rest p.0.left in
      let k = key.now in
      (passed_more IsText ms ts new m.entries k e v text_cmp key n.entries i refl z p.0, λ name. subst (λ (o : Option (List Token)). Finds o (get_entry name (p.0.passed ++ (k, t.0) ∷ []))) (sym (btree_map_updates_str k m n (Some e) u name)) (subst (λ (q : Option Json). Finds (cond (bytes_eq k name) (Some e) (mark_of m name)) q) (sym (get_more name k t.0 p.0.passed)) (finds_more (bytes_eq k name) e t.0 (mark_of m name) (get_entry name p.0.passed) t.3 (p.1 name))))

  pub found_all : ((ms : Members) → InMembers ts ms → ms ≡ no_members) → ArePassedTexts ms ts m → (es : List Entry) × ((name : List ℕ) → Finds (mark_of m name) (get_member name ms)) × IsPermutation (entries_of ms) es × AreKeyed IsText m.entries es
  found_all v p =
      let a = passed_all IsText ms ts m.entries v p.0 in
      (p.0.es, (λ name. subst (λ (q : Option Json). Finds (mark_of m name) q) (ap (λ es. get_entry name es) (sym a.0) ∙ entries_get name ms) (p.1 name)), a.1, p.0.keyed)
