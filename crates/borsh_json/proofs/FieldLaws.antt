-- Fields that come in their order.
use Rattle.std.proofs.{Common.{◌≡◌, ℕ, suc, List, [], ◌∷◌, ◌++◌, length, map, Bool, true, false, Some, None, refl, sym, ◌∙◌, ap, subst, arith, append_assoc, append-nil, string_bytes, cond, String, Global, bytes_eq, Bor}, lemmas.Map.Keys.{IsDistinct-head, IsDistinct-tail}, lemmas.Slice.Eq.{bytes_eq-Decides}}
use Rattle.std.specs.List.{AllByRecursion, IsDistinct}
use Rattle.json.specs.{Token.{Token}, Json.{Json, object, Members, no_members, member}, Find.{BeginsWith, InMembers, get_member, later_or}}
use Rattle.borsh_json.specs.{declared.sources.Source.TheVariants.{Entries as InPlace}, Frames.{Wanted, AreNext, HasFields}, Table.{Entry, entries_of}}
use Rattle.borsh_json.proofs.{FrameLaws.{length_map}, PartsLaws.{names_of}, ReaderLaws.{object_one}}

abbrev pub keys_of : Members → List (List ℕ)
keys_of ms = map (λ (e : Entry). e.0) (entries_of ms)

-- ---- the keys that were passed
abbrev pub ArePast : List (List ℕ) → Members → List Token → Type 0
ArePast past ms ts = (rest : Members) × InMembers ts rest × (keys_of ms ≡ past ++ keys_of rest)

pub past_start : (ms : Members) (ts : List Token) → InMembers ts ms → ArePast [] ms ts
past_start ms ts h = (ms, h, refl)

pub past_more : (ms : Members) (ts new : List Token) (past next : List (List ℕ)) (key name : List ℕ) (e : List Token) → ((ms : Members) → InMembers ts ms → (j : Json) × (rest : Members) × (ms ≡ member key j rest) × BeginsWith e j × InMembers new rest) → key ≡ name → next ≡ past ++ name ∷ [] → ArePast past ms ts → ArePast next ms new
past_more ms ts new past next key name e v q n p =
    let t = v p.0 p.1 in
    (t.1, t.4, p.2 ∙ ap (λ ms. past ++ keys_of ms) t.2 ∙ sym (append_assoc past (key ∷ []) (keys_of t.1)) ∙ ap (λ l. l ++ keys_of t.1) (ap (λ k. past ++ k ∷ []) q ∙ sym n))

pub past_all : (j : Json) (ms os : Members) (ts us : List Token) (names : List (List ℕ)) → j ≡ object os → InMembers us os → j ≡ object ms → ((ms : Members) → InMembers ts ms → ms ≡ no_members) → ArePast names ms ts → (ns : Members) × (j ≡ object ns) × InMembers us ns × (keys_of ns ≡ names)
past_all j ms os ts us names f i e v p =
    (os, f, i, ap (λ ms. keys_of ms) (object_one j os ms f e) ∙ p.2 ∙ ap (λ ms. names ++ keys_of ms) (v p.0 p.1) ∙ append-nil names)

-- ---- fields whose names are the keys
turned : (a b : List ℕ) → bytes_eq a b ≡ false → bytes_eq b a ≡ false
turned a b e = either (bytes_eq b a) refl
  where
    either : (t : Bool) → bytes_eq b a ≡ t → bytes_eq b a ≡ false
    either false q = q
    either true q = absurd (let s = (bytes_eq-Decides a b).1 (sym ((bytes_eq-Decides b a).0 q)) in cc)

not_later : (name : List ℕ) (ms : Members) → AllByRecursion (λ y. bytes_eq name y ≡ false) (keys_of ms) → get_member name ms ≡ None
not_later name no_members a = refl
not_later name (member k j ms) a = ap (λ o. later_or o (cond (bytes_eq k name) (Some j) None)) (not_later name ms a.1) ∙ ap (λ b. cond b (Some j) None) (turned name k a.0)

lifted : (fs : List Wanted) (rest ms : Members) (k : List ℕ) (j : Json) → AreNext fs rest ms → AreNext fs rest (member k j ms)
lifted [] rest ms k j h = h
lifted (f ∷ fs) rest ms k j h = (h.0, h.1, h.2, ap (λ o. later_or o (cond (bytes_eq k f.0) (Some j) None)) h.3, lifted fs h.1 ms k j h.4)

pub next_all : (fs : List Wanted) (ms : Members) → IsDistinct bytes_eq (map (λ (f : Wanted). f.0) fs) → keys_of ms ≡ map (λ (f : Wanted). f.0) fs → AreNext fs ms ms
next_all [] no_members d e = refl
next_all [] (member k j ms) d e = cc
next_all (f ∷ fs) no_members d e = cc
next_all (f ∷ fs) (member k j ms) d e =
    let names = map (λ (f : Wanted). f.0) fs in
    let q : k ≡ f.0 = cc in
    let r : keys_of ms ≡ names = cc in
    let n = not_later f.0 ms (subst (λ (l : List (List ℕ)). AllByRecursion (λ y. bytes_eq f.0 y ≡ false) l) (sym r) (IsDistinct-head bytes_eq f.0 names d)) in
    let here = ap (λ o. later_or o (cond (bytes_eq k f.0) (Some j) None)) n ∙ ap (λ b. cond b (Some j) None) ((bytes_eq-Decides k f.0).1 q) in
    (j, ms, ap (λ k. member k j ms) q, here, lifted fs ms ms k j (next_all fs ms (IsDistinct-tail bytes_eq f.0 names d) r))

abbrev pub wanted : String Global × String Global → Wanted
wanted f = (string_bytes f.0, string_bytes f.1)

pub in_place : (fs : List (String Global × String Global)) (ms : Members) (ts : List Token) → IsDistinct bytes_eq (map (λ f. string_bytes f.0) fs) → InMembers ts ms → keys_of ms ≡ map (λ f. string_bytes f.0) fs → (n : ℕ) × (n ≡ length (entries_of ms)) × HasFields (InPlace ts) [] (map wanted fs) ms n
in_place fs ms ts d h e =
    let names = names_of (λ (f : String Global × String Global). string_bytes f.0) (λ f. string_bytes f.1) fs in
    let count : length (map wanted fs) ≡ length (entries_of ms) = (let a = length_map wanted fs in let b = length_map (λ (f : String Global × String Global). string_bytes f.0) fs in let c = length_map (λ (e : Entry). e.0) (entries_of ms) in let l = ap (λ xs. length xs) e in omega (arith, a, b, c, l)) in
    (length (map wanted fs), count, (ms, h, next_all (map wanted fs) ms (subst (λ (l : List (List ℕ)). IsDistinct bytes_eq l) (sym names) d) (e ∙ sym names), refl))

-- ---- the next field
pub field_taken : (old new : List Token) (key : Bor (List ℕ)) (e : List Token) → ((ms : Members) → InMembers old ms → (j : Json) × (rest : Members) × (ms ≡ member key.now j rest) × BeginsWith e j × InMembers new rest) → (gs : List Wanted) (f : Wanted) (fs : List Wanted) (ms : Members) (n : ℕ) → HasFields (InPlace old) gs (f ∷ fs) ms n → (j : Json) × (m : ℕ) × (get_member f.0 ms ≡ Some j) × BeginsWith e j × (n ≡ suc m) × HasFields (InPlace new) (gs ++ f ∷ []) fs ms m
field_taken old new key e v gs f fs ms n h =
    let t = v h.0 h.1 in
    let w = h.2 in
    let q : member key.now t.0 t.1 ≡ member f.0 w.0 w.1 = sym t.2 ∙ w.2 in
    let a : t.0 ≡ w.0 = cc in
    let b : t.1 ≡ w.1 = cc in
    let l = h.3 in
    (w.0, length fs, w.3, subst (λ j. BeginsWith e j) a t.3, omega (arith, l), (w.1, subst (λ (r : Members). InMembers new r) b t.4, w.4, refl))

pub field_none : (old : List Token) → ((ms : Members) → InMembers old ms → ms ≡ no_members) → (gs : List Wanted) (f : Wanted) (fs : List Wanted) (ms : Members) (n : ℕ) → HasFields (InPlace old) gs (f ∷ fs) ms n → get_member f.0 ms ≡ None
field_none old v gs f fs ms n h =
    let q : no_members ≡ member f.0 h.2.0 h.2.1 = sym (v h.0 h.1) ∙ h.2.2 in
    absurd cc
