-- The names of a root, as they are found.
use Rattle.std.proofs.Common.{◌≡◌, ◌≢◌, ℕ, suc, zero, ◌+◌, ◌-◌, ◌*◌, ◌<◌, ◌≤◌, List, [], ◌∷◌, ◌++◌, length, Some, None, refl, sym, ◌∙◌, ap, subst, arith, add-one, length-append, ◌⊎◌, inl, inr}
use Rattle.std.specs.Prelude.{AllPairs, Option, option_map, slice_get, String, Vec}
use Rattle.std.specs.Global.{Global}
use Rattle.std.specs.Borrow.{Bor}
use Rattle.std.proofs.lemmas.Bool.{cases_lt}
use Rattle.std.specs.BTreeMap.{BTreeMap, btree_map_len}
use Rattle.borsh_walks.specs.declared.definition.Definition.{Definition}
use Rattle.borsh_walks.specs.Container.{Shape, IsIn, first, later, references}
use Rattle.borsh_walks.specs.Definitions.{definitions_in, shape_of}
use Rattle.borsh_walks.proofs.Names.{distinct_none, distinct_more, names_within, next_below, also_defined}
use Rattle.borsh_plan.specs.Names.{name_of, named_shape, shape_at, parts_in, places_in, AreParts, IsIndex, IsPlanned, IsLed, Grows, IsAdded, IsPartOf}
use Rattle.borsh_plan.specs.declared.named.Named.{Named}
use Rattle.borsh_plan.proofs.NameLaws.{get_last, get_within, some_named, named_is, shape_is, shape_found, name_kept, shape_kept, parts_kept}

abbrev pub AreLed : List Named → Type 0
AreLed ns = (i : ℕ) (n : Named) → slice_get ns i ≡ Some n → 0 < i → IsLed ns i n

-- each name has the places of its parts as far as ps goes; of those names so many have definitions
pub record Building {A : Type 0} (m : BTreeMap (String A) Definition) (x0 : List ℕ) (ns : List Named) (T : List ℕ → Option ℕ) (ps : List (Vec ℕ Global)) (known : ℕ) : Type 0 where
  pub names : List (List ℕ)
  pub distinct : AllPairs ◌≢◌ names
  pub count : length names ≡ known
  pub defined : (x : List ℕ) → IsIn x names → (d : Shape) × (definitions_in m x ≡ Some d)
  pub placed : (x : List ℕ) → IsIn x names → (i : ℕ) × (i < length ps) × (name_of ns i ≡ Some x)
  pub index : IsIndex m ns T
  pub first_name : name_of ns 0 ≡ Some x0
  pub low : length ps ≤ length ns
  pub parts : (i : ℕ) → i < length ps → AreParts ns (places_in (slice_get ps i)) (parts_in (shape_at ns i))
  pub led : AreLed ns

get_below : {X : Type 0} (xs : List X) (v : X) (i : ℕ) → i < length (xs ++ v ∷ []) → (i < length xs) ⊎ (i ≡ length xs)
get_below [] v zero h = inr refl
get_below [] v (suc i) h = absurd (omega arith)
get_below (x ∷ xs) v zero h = inl (omega arith)
get_below (x ∷ xs) v (suc i) h = elim (get_below xs v i (omega arith)) [ inl k ↦ inl (omega (arith, k)) | inr k ↦ inr (ap suc k) ]

left_same : {X : Type 0} (xs ys : List X) (i : ℕ) → i < length xs → slice_get (xs ++ ys) i ≡ slice_get xs i
left_same [] ys i h = absurd (omega arith)
left_same (x ∷ xs) ys zero h = refl
left_same (x ∷ xs) ys (suc i) h = left_same xs ys i (omega arith)

none_here : {X : Type 0} (i : ℕ) → ◌≡◌ {A = Option X} (slice_get [] i) None
none_here zero = refl
none_here (suc i) = refl

past_none : {X : Type 0} (xs : List X) (i : ℕ) → length xs ≤ i → slice_get xs i ≡ None
past_none [] zero h = refl
past_none [] (suc i) h = refl
past_none (x ∷ xs) zero h = absurd (omega arith)
past_none (x ∷ xs) (suc i) h = past_none xs i (omega arith)

no_name : (i : ℕ) (x : List ℕ) → name_of [] i ≡ Some x → ⊥
no_name i x e = let z : name_of [] i ≡ None = ap (λ o. option_map (λ n. n.name.now) o) (none_here {X = Named} i) in cc

module _ {A : Type 0} (m : BTreeMap (String A) Definition) (x0 : List ℕ) where
  none_named : {T : List ℕ → Option ℕ} → ((x : List ℕ) → T x ≡ None) → IsIndex m [] T
  none_named none = record {
    sound = λ x i e. let n = none x in cc;
    back = λ x i e. absurd (no_name i x e);
    looked_up = λ x i e. absurd (no_name i x e);
  }

  pub index_start : {ns : List Named} {T : List ℕ → Option ℕ} → ns ≡ [] → ((x : List ℕ) → T x ≡ None) → IsIndex m ns T
  index_start {T = T} z none = subst (λ l. IsIndex m l T) (sym z) (none_named none)

  pub building_start : {old ns : List Named} {T : List ℕ → Option ℕ} {ps : List (Vec ℕ Global)} (i : ℕ) → old ≡ [] → IsIndex m ns T → Grows (IsAdded x0 0 0) 1 old ns → name_of ns i ≡ Some x0 → ps ≡ [] → Building m x0 ns T ps 0
  building_start {old} {ns} {T} {ps} i z index g e p =
      let k = some_named ns i x0 e in
      let few : length ns ≤ 1 = (let a = g.few in let b = ap (λ l. length l) z in omega (arith, a, b)) in
      let at : i ≡ 0 = (let b = next_below ns i k.0 k.1 in omega (arith, b, few)) in
      record {
        names = [];
        distinct = distinct_none;
        count = refl;
        defined = λ x a. elim a [ ];
        placed = λ x a. elim a [ ];
        index = index;
        first_name = ap (λ j. name_of ns j) (sym at) ∙ e;
        low = (let l = ap (λ l. length l) p in omega (arith, l));
        parts = λ i h. (let l = ap (λ l. length l) p in absurd (omega (arith, l, h)));
        led = λ i n h some. (let b = next_below ns i n h in absurd (omega (arith, b, few, some)));
      }

  -- the next name has no definition
  pub building_missing : {ns : List Named} {T : List ℕ → Option ℕ} {ps : List (Vec ℕ Global)} {known : ℕ} (n : Named) (v : Vec ℕ Global) → Building m x0 ns T ps known → slice_get ns (length ps) ≡ Some n → n.definition ≡ None → v.items ≡ [] → Building m x0 ns T (ps ++ v ∷ []) known
  building_missing {ns} {T} {ps} n v b e none z =
      let l = length-append ps (v ∷ []) in
      record {
        names = b.names;
        distinct = b.distinct;
        count = b.count;
        defined = b.defined;
        placed = λ x a. let k = b.placed x a in (k.0, (let h = k.1 in omega (arith, h, l)), k.2);
        index = b.index;
        first_name = b.first_name;
        low = (let h = next_below ns (length ps) n e in omega (arith, h, l));
        parts = λ i h. elim (get_below ps v i h) [
          | inl k ↦ subst (λ o. AreParts ns (places_in o) (parts_in (shape_at ns i))) (sym (left_same ps (v ∷ []) i k)) (b.parts i k)
          | inr k ↦ subst (λ j. AreParts ns (places_in (slice_get (ps ++ v ∷ []) j)) (parts_in (shape_at ns j))) (sym k) here
        ];
        led = b.led;
      }
    where
      shape : shape_at ns (length ps) ≡ None
      shape = shape_is ns (length ps) n e ∙ ap (λ o. option_map (λ d. shape_of d.now) o) none

      here : AreParts ns (places_in (slice_get (ps ++ v ∷ []) (length ps))) (parts_in (shape_at ns (length ps)))
      here = subst (λ o. AreParts ns (places_in o) (parts_in (shape_at ns (length ps)))) (sym (get_last v ps)) (subst (λ s. AreParts ns v.items (parts_in s)) (sym shape) (subst (λ l. AreParts ns l []) (sym z) refl))

  module _ {ns : List Named} {T : List ℕ → Option ℕ} {ps : List (Vec ℕ Global)} {known : ℕ} (n : Named) (d : Bor Definition) (b : Building m x0 ns T ps known) (e : slice_get ns (length ps) ≡ Some n) (is : n.definition ≡ Some d) where
    shaped : shape_at ns (length ps) ≡ Some (shape_of d.now)
    shaped = shape_is ns (length ps) n e ∙ ap (λ o. option_map (λ d. shape_of d.now) o) is

    name_here : name_of ns (length ps) ≡ Some n.name.now
    name_here = named_is ns (length ps) n e

    pub defined_here : definitions_in m n.name.now ≡ Some (shape_of d.now)
    defined_here = shape_found m ns n.name.now (length ps) (b.index.looked_up n.name.now (length ps) name_here) ∙ shaped

    once : AllPairs ◌≢◌ (n.name.now ∷ b.names)
    once = distinct_more (λ a. again (b.placed n.name.now a)) b.distinct
      where
        again : (i : ℕ) × (i < length ps) × (name_of ns i ≡ Some n.name.now) → ⊥
        again k =
            let p = b.index.back n.name.now k.0 k.2 in
            let q = b.index.back n.name.now (length ps) name_here in
            let same : k.0 ≡ length ps = cc in
            let h = k.1 in
            omega (arith, same, h)

    all_defined : (x : List ℕ) → IsIn x (n.name.now ∷ b.names) → (c : Shape) × (definitions_in m x ≡ Some c)
    all_defined = also_defined (definitions_in m) (shape_of d.now) defined_here b.defined

    pub room : suc known ≤ btree_map_len m
    room = let h = names_within m (n.name.now ∷ b.names) once all_defined in let k = b.count in omega (arith, h, k)

    -- the next name has a definition
    module _ {new : List Named} {U : List ℕ → Option ℕ} (v : Vec ℕ Global) (index : IsIndex m new U) (g : Grows (IsPartOf (references (shape_of d.now)) (length ps)) (length (references (shape_of d.now))) ns new) (are : AreParts new v.items (references (shape_of d.now))) where
      shaped_new : shape_at new (length ps) ≡ Some (shape_of d.now)
      shaped_new = shape_kept g (length ps) n.name.now name_here ∙ shaped

      here : AreParts new (places_in (slice_get (ps ++ v ∷ []) (length ps))) (parts_in (shape_at new (length ps)))
      here =
          subst (λ o. AreParts new (places_in o) (parts_in (shape_at new (length ps)))) (sym (get_last v ps)) (subst (λ s. AreParts new v.items (parts_in s)) (sym shaped_new) are)

      before : (i : ℕ) → i < length ps → AreParts new (places_in (slice_get (ps ++ v ∷ []) i)) (parts_in (shape_at new i))
      before i k =
          let x = get_within ns i (let l = b.low in omega (arith, k, l)) in
          let p = parts_kept g (places_in (slice_get ps i)) (parts_in (shape_at ns i)) (b.parts i k) in
          subst (λ o. AreParts new (places_in o) (parts_in (shape_at new i))) (sym (left_same ps (v ∷ []) i k)) (subst (λ s. AreParts new (places_in (slice_get ps i)) (parts_in s)) (sym (shape_kept g i x.0.name.now (named_is ns i x.0 x.1))) p)

      placed_more : (x : List ℕ) → IsIn x (n.name.now ∷ b.names) → (i : ℕ) × (i < length (ps ++ v ∷ [])) × (name_of new i ≡ Some x)
      placed_more x first = (length ps, (let l = length-append ps (v ∷ []) in omega (arith, l)), name_kept g (length ps) n.name.now name_here)
      placed_more x (later a) = let k = b.placed x a in (k.0, (let h = k.1 in let l = length-append ps (v ∷ []) in omega (arith, h, l)), name_kept g k.0 x k.2)

      old_led : (i : ℕ) (k : Named) → slice_get ns i ≡ Some k → 0 < i → IsLed new i k
      old_led i k h some =
          let f = b.led i k h some in
          let low = next_below ns i k h in
          let x = get_within ns k.from (let a = f.0 in omega (arith, a, low)) in
          (f.0, subst (λ s. slice_get (parts_in s) k.index ≡ Some k.name.now) (sym (shape_kept g k.from x.0.name.now (named_is ns k.from x.0 x.1))) f.1)

      new_led : (i : ℕ) (k : Named) → length ns ≤ i → IsPartOf (references (shape_of d.now)) (length ps) k → IsLed new i k
      new_led i k far a =
          let low = next_below ns (length ps) n e in
          let f = a.0 in
          (omega (arith, low, f, far), subst (λ j. slice_get (parts_in (shape_at new j)) k.index ≡ Some k.name.now) (sym f) (subst (λ s. slice_get (parts_in s) k.index ≡ Some k.name.now) (sym shaped_new) a.1))

      led_more : AreLed new
      led_more i k h some = elim (cases_lt i (length ns)) [
        | inl l ↦ (let o = get_within ns i l in let q : o.0 ≡ k = (let p = g.kept i o.0 o.1 in cc) in old_led i k (o.1 ∙ ap (λ z. Some z) q) some)
        | inr l ↦ elim (g.added i k h) [
          | inl o ↦ old_led i k o some
          | inr a ↦ new_led i k l a
        ]
      ]

      pub building_defined : Building m x0 new U (ps ++ v ∷ []) (known + 1)
      building_defined = record {
        names = n.name.now ∷ b.names;
        distinct = once;
        count = ap suc b.count ∙ sym (add-one known);
        defined = all_defined;
        placed = placed_more;
        index = index;
        first_name = name_kept g 0 x0 b.first_name;
        low = (let l = length-append ps (v ∷ []) in let h = next_below ns (length ps) n e in let k = g.long in omega (arith, l, h, k));
        parts = λ i h. elim (get_below ps v i h) [
          | inl k ↦ before i k
          | inr k ↦ subst (λ j. AreParts new (places_in (slice_get (ps ++ v ∷ []) j)) (parts_in (shape_at new j))) (sym k) here
        ];
        led = led_more;
      }

  pub building_end : {ns : List Named} {T : List ℕ → Option ℕ} {ps : List (Vec ℕ Global)} {known : ℕ} → Building m x0 ns T ps known → slice_get ns (length ps) ≡ None → IsPlanned m x0 ns ps
  building_end {ns} {T} {ps} b e = record {
    first = b.first_name;
    once = λ x i j p q. (let s = b.index.back x i p in let t = b.index.back x j q in let r : i ≡ j = cc in r);
    looked_up = b.index.looked_up;
    parts = λ i. elim (cases_lt i (length ps)) [
      | inl l ↦ b.parts i l
      | inr l ↦ subst (λ o. AreParts ns (places_in o) (parts_in (shape_at ns i))) (sym (past_none ps i l)) (subst (λ s. AreParts ns [] (parts_in s)) (sym (nothing i l)) refl)
    ];
    led = b.led;
  }
    where
      past : (ns : List Named) (i : ℕ) → slice_get ns i ≡ None → length ns ≤ i
      past [] i e = omega arith
      past (n ∷ ns) zero e = cc
      past (n ∷ ns) (suc i) e = let h = past ns i e in omega (arith, h)

      nothing : (i : ℕ) → length ps ≤ i → shape_at ns i ≡ None
      nothing i l = ap (λ o. named_shape o) (past_none ns i (let p = past ns (length ps) e in omega (arith, p, l)))

-- ---- the end comes nearer
pub fewer_missing : (D W known a b c : ℕ) → b < a → c ≡ b + 1 → (D - known) * (1 + W) + (a - c) < (D - known) * (1 + W) + (a - b)
fewer_missing D W known a b c h e = omega (arith, h, e)

pub fewer_defined : (D W known a b c e w : ℕ) → suc known ≤ D → b < a → c ≤ a + w → w ≤ W → e ≡ b + 1 → (D - (known + 1)) * (1 + W) + (c - e) < (D - known) * (1 + W) + (a - b)
fewer_defined D W known a b c e w room h g low l =
    let p : D - known ≡ suc (D - (known + 1)) = omega (arith, room) in
    let q = ap (λ i. i * (1 + W)) p in
    omega (arith, q, h, g, low, l)

pub longer : {X : Type 0} (xs : List X) (x : X) → length (xs ++ x ∷ []) ≡ length xs + 1
longer xs x = length-append xs (x ∷ [])
