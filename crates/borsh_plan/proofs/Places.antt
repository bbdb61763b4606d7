-- What a table of names says of a place.
use Rattle.std.proofs.Common.{◌≡◌, ℕ, suc, zero, ◌<◌, List, [], ◌∷◌, length, map, Some, None, refl, sym, ◌∙◌, ap, subst, arith, ◌⊎◌, inl, inr}
use Rattle.std.specs.Prelude.{Option, String, Vec, slice_get, option_map}
use Rattle.std.specs.Global.{Global}
use Rattle.std.specs.BTreeMap.{BTreeMap}
use Rattle.std.proofs.lemmas.Option.{slice_get-map}
use Rattle.borsh_walks.specs.declared.definition.Definition.{Definition}
use Rattle.borsh_walks.specs.Container.{Shape, IsIn, first, later, references, Reached, stays, onward}
use Rattle.borsh_walks.specs.Definitions.{definitions_in}
use Rattle.borsh_walks.proofs.Names.{name_cases, next_below, among_get}
use Rattle.borsh_plan.specs.declared.named.Named.{Named}
use Rattle.borsh_plan.specs.Names.{name_of, name_at, shape_at, parts_in, places_in, AreParts, IsPlanned, IsPlaceOf}
use Rattle.borsh_plan.proofs.NameLaws.{some_named, named_is, shape_found, get_within}

pub name_there : (ns : List Named) (i : ℕ) → i < length ns → name_of ns i ≡ Some (name_at ns i)
name_there [] i h = absurd (omega arith)
name_there (n ∷ ns) zero h = refl
name_there (n ∷ ns) (suc i) h = name_there ns i (omega arith)

pub name_is : (ns : List Named) (i : ℕ) (x : List ℕ) → name_of ns i ≡ Some x → (i < length ns) × (name_at ns i ≡ x)
name_is ns i x e =
    let n = some_named ns i x e in
    let low = next_below ns i n.0 n.1 in
    let t = name_there ns i low in
    (low, (let q : name_at ns i ≡ x = cc in q))

some_one : {X Y : Type 0} (f : X → Y) (o : Option X) (y : Y) → option_map f o ≡ Some y → (x : X) × (o ≡ Some x) × (f x ≡ y)
some_one f None y h = cc
some_one f (Some x) y h = (x, refl, cc)

none_one : {X Y : Type 0} (f : X → Y) (o : Option X) → option_map f o ≡ None → o ≡ None
none_one f None h = refl
none_one f (Some x) h = cc

parts_some : (o : Option Shape) (index : ℕ) (x : List ℕ) → slice_get (parts_in o) index ≡ Some x → (d : Shape) × (o ≡ Some d) × IsIn x (references d)
parts_some None zero x e = cc
parts_some None (suc index) x e = cc
parts_some (Some d) index x e = (d, refl, among_get (references d) index e)

module _ {A : Type 0} (m : BTreeMap (String A) Definition) (x0 : List ℕ) (ns : List Named) (ps : List (Vec ℕ Global)) (p : IsPlanned m x0 ns ps) where
  pub defined : (x : List ℕ) (i : ℕ) → name_of ns i ≡ Some x → definitions_in m x ≡ shape_at ns i
  defined x i e = shape_found m ns x i (p.looked_up x i e)

  pub defined_at : (at : ℕ) → at < length ns → definitions_in m (name_at ns at) ≡ shape_at ns at
  defined_at at low = defined (name_at ns at) at (name_there ns at low)

  pub root_there : (0 < length ns) × (name_at ns 0 ≡ x0)
  root_there = name_is ns 0 x0 p.first

  -- a chain of references leads from the root to each name
  reached_by : (most i : ℕ) (x : List ℕ) → i < most → name_of ns i ≡ Some x → Reached (definitions_in m) x0 x
  reached_by zero i x h e = absurd (omega arith)
  reached_by (suc most) zero x h e = (let q : x0 ≡ x = (let f = p.first in cc) in subst (λ y. Reached (definitions_in m) x0 y) q stays)
  reached_by (suc most) (suc i) x h e =
      let n = some_named ns (suc i) x e in
      let f = p.led (suc i) n.0 n.1 (omega arith) in
      let low = next_below ns (suc i) n.0 n.1 in
      let o = get_within ns n.0.from (let a = f.0 in omega (arith, a, low)) in
      let t = named_is ns n.0.from o.0 o.1 in
      let s = parts_some (shape_at ns n.0.from) n.0.index n.0.name.now f.1 in
      subst (λ y. Reached (definitions_in m) x0 y) n.2 (onward s.0 (reached_by most n.0.from o.0.name.now (let a = f.0 in omega (arith, a, h)) t) (defined o.0.name.now n.0.from t ∙ s.1) s.2)

  pub reached : (x : List ℕ) (i : ℕ) → name_of ns i ≡ Some x → Reached (definitions_in m) x0 x
  reached x i e = reached_by (suc i) i x (omega arith) e

  -- what is listed at an index is the place of the part
  pub place_is : (at index : ℕ) (o : Option ℕ) → o ≡ slice_get (places_in (slice_get ps at)) index → IsPlaceOf ns at index o
  place_is at index None e =
      let is = places_in (slice_get ps at) in
      let refs = parts_in (shape_at ns at) in
      none_one (λ x. Some x) (slice_get refs index) (sym (slice_get-map (λ x. Some x) refs index) ∙ ap (λ l. slice_get l index) (sym (p.parts at)) ∙ slice_get-map (λ i. name_of ns i) is index ∙ ap (λ o. option_map (λ i. name_of ns i) o) (sym e))
  place_is at index (Some k) e =
      let is = places_in (slice_get ps at) in
      let refs = parts_in (shape_at ns at) in
      let q : option_map (λ x. Some x) (slice_get refs index) ≡ Some (name_of ns k) = sym (slice_get-map (λ x. Some x) refs index) ∙ ap (λ l. slice_get l index) (sym (p.parts at)) ∙ slice_get-map (λ i. name_of ns i) is index ∙ ap (λ o. option_map (λ i. name_of ns i) o) (sym e) in
      let s = some_one {Y = Option (List ℕ)} (λ x. Some x) (slice_get refs index) (name_of ns k) q in
      let t = name_is ns k s.0 (sym s.2) in
      (t.0, s.1 ∙ ap (λ x. Some x) (sym t.1))

  -- each name that is reached has a place
  in_map : (is : List ℕ) (xs : List (List ℕ)) {x : List ℕ} → AreParts ns is xs → IsIn x xs → (i : ℕ) × (name_of ns i ≡ Some x)
  in_map [] [] e a = elim a [ ]
  in_map [] (y ∷ ys) e a = let z : [] ≡ Some y ∷ map (λ x. Some x) ys = e in cc
  in_map (i ∷ is) [] e a = elim a [ ]
  in_map (i ∷ is) (y ∷ ys) e first = let h : name_of ns i ≡ Some y = cc in (i, h)
  in_map (i ∷ is) (y ∷ ys) e (later a) = let t : AreParts ns is ys = cc in in_map is ys t a

  pub has_place : {x : List ℕ} → Reached (definitions_in m) x0 x → (i : ℕ) × (name_of ns i ≡ Some x)
  has_place stays = (0, p.first)
  has_place (onward {y = y} {z = z} d l c a) =
      let k = has_place l in
      let s : shape_at ns k.0 ≡ Some d = sym (defined y k.0 k.1) ∙ c in
      in_map (places_in (slice_get ps k.0)) (references d) (subst (λ o. AreParts ns (places_in (slice_get ps k.0)) (parts_in o)) s (p.parts k.0)) a

-- ---- the place of a name, looked for
pub find : List Named → List ℕ → Option ℕ
find [] x = None
find (n ∷ ns) x = elim (name_cases n.name.now x) [ inl e ↦ Some 0 | inr e ↦ option_map suc (find ns x) ]

some_suc : (o : Option ℕ) (i : ℕ) → option_map suc o ≡ Some i → (j : ℕ) × (o ≡ Some j) × (i ≡ suc j)
some_suc None i e = cc
some_suc (Some j) i e = (j, refl, cc)

sound_case : (n : Named) (ns : List Named) (x : List ℕ) (i : ℕ) → ((j : ℕ) → find ns x ≡ Some j → name_of ns j ≡ Some x) → (c : (n.name.now ≡ x) ⊎ (n.name.now ≡ x → ⊥)) → ◌≡◌ {A = Option ℕ} (elim c [ inl q ↦ Some 0 | inr q ↦ option_map suc (find ns x) ]) (Some i) → name_of (n ∷ ns) i ≡ Some x
sound_case n ns x i f (inl q) h = (let z : i ≡ 0 = cc in ap (λ j. name_of (n ∷ ns) j) z ∙ ap (λ y. Some y) q)
sound_case n ns x i f (inr q) h = (let s = some_suc (find ns x) i h in ap (λ j. name_of (n ∷ ns) j) s.2 ∙ f s.0 s.1)

pub find_sound : (ns : List Named) (x : List ℕ) (i : ℕ) → find ns x ≡ Some i → name_of ns i ≡ Some x
unfolding find
find_sound [] x i e = cc
find_sound (n ∷ ns) x i e = sound_case n ns x i (find_sound ns x) (name_cases n.name.now x) e

found_case : (n : Named) (ns : List Named) (x : List ℕ) → ((i : ℕ) → name_of ns i ≡ Some x → (j : ℕ) × (find ns x ≡ Some j)) → (c : (n.name.now ≡ x) ⊎ (n.name.now ≡ x → ⊥)) → (i : ℕ) → name_of (n ∷ ns) i ≡ Some x → (j : ℕ) × (◌≡◌ {A = Option ℕ} (elim c [ inl q ↦ Some 0 | inr q ↦ option_map suc (find ns x) ]) (Some j))
found_case n ns x f (inl q) i h = (0, refl)
found_case n ns x f (inr q) zero h = absurd (q (let y : n.name.now ≡ x = cc in y))
found_case n ns x f (inr q) (suc i) h = (let s = f i h in (suc s.0, ap (λ o. option_map suc o) s.1))

pub find_some : (ns : List Named) (x : List ℕ) (i : ℕ) → name_of ns i ≡ Some x → (j : ℕ) × (find ns x ≡ Some j)
unfolding find
find_some [] x zero e = cc
find_some [] x (suc i) e = cc
find_some (n ∷ ns) x i e = found_case n ns x (find_some ns x) (name_cases n.name.now x) i e

pub find_back : (ns : List Named) → ((x : List ℕ) (i j : ℕ) → name_of ns i ≡ Some x → name_of ns j ≡ Some x → i ≡ j) → (x : List ℕ) (i : ℕ) → name_of ns i ≡ Some x → find ns x ≡ Some i
find_back ns once x i e = let s = find_some ns x i e in s.1 ∙ ap (λ j. Some j) (once x s.0 i (find_sound ns x s.0 s.1) e)
