-- Of schemas that correspond part by part only pairs are met that are in the correspondence.
use Rattle.std.proofs.Common.{◌≡◌, ◌≢◌, ℕ, suc, zero, ◌<◌, ◌≤◌, List, [], ◌∷◌, ◌++◌, map, length, Some, refl, sym, ◌∙◌, ap, subst, arith, inl, inr}
use Rattle.std.specs.Prelude.{AllPairs, Option, ℤ, slice_get, option_map, unwrap_or, Bool, false, Result, Ok, Err, IfOk, OnOk}
use Rattle.std.specs.BTreeMap.{BTreeMap}
use Rattle.std.proofs.lemmas.List.{length-map}
use Rattle.std.proofs.lemmas.Option.{slice_get_within, slice_get-map}
use Rattle.borsh_walks.specs.Container.{Shape, sequence, product, IsIn, first, later, variant_names}
use Rattle.borsh_walks.proofs.Names.{among_get, distinct_none, distinct_more, distinct_within}
use Rattle.borsh_plan.specs.declared.plan.Plan.{Plan}
use Rattle.borsh_plan.specs.declared.named.Named.{Named}
use Rattle.borsh_plan.specs.Names.{name_at, name_of, parts_in, shape_at}
use Rattle.borsh_plan.specs.Plan.{names_of, root_of, planned}
use Rattle.borsh_plan.proofs.NameLaws.{get_within}
use Rattle.borsh_compare.specs.Together.{NamesGo}
use Rattle.borsh_compare.specs.Walks.{Keeps}
use Rattle.borsh_compare.specs.Indexed.{AddsOnly, HasIndices, index_in}
use Rattle.borsh_compare.specs.Corresponding.{Listing, Lists, VariantCorresponds, ShapesCorrespond, RootsCorrespond, PairIn, Inside, PartIn, DefinitionsIn, CorrespondAt, IsIndexFor, StaysInside}
use Rattle.borsh_compare.specs.declared.pairs.Pair.{Pair}
use Rattle.borsh_plan.specs.Zeros.{IsProduct}
use Rattle.borsh_compare.proofs.Reading.{is_product_shape}
use Rattle.borsh_walks.proofs.Propositions.{same_some}
use Rattle.borsh_compare.proofs.Parts.{defined_of, variant_part}

-- a list that keeps what it has is no shorter
pub full_kept : (a b : List Pair) → Keeps a b → (n : ℕ) → n ≤ length a → n ≤ length b
full_kept a b k zero l = omega arith
full_kept a b k (suc n) l =
    let o = get_within a n (omega (arith, l)) in
    let h = slice_get_within b n o.0 (k n o.0 o.1) in
    omega (arith, h)

module _ (old new : Plan) (S : Listing) where
  pub inside_added : (pair : Pair) (before after : List Pair) → AddsOnly pair before after → PairIn old new S pair.old pair.new → Inside old new S before → Inside old new S after
  inside_added pair before after only here f i p e = elim (only i p e) [
    | inl h ↦ f i p h
    | inr h ↦ subst (λ a. PairIn old new S a p.new) (sym h.0) (subst (λ b. PairIn old new S pair.old b) (sym h.1) here)
  ]

  place_named : (ns : List Named) (k : ℕ) → k < length ns → name_of ns k ≡ Some (name_at ns k)
  place_named ns k low = let o = get_within ns k low in let e = o.1 in cc

  -- the parts at two indexes are at these places
  pub pair_in : (i j a b m n : ℕ) → PartIn old new S i j a b → m < length (names_of old) → slice_get (parts_in (shape_at (names_of old) i)) a ≡ Some (name_at (names_of old) m) → n < length (names_of new) → slice_get (parts_in (shape_at (names_of new) j)) b ≡ Some (name_at (names_of new) n) → PairIn old new S m n
  pair_in i j a b m n p low there low2 there2 = record {
    old_name = p.old_name;
    new_name = p.new_name;
    old_there = place_named (names_of old) m low ∙ ap (λ z. Some z) (same_some there p.old_there);
    new_there = place_named (names_of new) n low2 ∙ ap (λ z. Some z) (same_some there2 p.new_there);
    listed = p.listed;
  }

  pub part_of_names : (i j a : ℕ) → NamesGo (Lists S) (parts_in (shape_at (names_of old) i)) (parts_in (shape_at (names_of new) j)) → a < length (parts_in (shape_at (names_of old) i)) → PartIn old new S i j a a
  part_of_names i j a g low =
      let x = get_within (parts_in (shape_at (names_of old) i)) a low in
      let y = get_within (parts_in (shape_at (names_of new) j)) a (let l = g.long in omega (arith, l, low)) in
      record { old_name = x.0; new_name = y.0; old_there = x.1; new_there = y.1; listed = g.each a x.0 y.0 x.1 y.1 }

  -- the variant that is taken is the one of the correspondence
  pub same_part : (us : List (ℤ × List ℕ)) (a b : ℕ) (k : ℤ) (p : List ℕ) (v : VariantCorresponds (Lists S) us a k p) (t : IsIndexFor us a k b) → t.0 ≡ v.part
  same_part us a b k p v t = elim v.one [
    | inl h ↦ elim t.2 [
      | inl e ↦ (
          let s : (k, t.0) ≡ (k, v.part) = same_some t.1 (ap (λ i. slice_get us i) (e ∙ sym h) ∙ v.there) in
          ap (λ (z : ℤ × List ℕ). z.1) s)
      | inr none ↦ absurd (none v.part (ap (λ i. slice_get us i) (sym h) ∙ v.there))
    ]
    | inr one ↦ one b t.0 t.1
  ]

  pub part_of_variants : (i j a b : ℕ) (vs us : List (ℤ × List ℕ)) (k : ℤ) (p : List ℕ) → parts_in (shape_at (names_of old) i) ≡ variant_names vs → parts_in (shape_at (names_of new) j) ≡ variant_names us → slice_get vs a ≡ Some (k, p) → VariantCorresponds (Lists S) us a k p → IsIndexFor us a k b → PartIn old new S i j a b
  part_of_variants i j a b vs us k p ov nu ev v t = record {
    old_name = p;
    new_name = t.0;
    old_there = ap (λ l. slice_get l a) ov ∙ variant_part vs a k p ev;
    new_there = ap (λ l. slice_get l b) nu ∙ variant_part us b k t.0 t.1;
    listed = subst (λ q. Lists S p q) (sym (same_part us a b k p v t)) v.go;
  }

  pub shapes_in : (i j : ℕ) (c d : Shape) → DefinitionsIn old new S i j → shape_at (names_of old) i ≡ Some c → shape_at (names_of new) j ≡ Some d → ShapesCorrespond (Lists S) c d
  shapes_in i j c d g e f = subst (λ z. ShapesCorrespond (Lists S) c z) (same_some g.new_there f) (subst (λ z. ShapesCorrespond (Lists S) z g.new_shape) (same_some g.old_there e) g.correspond)

  -- the elements of sequences that may have some
  pub first_part : (i j : ℕ) {w lo hi v l h : ℕ} {e f : List ℕ} → shape_at (names_of old) i ≡ Some (sequence w lo hi e) → shape_at (names_of new) j ≡ Some (sequence v l h f) → 0 < hi → DefinitionsIn old new S i j → PartIn old new S i j 0 0
  first_part i j {w} {lo} {hi} {v} {l} {h} {e} {f} o n some g =
      let s = shapes_in i j (sequence w lo hi e) (sequence v l h f) g o n in
      record { old_name = e; new_name = f; old_there = ap (λ d. slice_get (parts_in d) 0) o; new_there = ap (λ d. slice_get (parts_in d) 0) n; listed = s.3 some }

  pub names_in : (i j : ℕ) (c d : Shape) → shape_at (names_of old) i ≡ Some c → shape_at (names_of new) j ≡ Some d → IsProduct c → IsProduct d → DefinitionsIn old new S i j → NamesGo (Lists S) (parts_in (shape_at (names_of old) i)) (parts_in (shape_at (names_of new) j))
  names_in i j c d o n p q g =
      let a = is_product_shape c p in
      let b = is_product_shape d q in
      let x : shape_at (names_of old) i ≡ Some (product a.0) = o ∙ ap (λ z. Some z) a.1 in
      let y : shape_at (names_of new) j ≡ Some (product b.0) = n ∙ ap (λ z. Some z) b.1 in
      let s : NamesGo (Lists S) a.0 b.0 = shapes_in i j (product a.0) (product b.0) g x y in
      subst (λ z. NamesGo (Lists S) (parts_in z) (parts_in (shape_at (names_of new) j))) (sym x) (subst (λ z. NamesGo (Lists S) a.0 (parts_in z)) (sym y) s)

-- a pair that is added for two parts
pub part_stays : {E : Type 0} (old new : Plan) (i j a b m n : ℕ) (pair : Pair) (before after : List Pair) (r : Result Bool E) → pair.old ≡ m → pair.new ≡ n → m < length (names_of old) → slice_get (parts_in (shape_at (names_of old) i)) a ≡ Some (name_at (names_of old) m) → n < length (names_of new) → slice_get (parts_in (shape_at (names_of new) j)) b ≡ Some (name_at (names_of new) n) → OnOk r (AddsOnly pair before after) → IfOk r (λ c. c ≡ false → 1048576 ≤ length after) → IfOk r (λ c. (S : Listing) → PartIn old new S i j a b → StaysInside old new S before after c)
part_stays old new i j a b m n pair before after (Ok c) em en lm om ln on only full = λ S p f.
    let here : PairIn old new S pair.old pair.new = subst (λ z. PairIn old new S z pair.new) (sym em) (subst (λ z. PairIn old new S m z) (sym en) (pair_in old new S i j a b m n p lm om ln on)) in
    (inside_added old new S pair before after only here f, full)
part_stays old new i j a b m n pair before after (Err e) em en lm om ln on only full = tt

-- the definitions at the places of a pair correspond
pub correspond_at : (old new : Plan) (r : RootsCorrespond old new) (i j : ℕ) → PairIn old new r.pairs i j → CorrespondAt old new r.pairs i j
correspond_at old new r i j p c e =
    let t = r.each p.old_name p.new_name p.listed c (defined_of old p.old_name i p.old_there ∙ e) in
    record { old_shape = c; new_shape = t.0; old_there = e; new_there = sym (defined_of new p.new_name j p.new_there) ∙ t.1; correspond = t.2 }

-- the first pair is the roots'
pub first_inside : (old new : Plan) (r : RootsCorrespond old new) (pair : Pair) (before after : List Pair) → before ≡ [] → pair.old ≡ 0 → pair.new ≡ 0 → AddsOnly pair before after → Inside old new r.pairs after
first_inside old new r pair before after none a b only = inside_added old new r.pairs pair before after only here (λ i p e. (let h = sym (ap (λ l. slice_get l i) none) ∙ e in absurd (cc)))
  where
    here : PairIn old new r.pairs pair.old pair.new
    here = record {
      old_name = root_of old;
      new_name = root_of new;
      old_there = ap (λ i. name_of (names_of old) i) a ∙ (planned old).first;
      new_there = ap (λ i. name_of (names_of new) i) b ∙ (planned new).first;
      listed = r.roots;
    }

-- ---- different pairs are no more than those of the correspondence
abbrev code : List ℕ → List ℕ → List ℕ
code x y = length x ∷ (x ++ y)

split : (x u y v : List ℕ) → length x ≡ length u → x ++ y ≡ u ++ v → (x ≡ u) × (y ≡ v)
split [] [] y v l e = (refl, e)
split [] (b ∷ u) y v l e = absurd (omega (arith, l))
split (a ∷ x) [] y v l e = absurd (omega (arith, l))
split (a ∷ x) (b ∷ u) y v l e =
    let h : a ≡ b = cc in
    let t : x ++ y ≡ u ++ v = cc in
    let r = split x u y v (omega (arith, l)) t in
    let s = r.0 in
    (cc, r.1)

module _ {A : Type 0} (f : A → List ℕ) where
  in_map : (xs : List A) {y : List ℕ} → IsIn y (map f xs) → (i : ℕ) × (a : A) × (slice_get xs i ≡ Some a) × (y ≡ f a)
  in_map [] a = elim a [ ]
  in_map (x ∷ xs) first = (zero, x, refl, refl)
  in_map (x ∷ xs) (later a) = let t = in_map xs a in (suc t.0, t.1, t.2, t.3)

  distinct_map : (xs : List A) → ((i j : ℕ) (a b : A) → slice_get xs i ≡ Some a → slice_get xs j ≡ Some b → f a ≡ f b → i ≡ j) → AllPairs ◌≢◌ (map f xs)
  distinct_map [] h = distinct_none
  distinct_map (x ∷ xs) h = distinct_more apart (distinct_map xs (λ i j a b p q e. (let z = h (suc i) (suc j) a b p q e in omega (arith, z))))
    where
      apart : IsIn (f x) (map f xs) → ⊥
      apart a =
          let t = in_map xs a in
          let z = h zero (suc t.0) x t.1 refl t.2 t.3 in
          absurd (omega (arith, z))

pub no_more : (old new : Plan) (S : Listing) (pairs : List Pair) (t : BTreeMap (ℕ × ℕ) ℕ) → HasIndices pairs t → Inside old new S pairs → length pairs ≤ length S
no_more old new S pairs t indexed inside =
    let w = distinct_within (map f pairs) (map g S) (distinct_map f pairs once) among in
    let a = length-map pairs f in
    let b = length-map S g in
    omega (arith, a, b, w)
  where
    f : Pair → List ℕ
    f p = code (name_at (names_of old) p.old) (name_at (names_of new) p.new)

    g : List ℕ × List ℕ → List ℕ
    g s = code s.0 s.1

    at_place : (ns : List Named) (i : ℕ) (x : List ℕ) → name_of ns i ≡ Some x → name_at ns i ≡ x
    at_place ns i x e = ap (λ (o : Option (List ℕ)). unwrap_or o []) e

    one : (p : Plan) (i j : ℕ) (x y : List ℕ) → name_of (names_of p) i ≡ Some x → name_of (names_of p) j ≡ Some y → name_at (names_of p) i ≡ name_at (names_of p) j → i ≡ j
    one p i j x y e h s = (planned p).once x i j e (h ∙ ap (λ z. Some z) (sym (at_place (names_of p) j y h) ∙ sym s ∙ at_place (names_of p) i x e))

    once : (i j : ℕ) (p q : Pair) → slice_get pairs i ≡ Some p → slice_get pairs j ≡ Some q → f p ≡ f q → i ≡ j
    once i j p q e h s =
        let x = inside i p e in
        let y = inside j q h in
        let a1 = name_at (names_of old) p.old in
        let a2 = name_at (names_of old) q.old in
        let b1 = name_at (names_of new) p.new in
        let b2 = name_at (names_of new) q.new in
        let same : length a1 ∷ (a1 ++ b1) ≡ length a2 ∷ (a2 ++ b2) = s in
        let long : length a1 ≡ length a2 = cc in
        let bytes : a1 ++ b1 ≡ a2 ++ b2 = cc in
        let k = split a1 a2 b1 b2 long bytes in
        let a = one old p.old q.old x.old_name y.old_name x.old_there y.old_there k.0 in
        let b = one new p.new q.new x.new_name y.new_name x.new_there y.new_there k.1 in
        same_some (indexed i p e) (ap (λ z. index_in t z p.new) a ∙ ap (λ z. index_in t q.old z) b ∙ indexed j q h)

    among : (y : List ℕ) → IsIn y (map f pairs) → IsIn y (map g S)
    among y m =
        let a = in_map f pairs m in
        let x = inside a.0 a.1 a.2 in
        let n : f a.1 ≡ g (x.old_name, x.new_name) = ap (λ z. code z (name_at (names_of new) a.1.new)) (at_place (names_of old) a.1.old x.old_name x.old_there) ∙ ap (λ z. code x.old_name z) (at_place (names_of new) a.1.new x.new_name x.new_there) in
        subst (λ z. IsIn z (map g S)) (sym (a.3 ∙ n)) (among_get (map g S) x.listed.0 (slice_get-map g S x.listed.0 ∙ ap (λ o. option_map g o) x.listed.1))

-- where too many are met, there is no correspondence
pub none_corresponds : (old new : Plan) (pairs : List Pair) (t : BTreeMap (ℕ × ℕ) ℕ) → HasIndices pairs t → (r : RootsCorrespond old new) → Inside old new r.pairs pairs → 1048576 ≤ length pairs → ⊥
none_corresponds old new pairs t indexed r inside full =
    let a = no_more old new r.pairs pairs t indexed inside in
    let b = r.few in
    absurd (omega (arith, a, b, full))
