-- Definitions by their parts.
use Rattle.std.proofs.Common.{◌≡◌, ℕ, suc, zero, ◌<◌, List, [], ◌∷◌, map, length, Some, None, refl, sym, ◌∙◌, ap, subst}
use Rattle.std.specs.Prelude.{Option, ℤ, slice_get, option_map, unwrap_or, Result, Ok, Err, IfOk}
use Rattle.std.proofs.lemmas.List.{length-map}
use Rattle.std.proofs.lemmas.Option.{slice_get_within}
use Rattle.borsh_walks.specs.Container.{Shape, variant_names}
use Rattle.borsh_plan.specs.declared.plan.Plan.{Plan}
use Rattle.borsh_plan.specs.declared.named.Named.{Named}
use Rattle.borsh_plan.specs.Names.{AreParts, name_at, name_of, named_shape, parts_in, shape_at}
use Rattle.borsh_walks.proofs.Propositions.{same_some}
use Rattle.borsh_plan.specs.Plan.{definitions_of, names_of, map_of, root_of, parts_of, planned}
use Rattle.borsh_plan.proofs.Places.{defined}
use Rattle.borsh_values.proofs.TagLaws.{listed_at}
use Rattle.borsh_compare.specs.Together.{NamesGo, VariantGoes, DefinitionsGo, by_definition}
use Rattle.borsh_compare.specs.Walks.{Paired, PartGoes, DefinitionsGoAt, GoAt}
use Rattle.borsh_compare.specs.declared.pairs.Pair.{Pair}

-- as many places as names
pub parts_length : (ns : List Named) (is : List ℕ) (xs : List (List ℕ)) → AreParts ns is xs → length is ≡ length xs
parts_length ns is xs e = sym (length-map is (λ i. name_of ns i)) ∙ ap (λ l. length l) e ∙ length-map xs (λ x. Some x)

pub parts_names : (ns : List Named) (is : List ℕ) (xs : List (List ℕ)) → AreParts ns is xs → map (λ i. name_at ns i) is ≡ xs
parts_names ns [] [] e = refl
parts_names ns [] (x ∷ xs) e = cc
parts_names ns (i ∷ is) [] e = cc
parts_names ns (i ∷ is) (x ∷ xs) e =
    let h : name_of ns i ≡ Some x = cc in
    let t : AreParts ns is xs = cc in
    ap (λ o. unwrap_or o [] ∷ map (λ i. name_at ns i) is) h ∙ ap (λ l. x ∷ l) (parts_names ns is xs t)

-- the definition of a name by its place
pub defined_of : (p : Plan) (x : List ℕ) (i : ℕ) → name_of (names_of p) i ≡ Some x → definitions_of p x ≡ shape_at (names_of p) i
defined_of p x i e = defined (map_of p) (root_of p) (names_of p) (parts_of p) (planned p) x i e

-- a place with a definition is the place of a name
pub shape_named : (ns : List Named) (i : ℕ) (d : Shape) → shape_at ns i ≡ Some d → name_of ns i ≡ Some (name_at ns i)
shape_named ns i d e = by_get (slice_get ns i) e
  where
    by_get : (o : Option Named) → named_shape o ≡ Some d → option_map (λ n. n.name.now) o ≡ Some (unwrap_or (option_map (λ n. n.name.now) o) [])
    by_get None h = cc
    by_get (Some n) h = refl

pub shape_defined : (p : Plan) (i : ℕ) (d : Shape) → shape_at (names_of p) i ≡ Some d → definitions_of p (name_at (names_of p) i) ≡ Some d
shape_defined p i d e = defined_of p (name_at (names_of p) i) i (shape_named (names_of p) i d e) ∙ e

pub definitions_named : (old new : Plan) (pairs : List Pair) (i j : ℕ) → DefinitionsGoAt old new pairs i j → DefinitionsGo (definitions_of old) (definitions_of new) (Paired old new pairs) (name_at (names_of old) i) (name_at (names_of new) j)
definitions_named old new pairs i j g = record {
  old_shape = g.old_shape;
  new_shape = g.new_shape;
  old = shape_defined old i g.old_shape g.old_there;
  new = shape_defined new j g.new_shape g.new_there;
  go = g.go;
}

-- ---- the parts of the variants
pub variant_part : (vs : List (ℤ × List ℕ)) (i : ℕ) (k : ℤ) (p : List ℕ) → slice_get vs i ≡ Some (k, p) → slice_get (variant_names vs) i ≡ Some p
variant_part [] i k p e = cc
variant_part (v ∷ vs) zero k p e = (let h : v ≡ (k, p) = cc in ap (λ v. Some v.1) h)
variant_part (v ∷ vs) (suc i) k p e = variant_part vs i k p e

-- one more variant
pub variants_step : (old new : Plan) (pairs : List Pair) (i j a b : ℕ) (vs us : List (ℤ × List ℕ)) (k : ℤ) (p q : List ℕ) → parts_in (shape_at (names_of old) i) ≡ variant_names vs → parts_in (shape_at (names_of new) j) ≡ variant_names us → PartGoes old new pairs i j a b → slice_get vs a ≡ Some (k, p) → slice_get us b ≡ Some (k, q) → VariantGoes (Paired old new pairs) k p us
variants_step old new pairs i j a b vs us k p q ov nu g ev eu =
    let x : g.old_name ≡ p = same_some g.old_there (ap (λ l. slice_get l a) ov ∙ variant_part vs a k p ev) in
    let y : g.new_name ≡ q = same_some g.new_there (ap (λ l. slice_get l b) nu ∙ variant_part us b k q eu) in
    (q, listed_at us b k q eu, subst (λ z. Paired old new pairs p z) y (subst (λ z. Paired old new pairs z g.new_name) x g.paired))

pub names_paired : (old new : Plan) (pairs : List Pair) (i j : ℕ) → length (parts_in (shape_at (names_of old) i)) ≡ length (parts_in (shape_at (names_of new) j)) → ((a : ℕ) → a < length (parts_in (shape_at (names_of old) i)) → PartGoes old new pairs i j a a) → NamesGo (Paired old new pairs) (parts_in (shape_at (names_of old) i)) (parts_in (shape_at (names_of new) j))
names_paired old new pairs i j l f = record {
  long = l;
  each = λ a x y p q.
      let g = f a (slice_get_within (parts_in (shape_at (names_of old) i)) a x p) in
      subst (λ z. Paired old new pairs x z) (same_some g.new_there q) (subst (λ z. Paired old new pairs z g.new_name) (same_some g.old_there p) g.paired);
}

pub definitions_at : (old new : Plan) (pairs : List Pair) (i j : ℕ) → DefinitionsGoAt old new pairs i j → GoAt old new pairs i j
definitions_at old new pairs i j g x y p q = by_definition (record {
  old_shape = g.old_shape;
  new_shape = g.new_shape;
  old = defined_of old x i p ∙ g.old_there;
  new = defined_of new y j q ∙ g.new_there;
  go = g.go;
})

-- an answer that says more
pub ok_map : {A E : Type 0} (P Q : A → Type 0) (r : Result A E) → ((a : A) → P a → Q a) → IfOk r P → IfOk r Q
ok_map P Q (Ok a) f h = f a h
ok_map P Q (Err e) f h = h

pub ok_any : {A E : Type 0} (P : A → Type 0) (r : Result A E) → ((a : A) → P a) → IfOk r P
ok_any P (Ok a) f = f a
ok_any P (Err e) f = tt
