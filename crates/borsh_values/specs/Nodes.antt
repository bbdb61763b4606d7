-- The nodes of a value: its parts in preorder, each with the bytes that it encodes before its own parts.
use Rattle.std.specs.Prelude.{◌≡◌, ℕ, suc, zero, ◌*◌, ◌-◌, ◌<◌, ◌≤◌, ℤ, pos, List, [], ◌∷◌, ◌++◌, length, replicate, take, drop, Option, Some, None, MatchOption, option_and_then, option_map, slice_get, string_bytes, All}
use Rattle.std.specs.Borrow.{Bor}
use Rattle.borsh_walks.specs.Container.{Shape, primitive, sequence, product, choice, IsListedVariant, references, tag}
use Rattle.borsh_walks.specs.{Definitions.shape_of, declared.definition.Definition.Definition, declared.definition.Definition.TheVariants.Sequence, declared.definition.Definition.TheVariants.Enum, declared.definition.Definition.TheVariants.Struct, declared.definition.Fields.TheVariants.NamedFields}
use Rattle.borsh_values.specs.declared.faults.{PathStep.PathStep, PathStep.TheVariants.Field, PathStep.TheVariants.Place, PathStep.TheVariants.Element, PathStep.TheVariants.Variant}
use Rattle.borsh_values.specs.Tags.{number_of, IsVariantIndex}

-- how many bytes an element has, by the definition of its name, if elements are listed with their sequence: primitives of some bytes; 0 for others
abbrev pub packed_size : Option Shape → ℕ
packed_size (Some (primitive n)) = n
packed_size d = 0

-- k elements of the name e: packed into these bytes, or the parts
abbrev pub OpensElements : ℕ → List ℕ → ℕ → List ℕ → List (List ℕ) → Type 0
OpensElements zero e k own ns = (own ≡ []) × (ns ≡ replicate k e)
OpensElements (suc n) e k own ns = (length own ≡ k * suc n) × All (λ b. b < 256) own × (ns ≡ [])

module _ (C : List ℕ → Option Shape) where
  -- a value of the definition is these bytes, and then the parts: a primitive all its bytes, a sequence its count and packed elements, a struct or tuple none, an enum its tag
  abbrev pub Opens : Shape → List ℕ → List (List ℕ) → Type 0
  Opens (primitive n) own ns = (length own ≡ n) × All (λ b. b < 256) own × (ns ≡ [])
  Opens (sequence w lo hi e) own ns = (k : ℕ) × (cs : List ℕ) × (lo ≤ k) × (k ≤ hi) × (own ≡ tag w (pos k) ++ cs) × OpensElements (packed_size (C e)) e k cs ns
  Opens (product ps) own ns = (own ≡ []) × (ns ≡ ps)
  Opens (choice w vs) own ns = (k : ℤ) × (p : List ℕ) × IsListedVariant k p vs × (own ≡ tag w k) × (ns ≡ p ∷ [])

-- the place of the variant that the first of the own bytes encode; none of a definition of another kind
abbrev pub IsVariantOf : Shape → List ℕ → Option ℕ → Type 0
IsVariantOf (choice w vs) own found = IsVariantIndex vs (take w own) found
IsVariantOf d own found = found ≡ None

-- the number of elements that the own bytes of a sequence say: that of its definition where no byte says it, else that of its first bytes, where there are as many, and at most eight; none of a definition of another kind
abbrev pub IsCountOf : Shape → List ℕ → Option ℕ → Type 0
IsCountOf (sequence zero lo hi e) own found = found ≡ Some lo
IsCountOf (sequence (suc w) lo hi e) own found = MatchOption found (suc w ≤ length own → suc w ≤ 8 → ⊥) (λ k. (k ≡ number_of (take (suc w) own)) × (suc w ≤ length own) × (suc w ≤ 8))
IsCountOf d own found = found ≡ None

-- the bytes of elements behind the count of a sequence; all bytes of a definition of another kind
abbrev pub AreElementsOf : Shape → List ℕ → List ℕ → Type 0
AreElementsOf (sequence w lo hi e) own es = es ≡ drop w own
AreElementsOf d own es = es ≡ own

-- the step to the part with which n are left of a value of this definition, which these bytes begin with; none where they say no count or variant
abbrev pub IsStep : Option Definition → List ℕ → ℕ → Option PathStep → Type 0
IsStep None bytes n s = s ≡ None
IsStep (Some (Sequence w r e)) bytes n s = (count : Option ℕ) × IsCountOf (shape_of (Sequence w r e)) bytes count × (s ≡ option_map (λ k. Element (k - n)) count)
IsStep (Some (Enum w vs)) bytes n s = (found : Option ℕ) × (name : Option (Bor (List ℕ))) × IsVariantOf (shape_of (Enum w vs)) bytes found × (s ≡ option_map Variant name) × (option_map (λ x. x.now) name ≡ option_and_then (λ i. option_map (λ v. string_bytes v.1) (slice_get vs.items i)) found)
IsStep (Some (Struct (NamedFields fs))) bytes n s = (name : Option (Bor (List ℕ))) × (s ≡ option_map Field name) × (option_map (λ x. x.now) name ≡ option_map (λ f. string_bytes f.0) (slice_get fs.items (length fs.items - n)))
IsStep (Some d) bytes n s = s ≡ Some (Place (length (references (shape_of d)) - n))

module _ (C : List ℕ → Option Shape) where
  -- bytes are read of the names ps and the names qs are left: each definition in turn is opened, and its parts come next
  pub data Reads : List (List ℕ) → List ℕ → List (List ℕ) → Type 0 where
    reads_none : {ps : List (List ℕ)} → Reads ps [] ps
    reads_more : {x bs : List ℕ} {ps qs : List (List ℕ)} (d : Shape) (own : List ℕ) (ns : List (List ℕ)) → C x ≡ Some d → Opens C d own ns → Reads (ns ++ ps) bs qs → Reads (x ∷ ps) (own ++ bs) qs
