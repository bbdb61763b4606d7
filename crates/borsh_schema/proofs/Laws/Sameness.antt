-- Containers that are the same: they say the same, and the container of a type is one.
use Rattle.std.proofs.Common.{◌≡◌, ℕ, ℤ, Bool, true, false, cond, ◌&&◌, List, [], ◌∷◌, map, Option, Some, None, refl, sym, ◌∙◌, ap, subst, inl, inr, String, Global, string_bytes, option_map}
use Rattle.std.specs.Prelude.{T}
use Rattle.std.specs.List.{AllZip, AllByRecursion}
use Rattle.std.specs.List.Sorted.{IsStrictlySortedBy}
use Rattle.std.specs.BTreeMap.{BTreeMap, IsOrdered, is_at}
use Rattle.std.specs.Map.{lookup, keys_of}
use Rattle.std.specs.String.{string_cmp}
use Rattle.std.specs.Ordering.{nat_cmp, is_lt, is_eq}
use Rattle.std.specs.Cmp.Lexicographic.{slice_cmp}
use Rattle.std.specs.declared.cmp.Ordering.{Ordering}
use Rattle.std.specs.declared.cmp.Ordering.TheVariants.{Less}
use Rattle.std.specs.FinMap.Entries.{find, below_all, is_sorted, same_entries}
use Rattle.std.proofs.lemmas.Cmp.{nat_list_cmp_total}
use Rattle.std.proofs.lemmas.Map.Lookups.{exact_bytes}
use Rattle.borsh_codec.specs.Shapes.{pair}
use Rattle.borsh_codec.specs.Codec.{Lawful}
use Rattle.borsh_codec.proofs.Laws.Exact.{contramap-lawful}
use Rattle.borsh_codec.proofs.Laws.Lists.{some_same}
use Rattle.borsh_definitions.proofs.Laws.Own.{root_and_map-lawful}
use Rattle.borsh_walks.specs.Codecs.{name, definition, fields}
use Rattle.borsh_walks.specs.declared.definition.Definition.{Definition}
use Rattle.borsh_walks.specs.declared.definition.Definition.TheVariants.{Primitive, Sequence, Tuple, Enum, Struct}
use Rattle.borsh_walks.specs.declared.definition.Fields.{Fields}
use Rattle.borsh_walks.specs.declared.definition.Fields.TheVariants.{NamedFields, UnnamedFields, Empty}
use Rattle.borsh_definitions.specs.Described.{Form, field_bytes, variant_bytes, primitive, tuple, named, unnamed, form_of_struct, form_of, DefinitionMap, forms_in, DefinitionTree}
use Rattle.borsh_schema.specs.Joined.{IsDefinedIn, IsUnion}
use Rattle.borsh_schema.specs.Codecs.{container, container_pair}
use Rattle.borsh_schema.specs.Containers.{map_of, root_of, IsContainerOf}
use Rattle.borsh_schema.specs.declared.container.BorshSchemaContainer.{BorshSchemaContainer}

-- ---- what is the same as bytes says the same

zip_mapped : {A B : Type 0} {S : A → A → Type 0} (f : A → B) → ((x y : A) → S x y → f x ≡ f y) → (xs ys : List A) → AllZip S xs ys → map f xs ≡ map f ys
zip_mapped f g [] [] z = refl
zip_mapped f g [] (y ∷ ys) z = absurd z
zip_mapped f g (x ∷ xs) [] z = absurd z
zip_mapped f g (x ∷ xs) (y ∷ ys) z = let h = g x y z.0 in let t = zip_mapped f g xs ys z.1 in cc

zip_equal : (xs ys : List ℕ) → AllZip (λ x y. x ≡ y) xs ys → xs ≡ ys
zip_equal [] [] z = refl
zip_equal [] (y ∷ ys) z = absurd z
zip_equal (x ∷ xs) [] z = absurd z
zip_equal (x ∷ xs) (y ∷ ys) z = let h = z.0 in let t = zip_equal xs ys z.1 in cc

name_same : (a b : String Global) → name.equivalent a b → string_bytes a ≡ string_bytes b
name_same a b s = zip_equal (string_bytes a) (string_bytes b) s

field_same : (v w : String Global × String Global) → name.equivalent v.0 w.0 × name.equivalent v.1 w.1 → field_bytes v ≡ field_bytes w
field_same v w s = let h = name_same v.0 w.0 s.0 in let i = name_same v.1 w.1 s.1 in cc

fields_same : (a b : Fields) → fields.equivalent a b → form_of_struct a ≡ form_of_struct b
fields_same (NamedFields a) (NamedFields b) s = ap named (zip_mapped field_bytes field_same a.items b.items s)
fields_same (NamedFields a) (UnnamedFields b) s = absurd s
fields_same (NamedFields a) Empty s = absurd s
fields_same (UnnamedFields a) (NamedFields b) s = absurd s
fields_same (UnnamedFields a) (UnnamedFields b) s = ap unnamed (zip_mapped _ (λ x y t. name_same x y t) a.items b.items s)
fields_same (UnnamedFields a) Empty s = absurd s
fields_same Empty (NamedFields b) s = absurd s
fields_same Empty (UnnamedFields b) s = absurd s
fields_same Empty Empty s = refl

variant_same : (v w : ℤ × String Global × String Global) → (v.0 ≡ w.0) × (name.equivalent v.1 w.1 × name.equivalent v.2 w.2) → variant_bytes v ≡ variant_bytes w
variant_same v w s = let i = s.0 in let j = name_same v.1 w.1 s.1.0 in let k = name_same v.2 w.2 s.1.1 in cc

definition_same : (d e : Definition) → definition.equivalent d e → form_of d ≡ form_of e
definition_same (Primitive m) (Primitive n) s = ap primitive s
definition_same (Primitive m) (Sequence w r e) s = absurd s
definition_same (Primitive m) (Tuple b) s = absurd s
definition_same (Primitive m) (Enum w b) s = absurd s
definition_same (Primitive m) (Struct b) s = absurd s
definition_same (Sequence v q d) (Primitive n) s = absurd s
definition_same (Sequence v q d) (Sequence w r e) s = let a = s.0 in let b = s.1.0.0 in let c = s.1.0.1 in let n = name_same d e s.1.1 in cc
definition_same (Sequence v q d) (Tuple b) s = absurd s
definition_same (Sequence v q d) (Enum w b) s = absurd s
definition_same (Sequence v q d) (Struct b) s = absurd s
definition_same (Tuple a) (Primitive n) s = absurd s
definition_same (Tuple a) (Sequence w r e) s = absurd s
definition_same (Tuple a) (Tuple b) s = ap tuple (zip_mapped _ (λ x y t. name_same x y t) a.items b.items s)
definition_same (Tuple a) (Enum w b) s = absurd s
definition_same (Tuple a) (Struct b) s = absurd s
definition_same (Enum v a) (Primitive n) s = absurd s
definition_same (Enum v a) (Sequence w r e) s = absurd s
definition_same (Enum v a) (Tuple b) s = absurd s
definition_same (Enum v a) (Enum w b) s = let h = s.0 in let t = zip_mapped variant_bytes variant_same a.items b.items s.1 in cc
definition_same (Enum v a) (Struct b) s = absurd s
definition_same (Struct a) (Primitive n) s = absurd s
definition_same (Struct a) (Sequence w r e) s = absurd s
definition_same (Struct a) (Tuple b) s = absurd s
definition_same (Struct a) (Enum w b) s = absurd s
definition_same (Struct a) (Struct b) s = fields_same a b s

-- ---- a map as what its names say, in order

abbrev pub Entry : Type 0
Entry = String Global × Definition

-- the bytes of a name, and what its definition says
abbrev pub said_entry : Entry → List ℕ × Form
said_entry e = (string_bytes e.0, form_of e.1)

abbrev pub said : List Entry → List (List ℕ × Form)
said es = map said_entry es

said_same : (es fs : List Entry) → AllZip (pair name definition).equivalent es fs → said es ≡ said fs
said_same es fs s = zip_mapped said_entry (λ x y t. (let h = name_same x.0 y.0 t.0 in let i = definition_same x.1 y.1 t.1 in cc)) es fs s

abbrev texts_cmp : List ℕ → List ℕ → Ordering
texts_cmp = slice_cmp nat_cmp

-- a look-up by name finds the same in what a map says
found_said : (q : List ℕ) (es : List Entry) → option_map form_of (lookup (is_at (λ k. texts_cmp q (string_bytes k))) es) ≡ find texts_cmp q (said es)
found_said q [] = refl
found_said q (e ∷ es) =
    elim (is_eq (texts_cmp q (string_bytes e.0))) as (λ b. option_map form_of (cond b (Some e.1) (lookup (is_at (λ k. texts_cmp q (string_bytes k))) es)) ≡ cond b (Some (form_of e.1)) (find texts_cmp q (said es))) [
      | true ↦ refl
      | false ↦ found_said q es
    ]

-- maps that say the same define the same
same_contents : (m n : BTreeMap (String Global) Definition) → said m.entries ≡ said n.entries → (q : List ℕ) → forms_in m q ≡ forms_in n q
same_contents m n e q = found_said q m.entries ∙ ap (find texts_cmp q) e ∙ sym (found_said q n.entries)

both_true : (a b : Bool) → T a → T b → T (a && b)
both_true true b p q = q
both_true false b p q = p

below_said : (x : List ℕ) (es : List Entry) → AllByRecursion (λ y. texts_cmp x (string_bytes y) ≡ Less) (keys_of es) → T (below_all texts_cmp x (said es))
below_said x [] a = tt
below_said x (e ∷ es) a = both_true _ _ (subst (λ r. T (is_lt r)) (sym a.0) tt) (below_said x es a.1)

-- names that ascend in a map ascend in what it says
sorted_said : (es : List Entry) → IsStrictlySortedBy string_cmp (keys_of es) → T (is_sorted texts_cmp (said es))
unfolding IsStrictlySortedBy
sorted_said [] s = tt
sorted_said (e ∷ es) s = both_true _ _ (below_said (string_bytes e.0) es s.0) (sorted_said es s.1)

-- maps by ascending name that define the same say the same
said_once : (m n : BTreeMap (String Global) Definition) → IsOrdered string_cmp m → IsOrdered string_cmp n → ((q : List ℕ) → forms_in m q ≡ forms_in n q) → said m.entries ≡ said n.entries
said_once m n s t e =
    same_entries texts_cmp nat_list_cmp_total exact_bytes (said m.entries) (said n.entries) (sorted_said m.entries s) (sorted_said n.entries t)
    (λ q. sym (found_said q m.entries) ∙ e q ∙ found_said q n.entries)

-- ---- containers

pub given_in : {old new : DefinitionMap} {ps : DefinitionTree} {n : List ℕ} {d : Form} → IsUnion old ps new → IsDefinedIn old ps n d → new n ≡ Some d
given_in j (inl k) = j.keeps _ _ k
given_in j (inr p) = j.has _ _ p

same_found : (a b : Option Form) → ((d : Form) → a ≡ Some d → b ≡ Some d) → ((d : Form) → b ≡ Some d → a ≡ Some d) → a ≡ b
same_found None None f g = refl
same_found None (Some d) f g = g d refl
same_found (Some d) b f g = sym (f d refl)

-- all unions of one map with the definitions of one type are the same
joined_once : {old a b : DefinitionMap} {ps : DefinitionTree} → IsUnion old ps a → IsUnion old ps b → (q : List ℕ) → a q ≡ b q
joined_once {a = a} {b = b} i j q = same_found (a q) (b q) (λ d h. given_in j (i.only q d h)) (λ d h. given_in i (j.only q d h))

joined_as : {old a b : DefinitionMap} {ps : DefinitionTree} → ((q : List ℕ) → a q ≡ b q) → IsUnion old ps b → IsUnion old ps a
joined_as e j = record { keeps = λ n d k. e n ∙ j.keeps n d k; has = λ n d p. e n ∙ j.has n d p; only = λ n d h. j.only n d (sym (e n) ∙ h) }

-- both containers have one root and say the same
abbrev pub SayTheSame : BorshSchemaContainer → BorshSchemaContainer → Type 0
SayTheSame a b = (root_of a ≡ root_of b) × (said (map_of a).entries ≡ said (map_of b).entries)

pub container_as : {name : List ℕ} {ps : DefinitionTree} (a b : BorshSchemaContainer) → SayTheSame a b → IsContainerOf name ps b → IsContainerOf name ps a
container_as a b s h = record { root = s.0 ∙ h.root; definitions = joined_as (same_contents (map_of a) (map_of b) s.1) h.definitions }

-- what is the same as bytes is the container of the same type
pub container_same : {name : List ℕ} {ps : DefinitionTree} (a b : BorshSchemaContainer) → container.equivalent a b → IsContainerOf name ps b → IsContainerOf name ps a
container_same a b s h = container_as a b (name_same a.declaration b.declaration s.0, said_same (map_of a).entries (map_of b).entries s.1) h

-- the container of a type is one, by ascending name
pub container_once : {name : List ℕ} {ps : DefinitionTree} (a b : BorshSchemaContainer) → IsOrdered string_cmp (map_of a) → IsOrdered string_cmp (map_of b) → IsContainerOf name ps a → IsContainerOf name ps b → SayTheSame a b
container_once a b s t h k = (h.root ∙ sym k.root, said_once (map_of a) (map_of b) s t (joined_once h.definitions k.definitions))

-- ---- and what says the same is the same as bytes

zip_from : {xs ys : List ℕ} → xs ≡ ys → AllZip (λ x y. x ≡ y) xs ys
zip_from {xs = xs} e = subst (λ zs. AllZip (λ x y. x ≡ y) xs zs) e (zip_refl xs)
  where
    zip_refl : (zs : List ℕ) → AllZip (λ x y. x ≡ y) zs zs
    zip_refl [] = tt
    zip_refl (z ∷ zs) = (refl, zip_refl zs)

zip_back : {A B : Type 0} {S : A → A → Type 0} (f : A → B) → ((x y : A) → f x ≡ f y → S x y) → (xs ys : List A) → map f xs ≡ map f ys → AllZip S xs ys
zip_back f g [] [] e = tt
zip_back f g [] (y ∷ ys) e = absurd (cc)
zip_back f g (x ∷ xs) [] e = absurd (cc)
zip_back f g (x ∷ xs) (y ∷ ys) e = (g x y (cc), zip_back f g xs ys (cc))

said_variant : (v w : ℤ × String Global × String Global) → variant_bytes v ≡ variant_bytes w → (v.0 ≡ w.0) × (name.equivalent v.1 w.1 × name.equivalent v.2 w.2)
said_variant v w e = (ap (λ t. t.0) e, (zip_from (ap (λ t. t.1) e), zip_from (ap (λ t. t.2) e)))

said_field : (v w : String Global × String Global) → field_bytes v ≡ field_bytes w → name.equivalent v.0 w.0 × name.equivalent v.1 w.1
said_field v w e = (zip_from (ap (λ t. t.0) e), zip_from (ap (λ t. t.1) e))

said_definition : (d e : Definition) → form_of d ≡ form_of e → definition.equivalent d e
said_definition (Primitive a) (Primitive b) p = cc
said_definition (Primitive a) (Sequence wb rb b) p = absurd (cc)
said_definition (Primitive a) (Tuple b) p = absurd (cc)
said_definition (Primitive a) (Enum wb b) p = absurd (cc)
said_definition (Primitive a) (Struct (NamedFields b)) p = absurd (cc)
said_definition (Primitive a) (Struct (UnnamedFields b)) p = absurd (cc)
said_definition (Primitive a) (Struct Empty) p = absurd (cc)
said_definition (Sequence wa ra a) (Primitive b) p = absurd (cc)
said_definition (Sequence wa ra a) (Sequence wb rb b) p = (cc, ((cc, cc), zip_from (let q : string_bytes a ≡ string_bytes b = cc in q)))
said_definition (Sequence wa ra a) (Tuple b) p = absurd (cc)
said_definition (Sequence wa ra a) (Enum wb b) p = absurd (cc)
said_definition (Sequence wa ra a) (Struct (NamedFields b)) p = absurd (cc)
said_definition (Sequence wa ra a) (Struct (UnnamedFields b)) p = absurd (cc)
said_definition (Sequence wa ra a) (Struct Empty) p = absurd (cc)
said_definition (Tuple a) (Primitive b) p = absurd (cc)
said_definition (Tuple a) (Sequence wb rb b) p = absurd (cc)
said_definition (Tuple a) (Tuple b) p = zip_back (λ n. string_bytes n) (λ x y e. zip_from e) a.items b.items (cc)
said_definition (Tuple a) (Enum wb b) p = absurd (cc)
said_definition (Tuple a) (Struct (NamedFields b)) p = absurd (cc)
said_definition (Tuple a) (Struct (UnnamedFields b)) p = absurd (cc)
said_definition (Tuple a) (Struct Empty) p = absurd (cc)
said_definition (Enum wa a) (Primitive b) p = absurd (cc)
said_definition (Enum wa a) (Sequence wb rb b) p = absurd (cc)
said_definition (Enum wa a) (Tuple b) p = absurd (cc)
said_definition (Enum wa a) (Enum wb b) p = (cc, zip_back variant_bytes said_variant a.items b.items (cc))
said_definition (Enum wa a) (Struct (NamedFields b)) p = absurd (cc)
said_definition (Enum wa a) (Struct (UnnamedFields b)) p = absurd (cc)
said_definition (Enum wa a) (Struct Empty) p = absurd (cc)
said_definition (Struct (NamedFields a)) (Primitive b) p = absurd (cc)
said_definition (Struct (NamedFields a)) (Sequence wb rb b) p = absurd (cc)
said_definition (Struct (NamedFields a)) (Tuple b) p = absurd (cc)
said_definition (Struct (NamedFields a)) (Enum wb b) p = absurd (cc)
said_definition (Struct (NamedFields a)) (Struct (NamedFields b)) p = zip_back field_bytes said_field a.items b.items (cc)
said_definition (Struct (NamedFields a)) (Struct (UnnamedFields b)) p = absurd (cc)
said_definition (Struct (NamedFields a)) (Struct Empty) p = absurd (cc)
said_definition (Struct (UnnamedFields a)) (Primitive b) p = absurd (cc)
said_definition (Struct (UnnamedFields a)) (Sequence wb rb b) p = absurd (cc)
said_definition (Struct (UnnamedFields a)) (Tuple b) p = absurd (cc)
said_definition (Struct (UnnamedFields a)) (Enum wb b) p = absurd (cc)
said_definition (Struct (UnnamedFields a)) (Struct (NamedFields b)) p = absurd (cc)
said_definition (Struct (UnnamedFields a)) (Struct (UnnamedFields b)) p = zip_back (λ n. string_bytes n) (λ x y e. zip_from e) a.items b.items (cc)
said_definition (Struct (UnnamedFields a)) (Struct Empty) p = absurd (cc)
said_definition (Struct Empty) (Primitive b) p = absurd (cc)
said_definition (Struct Empty) (Sequence wb rb b) p = absurd (cc)
said_definition (Struct Empty) (Tuple b) p = absurd (cc)
said_definition (Struct Empty) (Enum wb b) p = absurd (cc)
said_definition (Struct Empty) (Struct (NamedFields b)) p = absurd (cc)
said_definition (Struct Empty) (Struct (UnnamedFields b)) p = absurd (cc)
said_definition (Struct Empty) (Struct Empty) p = refl

said_entries : (x y : Entry) → said_entry x ≡ said_entry y → (pair name definition).equivalent x y
said_entries x y e = (zip_from (ap (λ t. t.0) e), said_definition x.1 y.1 (ap (λ t. t.1) e))

same_from_said : (a b : BorshSchemaContainer) → SayTheSame a b → container.equivalent a b
same_from_said a b s = (zip_from s.0, zip_back said_entry said_entries (map_of a).entries (map_of b).entries s.1)

pub container-lawful : Lawful BorshSchemaContainer container
container-lawful = contramap-lawful container_pair root_and_map-lawful

-- all containers of a type that have an encoding have one
pub one_encoding : {name : List ℕ} {ps : DefinitionTree} (a b : BorshSchemaContainer) {x y : List ℕ} → IsContainerOf name ps a → IsContainerOf name ps b → container.encoding a ≡ Some x → container.encoding b ≡ Some y → x ≡ y
one_encoding a b {x = x} {y = y} h k e f =
    let p = container-lawful.round_trip true a x e in
    let q = container-lawful.round_trip true b y f in
    let s = same_from_said a b (container_once a b p.right.decodes.ordered q.right.decodes.ordered h k) in
    some_same x y (sym e ∙ container-lawful.equivalent_encoding a b s ∙ f)

-- where one container of a type has an encoding, each one by ascending name has it
pub encoded_once : {name : List ℕ} {ps : DefinitionTree} (a b : BorshSchemaContainer) {y : List ℕ} → IsContainerOf name ps a → IsOrdered string_cmp (map_of a) → IsContainerOf name ps b → container.encoding b ≡ Some y → container.encoding a ≡ Some y
encoded_once a b {y = y} h o k f =
    let q = container-lawful.round_trip true b y f in
    let s = same_from_said a b (container_once a b o q.right.decodes.ordered h k) in
    container-lawful.equivalent_encoding a b s ∙ f
