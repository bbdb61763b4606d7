-- Definitions with names are, without these, those that members are of.
use Rattle.std.proofs.Common.{◌≡◌, Option, None, Some, refl, ap}
use Rattle.std.proofs.Math.Path.{fun_ext}
use Rattle.std.proofs.lemmas.Simd.{map-map}
use Rattle.std.specs.Prelude.{String, option_map}
use Rattle.std.specs.BTreeMap.{BTreeMap, get_by_text}
use Rattle.borsh_walks.specs.declared.definition.Definition.{Definition}
use Rattle.borsh_walks.specs.declared.definition.Definition.TheVariants.{Primitive, Sequence, Tuple, Enum, Struct}
use Rattle.borsh_walks.specs.declared.definition.Fields.TheVariants.{NamedFields, UnnamedFields, Empty}
use Rattle.borsh_walks.specs.Container.{product, choice}
use Rattle.borsh_walks.specs.Definitions.{shape_of, definitions_in}
use Rattle.borsh_walks.specs.Forms.{form_of, forms_in, shape_of_form, shapes}

pub shape_is : (d : Definition) → shape_of_form (form_of d) ≡ shape_of d
shape_is (Primitive n) = refl
shape_is (Sequence w r e) = refl
shape_is (Tuple es) = refl
shape_is (Enum w vs) = ap (choice w) (map-map _ _ vs.items)
shape_is (Struct (NamedFields fs)) = ap product (map-map _ _ fs.items)
shape_is (Struct (UnnamedFields fs)) = refl
shape_is (Struct Empty) = refl

shape_found : (o : Option Definition) → option_map shape_of_form (option_map form_of o) ≡ option_map shape_of o
shape_found None = refl
shape_found (Some d) = ap Some (shape_is d)

pub shapes_are : {A : Type 0} (m : BTreeMap (String A) Definition) → shapes (forms_in m) ≡ definitions_in m
shapes_are m = fun_ext (λ x. shape_found (get_by_text m x))
