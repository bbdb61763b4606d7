-- Codecs with what describes them, as the data of an implementation: so that another one can quote them.
use Rattle.std.proofs.Common.{◌≡◌, ℕ, ℤ, Bool, List, [], ◌∷◌, Option, Some, Result, refl, ◌∙◌, ap}
use Rattle.std.specs.Prelude.{⊤, codes}
use Rattle.std.specs.declared.cmp.Ordering.{Ordering}
use Rattle.borsh_codec.specs.Shapes.{contramap, unsigned, signed, unit, pair, array, length_prefixed, list, allocated, decoded_with}
use Rattle.borsh_codec.specs.Maps.{unit_entries, btree_map, btree_set, hash_map, hash_set}
use Rattle.borsh_codec.specs.Types.Sums.{bool, option_view, option, result_view, result_of}
use Rattle.borsh_codec.specs.Types.Floats.{float32, float64}
use Rattle.borsh_codec.specs.Types.Texts.{text}
use lib.Ieee.{Float, binary32, binary64}
use Rattle.borsh_walks.specs.Container.{product, first_variant, later_variant}
use Rattle.borsh_definitions.specs.Described.{Form, shape_of_form, sequence, named, unnamed, DefinitionTree, none, defined, both}
use Rattle.borsh_definitions.specs.Language.{DescribedCodec, DescribedFields}
use Rattle.borsh_definitions.specs.Names.{applied, applied_to_two, array_name, beside}
use Rattle.borsh_definitions.specs.Types.{primitive_definitions, list_definitions, text_definitions, unit_definitions, option_of, range_of, result_of as result_definition, map_definitions, named_struct, unnamed_struct, tuple_definitions}
use Rattle.borsh_definitions.proofs.Laws.Members.{describes_contramap, describes_decoded_with, describes_number, describes_signed, describes_float, describes_unit, describes_bool, describes_text, describes_stored, describes_counted, describes_elements, describes_row, describes_refused_if, describes_ordered, describes_sorted, describes_parts, describes_choice, choice_more, choice_none, all_none, all_one, all_more, all_contramap}

-- ---- one value

abbrev pub number_described : (name : List ℕ) (n : ℕ) → DescribedCodec ℕ name (primitive_definitions name n)
number_described name n = record { codec = unsigned n; describes = λ C h. describes_number n h.0 }

abbrev pub signed_described : (name : List ℕ) (n : ℕ) → DescribedCodec ℤ name (primitive_definitions name n)
signed_described name n = record { codec = signed n; describes = λ C h. describes_signed n h.0 }

abbrev pub float32_described : DescribedCodec Float (codes "f32") (primitive_definitions (codes "f32") 4)
float32_described = record { codec = float32; describes = λ C h. describes_float binary32 4 h.0 }

abbrev pub float64_described : DescribedCodec Float (codes "f64") (primitive_definitions (codes "f64") 8)
float64_described = record { codec = float64; describes = λ C h. describes_float binary64 8 h.0 }

abbrev pub bool_described : DescribedCodec Bool (codes "bool") (primitive_definitions (codes "bool") 1)
bool_described = record { codec = bool; describes = λ C h. describes_bool h.0 }

abbrev pub unit_described : DescribedCodec ⊤ (codes "()") unit_definitions
unit_described = record { codec = unit; describes = λ C h. describes_unit h.0 }

abbrev pub text_described : DescribedCodec (List ℕ) (codes "String") text_definitions
text_described = record { codec = text; describes = λ C h. describes_text h.0 h.1.0.0 }

-- ---- of a part

module _ {A : Type 0} {n : List ℕ} {ps : DefinitionTree} where
  abbrev pub contramap_described : {B : Type 0} → (B → A) → DescribedCodec A n ps → DescribedCodec B n ps
  contramap_described view d = record { codec = contramap view d.codec; describes = λ C h. describes_contramap view (d.describes C h) }

  abbrev pub decoded_with_described : (A → Type 0) → DescribedCodec A n ps → DescribedCodec A n ps
  decoded_with_described P d = record { codec = decoded_with P d.codec; describes = λ C h. describes_decoded_with P (d.describes C h) }

  abbrev pub allocated_described : DescribedCodec A n ps → DescribedCodec A n ps
  allocated_described d = record { codec = allocated d.codec; describes = λ C h. describes_stored (d.describes C h) }

  -- a list type, by the beginning of its name
  abbrev pub list_described : (head : List ℕ) → DescribedCodec A n ps → DescribedCodec (List A) (applied head n) (list_definitions head n ps)
  list_described head d = record { codec = list d.codec; describes = λ C h. describes_elements h.0 (d.describes C h.1.0) }

  abbrev pub slice_described : (head : List ℕ) → DescribedCodec A n ps → DescribedCodec (List A) (applied head n) (list_definitions head n ps)
  slice_described head d = record { codec = length_prefixed d.codec; describes = λ C h. describes_counted h.0 (d.describes C h.1.0) }

  abbrev pub array_described : (k : ℕ) → DescribedCodec A n ps → DescribedCodec (List A) (array_name n k) (defined (array_name n k) (sequence 0 k k n) (both ps none))
  array_described k d = record { codec = array k d.codec; describes = λ C h. describes_row k h.0 (d.describes C h.1.0) }

  abbrev pub option_described : DescribedCodec A n ps → DescribedCodec (Option A) (applied (codes "Option<") n) (defined (applied (codes "Option<") n) (option_of n) (both ps (both unit_definitions none)))
  option_described d = record {
    codec = option d.codec;
    describes = λ C h. describes_contramap option_view (describes_choice h.0 (choice_more first_variant refl (describes_unit h.1.1.0.0) (choice_more (later_variant first_variant) refl (d.describes C h.1.0) choice_none)));
  }

  -- a set of keys
  abbrev pub btree_set_described : (head : List ℕ) (cmp : A → A → Ordering) → DescribedCodec A n ps → DescribedCodec (List A) (applied head n) (list_definitions head n ps)
  btree_set_described head cmp d = record {
    codec = btree_set cmp d.codec;
    describes = λ C h. describes_contramap unit_entries (describes_refused_if d.codec.is_zero_width (describes_ordered cmp h.0 (describes_contramap (λ e. e.0) (d.describes C h.1.0))));
  }

  abbrev pub hash_set_described : (head : List ℕ) (cmp : A → A → Ordering) → DescribedCodec A n ps → DescribedCodec (List A) (applied head n) (list_definitions head n ps)
  hash_set_described head cmp d = record {
    codec = hash_set cmp d.codec;
    describes = λ C h. describes_contramap unit_entries (describes_refused_if d.codec.is_zero_width (describes_sorted cmp (λ v w. ⊤) h.0 (describes_contramap (λ e. e.0) (d.describes C h.1.0))));
  }

  -- a range: its start and its end
  abbrev pub range_described : {S : Type 0} → (S → A × A) → (head : List ℕ) → DescribedCodec A n ps → DescribedCodec S (applied head n) (defined (applied head n) (range_of n) (both ps none))
  range_described view head d = record {
    codec = contramap view (pair d.codec d.codec);
    describes = λ C h. describes_contramap view (describes_parts h.0 (all_more (d.describes C h.1.0) (all_one (d.describes C h.1.0))));
  }

  -- ---- of two parts

  module _ {B : Type 0} {m : List ℕ} {qs : DefinitionTree} where
    abbrev pub result_described : DescribedCodec A n ps → DescribedCodec B m qs → DescribedCodec (Result A B) (applied_to_two (codes "Result<") n m) (defined (applied_to_two (codes "Result<") n m) (result_definition n m) (both ps (both qs none)))
    result_described d e = record {
      codec = result_of d.codec e.codec;
      describes = λ C h. describes_contramap result_view (describes_choice h.0 (choice_more (later_variant first_variant) refl (e.describes C h.1.1.0) (choice_more first_variant refl (d.describes C h.1.0) choice_none)));
    }

    -- a map of keys and values
    abbrev pub btree_map_described : (head : List ℕ) (cmp : A → A → Ordering) → DescribedCodec A n ps → DescribedCodec B m qs → DescribedCodec (List (A × B)) (applied_to_two head n m) (map_definitions head n m ps qs)
    btree_map_described head cmp d e = record {
      codec = btree_map cmp d.codec e.codec;
      describes = λ C h. describes_refused_if d.codec.is_zero_width (describes_ordered cmp h.0 (describes_parts h.1.0.0 (all_more (d.describes C h.1.0.1.0) (all_one (e.describes C h.1.0.1.1.0)))));
    }

    abbrev pub hash_map_described : (head : List ℕ) (cmp : A → A → Ordering) → DescribedCodec A n ps → DescribedCodec B m qs → DescribedCodec (List (A × B)) (applied_to_two head n m) (map_definitions head n m ps qs)
    hash_map_described head cmp d e = record {
      codec = hash_map cmp d.codec e.codec;
      describes = λ C h. describes_refused_if d.codec.is_zero_width (describes_sorted cmp e.codec.equivalent h.0 (describes_parts h.1.0.0 (all_more (d.describes C h.1.0.1.0) (all_one (e.describes C h.1.0.1.1.0)))));
    }

-- ---- fields one after another

abbrev pub no_fields_described : DescribedFields ⊤
no_fields_described = record {
  names = [];
  parts = none;
  codec = unit;
  describes = λ C h. all_none;
  behind = λ c. contramap (λ p. p.0) c;
  describes_behind = λ C d h. all_contramap (λ p. p.0) (all_one d);
}

abbrev pub fields_described : {A B : Type 0} {n : List ℕ} {ps : DefinitionTree} → DescribedCodec A n ps → DescribedFields B → DescribedFields (A × B)
fields_described {n = n} {ps = ps} d rest = record {
  names = n ∷ rest.names;
  parts = both ps rest.parts;
  codec = rest.behind d.codec;
  describes = λ C h. rest.describes_behind C (d.describes C h.0) h.1;
  behind = λ c. pair c (rest.behind d.codec);
  describes_behind = λ C e h. all_more e (rest.describes_behind C (d.describes C h.0) h.1);
}

-- what a struct with these names of fields brings, and a tuple
abbrev pub struct_parts : {A : Type 0} → List ℕ → List (List ℕ) → DescribedFields A → DefinitionTree
struct_parts name fields d = named_struct name fields d.names d.parts

abbrev pub tuple_of : {A : Type 0} → DescribedFields A → DefinitionTree
tuple_of d = tuple_definitions d.names d.parts

-- a struct, or a tuple: a name, a definition that lists the fields' types, and the fields seen through a view
abbrev pub struct_described : {S A : Type 0} {name : List ℕ} {d : Form} → (S → A) → (fields : DescribedFields A) → shape_of_form d ≡ product fields.names → DescribedCodec S name (defined name d fields.parts)
struct_described view fields e = record {
  codec = contramap view fields.codec;
  describes = λ C h. describes_contramap view (describes_parts (h.0 ∙ ap Some e) (fields.describes C h.1));
}

-- the same with the definition given, so that the prover needn't find it: a struct whose fields have these names, as many
-- as there are types, and one whose fields have none
abbrev pub named_described : {S A : Type 0} {name : List ℕ} → (S → A) → (labels : List (List ℕ)) → (fields : DescribedFields A) → shape_of_form (named (beside labels fields.names)) ≡ product fields.names → DescribedCodec S name (struct_parts name labels fields)
named_described view labels fields e = struct_described {d = named (beside labels fields.names)} view fields e

abbrev pub unnamed_described : {S A : Type 0} {name : List ℕ} → (S → A) → (fields : DescribedFields A) → DescribedCodec S name (unnamed_struct name fields.names fields.parts)
unnamed_described view fields = struct_described {d = unnamed fields.names} view fields refl
