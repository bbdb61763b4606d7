-- Steps towards the definitions of an item.
use Rattle.std.proofs.Common.{◌≡◌, ℕ, ◌+◌, ◌<◌, ℤ, pos, List, [], ◌∷◌, ◌++◌, take, Some, sym, ◌∙◌, ap, subst, Bool, Vec, String, Global}
use Rattle.std.specs.Prelude.{slice_get, string_bytes, Option}
use Rattle.std.proofs.lemmas.List.{append-nil}
use Rattle.borsh_definitions.specs.Described.{DefinitionMap, Form, choice}
use Rattle.borsh_source.specs.Views.{Stands, Used, named}
use Rattle.borsh_source.specs.Forms.{Entry}
use Rattle.borsh_source.specs.Reading.{fields_in}
use Rattle.borsh_source.specs.Meaning.{MeansAll, FieldsBring, of_fields, fields_definition, kept_types, VariantsBring, SomeVariantsBring, of_more, variant_type_given, IsDiscriminant, Defines, of_struct, of_enum, name_given, AreTagsDecided, is_explicit, IsNewTag, given_within}
use Rattle.borsh_source.specs.Container.{Brought, AreThese}
use Rattle.borsh_source.proofs.Lists.{take_next}
use Rattle.borsh_source.proofs.Steps.{brought_then, brought_as}
use Rattle.borsh_source.specs.declared.tree.Source.{Source}
use Rattle.borsh_source.specs.declared.tree.Item.{Item}
use Rattle.borsh_source.specs.declared.tree.ItemKind.TheVariants.{Struct, Enum}
use Rattle.borsh_source.specs.declared.tree.Fields.{Fields}
use Rattle.borsh_source.specs.declared.tree.Variant.{Variant}
use Rattle.borsh_source.specs.declared.tree.Parameter.{Parameter}

-- two lists that end with what is known
ends : {A B : Type 0} (P : List A → List B → Type 0) (ds es fs : List A) (us vs : List B) → es ≡ fs → vs ≡ [] → P (ds ++ fs) us → P (ds ++ es) (us ++ vs)
ends P ds es fs us vs p q h = subst (λ l. P (ds ++ es) l) (sym (ap (λ l. us ++ l) q ∙ append-nil us)) (subst (λ l. P (ds ++ l) us) (sym p) h)

module _ (S : Source) (ps : List Parameter) (gs : List Stands) where
  pub fields_brought : {a b c : DefinitionMap} {u v w : List Used} (ts : List ℕ) (ns : List (List ℕ)) (x : List ℕ) (fs : Fields) (f : Form) (entries : List Entry) → ts ≡ kept_types (fields_in fs) → f ≡ fields_definition ns fs → entries ≡ (x, f) ∷ [] → Brought (MeansAll S ps gs ts ns) a b u v → Brought (AreThese entries []) b c v w → Brought (FieldsBring S ps gs x fs) a c u w
  fields_brought ts ns x fs f entries e g r p q = brought_then p q (λ ds es us vs m k.
      ends (FieldsBring S ps gs x fs) ds es ((x, fields_definition ns fs) ∷ []) us vs (k.0 ∙ r ∙ ap (λ z. (x, z) ∷ []) g) k.1 (of_fields (subst (λ l. MeansAll S ps gs l ns ds us) e m)))

  pub variants_more : {a b c : DefinitionMap} {u v w : List Used} (x : List ℕ) (explicit : Bool) (vs : List Variant) (i : ℕ) (one : Variant) (rows more : List (ℤ × List ℕ × List ℕ)) (next tag after : ℕ) (whole called : List ℕ) → slice_get vs i ≡ Some one → IsDiscriminant S one.discriminant explicit next tag → tag < 256 → IsNewTag tag rows → whole ≡ variant_type_given S ps gs x one → more ≡ rows ++ (pos tag, string_bytes one.name, whole) ∷ [] → after ≡ tag + 1 → called ≡ whole → Brought (VariantsBring S ps gs x explicit (take i vs) rows next) a b u v → Brought (FieldsBring S ps gs called one.fields) b c v w → Brought (VariantsBring S ps gs x explicit (take (i + 1) vs) more after) a c u w
  variants_more x explicit vs i one rows more next tag after whole called at d small new e f g r p q = brought_then p q (λ ds es us ws m k.
      let V = λ (l : List Variant) (r : List (ℤ × List ℕ × List ℕ)) (n : ℕ). VariantsBring S ps gs x explicit l r n (ds ++ es) (us ++ ws) in
      subst (λ l. V l more after) (sym (take_next vs i at))
      (subst (λ n. V (take i vs ++ one ∷ []) more n) (sym g)
      (subst (λ r. V (take i vs ++ one ∷ []) r (tag + 1)) (sym (f ∙ ap (λ z. rows ++ (pos tag, string_bytes one.name, z) ∷ []) e))
      (of_more one m d small new (subst (λ z. FieldsBring S ps gs z one.fields es ws) (r ∙ e) k)))))

-- a row of an enum
abbrev pub row : ℕ → List ℕ → String Global → ℤ × List ℕ × List ℕ
row tag name whole = (pos tag, name, string_bytes whole)

-- what the parameters of an item stand for within it
pub within_at : (t : Used) (item : Item) (gs hs : List Stands) (n : List ℕ) → gs ≡ hs ++ named n ∷ [] → hs ≡ t.given → n ≡ name_given (string_bytes item.name) t.given → gs ≡ given_within item t
within_at t item gs hs n p q r = p ∙ ap (λ l. l ++ named n ∷ []) q ∙ ap (λ z. t.given ++ named z ∷ []) r

module _ (S : Source) (t : Used) (item : Item) (at : slice_get S.items.items t.item ≡ Some item) (ps : List Parameter) (gs : List Stands) (same : ps ≡ item.parameters.items) (given : gs ≡ given_within item t) where
  pub struct_brought : {a c : DefinitionMap} {u w : List Used} (x : List ℕ) (fs : Fields) → item.kind ≡ Struct fs → x ≡ name_given (string_bytes item.name) t.given → Brought (FieldsBring S ps gs x fs) a c u w → Brought (Defines S t) a c u w
  struct_brought x fs k e p = brought_as p (λ ds us m. of_struct at k (subst (λ z. FieldsBring S item.parameters.items (given_within item t) z fs ds us) e (subst (λ l. FieldsBring S l (given_within item t) x fs ds us) same (subst (λ l. FieldsBring S ps l x fs ds us) given m))))

  pub enum_brought : {a b c : DefinitionMap} {u v w : List Used} (x name : List ℕ) (d : Option Bool) (vs : Vec Variant Global) (us : List Variant) (rows : List (ℤ × List ℕ × List ℕ)) (explicit : Bool) (entries : List Entry) → item.kind ≡ Enum d vs → us ≡ vs.items → AreTagsDecided d us → explicit ≡ is_explicit d → x ≡ name_given (string_bytes item.name) t.given → name ≡ string_bytes item.name → entries ≡ (x, choice 1 rows) ∷ [] → Brought (SomeVariantsBring S ps gs name explicit us rows) a b u v → Brought (AreThese entries []) b c v w → Brought (Defines S t) a c u w
  enum_brought x name d vs us rows explicit entries k f decided e n g r p q = brought_then p q (λ ds es ws qs m h.
      let V = λ (as_ps : List Parameter) (as_gs : List Stands) (y : List ℕ) (z : Bool) (l : List Variant). VariantsBring S as_ps as_gs y z l rows m.0 ds ws in
      ends (Defines S t) ds es ((name_given (string_bytes item.name) t.given, choice 1 rows) ∷ []) ws qs (h.0 ∙ r ∙ ap (λ z. (z, choice 1 rows) ∷ []) n) h.1
      (of_enum at k (subst (λ l. AreTagsDecided d l) f decided)
      (subst (λ l. V l (given_within item t) (string_bytes item.name) (is_explicit d) vs.items) same
      (subst (λ l. V ps l (string_bytes item.name) (is_explicit d) vs.items) given
      (subst (λ y. V ps gs y (is_explicit d) vs.items) g
      (subst (λ z. V ps gs name z vs.items) e
      (subst (λ l. V ps gs name explicit l) f m.1)))))))
