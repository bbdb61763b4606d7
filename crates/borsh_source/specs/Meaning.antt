-- What written types and items mean: a name, the definitions that it brings, and the items that are used.
use Rattle.std.specs.Prelude.{◌≡◌, ℕ, ◌+◌, ◌<◌, ◌≤◌, pos, ℤ, List, [], ◌∷◌, ◌++◌, length, take, Option, Some, None, Bool, true, false, cond, codes, string_bytes, slice_get, String, Vec}
use Rattle.std.specs.Global.{Global}
use Rattle.borsh_definitions.specs.Described.{Form, choice, named as named_fields, unnamed as unnamed_fields, no_fields}
use Rattle.borsh_definitions.specs.Names.{name_with, variant_type, beside}
use Rattle.borsh_source.specs.Views.{Stands, unread, named, number, Used, given_of, IsItem, IsNoItem}
use Rattle.borsh_source.specs.Numbers.{Evaluates, IsNumber}
use Rattle.borsh_source.specs.Reading.{reads, fields_in, fields_name}
use Rattle.borsh_source.specs.Forms.{Entry, form}
use Rattle.borsh_source.specs.declared.formats.Kind.{Kind}
use Rattle.borsh_source.specs.declared.formats.Kind.TheVariants.{Through, List as ListKind, Tuple as TupleKind, Array as ArrayKind}
use Rattle.borsh_source.specs.Formats.{IsFormat, most_arguments, read_arguments}
use Rattle.borsh_source.specs.declared.tree.Source.{Source}
use Rattle.borsh_source.specs.declared.tree.Field.{Field}
use Rattle.borsh_source.specs.declared.tree.Fields.{Fields}
use Rattle.borsh_source.specs.declared.tree.Fields.TheVariants.{Named, Unnamed, Empty}
use Rattle.borsh_source.specs.declared.tree.Variant.{Variant}
use Rattle.borsh_source.specs.declared.tree.Item.{Item}
use Rattle.borsh_source.specs.declared.tree.ItemKind.{ItemKind}
use Rattle.borsh_source.specs.declared.tree.ItemKind.TheVariants.{Struct, Enum, Alias, Constant as ConstantItem}
use Rattle.borsh_source.specs.declared.tree.Parameter.{Parameter}
use Rattle.borsh_source.specs.declared.tree.«Type».{«Type» as Written}
use Rattle.borsh_source.specs.declared.tree.TypeKind.{TypeKind}
use Rattle.borsh_source.specs.declared.tree.TypeKind.TheVariants.{Path, Reference, Slice, Array, Tuple, Constant}

-- ---- names

-- the names of the types that parameters stand for
abbrev pub parameter_names : List Stands → List (List ℕ)
parameter_names [] = []
parameter_names (unread ∷ hs) = parameter_names hs
parameter_names (named n ∷ hs) = n ∷ parameter_names hs
parameter_names (number n ∷ hs) = parameter_names hs

-- a name with those of its parameters, if it has any
abbrev pub with_names : List ℕ → List (List ℕ) → List ℕ
with_names x [] = x
with_names x (n ∷ ns) = name_with x n ns

-- the name of an item, or of a variant's fields, whose parameters stand for these
abbrev pub name_given : List ℕ → List Stands → List ℕ
name_given x hs = with_names x (parameter_names hs)

-- ---- types

-- a path leads to a type of the format: there is no parameter and no item of that name
pub record IsFormatPath (S : Source) (ps : List Parameter) (gs : List Stands) (x : List ℕ) (bs : List ℕ) (stem : List ℕ) (k : Kind) (ts : List ℕ) : Type 0 where
  pub no_parameter : given_of ps gs x ≡ None
  pub no_item : IsNoItem S x
  pub format : IsFormat x stem k
  pub enough : read_arguments k ≤ length bs
  pub fits : length bs ≤ most_arguments k
  pub parts : ts ≡ take (read_arguments k) bs

-- a written type is a type of the format, by the beginning of its name, its kind and its arguments
abbrev pub IsFormatType : Source → List Parameter → List Stands → TypeKind → List ℕ → Kind → List ℕ → Type 0
IsFormatType S ps gs (Path x bs) stem k ts = IsFormatPath S ps gs (string_bytes x) bs.items stem k ts
IsFormatType S ps gs (Reference t) stem k ts = (k ≡ Through) × (ts ≡ t ∷ [])
IsFormatType S ps gs (Slice t) stem k ts = (stem ≡ codes "Vec") × (k ≡ ListKind) × (ts ≡ t ∷ [])
IsFormatType S ps gs (Array t e) stem k ts = (n : ℕ) × Evaluates S ps gs e n × (k ≡ ArrayKind n) × (ts ≡ t ∷ [])
IsFormatType S ps gs (Tuple us) stem k ts = (k ≡ TupleKind) × (ts ≡ us.items)
IsFormatType S ps gs (Constant e) stem k ts = ⊥

-- an argument is written as a number, or as the name of one
abbrev pub IsNumberKind : Source → List Parameter → List Stands → TypeKind → ℕ → Type 0
IsNumberKind S ps gs (Constant e) n = Evaluates S ps gs e n
IsNumberKind S ps gs (Path x bs) n = IsNumber S ps gs (string_bytes x) n
IsNumberKind S ps gs _ n = ⊥

abbrev pub IsNumberAt : Source → List Parameter → List Stands → ℕ → ℕ → Type 0
IsNumberAt S ps gs a n = (w : Written) × (slice_get S.types.items a ≡ Some w) × IsNumberKind S ps gs w.kind n

-- a struct or an enum
abbrev pub IsOwn : ItemKind → Type 0
IsOwn (Struct fs) = Unit {0}
IsOwn (Enum d vs) = Unit {0}
IsOwn (Alias t) = ⊥
IsOwn (ConstantItem e) = ⊥

mutual
  -- the type at an index has the name, where the parameters stand for these, and brings the definitions and the used items
  pub data Means (S : Source) : List Parameter → List Stands → ℕ → List ℕ → List Entry → List Used → Type 0 where
    -- a parameter
    of_parameter : {ps : List Parameter} {gs : List Stands} {t : ℕ} {n : List ℕ} {w : Written} {x : String Global} {bs : Vec ℕ Global} → slice_get S.types.items t ≡ Some w → w.kind ≡ Path x bs → bs.items ≡ [] → given_of ps gs (string_bytes x) ≡ Some (named n) → Means S ps gs t n [] []
    -- a type of the format
    of_format : {ps : List Parameter} {gs : List Stands} {t : ℕ} {n : List ℕ} {w : Written} {ts : List ℕ} {ns : List (List ℕ)} {ds es : List Entry} {us : List Used} (stem : List ℕ) (k : Kind) → slice_get S.types.items t ≡ Some w → IsFormatType S ps gs w.kind stem k ts → MeansAll S ps gs ts ns ds us → form stem k ns ≡ Some (n, es) → Means S ps gs t n (ds ++ es) us
    -- an item
    of_item : {ps : List Parameter} {gs hs : List Stands} {t i : ℕ} {n : List ℕ} {w : Written} {x : String Global} {bs : Vec ℕ Global} {item : Item} {ds es : List Entry} {us vs : List Used} → slice_get S.types.items t ≡ Some w → w.kind ≡ Path x bs → given_of ps gs (string_bytes x) ≡ None → IsItem S (string_bytes x) i item → Gives S ps gs item.kind item.parameters.items bs.items hs ds us → ItemMeans S i item hs n es vs → Means S ps gs t n (ds ++ es) (us ++ vs)

  -- the types at these indices have the names, one after another
  pub data MeansAll (S : Source) : List Parameter → List Stands → List ℕ → List (List ℕ) → List Entry → List Used → Type 0 where
    means_none : {ps : List Parameter} {gs : List Stands} → MeansAll S ps gs [] [] [] []
    means_more : {ps : List Parameter} {gs : List Stands} {ts : List ℕ} {t : ℕ} {ns : List (List ℕ)} {n : List ℕ} {ds es : List Entry} {us vs : List Used} → MeansAll S ps gs ts ns ds us → Means S ps gs t n es vs → MeansAll S ps gs (ts ++ t ∷ []) (ns ++ n ∷ []) (ds ++ es) (us ++ vs)

  -- an item has the name, where its parameters stand for these: an alias what it is for, a struct or an enum its own, by which it is used
  pub data ItemMeans (S : Source) : ℕ → Item → List Stands → List ℕ → List Entry → List Used → Type 0 where
    of_alias : {i t : ℕ} {item : Item} {hs : List Stands} {n : List ℕ} {ds : List Entry} {us : List Used} → item.kind ≡ Alias t → Means S item.parameters.items hs t n ds us → ItemMeans S i item hs n ds us
    of_own : {i : ℕ} {item : Item} {hs : List Stands} → IsOwn item.kind → ItemMeans S i item hs (name_given (string_bytes item.name) hs) [] (record { item = i; given = hs } ∷ [])

  -- the parameters of an item stand for these, by the arguments, one after another
  pub data Gives (S : Source) : List Parameter → List Stands → ItemKind → List Parameter → List ℕ → List Stands → List Entry → List Used → Type 0 where
    gives_none : {ps : List Parameter} {gs : List Stands} {k : ItemKind} → Gives S ps gs k [] [] [] [] []
    gives_more : {ps qs : List Parameter} {gs hs : List Stands} {k : ItemKind} {p : Parameter} {bs : List ℕ} {a : ℕ} {h : Stands} {ds es : List Entry} {us vs : List Used} → Gives S ps gs k qs bs hs ds us → GivesOne S ps gs k p a h es vs → Gives S ps gs k (qs ++ p ∷ []) (bs ++ a ∷ []) (hs ++ h ∷ []) (ds ++ es) (us ++ vs)

  -- a parameter stands for this, by the argument: a number, a type, or nothing where the item doesn't read it
  pub data GivesOne (S : Source) : List Parameter → List Stands → ItemKind → Parameter → ℕ → Stands → List Entry → List Used → Type 0 where
    gives_number : {ps : List Parameter} {gs : List Stands} {k : ItemKind} {p : Parameter} {a n : ℕ} → p.constant ≡ true → IsNumberAt S ps gs a n → GivesOne S ps gs k p a (number n) [] []
    gives_type : {ps : List Parameter} {gs : List Stands} {k : ItemKind} {p : Parameter} {a : ℕ} {n : List ℕ} {ds : List Entry} {us : List Used} → p.constant ≡ false → reads S (string_bytes p.name) k ≡ true → Means S ps gs a n ds us → GivesOne S ps gs k p a (named n) ds us
    gives_nothing : {ps : List Parameter} {gs : List Stands} {k : ItemKind} {p : Parameter} {a : ℕ} → p.constant ≡ false → reads S (string_bytes p.name) k ≡ false → GivesOne S ps gs k p a unread [] []

-- ---- items

-- the types and the names of the fields that aren't skipped
abbrev pub kept_types : List Field → List ℕ
kept_types [] = []
kept_types (f ∷ fs) = cond f.skipped (kept_types fs) (f.written ∷ kept_types fs)

abbrev pub kept_names : List Field → List (List ℕ)
kept_names [] = []
kept_names (f ∷ fs) = cond f.skipped (kept_names fs) (string_bytes f.name ∷ kept_names fs)

-- the definition of fields whose types have these names
abbrev pub some_definition : Fields → List (List ℕ) → Form
some_definition (Named fs) ns = named_fields (beside (kept_names fs.items) ns)
some_definition (Unnamed fs) ns = unnamed_fields ns
some_definition Empty ns = unnamed_fields ns

abbrev pub fields_definition : List (List ℕ) → Fields → Form
fields_definition [] fs = no_fields
fields_definition (n ∷ ns) fs = some_definition fs (n ∷ ns)

-- fields bring their definition under a name, and what their types bring
pub data FieldsBring (S : Source) (ps : List Parameter) (gs : List Stands) (x : List ℕ) (fs : Fields) : List Entry → List Used → Type 0 where
  of_fields : {ns : List (List ℕ)} {ds : List Entry} {us : List Used} → MeansAll S ps gs (kept_types (fields_in fs)) ns ds us → FieldsBring S ps gs x fs (ds ++ (x, fields_definition ns fs) ∷ []) us

-- what those of the parameters stand for that the fields name
abbrev pub read_given : Source → List Field → List Parameter → List Stands → List Stands
read_given S fs [] hs = []
read_given S fs (p ∷ ps) [] = []
read_given S fs (p ∷ ps) (h ∷ hs) = cond (fields_name S (string_bytes p.name) fs) h unread ∷ read_given S fs ps hs

-- the name of the definition of a variant's fields
abbrev pub variant_type_given : Source → List Parameter → List Stands → List ℕ → Variant → List ℕ
variant_type_given S ps gs x v = name_given (variant_type x (string_bytes v.name)) (read_given S (fields_in v.fields) ps gs)

-- a variant's tag, where the next one is this: its discriminant, if these are the tags and it has one
abbrev pub IsDiscriminant : Source → Option ℕ → Bool → ℕ → ℕ → Type 0
IsDiscriminant S None explicit next tag = tag ≡ next
IsDiscriminant S (Some e) true next tag = Evaluates S [] [] e tag
IsDiscriminant S (Some e) false next tag = tag ≡ next

-- no row has the tag
abbrev pub IsNewTag : ℕ → List (ℤ × List ℕ × List ℕ) → Type 0
IsNewTag tag [] = Unit {0}
IsNewTag tag (r ∷ rows) = (r.0 ≡ pos tag → ⊥) × IsNewTag tag rows

-- variants, whose enum has the name x, have the rows, and bring what their fields bring; the next tag
pub data VariantsBring (S : Source) (ps : List Parameter) (gs : List Stands) (x : List ℕ) (explicit : Bool) : List Variant → List (ℤ × List ℕ × List ℕ) → ℕ → List Entry → List Used → Type 0 where
  of_none : VariantsBring S ps gs x explicit [] [] 0 [] []
  of_more : {vs : List Variant} (v : Variant) {rows : List (ℤ × List ℕ × List ℕ)} {next tag : ℕ} {ds es : List Entry} {us ws : List Used} → VariantsBring S ps gs x explicit vs rows next ds us → IsDiscriminant S v.discriminant explicit next tag → tag < 256 → IsNewTag tag rows → FieldsBring S ps gs (variant_type_given S ps gs x v) v.fields es ws → VariantsBring S ps gs x explicit (vs ++ v ∷ []) (rows ++ (pos tag, string_bytes v.name, variant_type_given S ps gs x v) ∷ []) (tag + 1) (ds ++ es) (us ++ ws)

-- the same, whatever the next tag is
abbrev pub SomeVariantsBring : Source → List Parameter → List Stands → List ℕ → Bool → List Variant → List (ℤ × List ℕ × List ℕ) → List Entry → List Used → Type 0
SomeVariantsBring S ps gs x explicit vs rows ds us = (next : ℕ) × VariantsBring S ps gs x explicit vs rows next ds us

-- no variant has a discriminant
abbrev pub HaveNone : List Variant → Type 0
HaveNone [] = Unit {0}
HaveNone (v ∷ vs) = (v.discriminant ≡ None) × HaveNone vs

-- whether the discriminants are the tags is said, or there are none
abbrev pub AreTagsDecided : Option Bool → List Variant → Type 0
AreTagsDecided None vs = HaveNone vs
AreTagsDecided (Some b) vs = Unit {0}

abbrev pub is_explicit : Option Bool → Bool
is_explicit None = false
is_explicit (Some b) = b

-- what the parameters of an item stand for within it, and behind that its name, for which `Self` stands
abbrev pub given_within : Item → Used → List Stands
given_within item u = u.given ++ named (name_given (string_bytes item.name) u.given) ∷ []

-- an item that is used brings its definitions, and what its types bring
pub data Defines (S : Source) (u : Used) : List Entry → List Used → Type 0 where
  of_struct : {item : Item} {fs : Fields} {ds : List Entry} {us : List Used} → slice_get S.items.items u.item ≡ Some item → item.kind ≡ Struct fs → FieldsBring S item.parameters.items (given_within item u) (name_given (string_bytes item.name) u.given) fs ds us → Defines S u ds us
  of_enum : {item : Item} {d : Option Bool} {vs : Vec Variant Global} {rows : List (ℤ × List ℕ × List ℕ)} {next : ℕ} {ds : List Entry} {us : List Used} → slice_get S.items.items u.item ≡ Some item → item.kind ≡ Enum d vs → AreTagsDecided d vs.items → VariantsBring S item.parameters.items (given_within item u) (string_bytes item.name) (is_explicit d) vs.items rows next ds us → Defines S u (ds ++ (name_given (string_bytes item.name) u.given, choice 1 rows) ∷ []) us
