-- The words that name a type.
use Rattle.std.specs.Prelude.{ℕ, List, [], ◌∷◌, Option, Some, None, codes, find, nat_eq}
use Rattle.std.specs.Cmp.Lexicographic.{pointwise}
use Rattle.borsh.specs.Codec.{Codec}
use Rattle.borsh.specs.Shapes.{unsigned, signed, unit, pair, array, list}
use Rattle.borsh.specs.Types.Addresses.{ip, octets, socket, socket_v6}
use Rattle.borsh.specs.Types.Sums.{bool, option, result_of}
use Rattle.borsh_definitions.specs.Addresses.{ip_address_definitions}
use Rattle.borsh_schema.specs.Codecs.{container}
use Rattle.borsh_definitions.specs.Own.{container_definitions}
use Rattle.borsh_samples.specs.MyEnum.{my_enum}
use Rattle.borsh_samples.specs.One.{one}
use Rattle.borsh_samples.specs.OneOrZero.{one_or_zero}
use Rattle.borsh_samples.specs.Schemas.{my_enum_definitions}
use Rattle.borsh_check_lines.specs.declared.words.Word.{Word}
use Rattle.borsh_check_lines.specs.declared.words.Word.TheVariants as word
use Rattle.borsh_walks.specs.Codecs.{vec_of}
use Rattle.borsh_check_lines.specs.Meanings.{hash_map_u8, hash_set_u8, index_map_u8, index_set_u8, map_by_byte, map_unit, non_zero_i16, ranges, set_u8, stored_in_box, string, shared_text, deque, boxed, readme, my_struct}
use Rattle.borsh_check_lines.specs.Schemas as schema
use Rattle.borsh_check_lines.specs.Schemas.{Schema}

-- the values of a type, their codec, and the type's schema, if it has one
pub record Meaning : Type 1 where
  pub Value : Type 0
  pub codec : Codec Value
  pub schema : Option Schema

abbrev pub meaning_of : {A : Type 0} → Codec A → Option Schema → Meaning
meaning_of {A = A} codec schema = record { Value = A; codec = codec; schema = schema }

-- a word's text, and its type
pub record Row : Type 1 where
  pub text : List ℕ
  pub meaning : Meaning

abbrev row_of : {A : Type 0} → List ℕ → Codec A → Option Schema → Row
row_of text codec schema = record { text = text; meaning = meaning_of codec schema }

-- the table of the words
abbrev pub row : Word → Row
row word.U8 = row_of (codes "u8") (unsigned 1) (Some schema.u8)
row word.U32 = row_of (codes "u32") (unsigned 4) (Some (schema.primitive (codes "u32") 4))
row word.U64 = row_of (codes "u64") (unsigned 8) (Some (schema.primitive (codes "u64") 8))
row word.Bool = row_of (codes "bool") bool (Some (schema.primitive (codes "bool") 1))
row word.OptionU8 = row_of (codes "opt-u8") (option (unsigned 1)) (Some (schema.option schema.u8))
row word.String = row_of (codes "string") string (Some schema.string)
row word.ListU8 = row_of (codes "list-u8") (vec_of (unsigned 1)) (Some (schema.list (codes "Vec<") schema.u8))
row word.U128 = row_of (codes "u128") (unsigned 16) (Some (schema.primitive (codes "u128") 16))
row word.Isize = row_of (codes "isize") (signed 8) (Some (schema.primitive (codes "i64") 8))
row word.NonZeroI16 = row_of (codes "nz-i16") non_zero_i16 (Some (schema.primitive (codes "NonZeroI16") 2))
row word.Unit = row_of (codes "unit") unit (Some schema.unit)
row word.ResultU8 = row_of (codes "res-u8") (result_of (unsigned 1) (unsigned 1)) (Some (schema.result schema.u8 schema.u8))
row word.ArrayOption = row_of (codes "arr-opt") (array 10 (option (unsigned 1))) (Some (schema.array (schema.option schema.u8) 10))
row word.Ranges = row_of (codes "ranges") ranges (Some schema.ranges)
row word.ListString = row_of (codes "list-string") (vec_of string) (Some (schema.list (codes "Vec<") schema.string))
row word.ListOption = row_of (codes "list-opt") (vec_of (option (unsigned 1))) (Some (schema.list (codes "Vec<") (schema.option schema.u8)))
row word.ListUnit = row_of (codes "list-unit") (vec_of unit) (Some (schema.list (codes "Vec<") schema.unit))
row word.ListBoxUnit = row_of (codes "list-boxunit") (vec_of (stored_in_box unit)) (Some (schema.list (codes "Vec<") schema.unit))
row word.ListZero = row_of (codes "list-zero") (vec_of (pair (array 0 (unsigned 1)) (array 0 (unsigned 1)))) (Some (schema.list (codes "Vec<") (schema.tuple (schema.array schema.u8 0 ∷ schema.array schema.u8 0 ∷ []))))
row word.DequeU8 = row_of (codes "deque-u8") (deque (unsigned 1)) (Some (schema.list (codes "VecDeque<") schema.u8))
row word.LinkedU8 = row_of (codes "linked-u8") (list (unsigned 1)) (Some (schema.list (codes "LinkedList<") schema.u8))
row word.SetU8 = row_of (codes "set-u8") set_u8 (Some (schema.list (codes "BTreeSet<") schema.u8))
row word.HashSetU8 = row_of (codes "hset-u8") hash_set_u8 (Some (schema.list (codes "HashSet<") schema.u8))
row word.MapU8 = row_of (codes "map-u8") (map_by_byte (unsigned 1)) (Some (schema.map (codes "BTreeMap<") schema.u8 schema.u8))
row word.HashMapU8 = row_of (codes "hmap-u8") hash_map_u8 (Some (schema.map (codes "HashMap<") schema.u8 schema.u8))
row word.MapSet = row_of (codes "map-set") (map_by_byte set_u8) (Some (schema.map (codes "BTreeMap<") schema.u8 (schema.list (codes "BTreeSet<") schema.u8)))
row word.MapUnit = row_of (codes "map-unit") map_unit (Some (schema.map (codes "BTreeMap<") schema.unit schema.u8))
row word.Ip = row_of (codes "ip") ip (Some (codes "IpAddr", ip_address_definitions))
row word.BoxU8 = row_of (codes "box-u8") (boxed (unsigned 1)) (Some (schema.list (codes "Vec<") schema.u8))
row word.RcString = row_of (codes "rc-string") shared_text (Some schema.string)
row word.Container = row_of (codes "container") container (Some (codes "BorshSchemaContainer", container_definitions))
row word.Readme = row_of (codes "readme") readme (Some schema.readme)
row word.MyEnum = row_of (codes "myenum") my_enum (Some (codes "MyEnum", my_enum_definitions))
row word.IndexMapU8 = row_of (codes "imap-u8") index_map_u8 None
row word.IndexSetU8 = row_of (codes "iset-u8") index_set_u8 None
row word.Bytes = row_of (codes "bytes") (list (unsigned 1)) None
row word.Uuid = row_of (codes "uuid") (octets 16) None
row word.Socket = row_of (codes "sock") socket None
row word.SocketV6 = row_of (codes "sock6") socket_v6 None
row word.MyStruct = row_of (codes "mystruct") my_struct None
row word.OneOrZero = row_of (codes "oneorzero") one_or_zero None
row word.ListOne = row_of (codes "list-one") (vec_of one) None

abbrev pub all_words : List Word
all_words = word.U8 ∷ word.U32 ∷ word.U64 ∷ word.Bool ∷ word.OptionU8 ∷ word.String ∷ word.ListU8 ∷ word.U128 ∷ word.Isize ∷ word.NonZeroI16 ∷ word.Unit ∷ word.ResultU8 ∷ word.ArrayOption ∷ word.Ranges ∷ word.ListString ∷ word.ListOption ∷ word.ListUnit ∷ word.ListBoxUnit ∷ word.ListZero ∷ word.DequeU8 ∷ word.LinkedU8 ∷ word.SetU8 ∷ word.HashSetU8 ∷ word.MapU8 ∷ word.HashMapU8 ∷ word.MapSet ∷ word.MapUnit ∷ word.Ip ∷ word.BoxU8 ∷ word.RcString ∷ word.Container ∷ word.Readme ∷ word.MyEnum ∷ word.IndexMapU8 ∷ word.IndexSetU8 ∷ word.Bytes ∷ word.Uuid ∷ word.Socket ∷ word.SocketV6 ∷ word.MyStruct ∷ word.OneOrZero ∷ word.ListOne ∷ []

-- the word of this text
abbrev pub word_named : List ℕ → Option Word
word_named name = find (λ w. pointwise nat_eq (row w).text name) all_words

abbrev pub meaning : Word → Meaning
meaning word = (row word).meaning
